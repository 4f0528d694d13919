use Rattle.std.proofs.Common.{refl, length}
use Rattle.eval_work.proofs.Later.{same_later}
use Rattle.eval_work.proofs.work.Work.set_local.Goals as goal

pub returns-clause-kept : goal.returns-clause-kept
returns-clause-kept c =
    let w = c.args.self.now in
    record {
      fit = record { this = c.requires.fit.this; locals = c.in_ok-put.ensures.named (length w.store.cells) (length w.store.functions) c.requires.fit.locals c.requires.value; bound = c.requires.fit.bound; globals = c.requires.fit.globals };
      later = same_later w.store w.store refl;
    }
