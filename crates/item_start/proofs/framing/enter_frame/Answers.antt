use Rattle.std.proofs.Common.{length, subst, sym}
use Rattle.eval_work.specs.Kept.{PairsNamed}
use Rattle.item_start.proofs.framing.enter_frame.Goals as goal

pub returns-clause-fit : goal.returns-clause-fit
returns-clause-fit c =
    let s = c.args.work.now.store in
    record {
      this = c.requires.this;
      locals = c.in_ok-locals.ensures.named (length s.cells) (length s.functions) c.requires.captured (subst (PairsNamed s) (sym c.of_row.ensures) c.requires.bound);
      bound = c.requires.fit.bound;
      globals = c.requires.fit.globals;
    }
