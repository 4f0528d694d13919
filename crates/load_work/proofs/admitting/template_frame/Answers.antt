use Rattle.std.proofs.Common.{length, sym, subst}
use Rattle.eval_work.specs.Works.{plain_template}
use Rattle.eval_work.specs.Kept.{PairsNamed}
use Rattle.load_work.proofs.admitting.template_frame.Goals as goal

pub returns-in_ok-clone-in-Some-clause-named : goal.returns-in_ok-clone-in-Some-clause-named
returns-in_ok-clone-in-Some-clause-named c =
    let s = c.args.work.now.store in
    let captured = c.requires.told.templates c.as_str.result.now c.as_str-2.result.now (plain_template c.in-Some.template.now) c.in-Some.ensures.found in
    c.in_ok-locals-in-Some.ensures.named (length s.cells) (length s.functions) (subst (PairsNamed s) (sym c.deref.ensures.value) captured) (subst (PairsNamed s) (sym c.left.ensures) c.requires.bound)
