-- No caller but the first has acts.
use Rattle.std.proofs.Common.{◌≡◌, ◌==◌, List, Vec, Global, true, drop, length, sym, ◌∙◌, subst}
use Rattle.std.specs.List.{list_all}
use Rattle.site_posts.specs.declared.act.Act.{Act}
use Rattle.turn_engine.proofs.SoleRound.{idle_ones}
use Rattle.turn_engine.proofs.callers.is_sole.Goals as goal

pub returns : goal.returns
returns c = λ all.
    idle_ones (drop 1 c.args.lists.now) (subst (λ (lists : List (Vec Act Global)). list_all (λ (list : Vec Act Global). length list.items == 0) lists ≡ true) c.others.ensures (sym c.are_empty.ensures ∙ all))
