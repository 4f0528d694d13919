use Rattle.std.proofs.Common.{get_or, Some, ap, ◌∙◌, refl, false}
use Rattle.run_meaning.specs.Reachability.{is_hard_down}
use Rattle.depend_graph.proofs.Asking.{either_other, either_true}
use Rattle.depend_graph.proofs.Flags.{flag_at, flag_none, view_at, view_none}
use Rattle.depend_graph.proofs.outlook.Outlook.is_held_by.Goals as goal

pub returns-then-blocked-place : goal.returns-then-blocked-place
returns-then-blocked-place c =
    either_true _ _ _
    (flag_at c.args.self.now.above.now c.args.blocked.now c.in-Some.place c.args.host false c.requires.fit.rising c.in-Some.ensures.place c.requires.length c.in-Some.ensures.number ∙ c.if-blocked-place.true)
    c.if-blocked-place.true

pub returns-else-blocked-place : goal.returns-else-blocked-place
returns-else-blocked-place c =
    either_other _ _ (is_hard_down (Some (get_or c.args.self.now.sights.now c.in-Some.place c.index-self-place.result).1)) c.is_hard_down.result
    (flag_at c.args.self.now.above.now c.args.blocked.now c.in-Some.place c.args.host false c.requires.fit.rising c.in-Some.ensures.place c.requires.length c.in-Some.ensures.number ∙ c.if-blocked-place.false)
    (ap is_hard_down (view_at c.args.self.now.sights.now c.args.self.now.above.now c.in-Some.place c.args.host c.index-self-place.result c.requires.fit.sights c.requires.fit.rising c.in-Some.ensures.place c.in-Some.ensures.number))
    c.is_hard_down.ensures

pub returns-in-None : goal.returns-in-None
returns-in-None c =
    either_other _ _ false false (flag_none c.args.self.now.above.now c.args.blocked.now c.args.host c.in-None.ensures.none)
    (ap is_hard_down (view_none c.args.self.now.sights.now c.args.self.now.above.now c.args.host c.requires.fit.sights c.in-None.ensures.none)) refl
