use Rattle.std.proofs.Common.{get_or, Some, ap, ◌∙◌, refl, false}
use Rattle.run_meaning.specs.Reachability.{fails}
use Rattle.depend_graph.proofs.Asking.{either_other, either_true}
use Rattle.depend_graph.proofs.Flags.{flag_at, flag_none, view_at, view_none}
use Rattle.depend_graph.proofs.outlook.Outlook.lets_none_through.Goals as goal

pub returns-then-blocked-place : goal.returns-then-blocked-place
returns-then-blocked-place c =
    either_true _ _ _
    (flag_at c.args.self.now.above.now c.args.blocked.now c.in-Some.place c.args.depend.now.parent false c.requires.fit.rising c.in-Some.ensures.place c.requires.length c.in-Some.ensures.number ∙ c.if-blocked-place.true)
    c.if-blocked-place.true

pub returns-else-blocked-place : goal.returns-else-blocked-place
returns-else-blocked-place c =
    either_other _ _ (fails c.args.depend.now (Some (get_or c.args.self.now.sights.now c.in-Some.place c.index-self-place.result).1)) c.fails.result
    (flag_at c.args.self.now.above.now c.args.blocked.now c.in-Some.place c.args.depend.now.parent false c.requires.fit.rising c.in-Some.ensures.place c.requires.length c.in-Some.ensures.number ∙ c.if-blocked-place.false)
    (ap (fails c.args.depend.now) (view_at c.args.self.now.sights.now c.args.self.now.above.now c.in-Some.place c.args.depend.now.parent c.index-self-place.result c.requires.fit.sights c.requires.fit.rising c.in-Some.ensures.place c.in-Some.ensures.number))
    c.fails.ensures

pub returns-in-None : goal.returns-in-None
returns-in-None c =
    either_other _ _ false false (flag_none c.args.self.now.above.now c.args.blocked.now c.args.depend.now.parent c.in-None.ensures.none)
    (ap (fails c.args.depend.now) (view_none c.args.self.now.sights.now c.args.self.now.above.now c.args.depend.now.parent c.requires.fit.sights c.in-None.ensures.none)) refl
