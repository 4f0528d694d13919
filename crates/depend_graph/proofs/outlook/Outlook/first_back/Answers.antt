use Rattle.std.proofs.Common.{◌<◌, length, get_or, sym, subst}
use Rattle.site_model.specs.PlainSite.{site_view}
use Rattle.depend_graph.proofs.Asking.{leader_in_range}
use Rattle.depend_graph.proofs.outlook.Outlook.first_back.Goals as goal

pub leads_back-requires-clause-depend : goal.leads_back-requires-clause-depend
leads_back-requires-clause-depend c =
    subst (λ xs. get_or xs c.loop-depend.depend-index 0 < length c.args.self.now.site.now.depends) (sym c.at-depend-items.ensures)
    (leader_in_range (site_view c.args.self.now.site.now) c.args.self.now.leaders.now c.args.self.now.followers.now c.requires.fit.teams c.args.checkable c.loop-depend.depend-index
    (subst (λ xs. c.loop-depend.depend-index < length xs) c.at-depend-items.ensures c.loop-depend-test.true))
