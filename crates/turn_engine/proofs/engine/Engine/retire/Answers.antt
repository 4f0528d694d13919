-- What is kept of an engine that isn't spent is of its site.
use Rattle.std.proofs.Common.{rules}
use Rattle.site_model.specs.PlainSite.{site_view}
use Rattle.site_posts.specs.Books.{AreBooks}
use Rattle.turn_engine.proofs.Beginning.{one_of_each}
use Rattle.turn_engine.proofs.engine.Engine.retire.Goals as goal

pub returns-clause-each : goal.returns-clause-each
returns-clause-each c = λ fresh.
    let are : AreBooks (site_view c.args.self.run.site) c.args.self.run.moment c.into_parts.result.1.items = search rules in
    one_of_each (site_view c.args.self.run.site) c.args.self.run.moment c.into_parts.result.1.items are
