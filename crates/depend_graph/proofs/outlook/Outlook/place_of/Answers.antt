use Rattle.std.proofs.Common.{◌∙◌}
use Rattle.depend_graph.proofs.LastPlaces.{place_has, place_low, place_none}
use Rattle.depend_graph.proofs.outlook.Outlook.place_of.Goals as goal

pub returns-clause-place : goal.returns-clause-place
returns-clause-place c = place_low c.args.checkable c.args.self.now.above.now c.get.result (c.get.ensures ∙ c.requires.places c.args.checkable)

pub returns-clause-number : goal.returns-clause-number
returns-clause-number c = place_has c.args.checkable c.args.self.now.above.now c.get.result (c.get.ensures ∙ c.requires.places c.args.checkable)

pub returns-clause-none : goal.returns-clause-none
returns-clause-none c = place_none c.args.checkable c.args.self.now.above.now c.get.result (c.get.ensures ∙ c.requires.places c.args.checkable)
