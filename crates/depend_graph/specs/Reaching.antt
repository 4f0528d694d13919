-- Purposes and answers of the code, in the words of the definition.
use Rattle.run_meaning.specs.Reachability as Meant
use Rattle.run_meaning.specs.Reachability.{for_checks, for_notes, reachable, held_by_depend, held_by_host}
use Rattle.depend_graph.specs.declared.purpose.Purpose.{Purpose}
use Rattle.depend_graph.specs.declared.purpose.Purpose.TheVariants as purpose
use Rattle.depend_graph.specs.declared.reach.Reach.{Reach}
use Rattle.depend_graph.specs.declared.reach.Reach.TheVariants as reach

abbrev pub purpose_as : Purpose → Meant.Purpose
purpose_as purpose.Checks = for_checks
purpose_as purpose.Notes = for_notes

abbrev pub reach_as : Reach → Meant.Reach
reach_as reach.Reachable = reachable
reach_as (reach.Depend k) = held_by_depend k
reach_as (reach.Host k) = held_by_host k
