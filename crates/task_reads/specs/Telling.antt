-- What a task was told of a world.
use Rattle.std.specs.Prelude.{◌≡◌, List, [], map}
use Rattle.std.specs.List.{filter, flat_map}
use Rattle.eval_meaning.specs.Views.{View, sight}
use Rattle.eval_work.specs.Works.{shown_object}
use Rattle.kept_tasks.specs.Reads.{found, is_absent}
use Rattle.task_reads.specs.Looks.{AreSeenIn, PlainLook, plain_look, reads_of}
use Rattle.task_reads.specs.declared.told.Told.{Told}

abbrev pub looks_told : Told → List PlainLook
looks_told t = map plain_look t.looks.items

-- these reads were decided as a world decides them, and no others
pub record IsToldOf (world : View) (t : Told) : Type 0 where
  pub objects : map shown_object t.objects ≡ flat_map (λ r. found r (sight world r)) (reads_of (looks_told t))
  pub absent : t.known.absent.items ≡ filter (λ r. is_absent (sight world r)) (reads_of (looks_told t))
  pub whole : t.known.whole.items ≡ []
  pub seen : AreSeenIn world (looks_told t)
