-- The members of sets of states and of kinds.
use Rattle.std.specs.Prelude.{Bool}
use Rattle.site_model.specs.declared.state.State.{State}
use Rattle.site_model.specs.declared.state.State.TheVariants as state
use Rattle.site_model.specs.declared.note_kind.NoteKind.{NoteKind}
use Rattle.site_model.specs.declared.note_kind.NoteKind.TheVariants as kind
use Rattle.site_model.specs.declared.state_set.StateSet.{StateSet}
use Rattle.site_model.specs.declared.kind_set.KindSet.{KindSet}

-- whether a state is in a set
abbrev pub has_state : StateSet → State → Bool
has_state set state.Okay = set.okay
has_state set state.Warning = set.warning
has_state set state.Critical = set.critical
has_state set state.Unknown = set.unknown
has_state set state.Up = set.up
has_state set state.Down = set.down

-- whether a kind is in a set
abbrev pub has_kind : KindSet → NoteKind → Bool
has_kind set kind.Problem = set.problem
has_kind set kind.Recovery = set.recovery
has_kind set kind.Acknowledgement = set.acknowledgement
has_kind set kind.Custom = set.custom
has_kind set kind.DowntimeStart = set.downtime_start
has_kind set kind.DowntimeEnd = set.downtime_end
has_kind set kind.DowntimeRemoved = set.downtime_removed
has_kind set kind.FlappingStart = set.flapping_start
has_kind set kind.FlappingEnd = set.flapping_end
