-- Which command has a name, both ways.
use Rattle.std.proofs.Common.{◌≡◌, ℕ, List, [], ◌∷◌, Bool, true, false, cond, Option, Some, None, refl, ap, ◌∙◌}
use Rattle.std.proofs.lemmas.Slice.Eq.{bytes_eq-Decides}
use Rattle.std.specs.Str.{bytes_eq}
use Rattle.event_text.specs.Commands.{command_name, command_among, command_named, all_commands}
use Rattle.event_text.specs.declared.command.Command.{Command}
use Rattle.event_text.specs.declared.command.Command.TheVariants as command

among_sound : (cs : List Command) (name : List ℕ) (c : Command) → command_among cs name ≡ Some c → name ≡ command_name c
among_sound [] name c e = cc
among_sound (d ∷ cs) name c e = by (λ e. among_sound cs name c e) (bytes_eq name (command_name d)) refl e
  where
    by : (command_among cs name ≡ Some c → name ≡ command_name c) → (t : Bool) → bytes_eq name (command_name d) ≡ t → cond t (Some d) (command_among cs name) ≡ Some c → name ≡ command_name c
    by more true same e = let is : d ≡ c = cc in (bytes_eq-Decides name (command_name d)).0 same ∙ ap command_name is
    by more false same e = more e

pub command_sound : (name : List ℕ) (c : Command) → command_named name ≡ Some c → name ≡ command_name c
unfolding command_named
command_sound name c e = among_sound all_commands name c e

pub command_found : (c : Command) → command_named (command_name c) ≡ Some c
unfolding command_named
command_found command.HostResult = refl
command_found command.ServiceResult = refl
command_found command.HostCheck = refl
command_found command.ForcedHostCheck = refl
command_found command.ServiceCheck = refl
command_found command.ForcedServiceCheck = refl
command_found command.AcknowledgeHost = refl
command_found command.AcknowledgeService = refl
command_found command.UnacknowledgeHost = refl
command_found command.UnacknowledgeService = refl
command_found command.HostDowntime = refl
command_found command.ServiceDowntime = refl
command_found command.EndHostDowntime = refl
command_found command.EndServiceDowntime = refl
command_found command.HostChecksOn = refl
command_found command.HostChecksOff = refl
command_found command.HostNotesOn = refl
command_found command.HostNotesOff = refl
command_found command.ServiceChecksOn = refl
command_found command.ServiceChecksOff = refl
command_found command.ServiceNotesOn = refl
command_found command.ServiceNotesOff = refl

-- no command has this name
pub command_none : (name : List ℕ) → ((c : Command) → name ≡ command_name c → ⊥) → command_named name ≡ None
command_none name h = by (command_named name) refl
  where
    by : (r : Option Command) → command_named name ≡ r → command_named name ≡ None
    by None e = e
    by (Some c) e = absurd (h c (command_sound name c e))

pub command_lacks : (name : List ℕ) → command_named name ≡ None → (c : Command) → name ≡ command_name c → ⊥
command_lacks name e c h = let found : command_named name ≡ Some c = ap command_named h ∙ command_found c in cc
