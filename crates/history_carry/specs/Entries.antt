-- Entries of one site as another one has them: what that site hasn't is dropped, and the rest has its places there.
use Rattle.std.specs.Prelude.{ℕ, List, map, Option, Some, None, option_map}
use Rattle.std.specs.List.{filter_map}
use Rattle.site_model.specs.declared.decision.Decision.{Decision}
use Rattle.site_model.specs.declared.entry.Entry.{Entry}
use Rattle.site_model.specs.declared.note_kind.NoteKind.{NoteKind}
use Rattle.site_model.specs.declared.outcome.Outcome.{Outcome}
use Rattle.site_model.specs.declared.outcome.Outcome.TheVariants as outcome
use Rattle.site_model.specs.declared.sight.Sight.{Sight}
use Rattle.history_carry.specs.Ascending.{ascending}
use Rattle.history_carry.specs.Moves.{moved}
use Rattle.history_carry.specs.declared.moves.Moves.{Moves}

-- a sight of a checkable that stays
abbrev pub carried_sight : Moves → Sight → Option Sight
carried_sight m x = option_map (λ k. record { checkable = k; count = x.count }) (moved m.checkables x.checkable)

abbrev pub carried_sights : Moves → List Sight → List Sight
carried_sights m xs = ascending (λ x. x.checkable) (filter_map (carried_sight m) xs)

-- the users that stay
abbrev pub carried_users : Moves → List ℕ → List ℕ
carried_users m us = ascending (λ u. u) (filter_map (moved m.users) us)

-- An outcome that names nothing that is gone. What was sent stays so, though all who got it are gone.
abbrev pub carried_outcome : Moves → Outcome → Option Outcome
carried_outcome m (outcome.Sent users) = Some (outcome.Sent (carried_users m users))
carried_outcome m (outcome.Dependency depend) = option_map outcome.Dependency (moved m.depends depend)
carried_outcome m (outcome.Host host) = option_map outcome.Host (moved m.checkables host)
carried_outcome m o = Some o

abbrev pub decided : NoteKind → Option ℕ → Option Outcome → Option Decision
decided kind (Some k) (Some o) = Some (record { notification = k; kind = kind; outcome = o })
decided kind k o = None

-- a decision on a notification that stays, whose outcome stays
abbrev pub carried_decision : Moves → Decision → Option Decision
carried_decision m d = decided d.kind (moved m.notifies d.notification) (carried_outcome m d.outcome)

abbrev pub carried_decisions : Moves → List Decision → List Decision
carried_decisions m ds = ascending (λ d. d.notification) (filter_map (carried_decision m) ds)

-- an entry of which all else stays as it was
abbrev pub carried_entry : Moves → Entry → Entry
carried_entry m e = record e { sights = carried_sights m e.sights; decisions = carried_decisions m e.decisions }

abbrev pub carried_history : Moves → List Entry → List Entry
carried_history m es = map (carried_entry m) es
