-- Entries that are made one after another stand behind those of the start.
use Rattle.std.proofs.Common.{◌≡◌, ◌+◌, ℕ, List, [], ◌∷◌, ◌++◌, length, sym, ap, ◌∙◌, append_assoc, length-append}
use Rattle.std.proofs.lemmas.List.{append-nil, length-reverse}
use Rattle.post_turn.specs.History.{replay}
use Rattle.site_model.specs.declared.entry.Entry.{Entry}
use Rattle.checkable_core.specs.Contents.{Contents, with_entry}
use Rattle.checkable_core.specs.Machines.{after_entry, glance_by, with_entries}
use Rattle.checkable_core.specs.declared.machine.SiteMachine.{SiteMachine}

pub replayed : (m : SiteMachine) (start : Contents) (es : List Entry) → replay (after_entry m) start es ≡ with_entries start es
replayed m start [] = ap (λ xs. record start { entries = xs }) (sym (append-nil start.entries))
replayed m start (e ∷ es) = replayed m (with_entry start e) es ∙ ap (λ xs. record start { entries = xs }) (append_assoc start.entries (e ∷ []) es)

pub counted : (m : SiteMachine) (k : Contents) → (glance_by m k).count ≡ length k.entries
counted m k = length-reverse k.entries

pub seen_of_all : (m : SiteMachine) (start : Contents) (es : List Entry) → (glance_by m (replay (after_entry m) start es)).count ≡ length start.entries + length es
seen_of_all m start es = counted m (replay (after_entry m) start es) ∙ ap (λ (k : Contents). length k.entries) (replayed m start es) ∙ length-append start.entries es
