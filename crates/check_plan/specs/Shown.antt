-- Entries that tell what their checkable shows after them.
use Rattle.std.specs.Prelude.{◌≡◌, ℕ, List, [], ◌∷◌, ◌++◌}
use Rattle.checkable_core.specs.Contents.{check_at}
use Rattle.run_meaning.specs.Turns.{Histories, of_index}
use Rattle.run_meaning.specs.View.{view_of}
use Rattle.site_model.specs.PlainSite.{PlainCheck, PlainSite}
use Rattle.site_model.specs.declared.entry.Entry.{Entry}

-- behind these entries each of those shows the state that the checkable has with it, and whether that is HARD
abbrev pub AreShown : PlainCheck → List Entry → List Entry → Type 0
AreShown c history [] = Unit {0}
AreShown c history (e ∷ es) =
    let v = view_of c (history ++ e ∷ []) in (v.state ≡ e.state) × (v.hard ≡ e.hard) × AreShown c (history ++ e ∷ []) es

-- so do those of a round
abbrev pub AreAllShown : PlainSite → Histories → Histories → Type 0
AreAllShown s before round = (k : ℕ) → AreShown (check_at s k) (of_index k before) (of_index k round)
