-- What the entries of a block say, each by the order that its checkable had before the block.
use Rattle.std.specs.Prelude.{◌≡◌, ℕ, true, List, [], ◌∷◌, get_or, Option, Some, None}
use Rattle.std.specs.List.{AllByRecursion}
use Rattle.site_audit.specs.Hearing.{entries_heard}
use Rattle.site_audit.specs.Telling.{event_said, is_report}
use Rattle.site_audit.specs.Told.{nothing_heard}
use Rattle.audit_laws.specs.Types.{EntryLine, Open, Said}
use Rattle.audit_laws.specs.Retaken.{spots_from}

-- entry by entry
abbrev pub AllSay : List (List ℕ) → List (Option Open) → List EntryLine → List Said → Type 0
AllSay names os [] [] = Unit {0}
AllSay names os [] (s ∷ ss) = ⊥
AllSay names os (x ∷ xs) [] = ⊥
AllSay names os (x ∷ xs) (s ∷ ss) =
    (event_said (get_or names x.checkable []) (get_or os x.checkable None) x.entry.event ≡ Some s) × AllSay names os xs ss

-- no checkable has two results of orders
abbrev pub HaveOneResult : List EntryLine → Type 0
HaveOneResult [] = Unit {0}
HaveOneResult (x ∷ xs) =
    AllByRecursion (λ y. is_report x.entry.event ≡ true → is_report y.entry.event ≡ true → x.checkable ≡ y.checkable → ⊥) xs × HaveOneResult xs

-- all are heard so, and stand on tracks as they say
abbrev pub AreHeard : ℕ → List (List ℕ) → List (Option Open) → List EntryLine → List Said → Type 0
AreHeard callers names os xs said = entries_heard callers names os xs nothing_heard ≡ Some (record { said = said; spots = spots_from 0 xs said })
