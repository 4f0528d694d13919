-- What stays the same if the texts of results are left out.
use Rattle.std.specs.Prelude.{◌≡◌, ℕ, Bool, List, map}
use Rattle.log_text.specs.EntryTwo.{untold}
use Rattle.run_meaning.specs.Acts.{Act, Seen, entry_of}
use Rattle.run_meaning.specs.Dealing.{ticks}
use Rattle.run_meaning.specs.Meaning.{rules_of}
use Rattle.run_meaning.specs.Rounds.{IsRound}
use Rattle.run_meaning.specs.Schedule.{schedule}
use Rattle.run_meaning.specs.Turns.{Asked, Command, Histories, Plans}
use Rattle.site_model.specs.PlainSite.{PlainCheck, PlainSite}
use Rattle.site_model.specs.declared.entry.Entry.{Entry}
use Rattle.site_text.specs.Entries.{entry_line}
use Rattle.audit_laws.specs.Versions.{untold_act, untold_all, untold_asked}

-- an act makes the same entry, but for these texts
abbrev pub MakesTheSame : PlainSite → (ℕ → ℕ → Bool) → Type 0
MakesTheSame s holds =
    (k : ℕ) (check : PlainCheck) (history : List Entry) (seen : List Seen) (a : Act)
    → entry_of (rules_of s holds) k check (map untold history) seen (untold_act a)
    ≡ untold (entry_of (rules_of s holds) k check history seen a)

-- events make the same round
abbrev pub KeepsRounds : PlainSite → (ℕ → ℕ → Bool) → Type 0
KeepsRounds s holds =
    (moment : ℕ) (before : Histories) (events : List (List Asked)) (round : Histories)
    → IsRound (rules_of s holds) moment before events round
    → IsRound (rules_of s holds) moment (untold_all before) (map (map untold_asked) events) (untold_all round)

-- the same checkables tick, and the same checks are ordered
abbrev pub KeepsTicks : PlainSite → Type 0
KeepsTicks s = (before : Histories) (moment : ℕ) → ticks s (untold_all before) moment ≡ ticks s before moment

abbrev pub KeepsOrders : PlainSite → (ℕ → ℕ → Bool) → (ℕ → Command) → Type 0
KeepsOrders s holds command =
    (plans : Plans) (moment : ℕ) (before round : Histories)
    → schedule s holds command plans moment (untold_all before) (untold_all round) ≡ schedule s holds command plans moment before round

-- and an entry has the same line in version one
abbrev pub KeepsLines : PlainSite → Type 0
KeepsLines s = (k : ℕ) (e : Entry) → entry_line s k (untold e) ≡ entry_line s k e
