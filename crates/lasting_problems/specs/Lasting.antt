-- Problems that last.
use Rattle.std.specs.Prelude.{ℕ, suc, List, [], ◌∷◌, Option, Some, None, if◌then◌else◌}
use Rattle.run_meaning.specs.Dealing.{last_moment}
use Rattle.run_meaning.specs.Turns.{Histories, of_index}
use Rattle.run_meaning.specs.View.{is_hard_problem, view_of}
use Rattle.site_model.specs.PlainSite.{PlainCheck, PlainSite}
use Rattle.site_model.specs.declared.entry.Entry.{Entry}

-- the moment of the last of these entries, where they leave a HARD problem
abbrev pub lasts : PlainCheck → List Entry → Option ℕ
lasts c history = let v = view_of c history in if is_hard_problem v.hard v.state then Some (last_moment history) else None

-- of the checkables from this index on
abbrev pub lasting_from : ℕ → List PlainCheck → Histories → List (Option ℕ)
lasting_from k [] histories = []
lasting_from k (c ∷ cs) histories = lasts c (of_index k histories) ∷ lasting_from (suc k) cs histories

abbrev pub lasting : PlainSite → Histories → List (Option ℕ)
lasting s histories = lasting_from 0 s.checkables histories
