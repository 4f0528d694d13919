-- What entries are made by and a run over a site stands on, with all of its rules.
use Rattle.std.specs.Prelude.{ℕ, Bool}
use Rattle.site_model.specs.PlainSite.{PlainSite}
use Rattle.run_meaning.specs.Turns.{Command, Feed}
use Rattle.run_meaning.specs.Acts.{Rules}
use Rattle.run_meaning.specs.Runs.{Basis}
use Rattle.run_meaning.specs.Downtimes.{is_live}
use Rattle.run_meaning.specs.Reachability.{ancestors}
use Rattle.run_meaning.specs.Decisions.{decisions_of}
use Rattle.run_meaning.specs.Schedule.{schedule}

-- the rules of a site whose periods hold so at moments
abbrev pub rules_of : PlainSite → (ℕ → ℕ → Bool) → Rules
rules_of s holds = record { site = s; is_live = is_live; ancestors = ancestors s; decisions = decisions_of s holds }

-- with checkables that are checked by these commands, and turns that are fed so
abbrev pub basis_of : PlainSite → (ℕ → ℕ → Bool) → (ℕ → Command) → Feed → Basis
basis_of s holds command feed = record { rules = rules_of s holds; schedule = schedule s holds command; feed = feed }
