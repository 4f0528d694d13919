-- Worked turns in UTC.
use Rattle.std.specs.Prelude.{◌≡◌, ℕ, pos, false, [], ◌∷◌, codes, Option, Some, None}
use Rattle.site_base.specs.declared.day.Day.{Day}
use Rattle.site_base.specs.declared.day.Day.TheVariants.{Date, Weekday}
use Rattle.down_recur.specs.Giving.{due_at}
use Rattle.down_recur.specs.declared.recurring.Recurring.{Recurring}
use Rattle.down_recur.specs.declared.segment.Segment.{Segment}

-- a fixed downtime from one second of these days to another, of which segments that begin before a second are done
abbrev pub daily : Day → ℕ → ℕ → Option ℕ → ℕ → Recurring
daily day from to trigger done = record {
  host = codes "h";
  service = Some (codes "s");
  author = codes "a";
  comment = codes "c";
  spans = record { day = day; from = from; to = to } ∷ [];
  flexible = false;
  duration = 0;
  trigger = trigger;
  done = done;
}

abbrev pub segment : ℕ → ℕ → Segment
segment start finish = record { start = start; «end» = finish }

-- from 01:00 to 02:00 on 1970-01-02, which begins at 90,000: not yet a day and a second before, then a day before, and not again once it is done
pub record ADayAhead : Type 0 where
  pub early : due_at None 3_599 (daily (Date (pos 1)) 3_600 7_200 None 0) ≡ []
  pub ahead : due_at None 3_600 (daily (Date (pos 1)) 3_600 7_200 None 0) ≡ segment 90_000 93_600 ∷ []
  pub again : due_at None 3_700 (daily (Date (pos 1)) 3_600 7_200 None 90_001) ≡ []
  pub last : due_at None 93_599 (daily (Date (pos 1)) 3_600 7_200 None 0) ≡ segment 90_000 93_600 ∷ []
  pub over : due_at None 93_600 (daily (Date (pos 1)) 3_600 7_200 None 0) ≡ []

-- the same of Thursdays, of which 1970-01-01 is one and 1970-01-08 the next: a segment that is triggered is due from its start up to its end
pub record AWeekLater : Type 0 where
  pub first : due_at None 0 (daily (Weekday 3) 3_600 7_200 None 0) ≡ segment 3_600 7_200 ∷ []
  pub next : due_at None 604_800 (daily (Weekday 3) 3_600 7_200 None 86_401) ≡ segment 608_400 612_000 ∷ []
  pub before : due_at None 608_399 (daily (Weekday 3) 3_600 7_200 (Some 0) 0) ≡ []
  pub start : due_at None 608_400 (daily (Weekday 3) 3_600 7_200 (Some 0) 0) ≡ segment 608_400 612_000 ∷ []
  pub finish : due_at None 612_000 (daily (Weekday 3) 3_600 7_200 (Some 0) 0) ≡ []
