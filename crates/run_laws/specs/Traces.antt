-- What callers tell of the events that they took, and when it makes a round.
use Rattle.std.specs.Prelude.{◌≡◌, ◌<◌, ◌≤◌, ◌-◌, ℕ, List, ◌∷◌, ◌++◌, length, map, slice_get, take, Some}
use Rattle.run_meaning.specs.Acts.{Rules, entry_of}
use Rattle.run_meaning.specs.Rounds.{all_seen, behind, entries_by, events_on}
use Rattle.run_meaning.specs.Turns.{Asked, Histories, of_index}
use Rattle.site_model.specs.PlainSite.{PlainCheck}
use Rattle.site_model.specs.declared.entry.Entry.{Entry}
use Rattle.site_model.specs.declared.sight.Sight.{Sight}

-- what a caller tells of an event that it took: which entries of the round stood on its checkable, and how far it had seen
-- the checkables on which that depends
pub record Trace : Type 0 where
  pub asked : Asked
  pub stood : List Entry
  pub sights : List Sight

-- the events that it tells of
abbrev pub events_in : List Trace → List Asked
events_in ts = map (λ t. t.asked) ts

-- how many of them are on one checkable
abbrev pub many_on : ℕ → List Trace → ℕ
many_on c ts = length (events_on c (events_in ts))

-- the entry that the event of a caller made
abbrev pub entry_told : Rules → ℕ → Histories → Histories → ℕ → PlainCheck → Trace → Entry
entry_told r moment before round k check t =
    entry_of r t.asked.checkable check (of_index t.asked.checkable before ++ t.stood) (all_seen r.site (behind before round) t.sights)
    (record { caller = k; moment = moment; event = t.asked.event; sights = t.sights })

-- a sight of caller k, behind the events of which it tells earlier
pub record IsSightOf (before round : Histories) (k : ℕ) (earlier : List Trace) (y : Sight) : Type 0 where
  -- of no less than stood before the round, and of no more than stands after it
  pub least : length (of_index y.checkable before) ≤ y.count
  pub most : y.count ≤ length (behind before round y.checkable)
  -- of the caller's own entries it has exactly the earlier ones
  pub own : length (entries_by k (take (y.count - length (of_index y.checkable before)) (of_index y.checkable round))) ≡ many_on y.checkable earlier
  -- and it has no less than the caller's earlier sights of the same checkable
  pub rises : (i j : ℕ) (t : Trace) (x : Sight) → slice_get earlier i ≡ Some t → slice_get t.sights j ≡ Some x → x.checkable ≡ y.checkable → x.count ≤ y.count

-- an event that caller k took, behind the events of which it tells earlier
pub record IsTraced (r : Rules) (moment : ℕ) (before round : Histories) (k : ℕ) (earlier : List Trace) (t : Trace) : Type 0 where
  pub check : PlainCheck
  pub is : slice_get r.site.checkables t.asked.checkable ≡ Some check
  -- its entry stands in the round behind those of which it tells
  pub rest : List Entry
  pub stands : of_index t.asked.checkable round ≡ t.stood ++ entry_told r moment before round k check t ∷ rest
  -- of the caller's own entries there, exactly the earlier ones stood
  pub own : length (entries_by k t.stood) ≡ many_on t.asked.checkable earlier
  -- it has looked at the checkables on which its own depends
  pub looked : map (λ y. y.checkable) t.sights ≡ r.ancestors t.asked.checkable
  pub sights : (j : ℕ) (y : Sight) → slice_get t.sights j ≡ Some y → IsSightOf before round k earlier y

-- a round of which each caller tells so, and in which no entry is of another event
pub record AreTraced (r : Rules) (moment : ℕ) (before : Histories) (traces : List (List Trace)) (round : Histories) : Type 0 where
  pub whole : length round ≡ length r.site.checkables
  pub each : (k i : ℕ) (t : Trace) → slice_get (of_index k traces) i ≡ Some t → IsTraced r moment before round k (take i (of_index k traces)) t
  pub mine : (k c : ℕ) → k < length traces → length (entries_by k (of_index c round)) ≡ many_on c (of_index k traces)
  pub callers : (c i : ℕ) (e : Entry) → slice_get (of_index c round) i ≡ Some e → e.caller < length traces
