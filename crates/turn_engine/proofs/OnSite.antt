-- All that a turn gives is on checkables of the site.
use Rattle.std.proofs.Common.{◌≡◌, ℕ, zero, suc, ◌+◌, ◌<◌, Bool, true, false, cond, nat_eq, All, List, [], ◌∷◌, ◌++◌, length, map, filter, get_or, Option, Some, None, refl, subst, arith}
use Rattle.std.proofs.lemmas.List.Elements.{All-map}
use Rattle.site_model.specs.PlainSite.{PlainCheck, PlainSite}
use Rattle.site_model.specs.declared.event.Event.TheVariants as event
use Rattle.event_text.specs.Lines.{Answer, told, faulty}
use Rattle.event_text.specs.Reading.{line_read}
use Rattle.run_meaning.specs.Alone.{AreOnSite}
use Rattle.run_meaning.specs.Dealing.{Taken, checkable_of, dealt, dealt_to, goes_to, line_events, lines_to, taken_reports, taking, ticks, ticks_from, wants_tick, without}
use Rattle.run_meaning.specs.Turns.{Asked, Histories, Outstanding, Reported, from_on, of_index}
use Rattle.run_meaning.proofs.Counting.{AreWithin, within_still}
use Rattle.run_text.specs.TurnReading.{as_line, lines_read}
use Rattle.run_text.proofs.ReadingForms.{line_on_site}

nothing_on_site : (s : PlainSite) → AreOnSite s []
nothing_on_site s i a h = absurd cc

one_more : (s : PlainSite) (a : Asked) (as' : List Asked) → a.checkable < length s.checkables → AreOnSite s as' → AreOnSite s (a ∷ as')
one_more s a as' h rest zero b at = let same : a ≡ b = cc in subst (λ (x : Asked). x.checkable < length s.checkables) same h
one_more s a as' h rest (suc i) b at = rest i b at

pub both_on_site : (s : PlainSite) (as' bs : List Asked) → AreOnSite s as' → AreOnSite s bs → AreOnSite s (as' ++ bs)
both_on_site s [] bs p q = q
both_on_site s (a ∷ as') bs p q = one_more s a (as' ++ bs) (p zero a refl) (both_on_site s as' bs (λ i b at. p (suc i) b at) q)

pub lines_on_site : (s : PlainSite) (lines : List (List ℕ)) → AreOnSite s (line_events (lines_read s lines))
lines_on_site s [] = nothing_on_site s
lines_on_site s (line ∷ lines) = by (line_read s line) refl (lines_on_site s lines)
  where
    by : (a : Answer) → line_read s line ≡ a → AreOnSite s (line_events (lines_read s lines)) → AreOnSite s (line_events (as_line a ∷ lines_read s lines))
    by (told k e) h rest = one_more s (record { checkable = k; event = e }) (line_events (lines_read s lines)) (line_on_site s line k e h) rest
    by (faulty f) h rest = rest

found_within : (count n c : ℕ) (os : List Outstanding) → AreWithin count os → checkable_of n os ≡ Some c → c < count
found_within count n c [] all h = absurd cc
found_within count n c (o ∷ os) all h = by (nat_eq o.order n) h (found_within count n c os (λ i. all (suc i)))
  where
    by : (t : Bool) → cond t (Some o.checkable) (checkable_of n os) ≡ Some c → (checkable_of n os ≡ Some c → c < count) → c < count
    by true h rest = let same : o.checkable ≡ c = cc in subst (λ k. k < count) same (all zero o refl)
    by false h rest = rest h

pub reports_on_site : (s : PlainSite) (os : List Outstanding) (rs : List Reported) → AreWithin (length s.checkables) os → AreOnSite s (map (λ t. t.asked) (taken_reports os rs))
reports_on_site s os [] all = nothing_on_site s
reports_on_site s os (r ∷ rs) all = by (checkable_of r.order os) refl (reports_on_site s (without r.order os) rs (within_still (length s.checkables) (r ∷ []) os all))
  where
    by : (c : Option ℕ) → checkable_of r.order os ≡ c → AreOnSite s (map (λ (t : Taken). t.asked) (taken_reports (without r.order os) rs))
        → AreOnSite s (map (λ (t : Taken). t.asked) (taking r c (taken_reports (without r.order os) rs)))
    by None h rest = rest
    by (Some c) h rest = one_more s _ (map (λ (t : Taken). t.asked) (taken_reports (without r.order os) rs)) (found_within (length s.checkables) r.order c os all h) rest

ticks_from_on_site : (s : PlainSite) (k : ℕ) (cs : List PlainCheck) (before : Histories) (moment : ℕ) → k + length cs ≡ length s.checkables → AreOnSite s (ticks_from k cs before moment)
ticks_from_on_site s k [] before moment n = nothing_on_site s
ticks_from_on_site s k (c ∷ cs) before moment n = by (wants_tick c (of_index k before) moment) (ticks_from_on_site s (suc k) cs before moment (omega (arith, n)))
  where
    by : (b : Bool) → AreOnSite s (ticks_from (suc k) cs before moment) → AreOnSite s (cond b (record { checkable = k; event = event.Tick } ∷ ticks_from (suc k) cs before moment) (ticks_from (suc k) cs before moment))
    by true rest = one_more s (record { checkable = k; event = event.Tick }) (ticks_from (suc k) cs before moment) (omega (arith, n)) rest
    by false rest = rest

pub ticks_on_site : (s : PlainSite) (before : Histories) (moment : ℕ) → AreOnSite s (ticks s before moment)
ticks_on_site s before moment = ticks_from_on_site s 0 s.checkables before moment (omega arith)

-- What each caller takes.

kept_on_site : (s : PlainSite) (test : Asked → Bool) (as' : List Asked) → AreOnSite s as' → AreOnSite s (filter test as')
kept_on_site s test [] all = nothing_on_site s
kept_on_site s test (a ∷ as') all = by (test a) (kept_on_site s test as' (λ i. all (suc i)))
  where
    by : (t : Bool) → AreOnSite s (filter test as') → AreOnSite s (cond t (a ∷ filter test as') (filter test as'))
    by true rest = one_more s a (filter test as') (all zero a refl) rest
    by false rest = rest

taken_on_site : (s : PlainSite) (test : Taken → Bool) (ts : List Taken) → AreOnSite s (map (λ t. t.asked) ts) → AreOnSite s (map (λ t. t.asked) (filter test ts))
taken_on_site s test [] all = nothing_on_site s
taken_on_site s test (t ∷ ts) all = by (test t) (taken_on_site s test ts (λ i. all (suc i)))
  where
    by : (b : Bool) → AreOnSite s (map (λ (t : Taken). t.asked) (filter test ts)) → AreOnSite s (map (λ (t : Taken). t.asked) (cond b (t ∷ filter test ts) (filter test ts)))
    by true rest = one_more s t.asked (map (λ (t : Taken). t.asked) (filter test ts)) (all zero t.asked refl) rest
    by false rest = rest

lines_to_on_site : (s : PlainSite) (k : ℕ) (as' : List Asked) → AreOnSite s as' → AreOnSite s (lines_to k as')
lines_to_on_site s zero as' all = all
lines_to_on_site s (suc k) as' all = nothing_on_site s

pub dealt_on_site : (s : PlainSite) (callers : ℕ) (lines : List Asked) (reports : List Taken) (ticks : List Asked) → AreOnSite s lines → AreOnSite s (map (λ t. t.asked) reports) → AreOnSite s ticks → All (λ events. AreOnSite s events) (dealt callers lines reports ticks)
dealt_on_site s callers lines reports ticks a b c =
    All-map (λ events. AreOnSite s events) (dealt_to callers lines reports ticks) (from_on 0 callers) (λ i d h. share (get_or (from_on 0 callers) i d))
  where
    share : (k : ℕ) → AreOnSite s (dealt_to callers lines reports ticks k)
    share k =
        both_on_site s (lines_to k lines) (map (λ (t : Taken). t.asked) (filter (λ (t : Taken). goes_to callers k t.order) reports) ++ filter (λ (a : Asked). goes_to callers k a.checkable) ticks) (lines_to_on_site s k lines a)
        (both_on_site s (map (λ (t : Taken). t.asked) (filter (λ (t : Taken). goes_to callers k t.order) reports)) (filter (λ (a : Asked). goes_to callers k a.checkable) ticks)
        (taken_on_site s (λ t. goes_to callers k t.order) reports b) (kept_on_site s (λ a. goes_to callers k a.checkable) ticks c))
