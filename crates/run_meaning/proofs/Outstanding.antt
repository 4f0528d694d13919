-- Of a checkable at most one order is outstanding; a report that is taken ends it, and its entry does.
use Rattle.std.proofs.Common.{◌≡◌, ◌≤◌, ◌&&◌, ◌||◌, ℕ, suc, List, [], ◌∷◌, ◌++◌, map, nat_eq, not, cond, Bool, true, false, Option, Some, None, refl, sym, ap, ◌∙◌, eq-eqb, eqb-true}
use Rattle.std.specs.Prelude.{⊤}
use Rattle.std.specs.List.{list_any, flat_map}
use Rattle.std.proofs.lemmas.List.Folds.{list_any-append}
use Rattle.std.proofs.lemmas.List.Sorted.{list_any-IsPermutation}
use Rattle.site_model.specs.PlainSite.{PlainCheck}
use Rattle.site_model.specs.declared.entry.Entry.{Entry}
use Rattle.site_model.specs.declared.event.Event.{Event}
use Rattle.site_model.specs.declared.event.Event.TheVariants as event
use Rattle.run_meaning.specs.View.{view_of}
use Rattle.run_meaning.specs.Turns.{Asked, Histories, Outstanding, Reported, is_command, of_index}
use Rattle.run_meaning.specs.Acts.{Rules}
use Rattle.run_meaning.specs.Rounds.{events_on, IsRound}
use Rattle.run_meaning.specs.Dealing.{Taken, checkable_of, dealt, still, taken_reports, taking, ticks_from, wants_tick, without}
use Rattle.run_meaning.specs.Schedule.{is_waiting}
use Rattle.run_meaning.specs.Lookback.{Mark, happened, is_outstanding, marks_of, since, waits_after}
use Rattle.run_meaning.specs.Shares.{done_in, dealt_on}
use Rattle.run_meaning.proofs.Dealing.{each_to_one, nothing_gone}
use Rattle.run_meaning.proofs.Shares.{entries_are_dealt}

-- no two are of one checkable, or of one order
abbrev pub AreSingle : List Outstanding → Type 0
AreSingle [] = ⊤
AreSingle (o ∷ os) = (is_waiting os o.checkable ≡ false) × (checkable_of o.order os ≡ None) × AreSingle os

and_true : (b : Bool) → b ≡ (b && true)
and_true true = refl
and_true false = refl

-- Without an order.

none_without : (p o : ℕ) (os : List Outstanding) → checkable_of p os ≡ None → checkable_of p (without o os) ≡ None
none_without p o [] h = refl
none_without p o (x ∷ os) h = by (nat_eq x.order p) (nat_eq x.order o) refl h (none_without p o os)
  where
    by : (t u : Bool) → nat_eq x.order p ≡ t → cond t (Some x.checkable) (checkable_of p os) ≡ None → (checkable_of p os ≡ None → checkable_of p (without o os) ≡ None) → checkable_of p (cond (not u) (x ∷ without o os) (without o os)) ≡ None
    by true u e h f = absurd cc
    by false true e h f = f h
    by false false e h f = ap (λ t. cond t (Some x.checkable) (checkable_of p (without o os))) e ∙ f h

fewer_wait : (o k : ℕ) (os : List Outstanding) → is_waiting os k ≡ false → is_waiting (without o os) k ≡ false
fewer_wait o k [] h = refl
fewer_wait o k (x ∷ os) h = by (nat_eq x.checkable k) (nat_eq x.order o) refl h (fewer_wait o k os)
  where
    by : (t u : Bool) → nat_eq x.checkable k ≡ t → (t || is_waiting os k) ≡ false → (is_waiting os k ≡ false → is_waiting (without o os) k ≡ false) → is_waiting (cond (not u) (x ∷ without o os) (without o os)) k ≡ false
    by true u e h f = absurd cc
    by false true e h f = f h
    by false false e h f = ap (λ t. t || is_waiting (without o os) k) e ∙ f h

single_without : (o : ℕ) (os : List Outstanding) → AreSingle os → AreSingle (without o os)
single_without o [] h = tt
single_without o (x ∷ os) h = by (nat_eq x.order o) (single_without o os h.2)
  where
    by : (u : Bool) → AreSingle (without o os) → AreSingle (cond (not u) (x ∷ without o os) (without o os))
    by true f = f
    by false f = (fewer_wait o x.checkable os h.0, none_without x.order o os h.1, f)

pub single_still : (rs : List Reported) (os : List Outstanding) → AreSingle os → AreSingle (still rs os)
single_still [] os h = h
single_still (r ∷ rs) os h = single_still rs (without r.order os) (single_without r.order os h)

pub none_still : (rs : List Reported) (os : List Outstanding) (p : ℕ) → checkable_of p os ≡ None → checkable_of p (still rs os) ≡ None
none_still [] os p h = h
none_still (r ∷ rs) os p h = none_still rs (without r.order os) p (none_without p r.order os h)

-- whose order is outstanding, waits
waits_for : (n c : ℕ) (os : List Outstanding) → checkable_of n os ≡ Some c → is_waiting os c ≡ true
waits_for n c [] h = absurd cc
waits_for n c (x ∷ os) h = by (nat_eq x.order n) h (waits_for n c os)
  where
    by : (t : Bool) → cond t (Some x.checkable) (checkable_of n os) ≡ Some c → (checkable_of n os ≡ Some c → is_waiting os c ≡ true) → (nat_eq x.checkable c || is_waiting os c) ≡ true
    by true h f = let e : x.checkable ≡ c = cc in ap (λ t. t || is_waiting os c) (eq-eqb x.checkable c e)
    by false h f = or_true (nat_eq x.checkable c) (is_waiting os c) (f h)
      where
        or_true : (a b : Bool) → b ≡ true → (a || b) ≡ true
        or_true true b e = refl
        or_true false b e = e

-- without its order a checkable doesn't wait, and each other as before
waits_without : (n c k : ℕ) (os : List Outstanding) → AreSingle os → checkable_of n os ≡ Some c → is_waiting (without n os) k ≡ (is_waiting os k && not (nat_eq c k))
waits_without n c k [] single h = absurd cc
waits_without n c k (x ∷ os) single h = by (nat_eq x.order n) refl h (nat_eq x.checkable k) refl (nat_eq c k) refl (waits_without n c k os single.2)
  where
    by : (t : Bool) → nat_eq x.order n ≡ t → cond t (Some x.checkable) (checkable_of n os) ≡ Some c → (u : Bool) → nat_eq x.checkable k ≡ u → (v : Bool) → nat_eq c k ≡ v → (checkable_of n os ≡ Some c → is_waiting (without n os) k ≡ (is_waiting os k && not (nat_eq c k))) →
        is_waiting (cond (not t) (x ∷ without n os) (without n os)) k ≡ ((u || is_waiting os k) && not v)
    by true e h u q v p f =
        let same : x.checkable ≡ c = cc in
        let gone : without n os ≡ os = nothing_gone n os (ap (λ m. checkable_of m os) (sym (eqb-true x.order n e)) ∙ single.1) in
        ap (λ z. is_waiting z k) gone ∙ here u v (sym q ∙ ap (λ z. nat_eq z k) same ∙ p) q
      where
        here : (u v : Bool) → u ≡ v → nat_eq x.checkable k ≡ u → is_waiting os k ≡ ((u || is_waiting os k) && not v)
        here true true s q = ap (is_waiting os) (sym (eqb-true x.checkable k q)) ∙ single.0
        here true false s q = absurd cc
        here false true s q = absurd cc
        here false false s q = and_true (is_waiting os k)
    by false e h true q true p f =
        let same : x.checkable ≡ c = eqb-true x.checkable k q ∙ sym (eqb-true c k p) in
        let both : true ≡ false = sym (waits_for n c os h) ∙ ap (is_waiting os) (sym same) ∙ single.0 in
        absurd cc
    by false e h true q false p f = ap (λ t. t || is_waiting (without n os) k) q
    by false e h false q v p f = ap (λ t. t || is_waiting (without n os) k) q ∙ f h ∙ ap (λ t. is_waiting os k && not t) p

-- Reports.

and_or : (a b c : Bool) → ((a && not b) && not c) ≡ (a && not (b || c))
and_or true true c = refl
and_or true false c = refl
and_or false b c = refl

-- an order is outstanding until its report is taken
pub waits_still : (rs : List Reported) (os : List Outstanding) (k : ℕ) → AreSingle os → is_waiting (still rs os) k ≡ (is_waiting os k && not (list_any (λ t. nat_eq t.asked.checkable k) (taken_reports os rs)))
waits_still [] os k h = and_true (is_waiting os k)
waits_still (r ∷ rs) os k h = waits_still rs (without r.order os) k (single_without r.order os h) ∙ by (checkable_of r.order os) refl
  where
    later : Bool
    later = list_any (λ (t : Taken). nat_eq t.asked.checkable k) (taken_reports (without r.order os) rs)

    by : (x : Option ℕ) → checkable_of r.order os ≡ x → (is_waiting (without r.order os) k && not later) ≡ (is_waiting os k && not (list_any (λ (t : Taken). nat_eq t.asked.checkable k) (taking r x (taken_reports (without r.order os) rs))))
    by None e = ap (λ z. is_waiting z k && not later) (nothing_gone r.order os e)
    by (Some c) e = ap (λ b. b && not later) (waits_without r.order c k os h e) ∙ and_or (is_waiting os k) (nat_eq c k) later

-- Entries.

-- an ordered check's result
abbrev pub is_report : Event → Bool
is_report (event.Result status passive output perf) = not passive
is_report e = false

same_bool : (b : Bool) → b ≡ (b && not false)
same_bool true = refl
same_bool false = refl

after_event : (e : Event) (waiting : Bool) → waits_after e waiting ≡ (waiting && not (is_report e))
after_event (event.Result status true output perf) true = refl
after_event (event.Result status true output perf) false = refl
after_event (event.Result status false output perf) true = refl
after_event (event.Result status false output perf) false = refl
after_event event.Tick waiting = same_bool waiting
after_event (event.Ack sticky notify) waiting = same_bool waiting
after_event event.Unack waiting = same_bool waiting
after_event (event.Down start finish fixed duration) waiting = same_bool waiting
after_event (event.Undown number) waiting = same_bool waiting
after_event (event.Checks on) waiting = same_bool waiting
after_event (event.Notes on) waiting = same_bool waiting
after_event (event.Check at forced) waiting = same_bool waiting

pub outstanding_after : (c : PlainCheck) (history es : List Entry) (back : List Mark) → is_outstanding (since back (marks_of c history es)) ≡ (is_outstanding back && not (list_any (λ e. is_report e.event) es))
outstanding_after c history [] back = and_true (is_outstanding back)
outstanding_after c history (e ∷ es) back =
    let v = view_of c (history ++ e ∷ []) in
    outstanding_after c (history ++ e ∷ []) es (happened e.moment e.event v ∷ back)
    ∙ ap (λ b. b && not (list_any (λ (e : Entry). is_report e.event) es)) (after_event e.event (is_outstanding back))
    ∙ and_or (is_outstanding back) (is_report e.event) (list_any (λ (e : Entry). is_report e.event) es)

-- Of a round's entries of a checkable, one is of a report where a report of it was taken.

-- a report of one checkable
abbrev is_report_on : ℕ → Asked → Bool
is_report_on k a = nat_eq a.checkable k && is_report a.event

and_false : (b : Bool) → (b && false) ≡ false
and_false true = refl
and_false false = refl

done_reports : (es : List Entry) → list_any (λ (e : Entry). is_report e.event) es ≡ list_any (λ (p : ℕ × Event). is_report p.1) (map done_in es)
done_reports [] = refl
done_reports (e ∷ es) = ap (λ b. is_report e.event || b) (done_reports es)

caller_reports : (k j : ℕ) (as' : List Asked) → list_any (λ (p : ℕ × Event). is_report p.1) (map (λ e. (j, e)) (events_on k as')) ≡ list_any (is_report_on k) as'
caller_reports k j [] = refl
caller_reports k j (a ∷ as') = by (nat_eq a.checkable k) (caller_reports k j as')
  where
    by : (t : Bool) → list_any (λ (p : ℕ × Event). is_report p.1) (map (λ e. (j, e)) (events_on k as')) ≡ list_any (is_report_on k) as' → list_any (λ (p : ℕ × Event). is_report p.1) (map (λ e. (j, e)) (cond t (a.event ∷ events_on k as') (events_on k as'))) ≡ ((t && is_report a.event) || list_any (is_report_on k) as')
    by true f = ap (λ b. is_report a.event || b) f
    by false f = f

callers_report : (k j : ℕ) (events : List (List Asked)) → list_any (λ (p : ℕ × Event). is_report p.1) (dealt_on k j events) ≡ list_any (is_report_on k) (flat_map (λ as'. as') events)
callers_report k j [] = refl
callers_report k j (as' ∷ more) =
    list_any-append (λ (p : ℕ × Event). is_report p.1) (map (λ e. (j, e)) (events_on k as')) (dealt_on k (suc j) more)
    ∙ ap (λ b. b || list_any (λ (p : ℕ × Event). is_report p.1) (dealt_on k (suc j) more)) (caller_reports k j as')
    ∙ ap (λ b. list_any (is_report_on k) as' || b) (callers_report k (suc j) more)
    ∙ sym (list_any-append (is_report_on k) as' (flat_map (λ as'. as') more))

-- commands are no reports
command_is_none : (e : Event) → is_command e ≡ true → is_report e ≡ false
command_is_none (event.Result status true output perf) h = refl
command_is_none (event.Result status false output perf) h = absurd cc
command_is_none event.Tick h = refl
command_is_none (event.Ack sticky notify) h = refl
command_is_none event.Unack h = refl
command_is_none (event.Down start finish fixed duration) h = refl
command_is_none (event.Undown number) h = refl
command_is_none (event.Checks on) h = refl
command_is_none (event.Notes on) h = refl
command_is_none (event.Check at forced) h = refl

lines_report_none : (k : ℕ) (lines : List Asked) → not (list_any (λ a. not (is_command a.event)) lines) ≡ true → list_any (is_report_on k) lines ≡ false
lines_report_none k [] h = refl
lines_report_none k (a ∷ lines) h = by (is_command a.event) refl h (lines_report_none k lines)
  where
    by : (t : Bool) → is_command a.event ≡ t → not (not t || list_any (λ (a : Asked). not (is_command a.event)) lines) ≡ true → (not (list_any (λ (a : Asked). not (is_command a.event)) lines) ≡ true → list_any (is_report_on k) lines ≡ false) → ((nat_eq a.checkable k && is_report a.event) || list_any (is_report_on k) lines) ≡ false
    by false e h f = absurd cc
    by true e h f =
        ap (λ b. (nat_eq a.checkable k && b) || list_any (is_report_on k) lines) (command_is_none a.event e)
        ∙ ap (λ b. b || list_any (is_report_on k) lines) (and_false (nat_eq a.checkable k)) ∙ f h

ticks_report_none : (k first : ℕ) (cs : List PlainCheck) (before : Histories) (moment : ℕ) → list_any (is_report_on k) (ticks_from first cs before moment) ≡ false
ticks_report_none k first [] before moment = refl
ticks_report_none k first (c ∷ cs) before moment = by (wants_tick c (of_index first before) moment) (ticks_report_none k (suc first) cs before moment)
  where
    by : (t : Bool) → list_any (is_report_on k) (ticks_from (suc first) cs before moment) ≡ false → list_any (is_report_on k) (cond t (record { checkable = first; event = event.Tick } ∷ ticks_from (suc first) cs before moment) (ticks_from (suc first) cs before moment)) ≡ false
    by true f = ap (λ b. b || list_any (is_report_on k) (ticks_from (suc first) cs before moment)) (and_false (nat_eq first k)) ∙ f
    by false f = f

taken_report : (k : ℕ) (os : List Outstanding) (rs : List Reported) → list_any (is_report_on k) (map (λ t. t.asked) (taken_reports os rs)) ≡ list_any (λ t. nat_eq t.asked.checkable k) (taken_reports os rs)
taken_report k os [] = refl
taken_report k os (r ∷ rs) = by (checkable_of r.order os) (taken_report k (without r.order os) rs)
  where
    by : (x : Option ℕ) → list_any (is_report_on k) (map (λ (t : Taken). t.asked) (taken_reports (without r.order os) rs)) ≡ list_any (λ (t : Taken). nat_eq t.asked.checkable k) (taken_reports (without r.order os) rs) →
        list_any (is_report_on k) (map (λ (t : Taken). t.asked) (taking r x (taken_reports (without r.order os) rs))) ≡ list_any (λ (t : Taken). nat_eq t.asked.checkable k) (taking r x (taken_reports (without r.order os) rs))
    by None f = f
    by (Some c) f =
        ap (λ b. b || list_any (is_report_on k) (map (λ (t : Taken). t.asked) (taken_reports (without r.order os) rs))) (sym (and_true (nat_eq c k)))
        ∙ ap (λ b. nat_eq c k || b) f

or_false : (b : Bool) → (b || false) ≡ b
or_false true = refl
or_false false = refl

pub round_reports : (b : Rules) (moment : ℕ) (before round : Histories) (callers : ℕ) (lines : List Asked) (os : List Outstanding) (rs : List Reported) (k : ℕ) → 1 ≤ callers → not (list_any (λ a. not (is_command a.event)) lines) ≡ true →
    IsRound b moment before (dealt callers lines (taken_reports os rs) (ticks_from 0 b.site.checkables before moment)) round →
    list_any (λ e. is_report e.event) (of_index k round) ≡ list_any (λ t. nat_eq t.asked.checkable k) (taken_reports os rs)
round_reports b moment before round callers lines os rs k some asked x =
    let ticks = ticks_from 0 b.site.checkables before moment in
    let taken = taken_reports os rs in
    let reports : List Asked = map (λ (t : Taken). t.asked) taken in
    let events = dealt callers lines taken ticks in
    done_reports (of_index k round)
    ∙ list_any-IsPermutation (λ (p : ℕ × Event). is_report p.1) (map done_in (of_index k round)) (dealt_on k 0 events) (entries_are_dealt b moment before events round x k)
    ∙ callers_report k 0 events
    ∙ sym (list_any-IsPermutation (is_report_on k) (lines ++ (reports ++ ticks)) (flat_map (λ as'. as') events) (each_to_one callers lines taken ticks some))
    ∙ list_any-append (is_report_on k) lines (reports ++ ticks)
    ∙ ap (λ b. b || list_any (is_report_on k) (reports ++ ticks)) (lines_report_none k lines asked)
    ∙ list_any-append (is_report_on k) reports ticks
    ∙ ap (λ b. list_any (is_report_on k) reports || b) (ticks_report_none k 0 b.site.checkables before moment)
    ∙ or_false (list_any (is_report_on k) reports)
    ∙ taken_report k os rs
