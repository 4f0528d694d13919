-- Events of a turn that can be printed.
use Rattle.std.proofs.Common.{◌≡◌, ◌<◌, ◌≤◌, ◌+◌, ℕ, zero, suc, min, nat_eq, Bool, true, false, cond, List, [], ◌∷◌, ◌++◌, All, filter, map, slice_get, Option, Some, None, refl, sym, ◌∙◌, ap, subst, arith}
use Rattle.std.proofs.lemmas.List.Elements.{All-append, All-cons, All-head, All-nil, All-tail}
use Rattle.event_text.specs.Lines.{Answer, told, faulty}
use Rattle.event_text.specs.Reading.{line_read}
use Rattle.run_meaning.specs.Dealing.{Taken, checkable_of, dealt, dealt_to, goes_to, line_events, lines_to, taken_reports, taking, ticks_from, wants_tick, without}
use Rattle.run_meaning.specs.Rounds.{entries_by, events_on}
use Rattle.run_meaning.specs.Turns.{Asked, Histories, Outstanding, Reported, of_index}
use Rattle.run_meaning.proofs.Lists.{of_index_each}
use Rattle.site_model.specs.PlainSite.{PlainCheck, PlainSite}
use Rattle.site_model.specs.declared.entry.Entry.{Entry}
use Rattle.site_model.specs.declared.event.Event.TheVariants as event
use Rattle.run_text.specs.TurnReading.{as_line, lines_read}
use Rattle.run_text.proofs.ReadingForms.{line_in_form}
use Rattle.site_text.specs.Entries.{IsInForm}

abbrev pub AreInForm : List Asked → Type 0
AreInForm as' = All (λ a. IsInForm a.event) as'

nothing : AreInForm []
nothing = All-nil (λ (a : Asked). IsInForm a.event)

one_more : (a : Asked) (as' : List Asked) → IsInForm a.event → AreInForm as' → AreInForm (a ∷ as')
one_more a as' h rest = All-cons (λ (x : Asked). IsInForm x.event) a as' h rest

lines_in_form : (s : PlainSite) (lines : List (List ℕ)) → AreInForm (line_events (lines_read s lines))
lines_in_form s [] = nothing
lines_in_form s (line ∷ lines) = by (line_read s line) refl (lines_in_form s lines)
  where
    by : (a : Answer) → line_read s line ≡ a → AreInForm (line_events (lines_read s lines)) → AreInForm (line_events (as_line a ∷ lines_read s lines))
    by (told k e) h rest = one_more (record { checkable = k; event = e }) (line_events (lines_read s lines)) (line_in_form s line k e h) rest
    by (faulty f) h rest = rest

few : (n : ℕ) → min n 3 ≤ 3
few n = omega arith

reports_in_form : (os : List Outstanding) (rs : List Reported) → AreInForm (map (λ t. t.asked) (taken_reports os rs))
reports_in_form os [] = nothing
reports_in_form os (r ∷ rs) = by (checkable_of r.order os) (reports_in_form (without r.order os) rs)
  where
    by : (c : Option ℕ) → AreInForm (map (λ (t : Taken). t.asked) (taken_reports (without r.order os) rs)) → AreInForm (map (λ (t : Taken). t.asked) (taking r c (taken_reports (without r.order os) rs)))
    by None rest = rest
    by (Some c) rest = one_more _ (map (λ (t : Taken). t.asked) (taken_reports (without r.order os) rs)) (few r.status) rest

ticks_in_form : (k : ℕ) (cs : List PlainCheck) (before : Histories) (moment : ℕ) → AreInForm (ticks_from k cs before moment)
ticks_in_form k [] before moment = nothing
ticks_in_form k (c ∷ cs) before moment = by (wants_tick c (of_index k before) moment) (ticks_in_form (suc k) cs before moment)
  where
    by : (b : Bool) → AreInForm (ticks_from (suc k) cs before moment) → AreInForm (cond b (record { checkable = k; event = event.Tick } ∷ ticks_from (suc k) cs before moment) (ticks_from (suc k) cs before moment))
    by true rest = one_more (record { checkable = k; event = event.Tick }) (ticks_from (suc k) cs before moment) tt rest
    by false rest = rest

-- What a caller takes of a turn.

lines_kept : (k : ℕ) (lines : List Asked) → AreInForm lines → AreInForm (lines_to k lines)
lines_kept zero lines h = h
lines_kept (suc k) lines h = nothing

reports_kept : (test : Taken → Bool) (ts : List Taken) → AreInForm (map (λ t. t.asked) ts) → AreInForm (map (λ t. t.asked) (filter test ts))
reports_kept test [] h = nothing
reports_kept test (t ∷ ts) h = by (test t) (reports_kept test ts (All-tail (λ (a : Asked). IsInForm a.event) t.asked (map (λ (t : Taken). t.asked) ts) h))
  where
    by : (b : Bool) → AreInForm (map (λ (t : Taken). t.asked) (filter test ts)) → AreInForm (map (λ (t : Taken). t.asked) (cond b (t ∷ filter test ts) (filter test ts)))
    by true rest = one_more t.asked (map (λ (t : Taken). t.asked) (filter test ts)) (All-head (λ (a : Asked). IsInForm a.event) t.asked (map (λ (t : Taken). t.asked) ts) h) rest
    by false rest = rest

ticks_kept : (test : Asked → Bool) (as' : List Asked) → AreInForm as' → AreInForm (filter test as')
ticks_kept test [] h = nothing
ticks_kept test (a ∷ as') h = by (test a) (ticks_kept test as' (All-tail (λ (a : Asked). IsInForm a.event) a as' h))
  where
    by : (b : Bool) → AreInForm (filter test as') → AreInForm (cond b (a ∷ filter test as') (filter test as'))
    by true rest = one_more a (filter test as') (All-head (λ (a : Asked). IsInForm a.event) a as' h) rest
    by false rest = rest

pub dealt_in_form : (s : PlainSite) (lines : List (List ℕ)) (os : List Outstanding) (rs : List Reported) (before : Histories) (moment callers k : ℕ) → k < callers →
    AreInForm (of_index k (dealt callers (line_events (lines_read s lines)) (taken_reports os rs) (ticks_from 0 s.checkables before moment)))
dealt_in_form s lines os rs before moment callers k h =
    let P : Asked → Type 0 = λ a. IsInForm a.event in
    let events = line_events (lines_read s lines) in
    let reports = taken_reports os rs in
    let late = ticks_from 0 s.checkables before moment in
    let e : 0 + k ≡ k = omega arith in
    let of_reports = filter (λ (t : Taken). goes_to callers k t.order) reports in
    let of_ticks = filter (λ (a : Asked). goes_to callers k a.checkable) late in
    let all : AreInForm (dealt_to callers events reports late k) =
    All-append P (lines_to k events) (map (λ (t : Taken). t.asked) of_reports ++ of_ticks) (lines_kept k events (lines_in_form s lines))
    (All-append P (map (λ (t : Taken). t.asked) of_reports) of_ticks (reports_kept (λ (t : Taken). goes_to callers k t.order) reports (reports_in_form os rs)) (ticks_kept (λ (a : Asked). goes_to callers k a.checkable) late (ticks_in_form 0 s.checkables before moment))) in
    subst AreInForm (sym (of_index_each (dealt_to callers events reports late) 0 callers k h ∙ ap (dealt_to callers events reports late) e)) all

pub on_one : (c : ℕ) (as' : List Asked) → AreInForm as' → All IsInForm (events_on c as')
on_one c [] h = All-nil IsInForm
on_one c (a ∷ as') h = by (nat_eq a.checkable c) (on_one c as' (All-tail (λ (x : Asked). IsInForm x.event) a as' h))
  where
    by : (b : Bool) → All IsInForm (events_on c as') → All IsInForm (cond b (a.event ∷ events_on c as') (events_on c as'))
    by true rest = All-cons IsInForm a.event (events_on c as') (All-head (λ (x : Asked). IsInForm x.event) a as' h) rest
    by false rest = rest

one_of : {A : Type 0} (x y : A) → Some x ≡ Some y → x ≡ y
one_of x y h = cc

-- the event of an entry is one of its caller's
pub of_caller : (k : ℕ) (es : List Entry) → All IsInForm (map (λ e. e.event) (entries_by k es)) → (i : ℕ) (e : Entry) → slice_get es i ≡ Some e → nat_eq e.caller k ≡ true → IsInForm e.event
of_caller k [] all i e at mine = absurd cc
of_caller k (x ∷ xs) all i e at mine = by (nat_eq x.caller k) refl all i at (λ rest j there. of_caller k xs rest j e there mine)
  where
    by : (b : Bool) → nat_eq x.caller k ≡ b → All IsInForm (map (λ (y : Entry). y.event) (cond b (x ∷ entries_by k xs) (entries_by k xs))) → (j : ℕ) → slice_get (x ∷ xs) j ≡ Some e
        → (All IsInForm (map (λ (y : Entry). y.event) (entries_by k xs)) → (n : ℕ) → slice_get xs n ≡ Some e → IsInForm e.event) → IsInForm e.event
    by true same these zero here rest = subst (λ (y : Entry). IsInForm y.event) (one_of x e here) (All-head IsInForm x.event (map (λ (y : Entry). y.event) (entries_by k xs)) these)
    by true same these (suc j) there rest = rest (All-tail IsInForm x.event (map (λ (y : Entry). y.event) (entries_by k xs)) these) j there
    by false same these zero here rest =
        let no : false ≡ true = sym same ∙ ap (λ (y : Entry). nat_eq y.caller k) (one_of x e here) ∙ mine in
        absurd cc
    by false same these (suc j) there rest = rest these j there
