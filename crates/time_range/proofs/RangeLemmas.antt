-- Ranges, key by key.
use Rattle.std.proofs.Common.{◌≡◌, ℕ, suc, ◌+◌, ◌<◌, ◌≤◌, true, false, length, get_or, drop, drop-cons, add-one, append_assoc, append-nil, IfOk, Vec, Global, inl, inr, Option, Some, None, Result, Ok, Err, List, [], ◌∷◌, ◌++◌, option_and_then, refl, sym, ap, subst, ◌∙◌, nat_cmp, arith}
use Rattle.std.specs.Cmp.Lexicographic.{slice_cmp}
use Rattle.std.proofs.lemmas.Bool.Decides.{nat_tests}
use Rattle.std.specs.Ordering.{ordering_then}
use Rattle.std.specs.declared.cmp.Ordering.{Ordering}
use Rattle.std.specs.declared.cmp.Ordering.TheVariants.{Less}
use Rattle.std.proofs.lemmas.List.{drop_all}
use Rattle.site_base.specs.Data.{Data, null, boolean, number, string, list, dict, Pairs, no_pairs, pair}
use Rattle.site_base.specs.declared.day.Day.{Day}
use Rattle.site_base.specs.declared.day_span.DaySpan.{DaySpan}
use Rattle.site_base.specs.View.{view, pairs_view}
use Rattle.site_base.specs.declared.tree.Tree.{Tree}
use Rattle.site_base.specs.declared.tree.Tree as trees
use Rattle.site_base.proofs.Views.{view-Dict}
use Rattle.time_range.specs.declared.range_fault.RangeFault.{RangeFault}
use Rattle.time_range.specs.declared.range_fault.RangeFault.TheVariants.{BadRange, OutOfMemory}
use Rattle.time_range.specs.Days.{Names, day_of}
use Rattle.time_range.specs.Spans.{IsPushed}
use Rattle.site_base.specs.Lawful.{IsBefore, Leads, AreRising}
use Rattle.time_range.specs.Ranges.{CanRead, HasRisingKeys, IsRange, AreRanges, IsBad, Has, IsFirstBad, Holds, Refuses, value_spans, range_of, with_front, with_range, ranges_of, ranges_in, Gives}
use Rattle.time_range.proofs.DayLemmas.{day_found, day_again}
use Rattle.time_range.proofs.SpanLemmas.{spans_found, spans_again}

value_found : (key : List ℕ) (day : Day) (value : Data) (spans : List DaySpan) → Names key day → value_spans day value ≡ Some spans → IsRange key value spans
value_found key day null spans named e = absurd (cc)
value_found key day (boolean b) spans named e = absurd (cc)
value_found key day (number n) spans named e = absurd (cc)
value_found key day (string text) spans named e = (day, text, named, refl, spans_found day text spans e)
value_found key day (list items) spans named e = absurd (cc)
value_found key day (dict pairs) spans named e = absurd (cc)

found_by : (key : List ℕ) (value : Data) (spans : List DaySpan) (o : Option Day) → day_of key ≡ o → option_and_then (λ day. value_spans day value) o ≡ Some spans → IsRange key value spans
found_by key value spans None is e = absurd (cc)
found_by key value spans (Some day) is e = value_found key day value spans (day_found key day is) e

pub range_found : (key : List ℕ) (value : Data) (spans : List DaySpan) → range_of key value ≡ Some spans → IsRange key value spans
range_found key value spans e = found_by key value spans (day_of key) refl e

pub range_again : (key : List ℕ) (value : Data) (spans : List DaySpan) → IsRange key value spans → range_of key value ≡ Some spans
range_again key value spans is =
    ap (option_and_then (λ day. value_spans day value)) (day_again key is.0 is.2) ∙ ap (value_spans is.0) is.3 ∙ spans_again is.0 is.1 spans is.4

-- Whole dictionaries.

with_front_ok : (front spans : List DaySpan) (read : Result (List DaySpan) (List ℕ)) → with_front front read ≡ Ok spans → (rest : List DaySpan) × (read ≡ Ok rest) × (spans ≡ front ++ rest)
with_front_ok front spans (Ok rest) e = let same : front ++ rest ≡ spans = cc in (rest, refl, sym same)
with_front_ok front spans (Err key) e = absurd (cc)

with_front_err : (front : List DaySpan) (key : List ℕ) (read : Result (List DaySpan) (List ℕ)) → with_front front read ≡ Err key → read ≡ Err key
with_front_err front key (Ok rest) e = absurd (cc)
with_front_err front key (Err k) e = e

ranges_step : (key : List ℕ) (value : Data) (more : Pairs) (spans : List DaySpan) → ((rest : List DaySpan) → ranges_of more ≡ Ok rest → AreRanges more rest) → (o : Option (List DaySpan)) → range_of key value ≡ o → with_range key o (ranges_of more) ≡ Ok spans → AreRanges (pair key value more) spans
ranges_step key value more spans later None is e = absurd (cc)
ranges_step key value more spans later (Some front) is e =
    let rest = with_front_ok front spans (ranges_of more) e in
    (front, rest.0, range_found key value front is, later rest.0 rest.1, rest.2)

pub ranges_found : (pairs : Pairs) (spans : List DaySpan) → ranges_of pairs ≡ Ok spans → AreRanges pairs spans
unfolding ranges_of
ranges_found no_pairs spans e = let same : [] ≡ spans = cc in sym same
ranges_found (pair key value more) spans e = ranges_step key value more spans (λ rest read. ranges_found more rest read) (range_of key value) refl e

pub ranges_again : (pairs : Pairs) (spans : List DaySpan) → AreRanges pairs spans → ranges_of pairs ≡ Ok spans
unfolding ranges_of
ranges_again no_pairs spans are = ap Ok (sym are)
ranges_again (pair key value more) spans are =
    ap (λ o. with_range key o (ranges_of more)) (range_again key value are.0 are.2) ∙ ap (with_front are.0) (ranges_again more are.1 are.3) ∙ ap Ok (sym are.4)

-- The first key that is bad.

-- a key that is no range has no spans to read
no_range : (key : List ℕ) (value : Data) → range_of key value ≡ None → IsBad key value
no_range key value none spans is = absurd (let read = range_again key value spans is in (cc))

heads : (x y : ℕ) (c d : Ordering) → (c ≡ Less → d ≡ Less → ⊥) → ordering_then (nat_cmp x y) c ≡ Less → ordering_then (nat_cmp y x) d ≡ Less → ⊥
heads x y c d later a b = grind (arith, nat_tests)

-- byte order goes one way
one_way : (key other : List ℕ) → IsBefore key other → IsBefore other key → ⊥
one_way [] [] a b = absurd (cc)
one_way [] (y ∷ ys) a b = absurd (cc)
one_way (x ∷ xs) [] a b = absurd (cc)
one_way (x ∷ xs) (y ∷ ys) a b = heads x y (slice_cmp nat_cmp xs ys) (slice_cmp nat_cmp ys xs) (λ c d. one_way xs ys c d) a b

not_before_itself : (key : List ℕ) → IsBefore key key → ⊥
not_before_itself key before = one_way key key before before

led : (key other : List ℕ) (v : Data) (more : Pairs) → Leads key more → Has more other v → IsBefore key other
led key other v no_pairs leads has = elim has [ ]
led key other v (pair k w more) leads (inl here) = subst (IsBefore key) here.0 leads.0
led key other v (pair k w more) leads (inr later) = led key other v more leads.1 later

first_here : (key : List ℕ) (value : Data) (more : Pairs) → Leads key more → (other : List ℕ) (v : Data) → Has (pair key value more) other v → IsBefore other key → (spans : List DaySpan) × IsRange other v spans
first_here key value more leads other v (inl here) before = absurd (not_before_itself key (subst (λ k. IsBefore k key) (sym here.0) before))
first_here key value more leads other v (inr later) before = absurd (one_way key other (led key other v more leads later) before)

first_after : (key : List ℕ) (value : Data) (more : Pairs) (bad : List ℕ) (front : List DaySpan) → IsRange key value front → IsFirstBad more bad → (other : List ℕ) (v : Data) → Has (pair key value more) other v → IsBefore other bad → (spans : List DaySpan) × IsRange other v spans
first_after key value more bad front is first other v (inl here) before =
    (front, subst (λ k. IsRange k v front) here.0 (subst (λ w. IsRange key w front) here.1 is))
first_after key value more bad front is first other v (inr later) before = first.first other v later before

-- a range in front changes nothing
first_later : (key : List ℕ) (value : Data) (more : Pairs) (bad : List ℕ) (front : List DaySpan) → IsRange key value front → IsFirstBad more bad → IsFirstBad (pair key value more) bad
first_later key value more bad front is first = record {
  value = first.value;
  there = inr first.there;
  bad = first.bad;
  first = first_after key value more bad front is first;
}

bad_step : (key : List ℕ) (value : Data) (more : Pairs) (bad : List ℕ) → Leads key more → (ranges_of more ≡ Err bad → IsFirstBad more bad) → (o : Option (List DaySpan)) → range_of key value ≡ o → with_range key o (ranges_of more) ≡ Err bad → IsFirstBad (pair key value more) bad
bad_step key value more bad leads later None is e =
    let same : key ≡ bad = cc in
    subst (IsFirstBad (pair key value more)) same (record { value = value; there = inl (refl, refl); bad = no_range key value is; first = first_here key value more leads })
bad_step key value more bad leads later (Some front) is e =
    first_later key value more bad front (range_found key value front is) (later (with_front_err front bad (ranges_of more) e))

pub bad_found : (pairs : Pairs) (bad : List ℕ) → AreRising pairs → ranges_of pairs ≡ Err bad → IsFirstBad pairs bad
unfolding ranges_of
bad_found no_pairs bad rising e = absurd (cc)
bad_found (pair key value more) bad rising e = bad_step key value more bad rising.0 (λ read. bad_found more bad rising.1 read) (range_of key value) refl e

again_step : (key : List ℕ) (value : Data) (more : Pairs) (bad : List ℕ) → Leads key more → (first : IsFirstBad (pair key value more) bad) → (there : Has (pair key value more) bad first.value) → (IsFirstBad more bad → ranges_of more ≡ Err bad) → (o : Option (List DaySpan)) → range_of key value ≡ o → with_range key o (ranges_of more) ≡ Err bad
again_step key value more bad leads first (inl here) later None is = ap Err here.0
again_step key value more bad leads first (inr there) later None is =
    let range = first.first key value (inl (refl, refl)) (led key bad first.value more leads there) in
    absurd (no_range key value is range.0 range.1)
again_step key value more bad leads first (inl here) later (Some front) is =
    absurd (first.bad front (subst (λ k. IsRange k first.value front) here.0 (subst (λ v. IsRange key v front) here.1 (range_found key value front is))))
again_step key value more bad leads first (inr there) later (Some front) is =
    ap (with_front front) (later (record { value = first.value; there = there; bad = first.bad; first = λ other v has before. first.first other v (inr has) before }))

pub bad_again : (pairs : Pairs) (bad : List ℕ) → AreRising pairs → IsFirstBad pairs bad → ranges_of pairs ≡ Err bad
unfolding ranges_of
bad_again no_pairs bad rising first = absurd first.there
bad_again (pair key value more) bad rising first = again_step key value more bad rising.0 first first.there (λ later. bad_again more bad rising.1 later) (range_of key value) refl

-- Any value.

pub holds_found : (value : Data) (spans : List DaySpan) → CanRead value → ranges_in value ≡ Ok spans → Holds value spans
holds_found null spans can e = let same : [] ≡ spans = cc in sym same
holds_found (boolean b) spans can e = can
holds_found (number n) spans can e = can
holds_found (string text) spans can e = can
holds_found (list items) spans can e = can
holds_found (dict pairs) spans can e = ranges_found pairs spans e

pub holds_again : (value : Data) (spans : List DaySpan) → Holds value spans → ranges_in value ≡ Ok spans
holds_again null spans holds = ap Ok (sym holds)
holds_again (boolean b) spans holds = absurd holds
holds_again (number n) spans holds = absurd holds
holds_again (string text) spans holds = absurd holds
holds_again (list items) spans holds = absurd holds
holds_again (dict pairs) spans holds = ranges_again pairs spans holds

pub refuses_found : (value : Data) (key : List ℕ) → CanRead value → HasRisingKeys value → ranges_in value ≡ Err key → Refuses value key
refuses_found null key can rising e = absurd (cc)
refuses_found (boolean b) key can rising e = can
refuses_found (number n) key can rising e = can
refuses_found (string text) key can rising e = can
refuses_found (list items) key can rising e = can
refuses_found (dict pairs) key can rising e = bad_found pairs key rising e

pub refuses_again : (value : Data) (key : List ℕ) → HasRisingKeys value → Refuses value key → ranges_in value ≡ Err key
refuses_again null key rising refuses = absurd refuses
refuses_again (boolean b) key rising refuses = absurd refuses
refuses_again (number n) key rising refuses = absurd refuses
refuses_again (string text) key rising refuses = absurd refuses
refuses_again (list items) key rising refuses = absurd refuses
refuses_again (dict pairs) key rising refuses = bad_again pairs key rising refuses

-- The calls.

pub gives_found : (r : Result (List DaySpan) RangeFault) (value : Data) → CanRead value → Gives r (ranges_in value) → IfOk r (Holds value)
gives_found (Ok spans) value can gives = holds_found value spans can gives
gives_found (Err (BadRange key)) value can gives = tt
gives_found (Err OutOfMemory) value can gives = tt

pub gives_only : (r : Result (List DaySpan) RangeFault) (value : Data) → Gives r (ranges_in value) → (spans : List DaySpan) → Holds value spans → Gives r (Ok spans)
gives_only r value gives spans holds = subst (Gives r) (holds_again value spans holds) gives

pub gives_refused : (r : Result (List DaySpan) RangeFault) (value : Data) → CanRead value → Gives r (ranges_in value) → HasRisingKeys value → (key : List ℕ) → r ≡ Err (BadRange key) → Refuses value key
gives_refused r value can gives rising key is = refuses_found value key can rising (subst (λ s. Gives s (ranges_in value)) is gives)

pub gives_bad : (r : Result (List DaySpan) RangeFault) (value : Data) → Gives r (ranges_in value) → HasRisingKeys value → (key : List ℕ) → Refuses value key → Gives r (Err key)
gives_bad r value gives rising key refuses = subst (Gives r) (refuses_again value key rising refuses) gives

-- a dictionary's pairs are read
pub gives_dict : (r : Result (List DaySpan) RangeFault) (tree : Tree) (v : Vec (List ℕ × Tree) Global) (pairs : List (List ℕ × Tree)) → tree ≡ trees.Dict v → pairs ≡ v.items → Gives r (ranges_of (pairs_view pairs)) → Gives r (ranges_in (view tree))
gives_dict r tree v pairs is items gives =
    subst (Gives r) (ap (λ ps. ranges_of (pairs_view ps)) items ∙ sym (ap ranges_in (ap view is ∙ view-Dict v))) gives

-- The loop over the pairs.

next_pair : (pairs : List (List ℕ × Tree)) (i : ℕ) (x : List ℕ × Tree) → i < length pairs → x ≡ get_or pairs i x → ranges_of (pairs_view (drop i pairs)) ≡ with_range x.0 (range_of x.0 (view x.1)) (ranges_of (pairs_view (drop (i + 1) pairs)))
unfolding ranges_of
next_pair pairs i x h at =
    let split : drop i pairs ≡ x ∷ drop (i + 1) pairs = rw add-one (drop-cons pairs i x h ∙ ap (λ y. y ∷ drop (suc i) pairs) (sym at)) in
    ap (λ ps. ranges_of (pairs_view ps)) split

refused_by : (out new : List DaySpan) (key : List ℕ) (o : Option (List DaySpan)) (others : Result (List DaySpan) (List ℕ)) → IsPushed false out new o → with_front out (with_range key o others) ≡ Err key
refused_by out new key None others pushed = refl
refused_by out new key (Some front) others pushed = absurd (let no = pushed.0 in (cc))

-- the loop ends at a pair that is no range
pub loop_refused : (out new : List DaySpan) (pairs : List (List ℕ × Tree)) (i : ℕ) (x : List ℕ × Tree) (all : Result (List DaySpan) (List ℕ)) → i < length pairs → x ≡ get_or pairs i x → with_front out (ranges_of (pairs_view (drop i pairs))) ≡ all → IsPushed false out new (range_of x.0 (view x.1)) → all ≡ Err x.0
loop_refused out new pairs i x all h at e pushed =
    sym e ∙ ap (with_front out) (next_pair pairs i x h at) ∙ refused_by out new x.0 (range_of x.0 (view x.1)) (ranges_of (pairs_view (drop (i + 1) pairs))) pushed

with_both : (out front : List DaySpan) (read : Result (List DaySpan) (List ℕ)) → with_front out (with_front front read) ≡ with_front (out ++ front) read
with_both out front (Ok spans) = ap Ok (sym (append_assoc out front spans))
with_both out front (Err key) = refl

taken_by : (out new : List DaySpan) (key : List ℕ) (o : Option (List DaySpan)) (others : Result (List DaySpan) (List ℕ)) → IsPushed true out new o → with_front out (with_range key o others) ≡ with_front new others
taken_by out new key None others pushed = absurd (cc)
taken_by out new key (Some front) others pushed = with_both out front others ∙ ap (λ a. with_front a others) (sym pushed.1)

-- and goes on behind one that is
pub loop_taken : (out new : List DaySpan) (pairs : List (List ℕ × Tree)) (i : ℕ) (x : List ℕ × Tree) (all : Result (List DaySpan) (List ℕ)) → i < length pairs → x ≡ get_or pairs i x → with_front out (ranges_of (pairs_view (drop i pairs))) ≡ all → IsPushed true out new (range_of x.0 (view x.1)) → with_front new (ranges_of (pairs_view (drop (i + 1) pairs))) ≡ all
loop_taken out new pairs i x all h at e pushed =
    sym (taken_by out new x.0 (range_of x.0 (view x.1)) (ranges_of (pairs_view (drop (i + 1) pairs))) pushed) ∙ ap (with_front out) (sym (next_pair pairs i x h at)) ∙ e

pub loop_ended : (out : List DaySpan) (pairs : List (List ℕ × Tree)) (i : ℕ) (all : Result (List DaySpan) (List ℕ)) → length pairs ≤ i → with_front out (ranges_of (pairs_view (drop i pairs))) ≡ all → all ≡ Ok out
unfolding ranges_of
loop_ended out pairs i all h e =
    sym e ∙ ap (λ ps. with_front out (ranges_of (pairs_view ps))) (drop_all i pairs h) ∙ ap Ok (append-nil out)
