-- Callers without events change no round.
use Rattle.std.proofs.Common.{◌≡◌, ◌<◌, ◌≤◌, ℕ, zero, suc, List, [], ◌∷◌, ◌++◌, length, map, slice_get, take, nat_eq, cond, Bool, true, false, eqb-true, Some, inl, inr, ◌⊎◌, refl, sym, ap, ◌∙◌, subst, arith, length-append}
use Rattle.std.proofs.lemmas.Bool.{cases_lt}
use Rattle.run_meaning.specs.Acts.{Rules}
use Rattle.run_meaning.specs.Rounds.{entries_by, events_on, IsEntryFor, IsRound}
use Rattle.run_meaning.specs.Turns.{Asked, Histories, of_index}
use Rattle.site_model.specs.declared.entry.Entry.{Entry}
use Rattle.run_laws.specs.Idle.{AreIdle}

none_of : {A : Type 0} (k : ℕ) (more : List (List A)) → AreIdle more → of_index k more ≡ []
none_of k [] h = refl
none_of zero (xs ∷ more) h = h.0
none_of (suc k) (xs ∷ more) h = none_of k more h.1

same_list : {A : Type 0} (k : ℕ) (xss more : List (List A)) → AreIdle more → of_index k (xss ++ more) ≡ of_index k xss
same_list k [] more h = none_of k more h
same_list zero (xs ∷ xss) more h = refl
same_list (suc k) (xs ∷ xss) more h = same_list k xss more h

no_list : {A : Type 0} (k : ℕ) (xss : List (List A)) → length xss ≤ k → of_index k xss ≡ []
no_list k [] h = refl
no_list zero (xs ∷ xss) h = absurd (omega (arith, h))
no_list (suc k) (xs ∷ xss) h = no_list k xss (omega (arith, h))

-- entries of others aren't this caller's
none_by : (k n : ℕ) (es : List Entry) → n ≤ k → ((i : ℕ) (e : Entry) → slice_get es i ≡ Some e → e.caller < n) → entries_by k es ≡ []
none_by k n [] le h = refl
none_by k n (e ∷ es) le h = by (nat_eq e.caller k) refl (none_by k n es le (λ i. h (suc i)))
  where
    by : (b : Bool) → nat_eq e.caller k ≡ b → entries_by k es ≡ [] → cond b (e ∷ entries_by k es) (entries_by k es) ≡ []
    by true same rest = let below = h 0 e refl in let is : e.caller ≡ k = eqb-true e.caller k same in absurd (omega (arith, below, is, le))
    by false other rest = rest

pub idle_change_nothing : (r : Rules) (moment : ℕ) (before : Histories) (events more : List (List Asked)) (round : Histories) → AreIdle more → IsRound r moment before events round → IsRound r moment before (events ++ more) round
idle_change_nothing r moment before events more round idle h = record {
  whole = h.whole;
  taken = taken;
  callers = λ c i e at. let few = h.callers c i e at in let longer = length-append events more in omega (arith, few, longer);
  made = h.made;
  ancestors = h.ancestors;
  seen = h.seen;
  rising = λ k i j m n e f x y lt first second.
      h.rising k i j m n e f x y lt (subst (λ es. IsEntryFor es round k i e) (same_list k events more idle) first) (subst (λ es. IsEntryFor es round k j f) (same_list k events more idle) second);
  own = λ k i m e x is at.
      h.own k i m e x (subst (λ es. IsEntryFor es round k i e) (same_list k events more idle) is) at
      ∙ ap (λ es. length (events_on x.checkable (take i es))) (sym (same_list k events more idle));
}
  where
    within : (k c : ℕ) → (k < length events) ⊎ (length events ≤ k) → map (λ (e : Entry). e.event) (entries_by k (of_index c round)) ≡ events_on c (of_index k events)
    within k c (inl lt) = h.taken k c lt
    within k c (inr le) =
        ap (map (λ (e : Entry). e.event)) (none_by k (length events) (of_index c round) le (h.callers c))
        ∙ sym (ap (events_on c) (no_list k events le))

    taken : (k c : ℕ) → k < length (events ++ more) → map (λ (e : Entry). e.event) (entries_by k (of_index c round)) ≡ events_on c (of_index k (events ++ more))
    taken k c lt = within k c (cases_lt k (length events)) ∙ ap (events_on c) (sym (same_list k events more idle))
