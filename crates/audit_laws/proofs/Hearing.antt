-- Entries are heard as what each says by the order that its checkable had before the block.
use Rattle.std.proofs.Common.{◌≡◌, ◌<◌, ℕ, suc, nat_lt, Bool, true, false, cond, List, [], ◌∷◌, ◌++◌, length, get_or, slice_set, refl, sym, ap, ◌∙◌, arith, append_assoc, append-nil, Some, None, Option, length-append}
use Rattle.std.proofs.lemmas.Bool.Decides.{nat_tests}
use Rattle.std.proofs.lemmas.List.{get_or-set_other}
use Rattle.std.specs.List.{AllByRecursion}
use Rattle.site_model.specs.declared.event.Event.{Event}
use Rattle.site_model.specs.declared.event.Event.TheVariants as event
use Rattle.log_text.specs.Fronts.{◌>>=◌}
use Rattle.site_audit.specs.Hearing.{entries_heard, heard_with, hearing, one_heard}
use Rattle.site_audit.specs.Spots.{spots_of}
use Rattle.site_audit.specs.Telling.{after_entry, event_said, is_report}
use Rattle.audit_laws.specs.Types.{EntryLine, Heard, Open, Said}
use Rattle.site_audit.specs.Told.{nothing_heard}
use Rattle.audit_laws.specs.Heard.{AllSay, AreHeard, HaveOneResult}
use Rattle.audit_laws.specs.Retaken.{spots_from}

-- only results look at the order of their checkable
same_said : (name : List ℕ) (o p : Option Open) (e : Event) → (is_report e ≡ true → o ≡ p) → event_said name o e ≡ event_said name p e
same_said name o p (event.Result status false output perf) h = ap (λ q. event_said name q (event.Result status false output perf)) (h refl)
same_said name o p (event.Result status true output perf) h = refl
same_said name o p event.Tick h = refl
same_said name o p (event.Ack sticky notify) h = refl
same_said name o p event.Unack h = refl
same_said name o p (event.Down start end fixed duration) h = refl
same_said name o p (event.Undown number) h = refl
same_said name o p (event.Checks on) h = refl
same_said name o p (event.Notes on) h = refl
same_said name o p (event.Check moment forced) h = refl

-- the orders of those that have results are as they were
abbrev Agree : List (Option Open) → List (Option Open) → List EntryLine → Type 0
Agree now os = AllByRecursion (λ y. is_report y.entry.event ≡ true → get_or now y.checkable None ≡ get_or os y.checkable None)

agree_all : (os : List (Option Open)) (xs : List EntryLine) → Agree os os xs
agree_all os [] = tt
agree_all os (x ∷ xs) = (λ e. refl, agree_all os xs)

agree_after : (now os : List (Option Open)) (x : EntryLine) (xs : List EntryLine) → AllByRecursion (λ y. is_report x.entry.event ≡ true → is_report y.entry.event ≡ true → x.checkable ≡ y.checkable → ⊥) xs → Agree now os xs → Agree (after_entry now x) os xs
agree_after now os x [] one h = tt
agree_after now os x (y ∷ xs) one h = (here (is_report x.entry.event) refl, agree_after now os x xs one.1 h.1)
  where
    here : (t : Bool) → is_report x.entry.event ≡ t → is_report y.entry.event ≡ true → get_or (cond t (slice_set now x.checkable None) now) y.checkable None ≡ get_or os y.checkable None
    here true r e = get_or-set_other now x.checkable y.checkable None None (λ same. one.0 r e (sym same)) ∙ h.0 e
    here false r e = h.0 e

heard_from : (callers : ℕ) (names : List (List ℕ)) (os now : List (Option Open)) (xs : List EntryLine) (ss : List Said) (h : Heard) → Agree now os xs → AllByRecursion (λ x. x.entry.caller < callers) xs → AllSay names os xs ss → HaveOneResult xs
    → entries_heard callers names now xs h ≡ Some (record { said = h.said ++ ss; spots = h.spots ++ spots_from (length h.said) xs ss })
heard_from callers names os now [] [] h agree few say one =
    sym (ap (λ zs. Some (record { said = zs; spots = h.spots ++ [] })) (append-nil h.said) ∙ ap (λ zs. Some (record { said = h.said; spots = zs })) (append-nil h.spots))
heard_from callers names os now [] (s ∷ ss) h agree few say one = absurd say
heard_from callers names os now (x ∷ xs) [] h agree few say one = absurd say
heard_from callers names os now (x ∷ xs) (s ∷ ss) h agree few say one =
    let inside : nat_lt x.entry.caller callers ≡ true = below x.entry.caller callers few.0 in
    let said : event_said (get_or names x.checkable []) (get_or now x.checkable None) x.entry.event ≡ Some s = same_said (get_or names x.checkable []) (get_or now x.checkable None) (get_or os x.checkable None) x.entry.event agree.0 ∙ say.0 in
    let next : Heard = hearing h x s in
    let step : one_heard callers names now h x ≡ Some next = ap (λ t. heard_with h x (cond t (event_said (get_or names x.checkable []) (get_or now x.checkable None) x.entry.event) None)) inside ∙ ap (heard_with h x) said in
    let more = heard_from callers names os (after_entry now x) xs ss next (agree_after now os x xs one.0 agree.1) few.1 say.1 one.1 in
    let long : length (h.said ++ s ∷ []) ≡ suc (length h.said) = last h.said s in
    ap (λ r. r >>= entries_heard callers names (after_entry now x) xs) step
    ∙ (more
    ∙ (ap (λ zs. Some (record { said = zs; spots = (h.spots ++ spots_of (length h.said) x s) ++ spots_from (length (h.said ++ s ∷ [])) xs ss })) (append_assoc h.said (s ∷ []) ss)
    ∙ (ap (λ n. Some (record { said = h.said ++ s ∷ ss; spots = (h.spots ++ spots_of (length h.said) x s) ++ spots_from n xs ss })) long
    ∙ ap (λ zs. Some (record { said = h.said ++ s ∷ ss; spots = zs })) (append_assoc h.spots (spots_of (length h.said) x s) (spots_from (suc (length h.said)) xs ss)))))
  where
    below : (a b : ℕ) → a < b → nat_lt a b ≡ true
    below a b lt = grind (arith, nat_tests, lt)

    last : (zs : List Said) (z : Said) → length (zs ++ z ∷ []) ≡ suc (length zs)
    last zs z = let e = length-append zs (z ∷ []) in omega (arith, e)

pub heard : (callers : ℕ) (names : List (List ℕ)) (os : List (Option Open)) (xs : List EntryLine) (said : List Said) → AllByRecursion (λ x. x.entry.caller < callers) xs → AllSay names os xs said → HaveOneResult xs → AreHeard callers names os xs said
heard callers names os xs said few say one = heard_from callers names os os xs said nothing_heard (agree_all os xs) few say one
