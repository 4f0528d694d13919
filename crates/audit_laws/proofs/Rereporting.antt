-- Reports of a turn that are told again are taken as what they tell, and the same are refused.
use Rattle.std.proofs.Common.{◌≡◌, ◌+◌, ◌≤◌, ◌||◌, ℕ, nat_eq, not, Bool, true, false, cond, List, [], ◌∷◌, ◌++◌, map, filter, IsPermutation, refl, sym, ap, ◌∙◌, arith, append-nil, is_some, Some, None, Option, true≢false}
use Rattle.std.proofs.lemmas.Bool.Decides.{nat_tests}
use Rattle.std.proofs.lemmas.List.Sorted.{sum_by-IsPermutation}
use Rattle.std.specs.List.{AllByRecursion}
use Rattle.site_model.specs.declared.event.Event.{Event}
use Rattle.run_meaning.specs.Dealing.{checkable_of, ordered_result, refused_report, refusing, report_refusals, still, taken_reports, taking, without, Taken}
use Rattle.run_meaning.specs.Shares.{orders_refused}
use Rattle.run_meaning.specs.Turns.{Outstanding, Reported}
use Rattle.run_meaning.proofs.Dealing.{nothing_gone, outstanding_taken, taken_or_refused}
use Rattle.run_meaning.proofs.Outstanding.{none_still}
use Rattle.site_audit.specs.Order.{stands}
use Rattle.audit_laws.specs.Rereported.{orders_of, orders_taken, refused_again, AreRereported, AreTakenAs}
use Rattle.audit_laws.proofs.Ordering.{eq_is, is_eq, once, permuted, stands_append, times, times_cons}

-- ---- orders that are outstanding

pub gone : (o : ℕ) (os : List Outstanding) → checkable_of o (without o os) ≡ None
gone o [] = refl
gone o (x ∷ os) = by (nat_eq x.order o) refl (gone o os)
  where
    by : (t : Bool) → nat_eq x.order o ≡ t → checkable_of o (without o os) ≡ None → checkable_of o (cond (not t) (x ∷ without o os) (without o os)) ≡ None
    by true e ih = ih
    by false e ih = ap (λ t. cond t (Some x.checkable) (checkable_of o (without o os))) e ∙ ih

pub stays : (o p : ℕ) (os : List Outstanding) → nat_eq o p ≡ false → checkable_of o (without p os) ≡ checkable_of o os
stays o p [] d = refl
stays o p (x ∷ os) d = by (nat_eq x.order p) refl (stays o p os d)
  where
    other : nat_eq x.order p ≡ true → nat_eq x.order o ≡ false
    other e = other_of (eq_is x.order p e) (nat_eq x.order o) refl
      where
        other_of : x.order ≡ p → (t : Bool) → nat_eq x.order o ≡ t → t ≡ false
        other_of q true f = absurd (true≢false (sym (is_eq o p (sym (eq_is x.order o f) ∙ q)) ∙ d))
        other_of q false f = refl

    by : (t : Bool) → nat_eq x.order p ≡ t → checkable_of o (without p os) ≡ checkable_of o os → checkable_of o (cond (not t) (x ∷ without p os) (without p os)) ≡ cond (nat_eq x.order o) (Some x.checkable) (checkable_of o os)
    by true e ih = ih ∙ sym (ap (λ t. cond t (Some x.checkable) (checkable_of o os)) (other e))
    by false e ih = ap (λ z. cond (nat_eq x.order o) (Some x.checkable) z) ih

-- ---- each order is taken once at most

none_taken : (os : List Outstanding) (rs : List Reported) (k : ℕ) → checkable_of k os ≡ None → times k (orders_taken (taken_reports os rs)) ≡ 0
none_taken os [] k h = refl
none_taken os (r ∷ rs) k h = by (checkable_of r.order os) refl (none_taken (without r.order os) rs k (none_still (r ∷ []) os k h))
  where
    rest : List Taken
    rest = taken_reports (without r.order os) rs

    by : (c : Option ℕ) → checkable_of r.order os ≡ c → times k (orders_taken rest) ≡ 0 → times k (orders_taken (taking r c rest)) ≡ 0
    by None e ih = ih
    by (Some c) e ih = at (nat_eq k r.order) refl
      where
        at : (t : Bool) → nat_eq k r.order ≡ t → times k (r.order ∷ orders_taken rest) ≡ 0
        at true f = absurd (none_some c (sym h ∙ (ap (λ n. checkable_of n os) (eq_is k r.order f) ∙ e)))
          where
            none_some : (c : ℕ) → None ≡ Some c → ⊥
            none_some c e = absurd cc
        at false f = let whole = times_cons k r.order (orders_taken rest) in let here : once k r.order ≡ 0 = ap (λ t. cond t 1 0) f in omega (arith, whole, here, ih)

pub once_taken : (os : List Outstanding) (rs : List Reported) (k : ℕ) → times k (orders_taken (taken_reports os rs)) ≤ 1
once_taken os [] k = omega arith
once_taken os (r ∷ rs) k = by (checkable_of r.order os) (once_taken (without r.order os) rs k)
  where
    rest : List Taken
    rest = taken_reports (without r.order os) rs

    by : (c : Option ℕ) → times k (orders_taken rest) ≤ 1 → times k (orders_taken (taking r c rest)) ≤ 1
    by None ih = ih
    by (Some c) ih = at (nat_eq k r.order) refl (times_cons k r.order (orders_taken rest))
      where
        at : (t : Bool) → nat_eq k r.order ≡ t → times k (r.order ∷ orders_taken rest) ≡ once k r.order + times k (orders_taken rest) → times k (r.order ∷ orders_taken rest) ≤ 1
        at true f whole =
            let none = none_taken (without r.order os) rs k (ap (λ n. checkable_of n (without r.order os)) (eq_is k r.order f) ∙ gone r.order os) in
            let here : once k r.order ≡ 1 = ap (λ t. cond t 1 0) f in
            omega (arith, whole, here, none)
        at false f whole = let here : once k r.order ≡ 0 = ap (λ t. cond t 1 0) f in omega (arith, whole, here, ih)

-- ---- the told ones are taken

not_among : (p : ℕ) (r : Reported) (rs : List Reported) → times p (orders_of (r ∷ rs)) ≡ 0 → (nat_eq r.order p ≡ false) × (times p (orders_of rs) ≡ 0)
not_among p r rs h = by (nat_eq p r.order) refl (times_cons p r.order (orders_of rs))
  where
    by : (t : Bool) → nat_eq p r.order ≡ t → times p (orders_of (r ∷ rs)) ≡ once p r.order + times p (orders_of rs) → (nat_eq r.order p ≡ false) × (times p (orders_of rs) ≡ 0)
    by true f whole = let here : once p r.order ≡ 1 = ap (λ t. cond t 1 0) f in absurd (omega (arith, whole, here, h))
    by false f whole = let here : once p r.order ≡ 0 = ap (λ t. cond t 1 0) f in (turned p r.order f, omega (arith, whole, here, h))
      where
        turned : (a b : ℕ) → nat_eq a b ≡ false → nat_eq b a ≡ false
        turned a b e = grind (arith, nat_tests, e)

still_taken_as : (p : ℕ) (os : List Outstanding) (rs : List Reported) (ts : List Taken) → times p (orders_of rs) ≡ 0 → AreTakenAs os rs ts → AreTakenAs (without p os) rs ts
still_taken_as p os [] [] h a = tt
still_taken_as p os [] (t ∷ ts) h a = absurd a
still_taken_as p os (r ∷ rs) [] h a = absurd a
still_taken_as p os (r ∷ rs) (t ∷ ts) h a =
    let n = not_among p r rs h in
    (stays r.order p os n.0 ∙ a.0, a.1, a.2, still_taken_as p os rs ts n.1 a.3)

record AreTold (os : List Outstanding) (rs : List Reported) (ts : List Taken) : Type 0 where
  taken : taken_reports os rs ≡ ts
  none : report_refusals os rs ≡ []

one_taken : (t : Taken) (c order : ℕ) (e : Event) → t.asked.checkable ≡ c → t.order ≡ order → t.asked.event ≡ e → record { order = order; asked = record { checkable = c; event = e } } ≡ t
one_taken t c order e p q r =
    sym (ap (λ n. record { order = n; asked = t.asked }) q ∙ (ap (λ k. record { order = order; asked = record { checkable = k; event = t.asked.event } }) p ∙ ap (λ v. record { order = order; asked = record { checkable = c; event = v } }) r))

told_taken : (os : List Outstanding) (rs : List Reported) (ts : List Taken) → AreTakenAs os rs ts → ((k : ℕ) → times k (orders_of rs) ≤ 1) → AreTold os rs ts
told_taken os [] [] a once = record { taken = refl; none = refl }
told_taken os [] (t ∷ ts) a once = absurd a
told_taken os (r ∷ rs) [] a once = absurd a
told_taken os (r ∷ rs) (t ∷ ts) a few =
    let whole = times_cons r.order r.order (orders_of rs) in
    let here : once r.order r.order ≡ 1 = ap (λ t. cond t 1 0) (is_eq r.order r.order refl) in
    let most = few r.order in
    let more = told_taken (without r.order os) rs ts (still_taken_as r.order os rs ts (omega (arith, whole, here, most)) a.3) (λ k. let w = times_cons k r.order (orders_of rs) in let m = few k in omega (arith, w, m)) in
    record {
      taken = ap (λ c. taking r c (taken_reports (without r.order os) rs)) a.0 ∙ (ap (λ zs. record { order = r.order; asked = record { checkable = t.asked.checkable; event = ordered_result r.status r.output } } ∷ zs) more.taken ∙ ap (λ z. z ∷ ts) (one_taken t t.asked.checkable r.order (ordered_result r.status r.output) refl a.1 a.2));
      none = ap (λ c. refusing r c (report_refusals (without r.order os) rs)) a.0 ∙ more.none;
    }

-- ---- one list of reports behind another

pub taken_append : (os : List Outstanding) (rs qs : List Reported) → taken_reports os (rs ++ qs) ≡ taken_reports os rs ++ taken_reports (still rs os) qs
taken_append os [] qs = refl
taken_append os (r ∷ rs) qs = ap (taking r (checkable_of r.order os)) (taken_append (without r.order os) rs qs) ∙ by (checkable_of r.order os)
  where
    by : (c : Option ℕ) → taking r c (taken_reports (without r.order os) rs ++ taken_reports (still rs (without r.order os)) qs) ≡ taking r c (taken_reports (without r.order os) rs) ++ taken_reports (still rs (without r.order os)) qs
    by None = refl
    by (Some c) = refl

pub refusals_append : (os : List Outstanding) (rs qs : List Reported) → report_refusals os (rs ++ qs) ≡ report_refusals os rs ++ report_refusals (still rs os) qs
refusals_append os [] qs = refl
refusals_append os (r ∷ rs) qs = ap (refusing r (checkable_of r.order os)) (refusals_append (without r.order os) rs qs) ∙ by (checkable_of r.order os)
  where
    by : (c : Option ℕ) → refusing r c (report_refusals (without r.order os) rs ++ report_refusals (still rs (without r.order os)) qs) ≡ refusing r c (report_refusals (without r.order os) rs) ++ report_refusals (still rs (without r.order os)) qs
    by None = refl
    by (Some c) = refl

pub still_append : (os : List Outstanding) (rs qs : List Reported) → still (rs ++ qs) os ≡ still qs (still rs os)
still_append os [] qs = refl
still_append os (r ∷ rs) qs = still_append (without r.order os) rs qs

-- ---- the refused ones are refused

abbrev AreGone : List Outstanding → List ℕ → Type 0
AreGone os = AllByRecursion (λ n. checkable_of n os ≡ None)

record AreRefused (os : List Outstanding) (ns : List ℕ) : Type 0 where
  none : taken_reports os (map refused_again ns) ≡ []
  refused : report_refusals os (map refused_again ns) ≡ map refused_report ns
  same : still (map refused_again ns) os ≡ os

refused_all : (os : List Outstanding) (ns : List ℕ) → AreGone os ns → AreRefused os ns
refused_all os [] h = record { none = refl; refused = refl; same = refl }
refused_all os (n ∷ ns) h =
    let more = refused_all os ns h.1 in
    let out : without n os ≡ os = nothing_gone n os h.0 in
    record {
      none = ap (λ c. taking (refused_again n) c (taken_reports (without n os) (map refused_again ns))) h.0 ∙ (ap (λ zs. taken_reports zs (map refused_again ns)) out ∙ more.none);
      refused = ap (λ c. refusing (refused_again n) c (report_refusals (without n os) (map refused_again ns))) h.0 ∙ ap (λ zs. refused_report n ∷ zs) (ap (λ zs. report_refusals zs (map refused_again ns)) out ∙ more.refused);
      same = ap (λ zs. still (map refused_again ns) zs) out ∙ more.same;
    }

all_stand : (P : ℕ → Type 0) (ns : List ℕ) → ((n : ℕ) → stands ns n ≡ true → P n) → AllByRecursion P ns
all_stand P [] h = tt
all_stand P (n ∷ ns) h = (h n (ap (λ t. t || stands ns n) (is_eq n n refl)), all_stand P ns (λ k e. h k (behind k (nat_eq k n) e)))
  where
    behind : (k : ℕ) (t : Bool) → stands ns k ≡ true → (t || stands ns k) ≡ true
    behind k true e = refl
    behind k false e = e

pub still_gone : (rs : List Reported) (os : List Outstanding) (n : ℕ) → stands (orders_of rs) n ≡ true → checkable_of n (still rs os) ≡ None
still_gone [] os n e = absurd (true≢false (sym e))
still_gone (r ∷ rs) os n e = by (nat_eq n r.order) refl e (still_gone rs (without r.order os) n)
  where
    by : (t : Bool) → nat_eq n r.order ≡ t → (t || stands (orders_of rs) n) ≡ true → (stands (orders_of rs) n ≡ true → checkable_of n (still rs (without r.order os)) ≡ None) → checkable_of n (still rs (without r.order os)) ≡ None
    by true f e more = none_still rs (without r.order os) n (ap (λ k. checkable_of k (without r.order os)) (eq_is n r.order f) ∙ gone r.order os)
    by false f e more = more e

refused_are : (os : List Outstanding) (rs : List Reported) → map refused_report (orders_refused (report_refusals os rs)) ≡ report_refusals os rs
refused_are os [] = refl
refused_are os (r ∷ rs) = by (checkable_of r.order os) (refused_are (without r.order os) rs)
  where
    by : (c : Option ℕ) → map refused_report (orders_refused (report_refusals (without r.order os) rs)) ≡ report_refusals (without r.order os) rs → map refused_report (orders_refused (refusing r c (report_refusals (without r.order os) rs))) ≡ refusing r c (report_refusals (without r.order os) rs)
    by None ih = ap (λ zs. refused_report r.order ∷ zs) ih
    by (Some c) ih = ih

-- ---- the same orders stay

still_is : (rs : List Reported) (os : List Outstanding) → still rs os ≡ filter (λ o. not (stands (orders_of rs) o.order)) os
still_is [] os = sym (all_kept os)
  where
    all_kept : (os : List Outstanding) → filter (λ (o : Outstanding). true) os ≡ os
    all_kept [] = refl
    all_kept (o ∷ os) = ap (λ zs. o ∷ zs) (all_kept os)
still_is (r ∷ rs) os = still_is rs (without r.order os) ∙ both os
  where
    both : (os : List Outstanding) → filter (λ o. not (stands (orders_of rs) o.order)) (without r.order os) ≡ filter (λ o. not (nat_eq o.order r.order || stands (orders_of rs) o.order)) os
    both [] = refl
    both (o ∷ os) = by (nat_eq o.order r.order) (stands (orders_of rs) o.order) refl (both os)
      where
        by : (t u : Bool) → stands (orders_of rs) o.order ≡ u → filter (λ o. not (stands (orders_of rs) o.order)) (without r.order os) ≡ filter (λ o. not (nat_eq o.order r.order || stands (orders_of rs) o.order)) os
            → filter (λ o. not (stands (orders_of rs) o.order)) (cond (not t) (o ∷ without r.order os) (without r.order os)) ≡ cond (not (t || u)) (o ∷ filter (λ o. not (nat_eq o.order r.order || stands (orders_of rs) o.order)) os) (filter (λ o. not (nat_eq o.order r.order || stands (orders_of rs) o.order)) os)
        by true u e ih = ih
        by false true e ih = ap (λ t. cond (not t) (o ∷ filter (λ o. not (stands (orders_of rs) o.order)) (without r.order os)) (filter (λ o. not (stands (orders_of rs) o.order)) (without r.order os))) e ∙ ih
        by false false e ih = ap (λ t. cond (not t) (o ∷ filter (λ o. not (stands (orders_of rs) o.order)) (without r.order os)) (filter (λ o. not (stands (orders_of rs) o.order)) (without r.order os))) e ∙ ap (λ zs. o ∷ zs) ih

filter_same : (p q : Outstanding → Bool) (os : List Outstanding) → AllByRecursion (λ o. p o ≡ q o) os → filter p os ≡ filter q os
filter_same p q [] h = refl
filter_same p q (o ∷ os) h = ap (λ t. cond t (o ∷ filter p os) (filter p os)) h.0 ∙ ap (λ zs. cond (q o) (o ∷ zs) zs) (filter_same p q os h.1)

-- each that is outstanding is found
there_is : (o : Outstanding) (os : List Outstanding) → is_some (checkable_of o.order (o ∷ os)) ≡ true
there_is o os = ap (λ t. is_some (cond t (Some o.checkable) (checkable_of o.order os))) (is_eq o.order o.order refl)

more_there : (n : ℕ) (o : Outstanding) (os : List Outstanding) → is_some (checkable_of n os) ≡ true → is_some (checkable_of n (o ∷ os)) ≡ true
more_there n o os e = by (nat_eq o.order n)
  where
    by : (t : Bool) → is_some (cond t (Some o.checkable) (checkable_of n os)) ≡ true
    by true = refl
    by false = e

each_there : (P : Outstanding → Type 0) (os : List Outstanding) → ((o : Outstanding) → is_some (checkable_of o.order os) ≡ true → P o) → AllByRecursion P os
each_there P [] h = tt
each_there P (o ∷ os) h = (h o (there_is o os), each_there P os (λ x e. h x (more_there x.order o os e)))

module _ (os : List Outstanding) (reports told : List Reported) (takens : List Taken) (taken_as : AreTakenAs os told takens) (same : IsPermutation (orders_taken (taken_reports os reports)) (orders_of told)) where
  abbrev ns : List ℕ
  ns = orders_refused (report_refusals os reports)

  few : (k : ℕ) → times k (orders_of told) ≤ 1
  few k = let e = sum_by-IsPermutation (once k) (orders_taken (taken_reports os reports)) (orders_of told) same in let most = once_taken os reports k in omega (arith, e, most)

  told_are : AreTold os told takens
  told_are = told_taken os told takens taken_as few

  reported : (n : ℕ) → stands (orders_of reports) n ≡ (stands (orders_taken (taken_reports os reports)) n || stands ns n)
  reported n = permuted (orders_of reports) (orders_taken (taken_reports os reports) ++ ns) n (taken_or_refused os reports) ∙ stands_append (orders_taken (taken_reports os reports)) ns n

  taken_told : (n : ℕ) → stands (orders_taken (taken_reports os reports)) n ≡ stands (orders_of told) n
  taken_told n = permuted (orders_taken (taken_reports os reports)) (orders_of told) n same

  -- a refused order isn't outstanding behind the told ones
  gone_now : (n : ℕ) → stands ns n ≡ true → checkable_of n (still told os) ≡ None
  gone_now n e = by (checkable_of n os) refl
    where
      among : stands (orders_of reports) n ≡ true
      among = reported n ∙ ap (λ t. stands (orders_taken (taken_reports os reports)) n || t) e ∙ or_true (stands (orders_taken (taken_reports os reports)) n)
        where
          or_true : (a : Bool) → (a || true) ≡ true
          or_true true = refl
          or_true false = refl

      by : (c : Option ℕ) → checkable_of n os ≡ c → checkable_of n (still told os) ≡ None
      by None h = none_still told os n h
      by (Some c) h = still_gone told os n (sym (taken_told n) ∙ outstanding_taken os reports n (ap is_some h) among)

  refused : AreRefused (still told os) ns
  refused = refused_all (still told os) ns (all_stand (λ n. checkable_of n (still told os) ≡ None) ns gone_now)

  -- of what is outstanding the same is reported
  same_told : (o : Outstanding) → is_some (checkable_of o.order os) ≡ true → not (stands (orders_of told) o.order) ≡ not (stands (orders_of reports) o.order)
  same_told o there = ap not (sym (taken_told o.order) ∙ by (stands (orders_taken (taken_reports os reports)) o.order) refl (stands (orders_of reports) o.order) refl)
    where
      by : (t : Bool) → stands (orders_taken (taken_reports os reports)) o.order ≡ t → (u : Bool) → stands (orders_of reports) o.order ≡ u → t ≡ u
      by true e true f = refl
      by true e false f = absurd (true≢false (sym (ap (λ t. t || stands ns o.order) e) ∙ (sym (reported o.order) ∙ f)))
      by false e true f = sym (sym (outstanding_taken os reports o.order there f) ∙ e)
      by false e false f = refl

  all_told : AreRereported os reports told takens
  all_told = record {
    taken = taken_append os told (map refused_again ns) ∙ (ap (λ zs. zs ++ taken_reports (still told os) (map refused_again ns)) told_are.taken ∙ (ap (λ zs. takens ++ zs) refused.none ∙ append-nil takens));
    refusals = refusals_append os told (map refused_again ns) ∙ (ap (λ zs. zs ++ report_refusals (still told os) (map refused_again ns)) told_are.none ∙ (refused.refused ∙ refused_are os reports));
    outstanding =
        still_append os told (map refused_again ns)
        ∙ (refused.same
        ∙ (still_is told os ∙ (filter_same (λ o. not (stands (orders_of told) o.order)) (λ o. not (stands (orders_of reports) o.order)) os (each_there (λ o. not (stands (orders_of told) o.order) ≡ not (stands (orders_of reports) o.order)) os same_told) ∙ sym (still_is reports os))));
  }

pub rereported : (os : List Outstanding) (reports told : List Reported) (takens : List Taken) → AreTakenAs os told takens → IsPermutation (orders_taken (taken_reports os reports)) (orders_of told) → AreRereported os reports told takens
rereported os reports told takens taken_as same = all_told os reports told takens taken_as same
