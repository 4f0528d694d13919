-- Reports one after another.
use Rattle.std.proofs.Common.{◌≡◌, ℕ, List, [], ◌∷◌, ◌++◌, Option, Some, None, refl, sym, ap, ◌∙◌, append_assoc}
use Rattle.run_meaning.specs.Dealing.{Refusal, Taken, checkable_of, refusing, report_refusals, still, taken_reports, taking, without}
use Rattle.run_meaning.specs.Turns.{Outstanding, Reported}

-- Some reports, and then others.

pub still_both : (rs qs : List Reported) (os : List Outstanding) → still (rs ++ qs) os ≡ still qs (still rs os)
still_both [] qs os = refl
still_both (r ∷ rs) qs os = still_both rs qs (without r.order os)

taking_both : (r : Reported) (c : Option ℕ) (ts us : List Taken) → taking r c (ts ++ us) ≡ taking r c ts ++ us
taking_both r None ts us = refl
taking_both r (Some c) ts us = refl

pub taken_both : (rs qs : List Reported) (os : List Outstanding) → taken_reports os (rs ++ qs) ≡ taken_reports os rs ++ taken_reports (still rs os) qs
taken_both [] qs os = refl
taken_both (r ∷ rs) qs os =
    ap (taking r (checkable_of r.order os)) (taken_both rs qs (without r.order os))
    ∙ taking_both r (checkable_of r.order os) (taken_reports (without r.order os) rs) (taken_reports (still rs (without r.order os)) qs)

refusing_both : (r : Reported) (c : Option ℕ) (fs gs : List Refusal) → refusing r c (fs ++ gs) ≡ refusing r c fs ++ gs
refusing_both r None fs gs = refl
refusing_both r (Some c) fs gs = refl

pub refused_both : (rs qs : List Reported) (os : List Outstanding) → report_refusals os (rs ++ qs) ≡ report_refusals os rs ++ report_refusals (still rs os) qs
refused_both [] qs os = refl
refused_both (r ∷ rs) qs os =
    ap (refusing r (checkable_of r.order os)) (refused_both rs qs (without r.order os))
    ∙ refusing_both r (checkable_of r.order os) (report_refusals (without r.order os) rs) (report_refusals (still rs (without r.order os)) qs)

-- One more of them.

-- what is left comes to the same
pub events_step : (r : Reported) (rest left : List Reported) (os : List Outstanding) (done more all : List Taken) → left ≡ r ∷ rest → more ≡ done ++ taken_reports os (r ∷ []) → done ++ taken_reports os left ≡ all → more ++ taken_reports (still (r ∷ []) os) rest ≡ all
events_step r rest left os done more all is grown so_far =
    ap (λ ts. ts ++ taken_reports (still (r ∷ []) os) rest) grown
    ∙ append_assoc done (taken_reports os (r ∷ [])) (taken_reports (still (r ∷ []) os) rest)
    ∙ ap (λ ts. done ++ ts) (sym (taken_both (r ∷ []) rest os))
    ∙ ap (λ rs. done ++ taken_reports os rs) (sym is)
    ∙ so_far

pub refusals_step : (r : Reported) (rest left : List Reported) (os : List Outstanding) (done more all : List Refusal) → left ≡ r ∷ rest → more ≡ done ++ report_refusals os (r ∷ []) → done ++ report_refusals os left ≡ all → more ++ report_refusals (still (r ∷ []) os) rest ≡ all
refusals_step r rest left os done more all is grown so_far =
    ap (λ fs. fs ++ report_refusals (still (r ∷ []) os) rest) grown
    ∙ append_assoc done (report_refusals os (r ∷ [])) (report_refusals (still (r ∷ []) os) rest)
    ∙ ap (λ fs. done ++ fs) (sym (refused_both (r ∷ []) rest os))
    ∙ ap (λ rs. done ++ report_refusals os rs) (sym is)
    ∙ so_far

pub still_step : (r : Reported) (rest left : List Reported) (os all : List Outstanding) → left ≡ r ∷ rest → still left os ≡ all → still rest (still (r ∷ []) os) ≡ all
still_step r rest left os all is so_far = ap (λ rs. still rs os) (sym is) ∙ so_far

-- What is refused of reports of two kinds, behind the lines.

pub refusals_both : (lines : List Refusal) (rs qs : List Reported) (os : List Outstanding) → (lines ++ report_refusals os rs) ++ report_refusals (still rs os) qs ≡ lines ++ report_refusals os (rs ++ qs)
refusals_both lines rs qs os = append_assoc lines (report_refusals os rs) (report_refusals (still rs os) qs) ∙ ap (λ fs. lines ++ fs) (sym (refused_both rs qs os))
