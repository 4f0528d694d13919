-- The fields of a command, both ways.
use Rattle.std.proofs.Common.{◌≡◌, ◌<◌, ◌-◌, ℕ, zero, suc, Bool, true, false, List, [], ◌∷◌, ◌++◌, length, refl, sym, ap, ◌∙◌, subst, arith, append_assoc, Option, Some, None, lit<, option_map}
use Rattle.event_text.specs.Cuts.{IsCut, Cut, cut, uncut, cut_at}
use Rattle.event_text.specs.Fields.{semicolon, IsLast, AreFields, only_field, last_field, first_field, fields_in}
use Rattle.event_text.proofs.CutLaws.{cut_sound, cut_complete, uncut_sound, uncut_complete}

-- so many fields, and these are they
pub record Are (ends_in_text : Bool) (n : ℕ) (fs : List (List ℕ)) (text : List ℕ) : Type 0 where
  pub fields : AreFields ends_in_text fs text
  pub count : length fs ≡ n

last_sound : (t : Bool) (text : List ℕ) (fs : List (List ℕ)) → last_field t text ≡ Some fs → Are t 1 fs text
last_sound true text fs e = let is : text ∷ [] ≡ fs = cc in subst (λ x. Are true 1 x text) is (record { fields = refl; count = refl })
last_sound false text fs e = by (cut_at semicolon text) refl e
  where
    by : (r : Cut) → cut_at semicolon text ≡ r → only_field text r ≡ Some fs → Are false 1 fs text
    by uncut h e = let is : text ∷ [] ≡ fs = cc in subst (λ x. Are false 1 x text) is (record { fields = (refl, uncut_sound semicolon text (lit< tt) h); count = refl })
    by (cut f rest) h e = cc

-- one in front of others
more_fields : (t : Bool) (n : ℕ) (text front rest : List ℕ) (gs : List (List ℕ)) → IsCut semicolon text front rest → Are t (suc n) gs rest → Are t (suc (suc n)) (front ∷ gs) text
more_fields t n text front rest [] h g = absurd g.fields
more_fields t n text front rest (f ∷ gs) h g = record { fields = (rest, h, g.fields); count = ap suc g.count }

pub fields_sound : (t : Bool) (n : ℕ) (text : List ℕ) (fs : List (List ℕ)) → fields_in t n text ≡ Some fs → Are t n fs text
fields_sound t zero text fs e = cc
fields_sound t (suc zero) text fs e = last_sound t text fs e
fields_sound t (suc (suc n)) text fs e = by (λ rest gs g. fields_sound t (suc n) rest gs g) (cut_at semicolon text) refl e
  where
    there : (front rest : List ℕ) → IsCut semicolon text front rest → ((gs : List (List ℕ)) → fields_in t (suc n) rest ≡ Some gs → Are t (suc n) gs rest)
        → (r : Option (List (List ℕ))) → fields_in t (suc n) rest ≡ r → option_map (λ gs. front ∷ gs) r ≡ Some fs → Are t (suc (suc n)) fs text
    there front rest h again None g e = cc
    there front rest h again (Some gs) g e = let is : front ∷ gs ≡ fs = cc in subst (λ x. Are t (suc (suc n)) x text) is (more_fields t n text front rest gs h (again gs g))

    by : ((rest : List ℕ) (gs : List (List ℕ)) → fields_in t (suc n) rest ≡ Some gs → Are t (suc n) gs rest) → (r : Cut) → cut_at semicolon text ≡ r
        → first_field (λ rest. fields_in t (suc n) rest) r ≡ Some fs → Are t (suc (suc n)) fs text
    by again uncut h e = cc
    by again (cut front rest) h e = there front rest (cut_sound semicolon text front rest h) (again rest) (fields_in t (suc n) rest) refl e

last_complete : (t : Bool) (f text : List ℕ) → IsLast t f text → last_field t text ≡ Some (f ∷ [])
last_complete true f text h = ap (λ x. Some (x ∷ [])) h
last_complete false f text h = ap (only_field text) (uncut_complete semicolon text h.1) ∙ ap (λ x. Some (x ∷ [])) h.0

all_complete : (t : Bool) (fs : List (List ℕ)) (text : List ℕ) → AreFields t fs text → fields_in t (length fs) text ≡ Some fs
all_complete t [] text h = absurd h
all_complete t (f ∷ []) text h = last_complete t f text h
all_complete t (f ∷ g ∷ fs) text h =
    ap (first_field (λ rest. fields_in t (suc (length fs)) rest)) (cut_complete semicolon text f h.0 (lit< tt) h.1)
    ∙ ap (option_map (λ gs. f ∷ gs)) (all_complete t (g ∷ fs) h.0 h.2)

pub fields_complete : (t : Bool) (n : ℕ) (fs : List (List ℕ)) (text : List ℕ) → AreFields t fs text → length fs ≡ n → fields_in t n text ≡ Some fs
fields_complete t n fs text h e = subst (λ m. fields_in t m text ≡ Some fs) e (all_complete t fs text h)

-- more than one
pub fields_more : (t : Bool) (n : ℕ) (text : List ℕ) → 1 < n → fields_in t n text ≡ first_field (λ rest. fields_in t (n - 1) rest) (cut_at semicolon text)
fields_more t zero text h = absurd (omega arith)
fields_more t (suc zero) text h = absurd (omega arith)
fields_more t (suc (suc n)) text h =
    let one : suc n ≡ suc (suc n) - 1 = omega arith in
    ap (λ (m : ℕ). first_field (λ rest. fields_in t m rest) (cut_at semicolon text)) one

-- one field more
pub fields_next : (t : Bool) (n : ℕ) (rest front behind : List ℕ) (done : List (List ℕ)) → 1 < n → cut_at semicolon rest ≡ cut front behind
    → option_map (λ fs. (done ++ front ∷ []) ++ fs) (fields_in t (n - 1) behind) ≡ option_map (λ fs. done ++ fs) (fields_in t n rest)
fields_next t n rest front behind done lt e =
    by (fields_in t (n - 1) behind)
    ∙ sym (ap (option_map (λ fs. done ++ fs)) (fields_more t n rest lt ∙ ap (first_field (λ more. fields_in t (n - 1) more)) e))
  where
    by : (r : Option (List (List ℕ))) → option_map (λ fs. (done ++ front ∷ []) ++ fs) r ≡ option_map (λ fs. done ++ fs) (option_map (λ fs. front ∷ fs) r)
    by None = refl
    by (Some fs) = ap Some (append_assoc done (front ∷ []) fs)

-- too few
pub fields_lack : (t : Bool) (n : ℕ) (rest : List ℕ) (done : List (List ℕ)) → 1 < n → cut_at semicolon rest ≡ uncut → None ≡ option_map (λ fs. done ++ fs) (fields_in t n rest)
fields_lack t n rest done lt e = sym (ap (option_map (λ fs. done ++ fs)) (fields_more t n rest lt ∙ ap (first_field (λ more. fields_in t (n - 1) more)) e))
