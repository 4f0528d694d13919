-- Reading parts one behind another, as a loop does.
use Rattle.std.proofs.Common.{◌≡◌, ℕ, suc, ◌-◌, ◌+◌, ◌≤◌, ◌<◌, List, [], ◌∷◌, ◌++◌, drop, codes, Some, None, refl, sym, ap, ◌∙◌, append_assoc, append-nil, arith}
use Rattle.log_text.specs.EntryReading.{users_step, users_within}
use Rattle.log_text.specs.Fronts.{Front, ◌>>=◌, Fails, behind, name_at, with_first, with_front, joined, after_part, parts_within}
use Rattle.log_text.specs.declared.entry_error.EntryError.{EntryError}
use Rattle.log_text.specs.declared.entry_error.EntryError.TheVariants as error

regroup : {A : Type 0} (front : List A) (x : A) (r : Front (List A)) → ((r >>= with_first x) >>= with_front front) ≡ (r >>= with_front (front ++ x ∷ []))
regroup front x None = refl
regroup front x (Some xs) = ap (λ ys. Some (ys, xs.1)) (sym (append_assoc front (x ∷ []) xs.0))

left : (count i : ℕ) → i < count → count - i ≡ suc (count - (i + 1))
left count i lt = omega arith

-- one step of the parts
module _ {A : Type 0} (part : List ℕ → Front A) where
  step : (front : List A) (count i : ℕ) (bytes : List ℕ) → i < count → (parts_within (count - i) part bytes >>= with_front front) ≡ ((part bytes >>= after_part (parts_within (count - (i + 1)) part)) >>= with_front front)
  step front count i bytes lt = ap (λ n. parts_within n part bytes >>= with_front front) (left count i lt)

  pub goes_on : (front : List A) (count i : ℕ) (bytes after next : List ℕ) (x : A) (total : Front (List A)) → i < count → part bytes ≡ Some (x, after) → behind (codes ", ") after ≡ Some next
      → (parts_within (count - i) part bytes >>= with_front front) ≡ total → (parts_within (count - (i + 1)) part next >>= with_front (front ++ x ∷ [])) ≡ total
  goes_on front count i bytes after next x total lt h comma so_far =
      let again : List ℕ → Front (List A) = parts_within (count - (i + 1)) part in
      sym (step front count i bytes lt ∙ (ap (λ r. (r >>= after_part again) >>= with_front front) h ∙ (ap (λ r. joined again (x, after) r >>= with_front front) comma ∙ regroup front x (again next))))
      ∙ so_far

  pub ends_here : (front : List A) (count i : ℕ) (bytes after : List ℕ) (x : A) (total : Front (List A)) → i < count → part bytes ≡ Some (x, after) → behind (codes ", ") after ≡ None
      → (parts_within (count - i) part bytes >>= with_front front) ≡ total → total ≡ Some (front ++ x ∷ [], after)
  ends_here front count i bytes after x total lt h comma so_far =
      let again : List ℕ → Front (List A) = parts_within (count - (i + 1)) part in
      sym so_far ∙ (step front count i bytes lt ∙ (ap (λ r. (r >>= after_part again) >>= with_front front) h ∙ ap (λ r. joined again (x, after) r >>= with_front front) comma))

  pub fails : (e : EntryError) (front : List A) (count i : ℕ) (bytes : List ℕ) (total : Front (List A)) → i < count → Fails e (part bytes)
      → (parts_within (count - i) part bytes >>= with_front front) ≡ total → Fails e total
  fails error.OutOfMemory front count i bytes total lt h so_far = tt
  fails error.BadLine front count i bytes total lt h so_far =
      sym so_far ∙ (step front count i bytes lt ∙ ap (λ r. (r >>= after_part (parts_within (count - (i + 1)) part)) >>= with_front front) h)

  pub none_left : (front : List A) (count i : ℕ) (bytes : List ℕ) (total : Front (List A)) → count ≤ i → (parts_within (count - i) part bytes >>= with_front front) ≡ total → total ≡ None
  none_left front count i bytes total le so_far =
      let none : count - i ≡ 0 = omega arith in
      sym so_far ∙ ap (λ n. parts_within n part bytes >>= with_front front) none

  pub begins_so : (count : ℕ) (bytes : List ℕ) (r : Front (List A)) → (r >>= with_front []) ≡ r
  begins_so count bytes None = refl
  begins_so count bytes (Some xs) = refl

-- Receivers.

users_one : (names : List (List ℕ)) (front : List ℕ) (count i : ℕ) (bytes : List ℕ) → i < count
    → (users_within (count - i) names bytes >>= with_front front) ≡ (users_step (users_within (count - (i + 1)) names) names bytes (behind (32 ∷ 34 ∷ []) bytes) >>= with_front front)
users_one names front count i bytes lt = ap (λ n. users_within n names bytes >>= with_front front) (left count i lt)

pub users_go_on : (names : List (List ℕ)) (front : List ℕ) (count i : ℕ) (bytes after more : List ℕ) (user : ℕ) (total : Front (List ℕ)) → i < count → behind (32 ∷ 34 ∷ []) bytes ≡ Some more → name_at names (drop 1 bytes) ≡ Some (user, after)
    → (users_within (count - i) names bytes >>= with_front front) ≡ total → (users_within (count - (i + 1)) names after >>= with_front (front ++ user ∷ [])) ≡ total
users_go_on names front count i bytes after more user total lt blank h so_far =
    let again : List ℕ → Front (List ℕ) = users_within (count - (i + 1)) names in
    sym (users_one names front count i bytes lt
    ∙ (ap (λ r. users_step again names bytes r >>= with_front front) blank
    ∙ (ap (λ r. (r >>= λ user. again user.1 >>= with_first user.0) >>= with_front front) h ∙ regroup front user (again after))))
    ∙ so_far

pub users_end : (names : List (List ℕ)) (front : List ℕ) (count i : ℕ) (bytes : List ℕ) (total : Front (List ℕ)) → i < count → behind (32 ∷ 34 ∷ []) bytes ≡ None
    → (users_within (count - i) names bytes >>= with_front front) ≡ total → total ≡ Some (front, bytes)
users_end names front count i bytes total lt blank so_far =
    sym so_far
    ∙ (users_one names front count i bytes lt
    ∙ (ap (λ r. users_step (users_within (count - (i + 1)) names) names bytes r >>= with_front front) blank ∙ ap (λ us. Some (us, bytes)) (append-nil front)))
