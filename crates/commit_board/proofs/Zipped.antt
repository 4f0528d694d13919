-- Answers that are right at each place are those of the tasks, one by one.
use Rattle.std.proofs.Common.{◌≡◌, ℕ, zero, suc, ◌+◌, ◌<◌, List, [], ◌∷◌, ◌++◌, arith, get_or, length, slice_get, take, All, Some, IsSomeAnd, Vec, ap, refl, sym, ◌∙◌, subst}
use Rattle.std.specs.List.{AllZip}
use Rattle.std.specs.declared.alloc.Global.{Global}
use Rattle.std.proofs.lemmas.List.Concat.{flat_map-cons}
use Rattle.std.proofs.lemmas.List.Elements.{All-cons, All-get_or, All-head, All-nil, All-tail}
use Rattle.std.proofs.lemmas.List.{take_more}
use Rattle.std.proofs.lemmas.Option.{get_or_from_slice_get, slice_get_within}
use Rattle.commit_board.specs.Boards.{AreAnswers}
use Rattle.commit_board.specs.Work.{Serves, all_in}

module _ {T A : Type 0} (R : T → A → Type 0) where
  all_zip : (ts : List T) (xs : List A) → length xs ≡ length ts → ((k : ℕ) (a : A) → slice_get xs k ≡ Some a → IsSomeAnd (slice_get ts k) (λ t. R t a)) → AllZip R ts xs
  all_zip [] [] n each = tt
  all_zip [] (x ∷ xs) n each = absurd (omega (arith, n))
  all_zip (t ∷ ts) [] n each = absurd (omega (arith, n))
  all_zip (t ∷ ts) (x ∷ xs) n each = (each zero x refl, all_zip ts xs (omega (arith, n)) (λ k. each (suc k)))

  pub zipped : (ts : List T) (xs : List A) → AreAnswers (length ts) (λ k x. IsSomeAnd (slice_get ts k) (λ t. R t x)) xs → AllZip R ts xs
  zipped ts xs h = all_zip ts xs h.whole h.each

  pub zip_push : (ts : List T) (xs : List A) (t : T) (x : A) → AllZip R ts xs → R t x → AllZip R (ts ++ t ∷ []) (xs ++ x ∷ [])
  zip_push [] [] t x h r = (r, tt)
  zip_push [] (y ∷ xs) t x h r = absurd h
  zip_push (s ∷ ts) [] t x h r = absurd h
  zip_push (s ∷ ts) (y ∷ xs) t x h r = (h.0, zip_push ts xs t x h.1 r)

  pub zip_next : (ts : List T) (xs : List A) (i : ℕ) (t : T) (x : A) → i < length ts → t ≡ get_or ts i t → AllZip R (take i ts) xs → R t x → AllZip R (take (i + 1) ts) (xs ++ x ∷ [])
  zip_next ts xs i t x within is h r =
      subst (λ us. AllZip R us (xs ++ x ∷ [])) (sym (take_more ts i t within ∙ ap (λ y. take i ts ++ y ∷ []) (sym is))) (zip_push (take i ts) xs t x h r)

  zip_append : (ts us : List T) (xs ys : List A) → AllZip R ts xs → AllZip R us ys → AllZip R (ts ++ us) (xs ++ ys)
  zip_append [] us [] ys h k = k
  zip_append [] us (x ∷ xs) ys h k = absurd h
  zip_append (t ∷ ts) us [] ys h k = absurd h
  zip_append (t ∷ ts) us (x ∷ xs) ys h k = (h.0, zip_append ts us xs ys h.1 k)

  pub zip_all : (tss : List (Vec T Global)) (xss : List (Vec A Global)) → AllZip (λ ts xs. AllZip R ts.items xs.items) tss xss → AllZip R (all_in tss) (all_in xss)
  zip_all [] [] h = tt
  zip_all [] (xs ∷ xss) h = absurd h
  zip_all (ts ∷ tss) [] h = absurd h
  zip_all (ts ∷ tss) (xs ∷ xss) h =
      rw (flat_map-cons (λ b. b.items) ts tss, flat_map-cons (λ b. b.items) xs xss) (zip_append ts.items (all_in tss) xs.items (all_in xss) h.0 (zip_all tss xss h.1))

module _ {X : Type 0} (P : X → Type 0) where
  all_front : (xs ys : List X) → All P (xs ++ ys) → All P xs
  all_front [] ys h = All-nil P
  all_front (x ∷ xs) ys h = All-cons P x xs (All-head P x (xs ++ ys) h) (all_front xs ys (All-tail P x (xs ++ ys) h))

  all_back : (xs ys : List X) → All P (xs ++ ys) → All P ys
  all_back [] ys h = h
  all_back (x ∷ xs) ys h = all_back xs ys (All-tail P x (xs ++ ys) h)

  -- what holds of all that batches hold holds of each batch
  pub all_batches : (bs : List (Vec X Global)) → All P (all_in bs) → All (λ (b : Vec X Global). All P b.items) bs
  all_batches [] h = All-nil (λ (b : Vec X Global). All P b.items)
  all_batches (b ∷ bs) h =
      let both : All P (b.items ++ all_in bs) = subst (All P) (flat_map-cons (λ c. c.items) b bs) h in
      All-cons (λ (c : Vec X Global). All P c.items) b bs (all_front b.items (all_in bs) both) (all_batches bs (all_back b.items (all_in bs) both))

all_at : {X : Type 0} (P : X → Type 0) (xs : List X) (k : ℕ) (x : X) → All P xs → slice_get xs k ≡ Some x → P x
all_at P xs k x h e = subst P (get_or_from_slice_get xs k x x e) (All-get_or P xs k x (slice_get_within xs k x e) h)

-- a course whose one wave has these batches
pub serves : {T A : Type 0} (fits : T → Type 0) (R : T → A → Type 0) (bs : List (Vec T Global)) → All fits (all_in bs)
    → Serves (λ w k ts. slice_get bs k ≡ Some ts) (λ w k xs. IsSomeAnd (slice_get bs k) (λ ts. AllZip R ts.items xs.items)) fits R
serves {T = T} fits R bs h = record {
  fitting = λ w k ts e. all_at (λ (b : Vec T Global). All fits b.items) bs k ts (all_batches fits bs h) e;
  right = λ w k ts xs e z. subst (λ o. IsSomeAnd o (λ us. AllZip R us.items xs.items)) (sym e) z;
}
