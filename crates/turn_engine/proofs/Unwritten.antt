-- Checkables without entries.
use Rattle.std.proofs.Common.{◌≡◌, ℕ, zero, suc, ◌+◌, List, [], ◌∷◌, ◌++◌, length, map, slice_get, Some, refl, sym, ap, ◌∙◌, subst, arith, length-append}
use Rattle.checkable_core.specs.Contents.{Contents}
use Rattle.run_meaning.specs.Turns.{Histories}
use Rattle.site_model.specs.PlainSite.{PlainCheck, PlainSite}
use Rattle.site_posts.specs.Books.{histories_of}
use Rattle.turn_engine.specs.Checkables.{AreEmpty, IsOf}

pub record IsEmpty (s : PlainSite) (k : ℕ) (book : Contents) : Type 0 where
  pub book_is : IsOf s k book
  pub none : book.entries ≡ []

-- those so far are the first checkables
pub record AreFirst (s : PlainSite) (count : ℕ) (books : List Contents) : Type 0 where
  pub many : length books ≡ count
  pub each : (k : ℕ) (book : Contents) → slice_get books k ≡ Some book → IsEmpty s k book

pub one_more : (s : PlainSite) (books more : List Contents) (book : Contents) (count : ℕ) → AreFirst s count books → more ≡ books ++ book ∷ [] → IsEmpty s count book → AreFirst s (count + 1) more
one_more s books more book count are is own = subst (AreFirst s (count + 1)) (sym is) (record {
  many = (let n = length-append books (book ∷ []) in let m = are.many in omega (arith, n, m));
  each = λ k b at. let z : 0 + k ≡ k = omega arith in subst (λ n. IsEmpty s n b) z (from books 0 (let m = are.many in omega (arith, m)) (λ j b there. let y : j ≡ 0 + j = omega arith in subst (λ n. IsEmpty s n b) y (are.each j b there)) k b at);
})
  where
    from : (xs : List Contents) (first : ℕ) → first + length xs ≡ count → ((k : ℕ) (b : Contents) → slice_get xs k ≡ Some b → IsEmpty s (first + k) b) → (k : ℕ) (b : Contents) → slice_get (xs ++ book ∷ []) k ≡ Some b → IsEmpty s (first + k) b
    from [] first n all zero b at =
        let same : book ≡ b = cc in
        let place : count ≡ first + zero = omega (arith, n) in
        subst (IsEmpty s (first + zero)) same (subst (λ k. IsEmpty s k book) place own)
    from [] first n all (suc k) b at = absurd cc
    from (x ∷ xs) first n all zero b at = all zero b at
    from (x ∷ xs) first n all (suc k) b at =
        let y : suc first + k ≡ first + suc k = omega arith in
        subst (λ n. IsEmpty s n b) y (from xs (suc first) (omega (arith, n)) (λ j b there. let z : first + suc j ≡ suc first + j = omega arith in subst (λ n. IsEmpty s n b) z (all (suc j) b there)) k b at)

none_in : (books : List Contents) (cs : List PlainCheck) → length books ≡ length cs → ((k : ℕ) (b : Contents) → slice_get books k ≡ Some b → b.entries ≡ []) → histories_of books ≡ map (λ _. []) cs
none_in [] [] n all = refl
none_in [] (c ∷ cs) n all = absurd (omega (arith, n))
none_in (b ∷ books) [] n all = absurd (omega (arith, n))
none_in (b ∷ books) (c ∷ cs) n all = ap (λ es. es ∷ histories_of books) (all zero b refl) ∙ ap (λ (h : Histories). [] ∷ h) (none_in books cs (omega (arith, n)) (λ k. all (suc k)))

pub all_empty : (s : PlainSite) (count : ℕ) (books : List Contents) → count ≡ length s.checkables → AreFirst s count books → AreEmpty s books
all_empty s count books whole are = record {
  all_of = record { whole = are.many ∙ whole; each = λ k book at. (are.each k book at).book_is };
  none = none_in books s.checkables (are.many ∙ whole) (λ k book at. (are.each k book at).none);
}
