-- Where a text ends in a given way for the first time, both ways.
use Rattle.std.proofs.Common.{◌≡◌, ℕ, suc, ◌≤◌, List, [], ◌∷◌, ◌++◌, length, take, drop, Bool, true, false, cond, Option, Some, None, refl, sym, ap, ◌∙◌, append_assoc, arith}
use Rattle.std.proofs.lemmas.List.{length-append, take-append-le}
use Rattle.std.specs.Str.{bytes_eq}
use Rattle.dsl_lexer.specs.Steps.{find_end, one_more}
use Rattle.dsl_lexer.specs.Tokens.{EndsWith}
use Rattle.dsl_lexer.proofs.Bytes.{front_is, front_same}

-- a front that ends so
pub record EndFront (end bs : List ℕ) (n : ℕ) : Type 0 where
  pub body : List ℕ
  pub rest : List ℕ
  pub whole : bs ≡ (body ++ end) ++ rest
  pub size : length body ≡ n
  pub is : EndsWith end body (body ++ end)

pub end_sound : (end bs : List ℕ) (n : ℕ) → find_end end bs ≡ Some n → EndFront end bs n
end_sound end [] n e = cc
end_sound end (b ∷ bs) n e = by (λ m h. end_sound end bs m h) (bytes_eq end (take (length end) (b ∷ bs))) refl e
  where
    later : bytes_eq end (take (length end) (b ∷ bs)) ≡ false → (m : ℕ) → suc m ≡ n → EndFront end bs m → EndFront end (b ∷ bs) n
    later no_end m size h = record {
      body = b ∷ h.body;
      rest = h.rest;
      whole = ap (λ xs. b ∷ xs) h.whole;
      size = ap suc h.size ∙ size;
      is = record { whole = refl; first = first };
    }
      where
        first : (front behind : List ℕ) → (b ∷ h.body) ++ end ≡ front ++ (end ++ behind) → length (b ∷ h.body) ≤ length front
        first [] behind e =
            let all : b ∷ bs ≡ end ++ (behind ++ h.rest) = ap (λ xs. b ∷ xs) h.whole ∙ (ap (λ xs. xs ++ h.rest) e ∙ append_assoc end behind h.rest) in
            let found : bytes_eq end (take (length end) (b ∷ bs)) ≡ true = ap (λ xs. bytes_eq end (take (length end) xs)) all ∙ front_same end (behind ++ h.rest) in
            absurd cc
        first (x ∷ front) behind e = let tail : h.body ++ end ≡ front ++ (end ++ behind) = cc in let more = h.is.first front behind tail in omega arith

    stepped : bytes_eq end (take (length end) (b ∷ bs)) ≡ false → ((m : ℕ) → find_end end bs ≡ Some m → EndFront end bs m) → (o : Option ℕ) → find_end end bs ≡ o → one_more o ≡ Some n → EndFront end (b ∷ bs) n
    stepped no_end again None f e = cc
    stepped no_end again (Some m) f e = let size : suc m ≡ n = cc in later no_end m size (again m f)

    by : ((m : ℕ) → find_end end bs ≡ Some m → EndFront end bs m) → (t : Bool) → bytes_eq end (take (length end) (b ∷ bs)) ≡ t → cond t (Some 0) (one_more (find_end end bs)) ≡ Some n → EndFront end (b ∷ bs) n
    by again true same e = record {
      body = [];
      rest = drop (length end) (b ∷ bs);
      whole = front_is end (b ∷ bs) same;
      size = cc;
      is = record { whole = refl; first = λ front behind e. omega arith };
    }
    by again false no_end e = stepped no_end again (find_end end bs) refl e

pub end_complete : (x : ℕ) (xs body text rest : List ℕ) → EndsWith (x ∷ xs) body text → find_end (x ∷ xs) (text ++ rest) ≡ Some (length body)
end_complete x xs [] text rest h =
    ap (λ t. find_end (x ∷ xs) (t ++ rest)) h.whole ∙ ap (λ t. cond t (Some 0) (one_more (find_end (x ∷ xs) (xs ++ rest)))) (front_same (x ∷ xs) rest)
end_complete x xs (b ∷ body) text rest h =
    ap (λ t. find_end (x ∷ xs) (t ++ rest)) h.whole
    ∙ (ap (λ t. cond t (Some 0) (one_more (find_end (x ∷ xs) ((body ++ x ∷ xs) ++ rest)))) (not_yet (bytes_eq (x ∷ xs) (take (length (x ∷ xs)) (b ∷ ((body ++ x ∷ xs) ++ rest)))) refl)
    ∙ ap one_more (end_complete x xs body (body ++ x ∷ xs) rest (record { whole = refl; first = first })))
  where
    first : (front behind : List ℕ) → body ++ x ∷ xs ≡ front ++ ((x ∷ xs) ++ behind) → length body ≤ length front
    first front behind e = let more = h.first (b ∷ front) behind (h.whole ∙ ap (λ ys. b ∷ ys) e) in omega arith

    not_yet : (t : Bool) → bytes_eq (x ∷ xs) (take (length (x ∷ xs)) (b ∷ ((body ++ x ∷ xs) ++ rest))) ≡ t → t ≡ false
    not_yet false e = refl
    not_yet true e =
        let size : length (x ∷ xs) ≤ length ((b ∷ body) ++ x ∷ xs) = omega (arith, length-append (b ∷ body) (x ∷ xs)) in
        let inner : take (length (x ∷ xs)) (((b ∷ body) ++ x ∷ xs) ++ rest) ≡ take (length (x ∷ xs)) ((b ∷ body) ++ x ∷ xs) = take-append-le (length (x ∷ xs)) ((b ∷ body) ++ x ∷ xs) rest size in
        let here : bytes_eq (x ∷ xs) (take (length (x ∷ xs)) ((b ∷ body) ++ x ∷ xs)) ≡ true = ap (bytes_eq (x ∷ xs)) (sym inner) ∙ e in
        let more = h.first [] (drop (length (x ∷ xs)) ((b ∷ body) ++ x ∷ xs)) (h.whole ∙ front_is (x ∷ xs) ((b ∷ body) ++ x ∷ xs) here) in
        absurd (omega arith)
