-- Tests of bytes and lists of them.
use Rattle.std.proofs.Common.{◌≡◌, ℕ, ◌+◌, List, [], ◌∷◌, ◌++◌, length, take, drop, Bool, true, false, cond, not, ◌&&◌, refl, sym, ap, ◌∙◌, arith, ◌≤◌}
use Rattle.std.proofs.lemmas.List.{take-append-drop}
use Rattle.std.proofs.lemmas.Slice.Eq.{bytes_eq-Decides}
use Rattle.std.proofs.Math.Seq.{take-append_seam}
use Rattle.std.specs.List.{list_all, prefix_len}
use Rattle.std.specs.Str.{bytes_eq}
use Rattle.dsl_lexer.specs.Letters.{follows}

pub both : (p q : Bool) → p ≡ true → q ≡ true → (p && q) ≡ true
both true q e f = f
both false q e f = cc

pub both_first : (p q : Bool) → (p && q) ≡ true → p ≡ true
both_first true q e = refl
both_first false q e = cc

pub both_second : (p q : Bool) → (p && q) ≡ true → q ≡ true
both_second true q e = e
both_second false q e = cc

pub not_true : (p : Bool) → not p ≡ true → p ≡ false
not_true true e = cc
not_true false e = refl

pub not_false : (p : Bool) → p ≡ false → not p ≡ true
not_false true e = cc
not_false false e = refl

pub same_bytes : (xs ys : List ℕ) → bytes_eq xs ys ≡ true → xs ≡ ys
same_bytes xs ys e = (bytes_eq-Decides xs ys).0 e

pub bytes_same : (xs : List ℕ) → bytes_eq xs xs ≡ true
bytes_same xs = (bytes_eq-Decides xs xs).1 refl

pub front_same : (xs ys : List ℕ) → bytes_eq xs (take (length xs) (xs ++ ys)) ≡ true
front_same xs ys = ap (bytes_eq xs) (take-append_seam xs ys) ∙ bytes_same xs

pub take_front : (xs ys : List ℕ) (n : ℕ) → length xs ≡ n → take n (xs ++ ys) ≡ xs
take_front xs ys n e = ap (λ k. take k (xs ++ ys)) (sym e) ∙ take-append_seam xs ys

drop_seam : (xs ys : List ℕ) → drop (length xs) (xs ++ ys) ≡ ys
drop_seam [] ys = refl
drop_seam (x ∷ xs) ys = drop_seam xs ys

pub drop_front : (xs ys : List ℕ) (n : ℕ) → length xs ≡ n → drop n (xs ++ ys) ≡ ys
drop_front xs ys n e = ap (λ k. drop k (xs ++ ys)) (sym e) ∙ drop_seam xs ys

pub front_is : (xs text : List ℕ) → bytes_eq xs (take (length xs) text) ≡ true → text ≡ xs ++ drop (length xs) text
front_is xs text e = sym (take-append-drop (length xs) text) ∙ ap (λ y. y ++ drop (length xs) text) (sym (same_bytes xs (take (length xs) text) e))

-- the bytes that pass, up to the first that doesn't
pub record Run (p : ℕ → Bool) (bs : List ℕ) : Type 0 where
  pub text : List ℕ
  pub rest : List ℕ
  pub whole : bs ≡ text ++ rest
  pub size : length text ≡ prefix_len p bs
  pub passes : list_all p text ≡ true
  pub stops : follows p rest ≡ false

pub run : (p : ℕ → Bool) (bs : List ℕ) → Run p bs
run p [] = record { text = []; rest = []; whole = refl; size = refl; passes = refl; stops = refl }
run p (b ∷ bs) = by (p b) refl (run p bs)
  where
    by : (t : Bool) → p b ≡ t → Run p bs → Run p (b ∷ bs)
    by true e r =
        let more : prefix_len p (b ∷ bs) ≡ 1 + prefix_len p bs = ap (λ t. cond t (1 + prefix_len p bs) 0) e in
        record {
          text = b ∷ r.text;
          rest = r.rest;
          whole = ap (λ xs. b ∷ xs) r.whole;
          size = omega (arith, more, r.size);
          passes = both _ _ e r.passes;
          stops = r.stops;
        }
    by false e r = record { text = []; rest = b ∷ bs; whole = refl; size = sym (ap (λ t. cond t (1 + prefix_len p bs) 0) e); passes = refl; stops = e }

pub run_whole : (p : ℕ → Bool) (text rest : List ℕ) → list_all p text ≡ true → follows p rest ≡ false → prefix_len p (text ++ rest) ≡ length text
run_whole p [] [] h s = refl
run_whole p [] (b ∷ bs) h s = ap (λ t. cond t (1 + prefix_len p bs) 0) s
run_whole p (x ∷ xs) rest h s =
    let more = run_whole p xs rest (both_second _ _ h) s in
    let one : 1 + prefix_len p (xs ++ rest) ≡ length (x ∷ xs) = omega (arith, more) in
    ap (λ t. cond t (1 + prefix_len p (xs ++ rest)) 0) (both_first _ _ h) ∙ one

-- a front that passes is no longer than the run
pub at_least : (p : ℕ → Bool) (xs ys : List ℕ) → list_all p xs ≡ true → length xs ≤ prefix_len p (xs ++ ys)
at_least p [] ys h = omega arith
at_least p (x ∷ xs) ys h =
    let more = at_least p xs ys (both_second _ _ h) in
    let e : prefix_len p ((x ∷ xs) ++ ys) ≡ 1 + prefix_len p (xs ++ ys) = ap (λ t. cond t (1 + prefix_len p (xs ++ ys)) 0) (both_first _ _ h) in
    omega (arith, e, more)
