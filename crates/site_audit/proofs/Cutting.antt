-- Lines and blocks that are cut off.
use Rattle.std.proofs.Common.{◌≡◌, ◌==◌, ◌+◌, ◌<◌, ◌≤◌, ℕ, zero, suc, Bool, true, false, cond, not, List, [], ◌∷◌, ◌++◌, length, take, drop, refl, sym, ap, ◌∙◌, arith, append_assoc}
use Rattle.std.proofs.lemmas.List.{length-append}
use Rattle.std.specs.List.{concat, onto_first, prefix_len}
use Rattle.site_audit.specs.Blocks.{lines_of, line_len, begins_turn, goes_on, with_line, blocks_of}

-- Lines.

onto_whole : (b : ℕ) (bs : List ℕ) (ls : List (List ℕ)) → concat ls ≡ bs → concat (onto_first b ls) ≡ b ∷ bs
onto_whole b bs [] e = ap (λ xs. b ∷ xs) e
onto_whole b bs (l ∷ ls) e = ap (λ xs. b ∷ xs) e

-- the lines are the bytes
pub lines_whole : (bs : List ℕ) → concat (lines_of bs) ≡ bs
lines_whole [] = refl
lines_whole (b ∷ bs) = by (b == 10) (lines_whole bs)
  where
    by : (t : Bool) → concat (lines_of bs) ≡ bs → concat (cond t ((b ∷ []) ∷ lines_of bs) (onto_first b (lines_of bs))) ≡ b ∷ bs
    by true ih = ap (λ xs. b ∷ xs) ih
    by false ih = onto_whole b bs (lines_of bs) ih

-- the first line is cut off
pub line_cut : (bs : List ℕ) → 0 < length bs → lines_of bs ≡ take (line_len bs) bs ∷ lines_of (drop (line_len bs) bs)
line_cut [] h = absurd (omega (arith, h))
line_cut (b ∷ []) h = by (b == 10)
  where
    by : (t : Bool) → cond t ((b ∷ []) ∷ []) ((b ∷ []) ∷ []) ≡ take (cond t 1 1) (b ∷ []) ∷ lines_of (drop (cond t 1 1) (b ∷ []))
    by true = refl
    by false = refl
line_cut (b ∷ c ∷ cs) h = by (b == 10) (line_cut (c ∷ cs) (omega arith))
  where
    rest : List ℕ
    rest = c ∷ cs

    by : (t : Bool) → lines_of rest ≡ take (line_len rest) rest ∷ lines_of (drop (line_len rest) rest) → cond t ((b ∷ []) ∷ lines_of rest) (onto_first b (lines_of rest)) ≡ take (cond t 1 (suc (line_len rest))) (b ∷ rest) ∷ lines_of (drop (cond t 1 (suc (line_len rest))) (b ∷ rest))
    by true ih = refl
    by false ih = ap (onto_first b) ih

pub line_some : (bs : List ℕ) → 0 < length bs → 0 < line_len bs
line_some [] h = absurd (omega (arith, h))
line_some (b ∷ bs) h = by (b == 10)
  where
    by : (t : Bool) → 0 < cond t 1 (suc (line_len bs))
    by true = omega arith
    by false = omega arith

pub line_within : (bs : List ℕ) → line_len bs ≤ length bs
line_within [] = omega arith
line_within (b ∷ bs) = by (b == 10) (line_within bs)
  where
    by : (t : Bool) → line_len bs ≤ length bs → cond t 1 (suc (line_len bs)) ≤ suc (length bs)
    by true ih = omega arith
    by false ih = omega (arith, ih)

-- counted by the bytes before the newline
pub len_within : (bs : List ℕ) → prefix_len (λ b. not (b == 10)) bs < length bs → line_len bs ≡ prefix_len (λ b. not (b == 10)) bs + 1
len_within [] h = absurd (omega (arith, h))
len_within (b ∷ bs) h = by (b == 10) (len_within bs) h
  where
    by : (t : Bool) → (prefix_len (λ b. not (b == 10)) bs < length bs → line_len bs ≡ prefix_len (λ b. not (b == 10)) bs + 1) → cond (not t) (1 + prefix_len (λ b. not (b == 10)) bs) 0 < suc (length bs) → cond t 1 (suc (line_len bs)) ≡ cond (not t) (1 + prefix_len (λ b. not (b == 10)) bs) 0 + 1
    by true ih h = refl
    by false ih h = let i = ih (omega (arith, h)) in let w : suc (line_len bs) ≡ 1 + prefix_len (λ b. not (b == 10)) bs + 1 = omega (arith, i) in w

pub len_whole : (bs : List ℕ) → length bs ≤ prefix_len (λ b. not (b == 10)) bs → line_len bs ≡ prefix_len (λ b. not (b == 10)) bs
len_whole [] h = refl
len_whole (b ∷ bs) h = by (b == 10) (len_whole bs) h
  where
    by : (t : Bool) → (length bs ≤ prefix_len (λ b. not (b == 10)) bs → line_len bs ≡ prefix_len (λ b. not (b == 10)) bs) → suc (length bs) ≤ cond (not t) (1 + prefix_len (λ b. not (b == 10)) bs) 0 → cond t 1 (suc (line_len bs)) ≡ cond (not t) (1 + prefix_len (λ b. not (b == 10)) bs) 0
    by true ih h = absurd (omega (arith, h))
    by false ih h = let i = ih (omega (arith, h)) in let w : suc (line_len bs) ≡ 1 + prefix_len (λ b. not (b == 10)) bs = omega (arith, i) in w

-- Some of the first lines are the lines of their bytes.

abbrev no_lines : List (List ℕ)
no_lines = []

take_none : (k : ℕ) → take k no_lines ≡ no_lines
take_none zero = refl
take_none (suc k) = refl

onto_lines : (k b : ℕ) (ls : List (List ℕ)) → b == 10 ≡ false → lines_of (concat (take (suc k) ls)) ≡ take (suc k) ls → lines_of (concat (take (suc k) (onto_first b ls))) ≡ take (suc k) (onto_first b ls)
onto_lines k b [] e ih =
    ap (λ ls. lines_of (concat ((b ∷ []) ∷ ls))) (take_none k)
    ∙ (ap (λ t. cond t ((b ∷ []) ∷ no_lines) ((b ∷ []) ∷ no_lines)) e ∙ ap (λ ls. (b ∷ []) ∷ ls) (sym (take_none k)))
onto_lines k b (l ∷ ls) e ih =
    ap (λ t. cond t ((b ∷ []) ∷ lines_of (l ++ concat (take k ls))) (onto_first b (lines_of (l ++ concat (take k ls))))) e ∙ ap (onto_first b) ih

pub first_lines : (k : ℕ) (bs : List ℕ) → lines_of (concat (take k (lines_of bs))) ≡ take k (lines_of bs)
first_lines zero bs = refl
first_lines (suc k) [] = refl
first_lines (suc k) (b ∷ bs) = by (b == 10) refl (first_lines k bs) (first_lines (suc k) bs)
  where
    by : (t : Bool) → b == 10 ≡ t → lines_of (concat (take k (lines_of bs))) ≡ take k (lines_of bs) → lines_of (concat (take (suc k) (lines_of bs))) ≡ take (suc k) (lines_of bs) → lines_of (concat (take (suc k) (cond t ((b ∷ []) ∷ lines_of bs) (onto_first b (lines_of bs))))) ≡ take (suc k) (cond t ((b ∷ []) ∷ lines_of bs) (onto_first b (lines_of bs)))
    by true e ih more =
        ap (λ t. cond t ((b ∷ []) ∷ lines_of (concat (take k (lines_of bs)))) (onto_first b (lines_of (concat (take k (lines_of bs)))))) e ∙ ap (λ ls. (b ∷ []) ∷ ls) ih
    by false e ih more = onto_lines k b (lines_of bs) e more

-- Blocks.

-- the first block is cut off
pub block_lines : (l : List ℕ) (ls : List (List ℕ)) → blocks_of (l ∷ ls) ≡ (l ∷ take (prefix_len goes_on ls) ls) ∷ blocks_of (drop (prefix_len goes_on ls) ls)
block_lines l [] = refl
block_lines l (m ∷ ms) = ap (with_line l) (block_lines m ms) ∙ by (begins_turn m) refl (block_lines m ms)
  where
    k : ℕ
    k = prefix_len goes_on ms

    by : (t : Bool) → begins_turn m ≡ t → blocks_of (m ∷ ms) ≡ (m ∷ take k ms) ∷ blocks_of (drop k ms) → cond t ((l ∷ []) ∷ (m ∷ take k ms) ∷ blocks_of (drop k ms)) ((l ∷ m ∷ take k ms) ∷ blocks_of (drop k ms)) ≡ (l ∷ take (cond (not t) (1 + k) 0) (m ∷ ms)) ∷ blocks_of (drop (cond (not t) (1 + k) 0) (m ∷ ms))
    by true e ih = ap (λ bs. (l ∷ []) ∷ bs) (sym ih)
    by false e ih = let one : suc k ≡ 1 + k = omega arith in ap (λ n. (l ∷ take n (m ∷ ms)) ∷ blocks_of (drop n (m ∷ ms))) one

concat_append : (ls ms : List (List ℕ)) → concat (ls ++ ms) ≡ concat ls ++ concat ms
concat_append [] ms = refl
concat_append (l ∷ ls) ms = ap (λ xs. l ++ xs) (concat_append ls ms) ∙ sym (append_assoc l (concat ls) (concat ms))

pub take_front : (xs ys : List ℕ) (n : ℕ) → n + length ys ≡ length (xs ++ ys) → take n (xs ++ ys) ≡ xs
take_front [] [] zero e = refl
take_front [] (y ∷ ys) zero e = refl
take_front [] ys (suc n) e = absurd (omega (arith, e))
take_front (x ∷ xs) ys zero e = absurd (let l = length-append xs ys in omega (arith, e, l))
take_front (x ∷ xs) ys (suc n) e = ap (λ zs. x ∷ zs) (take_front xs ys n (omega (arith, e)))

pub drop_front : (xs ys : List ℕ) (n : ℕ) → n + length ys ≡ length (xs ++ ys) → drop n (xs ++ ys) ≡ ys
drop_front [] ys zero e = refl
drop_front [] ys (suc n) e = absurd (omega (arith, e))
drop_front (x ∷ xs) ys zero e = absurd (let l = length-append xs ys in omega (arith, e, l))
drop_front (x ∷ xs) ys (suc n) e = drop_front xs ys n (omega (arith, e))

-- so many lines, and the others
lines_split : (k : ℕ) (ls : List (List ℕ)) → ls ≡ take k ls ++ drop k ls
lines_split zero ls = refl
lines_split (suc k) [] = refl
lines_split (suc k) (l ∷ ls) = ap (λ ms. l ∷ ms) (lines_split k ls)

-- a front of whole lines, and what stands behind it
pub record IsCutAt (log front behind : List ℕ) (k : ℕ) : Type 0 where
  pub whole : log ≡ front ++ behind
  pub lines : lines_of front ≡ take k (lines_of log)

pub cut_at_line : (log behind : List ℕ) (k : ℕ) → lines_of behind ≡ drop k (lines_of log) → IsCutAt log (concat (take k (lines_of log))) behind k
cut_at_line log behind k is = record {
  whole =
      sym (lines_whole log)
      ∙ (ap concat (lines_split k (lines_of log))
      ∙ (concat_append (take k (lines_of log)) (drop k (lines_of log))
      ∙ ap (λ xs. concat (take k (lines_of log)) ++ xs) (ap concat (sym is) ∙ lines_whole behind)));
  lines = first_lines k log;
}

-- the front is what is taken off by its length
pub front_is : (log front behind : List ℕ) (n : ℕ) → log ≡ front ++ behind → n + length behind ≡ length log → take n log ≡ front
front_is log front behind n whole e = ap (take n) whole ∙ take_front front behind n (e ∙ ap length whole)

pub behind_is : (log front behind : List ℕ) (n : ℕ) → log ≡ front ++ behind → n + length behind ≡ length log → drop n log ≡ behind
behind_is log front behind n whole e = ap (drop n) whole ∙ drop_front front behind n (e ∙ ap length whole)

-- the first block and the rest
pub block_cut : (log line more behind : List ℕ) (n : ℕ) → lines_of log ≡ line ∷ lines_of more → lines_of behind ≡ drop (prefix_len goes_on (lines_of more)) (lines_of more)
    → n + length behind ≡ length log → (blocks_of (lines_of log) ≡ lines_of (take n log) ∷ blocks_of (lines_of (drop n log)))
block_cut log line more behind n parts is e =
    let k : ℕ = prefix_len goes_on (lines_of more) in
    let cut : IsCutAt log (concat (take (suc k) (lines_of log))) behind (suc k) = cut_at_line log behind (suc k) (is ∙ sym (ap (drop (suc k)) parts)) in
    let front : List ℕ = concat (take (suc k) (lines_of log)) in
    let taken : lines_of (take n log) ≡ line ∷ take k (lines_of more) = ap lines_of (front_is log front behind n cut.whole e) ∙ (cut.lines ∙ ap (take (suc k)) parts) in
    let left : lines_of (drop n log) ≡ drop k (lines_of more) = ap lines_of (behind_is log front behind n cut.whole e) ∙ is in
    ap blocks_of parts
    ∙ (block_lines line (lines_of more)
    ∙ (ap (λ ls. ls ∷ blocks_of (drop k (lines_of more))) (sym taken) ∙ ap (λ ls. lines_of (take n log) ∷ blocks_of ls) (sym left)))

-- a line behind which its block goes on
pub line_passed : (rest line behind : List ℕ) → lines_of rest ≡ line ∷ lines_of behind → begins_turn line ≡ false → drop (prefix_len goes_on (lines_of behind)) (lines_of behind) ≡ drop (prefix_len goes_on (lines_of rest)) (lines_of rest)
line_passed rest line behind parts e =
    let k : ℕ = prefix_len goes_on (lines_of behind) in
    let one : suc k ≡ 1 + k = omega arith in
    ap (λ n. drop n (line ∷ lines_of behind)) one
    ∙ (sym (ap (λ t. drop (cond (not t) (1 + k) 0) (line ∷ lines_of behind)) e) ∙ sym (ap (λ ls. drop (prefix_len goes_on ls) ls) parts))
