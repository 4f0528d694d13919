-- The first block that isn't legal is the first one that doesn't agree.
use Rattle.std.proofs.Common.{◌≡◌, ◌==◌, ◌+◌, ◌<◌, ◌≤◌, Option, Some, None, Result, Ok, Err, IfOk, ℕ, zero, suc, Bool, true, false, cond, List, [], ◌∷◌, ◌++◌, length, take, drop, map, refl, sym, ap, ◌∙◌, subst, arith, ◌⊎◌, inl, inr}
use Rattle.std.proofs.lemmas.Bool.{cases_lt}
use Rattle.std.proofs.lemmas.Bool.Decides.{nat_tests}
use Rattle.std.proofs.lemmas.List.{length-append}
use Rattle.std.specs.List.{flat_map}
use Rattle.log_text.specs.Fronts.{behind}
use Rattle.log_text.specs.LogLines.{log_two}
use Rattle.run_meaning.proofs.Lists.{length_map}
use Rattle.run_meaning.specs.Runs.{Basis, IsRunFrom, Stage, TurnLog, no_entries, stage_after, start}
use Rattle.run_meaning.specs.Turns.{ReadTurn}
use Rattle.run_text.specs.TurnReading.{turn_read}
use Rattle.run_text.specs.declared.style.Style.{Style}
use Rattle.run_text.specs.declared.style.Style.TheVariants.{One, Two}
use Rattle.site_base.specs.declared.memory.OutOfMemory.{OutOfMemory}
use Rattle.site_edge.specs.declared.turn.Turn.{Turn}
use Rattle.site_model.specs.PlainSite.{PlainSite}
use Rattle.turn_engine.specs.Stages.{basis_of_site}
use Rattle.site_audit.specs.Agreeing.{AgreeBy, AgreeUpTo, AreBlocks, IsWritten}
use Rattle.site_audit.specs.Audit.{IsFirstBad, IsLegal, Says, IsVerdictOf, IsVerdictTwo, IsVerdictBy, IsVerdict, is_cut_off, verdict_from}
use Rattle.site_audit.specs.Blocks.{begins_turn, blocks_of, line_len, lines_of, with_line}
use Rattle.site_audit.specs.Told.{block_told, first_turns, no_orders, orders_behind, turns_from, turns_in, turns_with}
use Rattle.site_audit.specs.declared.auditing.Verdict.{Verdict}
use Rattle.site_audit.specs.declared.auditing.Verdict.TheVariants as verdict
use Rattle.site_audit.specs.declared.telling.Open.{Open}
use Rattle.site_audit.proofs.Cutting.{line_cut}

is_same : (a b : ℕ) → (a == b) ≡ true → a ≡ b
is_same a b e = grind (arith, nat_tests)

same_is : (a b : ℕ) → a ≡ b → (a == b) ≡ true
same_is a b e = grind (arith, nat_tests)

abbrev Block : Type 0
Block = List (List ℕ)

taken_length : {A : Type 0} (k : ℕ) (xs : List A) → k ≤ length xs → length (take k xs) ≡ k
taken_length zero xs l = refl
taken_length (suc k) [] l = absurd (omega (arith, l))
taken_length (suc k) (x ∷ xs) l = ap suc (taken_length k xs (omega (arith, l)))

same_take : {A B : Type 0} (k : ℕ) (xs : List A) (ys : List B) → length xs ≡ length ys → length (take k xs) ≡ length (take k ys)
same_take zero xs ys e = refl
same_take (suc k) [] [] e = refl
same_take (suc k) [] (y ∷ ys) e = absurd (omega (arith, e))
same_take (suc k) (x ∷ xs) [] e = absurd (omega (arith, e))
same_take (suc k) (x ∷ xs) (y ∷ ys) e = ap suc (same_take k xs ys (omega (arith, e)))

enough : {A : Type 0} (k : ℕ) (xs : List A) → length (take k xs) ≡ k → k ≤ length xs
enough zero xs e = omega arith
enough (suc k) [] e = absurd (omega (arith, e))
enough (suc k) (x ∷ xs) e = let more = enough k xs (omega (arith, e)) in omega (arith, more)

take_map : {A B : Type 0} (f : A → B) (k : ℕ) (xs : List A) → take k (map f xs) ≡ map f (take k xs)
take_map f zero xs = refl
take_map f (suc k) [] = refl
take_map f (suc k) (x ∷ xs) = ap (λ ys. f x ∷ ys) (take_map f k xs)

whole_take : {A : Type 0} (k : ℕ) (xs : List A) → length xs ≡ k → take k xs ≡ xs
whole_take zero [] e = refl
whole_take zero (x ∷ xs) e = absurd (omega (arith, e))
whole_take (suc k) [] e = absurd (omega (arith, e))
whole_take (suc k) (x ∷ xs) e = ap (λ ys. x ∷ ys) (whole_take k xs (omega (arith, e)))

-- Of what is written the beginning is written too.
module _ (style : Style) (b : Basis) (callers : ℕ) where
  part_written : (k : ℕ) (st : Stage) (ts : List ReadTurn) (ls : List TurnLog) (xs : List Block) → IsRunFrom b callers st ts ls → AreBlocks style b.rules.site ls xs → IsWritten style b callers st (take k ts) (take k xs)
  part_written zero st ts ls xs run texts = record { logs = []; run = refl; texts = tt }
  part_written (suc k) st [] [] [] run texts = record { logs = []; run = refl; texts = tt }
  part_written (suc k) st [] [] (x ∷ xs) run texts = absurd texts
  part_written (suc k) st [] (l ∷ ls) xs run texts = absurd cc
  part_written (suc k) st (t ∷ ts) [] xs run texts = absurd run
  part_written (suc k) st (t ∷ ts) (l ∷ ls) [] run texts = absurd texts
  part_written (suc k) st (t ∷ ts) (l ∷ ls) (x ∷ xs) run texts =
      let w = part_written k (stage_after b st t l) ts ls xs run.1 texts.1 in
      record { logs = l ∷ w.logs; run = (run.0, w.run); texts = (texts.0, w.texts) }

module _ (style : Style) (b : Basis) (callers : ℕ) (s : PlainSite) where
  -- The turns that the first blocks tell are the first turns.

  abbrev turns_at : List (Option Open) → List Block → List Turn
  turns_at os xs = turns_from callers s style os xs

  first_told : (k : ℕ) (os : List (Option Open)) (xs : List Block) → turns_at os (take k xs) ≡ take k (turns_at os xs)
  first_told zero os xs = refl
  first_told (suc k) os [] = refl
  first_told (suc k) os (x ∷ xs) = by (block_told callers s style os x) (λ ns. first_told k ns xs)
    where
      by : (t : Option Turn) → ((ns : List (Option Open)) → turns_at ns (take k xs) ≡ take k (turns_at ns xs)) → turns_with (λ ns. turns_at ns (take k xs)) (orders_behind s style os x) t ≡ take (suc k) (turns_with (λ ns. turns_at ns xs) (orders_behind s style os x) t)
      by None again = refl
      by (Some t) again = ap (λ ts. t ∷ ts) (again (orders_behind s style os x))

  few_told : (os : List (Option Open)) (xs : List Block) → length (turns_at os xs) ≤ length xs
  few_told os [] = omega arith
  few_told os (x ∷ xs) = by (block_told callers s style os x) (λ ns. few_told ns xs)
    where
      by : (t : Option Turn) → ((ns : List (Option Open)) → length (turns_at ns xs) ≤ length xs) → length (turns_with (λ ns. turns_at ns xs) (orders_behind s style os x) t) ≤ suc (length xs)
      by None again = omega arith
      by (Some t) again = let more = again (orders_behind s style os x) in omega (arith, more)

  abbrev told : List Block → List Turn
  told xs = first_turns callers s style xs

  all_are_told : (xs : List Block) → length (told xs) ≡ length xs → turns_in callers s style xs ≡ Some (told xs)
  all_are_told xs e = ap (λ t. cond t (Some (told xs)) None) (same_is (length (told xs)) (length xs) e)

  told_are : (xs : List Block) (turns : List Turn) → turns_in callers s style xs ≡ Some turns → (turns ≡ told xs) × (length (told xs) ≡ length xs)
  told_are xs turns e = by (length (told xs) == length xs) refl e
    where
      by : (t : Bool) → (length (told xs) == length xs) ≡ t → cond t (Some (told xs)) None ≡ Some turns → (turns ≡ told xs) × (length (told xs) ≡ length xs)
      by true same is = (let w : told xs ≡ turns = cc in sym w, is_same (length (told xs)) (length xs) same)
      by false other is = absurd cc

  -- What is legal.

  abbrev Legal : List Block → Type 0
  Legal xs = IsLegal style b callers s xs

  abbrev at_first : Stage
  at_first = start s (no_entries s)

  -- blocks of which each tells a turn, and which a run over these turns writes
  legal_so : (xs : List Block) → length (told xs) ≡ length xs → IsWritten style b callers at_first (map (turn_read s) (told xs)) xs → Legal xs
  legal_so xs all w = record { turns = told xs; told = all_are_told xs all; written = w }

  -- the beginning of what is legal is legal
  legal_before : (k : ℕ) (xs : List Block) → Legal xs → Legal (take k xs)
  legal_before k xs h =
      let are = told_are xs h.turns h.told in
      let first : told (take k xs) ≡ take k (told xs) = first_told k (no_orders s) xs in
      let turns : take k (map (turn_read s) h.turns) ≡ map (turn_read s) (told (take k xs)) = ap (λ ts. take k (map (turn_read s) ts)) are.0 ∙ (take_map (turn_read s) k (told xs) ∙ ap (map (turn_read s)) (sym first)) in
      legal_so (take k xs) (ap length first ∙ same_take k (told xs) xs are.1)
      (subst (λ ts. IsWritten style b callers at_first ts (take k xs)) turns (part_written style b callers k at_first (map (turn_read s) h.turns) h.written.logs xs h.written.run h.written.texts))

  -- Blocks that agree up to some number.
  module _ (xs : List Block) (n : ℕ) (a : AgreeUpTo style b callers at_first (map (turn_read s) (told xs)) xs n) where
    many_turns : n ≤ length (told xs)
    many_turns = let l = a.turns_within in let m = length_map (turn_read s) (told xs) in omega (arith, l, m)

    legal_so_far : Legal (take n xs)
    legal_so_far =
        let first : told (take n xs) ≡ take n (told xs) = first_told n (no_orders s) xs in
        let own = many_turns in
        let within = a.blocks_within in
        let turns : take n (map (turn_read s) (told xs)) ≡ map (turn_read s) (told (take n xs)) = take_map (turn_read s) n (told xs) ∙ ap (map (turn_read s)) (sym first) in
        legal_so (take n xs) (ap length first ∙ (taken_length n (told xs) own ∙ sym (taken_length n xs within))) (subst (λ ts. IsWritten style b callers at_first ts (take n xs)) turns a.written)

    not_one_more : n < length xs → Legal (take (suc n) xs) → ⊥
    not_one_more more h =
        let are = told_are (take (suc n) xs) h.turns h.told in
        let first : told (take (suc n) xs) ≡ take (suc n) (told xs) = first_told (suc n) (no_orders s) xs in
        let many : length (take (suc n) (told xs)) ≡ suc n = sym (ap length first) ∙ (are.1 ∙ taken_length (suc n) xs (omega (arith, more))) in
        let own = enough (suc n) (told xs) many in
        let m = length_map (turn_read s) (told xs) in
        let turns : map (turn_read s) h.turns ≡ take (suc n) (map (turn_read s) (told xs)) = ap (map (turn_read s)) (are.0 ∙ first) ∙ sym (take_map (turn_read s) (suc n) (told xs)) in
        a.no_more (omega (arith, own, m)) more (subst (λ ts. IsWritten style b callers at_first ts (take (suc n) xs)) turns h.written)

    bad_from_here : n < length xs → IsFirstBad style b callers s xs n
    bad_from_here more = record {
      within = more;
      before = λ k l. subst Legal (taken_again k n xs l) (legal_before k (take n xs) legal_so_far);
      bad = not_one_more more;
    }
      where
        taken_again : (k n : ℕ) (xs : List Block) → k ≤ n → take k (take n xs) ≡ take k xs
        taken_again zero n xs l = refl
        taken_again (suc k) zero xs l = absurd (omega (arith, l))
        taken_again (suc k) (suc n) [] l = refl
        taken_again (suc k) (suc n) (x ∷ xs) l = ap (λ ys. x ∷ ys) (taken_again k n xs (omega (arith, l)))

  all_legal : (line n : ℕ) (xs : List Block) → length xs ≤ n → verdict_from line n xs ≡ verdict.Legal
  all_legal line n [] l = refl
  all_legal line zero (x ∷ xs) l = absurd (omega (arith, l))
  all_legal line (suc n) (x ∷ xs) l = all_legal (line + length x) n xs (omega (arith, l))

  bad_line : (line n : ℕ) (xs : List Block) → n < length xs → verdict_from line n xs ≡ verdict.Illegal (line + length (flat_map (λ y. y) (take n xs)))
  bad_line line n [] l = absurd (omega (arith, l))
  bad_line line zero (x ∷ xs) l = let e : line ≡ line + 0 = omega arith in ap (λ k. verdict.Illegal k) e
  bad_line line (suc n) (x ∷ xs) l =
      bad_line (line + length x) n xs (omega (arith, l))
      ∙ (let a = length-append x (flat_map (λ y. y) (take n xs)) in let e : line + length x + length (flat_map (λ y. y) (take n xs)) ≡ line + length (x ++ flat_map (λ y. y) (take n xs)) = omega (arith, a) in ap (λ k. verdict.Illegal k) e)

  verdict_is : (first n : ℕ) (xs : List Block) → AgreeUpTo style b callers at_first (map (turn_read s) (told xs)) xs n → Says style b callers s first xs (verdict_from first n xs)
  verdict_is first n xs a = by (cases_lt n (length xs))
    where
      by : (n < length xs) ⊎ (length xs ≤ n) → Says style b callers s first xs (verdict_from first n xs)
      by (inl l) =
          subst (Says style b callers s first xs) (sym (bad_line first n xs l))
          (record { count = n; is_first = bad_from_here xs n a l; whole = λ h. not_one_more xs n a l (legal_before (suc n) xs h); is = refl })
      by (inr l) =
          let within = a.blocks_within in
          let all : length xs ≡ n = omega (arith, l, within) in
          subst (Says style b callers s first xs) (sym (all_legal first n xs l)) (subst Legal (whole_take n xs all) (legal_so_far xs n a))

-- where none more agrees, the next block is bad
bad_first : (line : ℕ) (l : List ℕ) (bs : List Block) → verdict_from line 0 (with_line l bs) ≡ verdict.Illegal line
bad_first line l [] = refl
bad_first line l ([] ∷ bs) = refl
bad_first line l ((m ∷ ms) ∷ bs) = by (begins_turn m)
  where
    by : (t : Bool) → verdict_from line 0 (cond t ((l ∷ []) ∷ (m ∷ ms) ∷ bs) ((l ∷ m ∷ ms) ∷ bs)) ≡ verdict.Illegal line
    by true = refl
    by false = refl

pub bad_next : (line n : ℕ) (rest : List ℕ) (v : Verdict) → n ≡ 0 → 0 < length rest → verdict_from line n (blocks_of (lines_of rest)) ≡ v → verdict.Illegal line ≡ v
bad_next line n rest v none some so_far =
    sym (ap (λ k. verdict_from line k (blocks_of (lines_of rest))) none ∙ (ap (λ ls. verdict_from line 0 (blocks_of ls)) (line_cut rest some) ∙ bad_first line (take (line_len rest) rest) (blocks_of (lines_of (drop (line_len rest) rest))))) ∙ so_far

-- Of a log.

abbrev blocks_in : List ℕ → List Block
blocks_in log = blocks_of (lines_of log)

pub verdict_of : (style : Style) (callers : ℕ) (s : PlainSite) (first n : ℕ) (log : List ℕ) (turns : List Turn) (v : Verdict) → turns ≡ first_turns callers s style (blocks_in log) → AgreeBy style callers s turns log n → v ≡ verdict_from first n (blocks_in log) → IsVerdictOf style callers s first log v
verdict_of style callers s first n log turns v told a is = record {
  zone = a.zone;
  is_zone = a.is_zone;
  says = subst (Says style (basis_of_site s a.zone) callers s first (blocks_in log)) (sym is)
      (verdict_is style (basis_of_site s a.zone) callers s first n (blocks_in log) (subst (λ ts. AgreeUpTo style (basis_of_site s a.zone) callers (start s (no_entries s)) (map (turn_read s) ts) (blocks_in log) n) told a.is));
}

-- By the line of the version.

module _ (callers : ℕ) where
  abbrev Audits : PlainSite → List ℕ → Result Verdict OutOfMemory → Type 0
  Audits s log r = IfOk r (IsVerdict callers s log)

  pub of_one : (s : PlainSite) (log : List ℕ) (r : Result Verdict OutOfMemory) → behind log_two log ≡ None → IfOk r (IsVerdictOf One callers s 1 log) → Audits s log r
  of_one s log (Ok v) none h = subst (λ o. IsVerdictBy callers s log o v) (sym none) h
  of_one s log (Err e) none h = tt

  pub of_two : (s : PlainSite) (log rest : List ℕ) (r : Result Verdict OutOfMemory) → behind log_two log ≡ Some rest → is_cut_off rest ≡ true → IfOk r (IsVerdictOf Two callers s 2 rest) → Audits s log r
  of_two s log rest (Ok v) some cut h = subst (λ o. IsVerdictBy callers s log o v) (sym some) (subst (λ t. IsVerdictTwo t callers s rest v) (sym cut) h)
  of_two s log rest (Err e) some cut h = tt

  pub of_none : (s : PlainSite) (log rest : List ℕ) → behind log_two log ≡ Some rest → is_cut_off rest ≡ false → IsVerdict callers s log (verdict.Illegal 1)
  of_none s log rest some cut = subst (λ o. IsVerdictBy callers s log o (verdict.Illegal 1)) (sym some) (subst (λ t. IsVerdictTwo t callers s rest (verdict.Illegal 1)) (sym cut) refl)
