-- With one caller what is legal passes a test, and what passes it is legal.
use Rattle.std.proofs.Common.{◌≡◌, ◌==◌, ℕ, suc, Bool, true, false, cond, List, [], ◌∷◌, length, map, Option, Some, None, refl, sym, ap, ◌∙◌, subst, arith}
use Rattle.std.proofs.lemmas.Bool.Decides.{nat_tests}
use Rattle.run_meaning.proofs.OneLog.{is_log}
use Rattle.run_meaning.specs.Alone.{IsOnSite, run_alone, turn_alone}
use Rattle.run_meaning.specs.Runs.{Basis, IsRunFrom, Stage, TurnLog, no_entries, stage_after, start}
use Rattle.run_meaning.specs.Turns.{ReadTurn}
use Rattle.run_text.specs.TurnReading.{turn_read}
use Rattle.run_text.specs.declared.style.Style.{Style}
use Rattle.site_edge.specs.declared.turn.Turn.{Turn}
use Rattle.site_model.specs.PlainSite.{PlainSite}
use Rattle.turn_engine.proofs.Sole.{log_is}
use Rattle.site_audit.specs.Agreeing.{agreeing, is_block, AreBlocks}
use Rattle.site_audit.specs.Audit.{is_legal, is_written, IsLegal}
use Rattle.site_audit.specs.Told.{first_turns, turns_in}

abbrev Block : Type 0
Block = List (List ℕ)

same_is : (a b : ℕ) → a ≡ b → (a == b) ≡ true
same_is a b e = grind (arith, nat_tests)

is_same : (a b : ℕ) → (a == b) ≡ true → a ≡ b
is_same a b e = grind (arith, nat_tests)

module _ (style : Style) (b : Basis) where
  abbrev next : Stage → ReadTurn → Stage
  next st t = stage_after b st t (turn_alone b st t)

  -- what is written agrees in all blocks
  all_agree : (st : Stage) (ts : List ReadTurn) (ls : List TurnLog) (xs : List Block) → IsRunFrom b 1 st ts ls → AreBlocks style b.rules.site ls xs → agreeing style b st ts xs ≡ length xs
  all_agree st [] [] [] run texts = refl
  all_agree st [] [] (x ∷ xs) run texts = absurd texts
  all_agree st [] (l ∷ ls) xs run texts = absurd cc
  all_agree st (t ∷ ts) [] xs run texts = absurd run
  all_agree st (t ∷ ts) (l ∷ ls) [] run texts = absurd texts
  all_agree st (t ∷ ts) (l ∷ ls) (x ∷ xs) run texts =
      let one : l ≡ turn_alone b st t = log_is b st t l run.0 in
      let own : is_block style b.rules.site (turn_alone b st t) x ≡ true = ap (λ k. is_block style b.rules.site k x) (sym one) ∙ texts.0 in
      let more = all_agree (next st t) ts ls xs (subst (λ k. IsRunFrom b 1 (stage_after b st t k) ts ls) one run.1) texts.1 in
      ap (λ c. cond c (suc (agreeing style b (next st t) ts xs)) 0) own ∙ ap suc more

  -- what agrees in all blocks has their texts
  all_texts : (st : Stage) (ts : List ReadTurn) (xs : List Block) → length ts ≡ length xs → agreeing style b st ts xs ≡ length xs → AreBlocks style b.rules.site (run_alone b st ts) xs
  all_texts st [] [] many e = tt
  all_texts st [] (x ∷ xs) many e = absurd (omega (arith, many))
  all_texts st (t ∷ ts) [] many e = absurd (omega (arith, many))
  all_texts st (t ∷ ts) (x ∷ xs) many e = by (is_block style b.rules.site (turn_alone b st t) x) refl e (λ f. all_texts (next st t) ts xs (omega (arith, many)) f)
    where
      by : (c : Bool) → is_block style b.rules.site (turn_alone b st t) x ≡ c → cond c (suc (agreeing style b (next st t) ts xs)) 0 ≡ suc (length xs) → (agreeing style b (next st t) ts xs ≡ length xs → AreBlocks style b.rules.site (run_alone b (next st t) ts) xs)
          → (is_block style b.rules.site (turn_alone b st t) x ≡ true) × AreBlocks style b.rules.site (run_alone b (next st t) ts) xs
      by true own f again = (own, again (omega (arith, f)))
      by false own f again = absurd (omega (arith, f))

  module _ (s : PlainSite) (xs : List Block) where
    pub passes : IsLegal style b 1 s xs → is_legal style b s xs ≡ true
    passes h =
        ap (is_written style b s xs) h.told
        ∙ same_is (agreeing style b (start s (no_entries s)) (map (turn_read s) h.turns) xs) (length xs) (all_agree (start s (no_entries s)) (map (turn_read s) h.turns) h.written.logs xs h.written.run h.written.texts)

    many_turns : (turns : List Turn) → turns_in 1 s style xs ≡ Some turns → length (map (turn_read s) turns) ≡ length xs
    many_turns turns e = by (length (first_turns 1 s style xs) == length xs) refl e
      where
        mapped : (ts : List Turn) → length (map (turn_read s) ts) ≡ length ts
        mapped [] = refl
        mapped (t ∷ ts) = ap suc (mapped ts)

        by : (c : Bool) → (length (first_turns 1 s style xs) == length xs) ≡ c → cond c (Some (first_turns 1 s style xs)) None ≡ Some turns → length (map (turn_read s) turns) ≡ length xs
        by true same is = let w : first_turns 1 s style xs ≡ turns = cc in mapped turns ∙ (ap length (sym w) ∙ is_same (length (first_turns 1 s style xs)) (length xs) same)
        by false other is = absurd cc

    pub legal : ((turns : List Turn) → turns_in 1 s style xs ≡ Some turns → IsOnSite b (start s (no_entries s)) (map (turn_read s) turns)) → is_legal style b s xs ≡ true → IsLegal style b 1 s xs
    legal own h = by (turns_in 1 s style xs) refl h
      where
        by : (o : Option (List Turn)) → turns_in 1 s style xs ≡ o → is_written style b s xs o ≡ true → IsLegal style b 1 s xs
        by None e h = absurd cc
        by (Some turns) e h =
            let st = start s (no_entries s) in
            let all = is_same (agreeing style b st (map (turn_read s) turns) xs) (length xs) h in
            record {
              turns = turns;
              told = e;
              written = record {
                logs = run_alone b st (map (turn_read s) turns);
                run = (is_log b st (map (turn_read s) turns) (own turns e)).turns;
                texts = all_texts st (map (turn_read s) turns) xs (many_turns turns e) all;
              };
            }
