-- Lines of a turn that are told again ask for the events that are told, and the same are refused.
use Rattle.std.proofs.Common.{◌≡◌, ◌+◌, ◌-◌, ◌≤◌, ℕ, zero, suc, nat_lt, true, false, cond, List, [], ◌∷◌, ◌++◌, length, take, drop, map, refl, sym, ap, ◌∙◌, arith, append_assoc, Some, None, Option, length-append}
use Rattle.std.proofs.lemmas.Bool.Decides.{nat_tests}
use Rattle.site_model.specs.PlainSite.{PlainSite}
use Rattle.event_text.specs.Faults.{fault_name}
use Rattle.event_text.specs.Lines.{Answer, told, faulty}
use Rattle.event_text.specs.Reading.{line_read}
use Rattle.event_text.proofs.LineLaws.{has_read}
use Rattle.log_text.specs.Fronts.{◌>>=◌}
use Rattle.run_meaning.specs.Dealing.{line_events, line_refusals, refused_line}
use Rattle.run_meaning.specs.Turns.{Asked}
use Rattle.run_text.specs.TurnReading.{as_line, lines_read}
use Rattle.site_audit.specs.Commands.{refused_text}
use Rattle.site_audit.specs.Filling.{filled, gap_to, with_gap, with_text, Filling}
use Rattle.audit_laws.specs.Names.{IsWellNamed}
use Rattle.audit_laws.specs.Refilled.{asking_among, refused_from, AreOfLines, AreRefilled, AskFor}
use Rattle.audit_laws.specs.Telling.{IsRefusedAgain}
use Rattle.audit_laws.proofs.Refusing.{refused_again}

-- ---- the lines

take_front : (xs ys : List (List ℕ)) (n : ℕ) → n ≡ length xs → take n (xs ++ ys) ≡ xs
take_front [] ys zero e = refl
take_front [] ys (suc n) e = absurd (omega (arith, e))
take_front (x ∷ xs) ys zero e = absurd (omega (arith, e))
take_front (x ∷ xs) ys (suc n) e = ap (λ zs. x ∷ zs) (take_front xs ys n (omega (arith, e)))

drop_front : (xs ys : List (List ℕ)) (n : ℕ) → n ≡ length xs → drop n (xs ++ ys) ≡ ys
drop_front [] ys zero e = refl
drop_front [] ys (suc n) e = absurd (omega (arith, e))
drop_front (x ∷ xs) ys zero e = absurd (omega (arith, e))
drop_front (x ∷ xs) ys (suc n) e = drop_front xs ys n (omega (arith, e))

abbrev or_nothing : Option (List ℕ) → List ℕ
or_nothing None = []
or_nothing (Some line) = line

module _ (s : PlainSite) (w : IsWellNamed s) where
  -- a line for each of these
  abbrev merged : List Answer → List (List ℕ) → List (List ℕ)
  merged [] ls = ls
  merged (told k e ∷ as') [] = []
  merged (told k e ∷ as') (l ∷ ls) = l ∷ merged as' ls
  merged (faulty f ∷ as') ls = or_nothing (refused_text s f) ∷ merged as' ls

  gap_is : (so_far left gap number : ℕ) → number ≡ so_far + gap + 1 → gap ≤ left → gap_to number so_far left ≡ Some gap
  gap_is so_far left gap number e le =
      let a : nat_lt so_far number ≡ true = grind (arith, nat_tests, e) in
      let g : number - suc so_far ≡ gap = omega (arith, e) in
      let b : nat_lt left (number - suc so_far) ≡ false = few left gap (number - suc so_far) g le in
      ap (λ t. cond t (cond (nat_lt left (number - suc so_far)) None (Some (number - suc so_far))) None) a
      ∙ (ap (λ t. cond t None (Some (number - suc so_far))) b ∙ ap (λ n. Some n) g)
    where
      few : (left gap n : ℕ) → n ≡ gap → gap ≤ left → nat_lt left n ≡ false
      few left gap n e le = grind (arith, nat_tests, e, le)

  filled_is : (as' : List Answer) (front pending rest : List (List ℕ)) (n : ℕ) → n ≡ length front + length pending + 1 → length rest ≡ asking_among as' → AreOfLines s as'
      → filled (refused_text s) (refused_from n as') (record { lines = front; left = pending ++ rest }) ≡ Some (front ++ (pending ++ merged as' rest))
  filled_is [] front pending rest n e count lines = refl
  filled_is (told k x ∷ as') front pending [] n e count lines = absurd (omega (arith, count))
  filled_is (told k x ∷ as') front pending (l ∷ rest) n e count lines =
      let long = length-append pending (l ∷ []) in
      let one : pending ++ l ∷ rest ≡ (pending ++ l ∷ []) ++ rest = sym (append_assoc pending (l ∷ []) rest) in
      ap (λ zs. filled (refused_text s) (refused_from (n + 1) as') (record { lines = front; left = zs })) one
      ∙ (filled_is as' front (pending ++ l ∷ []) rest (n + 1) (omega (arith, e, long)) (omega (arith, count)) lines
      ∙ ap (λ zs. Some (front ++ zs)) (append_assoc pending (l ∷ []) (merged as' rest)))
  filled_is (faulty f ∷ as') front pending rest n e count lines =
      let again : IsRefusedAgain s f = refused_again s w lines.0.0 f lines.0.1 in
      let long = length-append pending rest in
      let gap = gap_is (length front) (length (pending ++ rest)) (length pending) n e (omega (arith, long)) in
      let start : Filling = record { lines = front; left = pending ++ rest } in
      let front' : List (List ℕ) = front ++ (pending ++ again.line ∷ []) in
      let step : with_gap start (length pending) again.line ≡ record { lines = front'; left = rest } =
      ap (λ zs. record { lines = front ++ (zs ++ again.line ∷ []); left = drop (length pending) (pending ++ rest) }) (take_front pending rest (length pending) refl)
      ∙ ap (λ zs. record { lines = front'; left = zs }) (drop_front pending rest (length pending) refl) in
      let long' = length-append front (pending ++ again.line ∷ []) in
      let more = length-append pending (again.line ∷ []) in
      ap (λ g. (g >>= λ gap. with_text start gap (refused_text s f)) >>= filled (refused_text s) (refused_from (n + 1) as')) gap
      ∙ (ap (λ t. with_text start (length pending) t >>= filled (refused_text s) (refused_from (n + 1) as')) again.is
      ∙ (ap (filled (refused_text s) (refused_from (n + 1) as')) step
      ∙ (filled_is as' front' [] rest (n + 1) (omega (arith, e, long', more)) count lines.1
      ∙ ap Some (tail front pending again.line (merged as' rest) ∙ ap (λ t. front ++ (pending ++ (or_nothing t ∷ merged as' rest))) (sym again.is)))))
    where
      tail : (front pending : List (List ℕ)) (l : List ℕ) (zs : List (List ℕ)) → (front ++ (pending ++ l ∷ [])) ++ zs ≡ front ++ (pending ++ l ∷ zs)
      tail front pending l zs = append_assoc front (pending ++ l ∷ []) zs ∙ ap (λ ys. front ++ ys) (append_assoc pending (l ∷ []) zs)

  -- ---- what they are read as

  record AreReadSo (answers : List Answer) (lines : List (List ℕ)) (asked : List Asked) : Type 0 where
    events : line_events (lines_read s (merged answers lines)) ≡ asked
    refusals : (n : ℕ) → line_refusals n (lines_read s (merged answers lines)) ≡ line_refusals n (map as_line answers)

  merged_read : (as' : List Answer) (ls : List (List ℕ)) (asked : List Asked) → AskFor s ls asked → length ls ≡ asking_among as' → AreOfLines s as' → AreReadSo as' ls asked
  merged_read [] [] [] h count lines = record { events = refl; refusals = λ n. refl }
  merged_read [] [] (a ∷ asked) h count lines = absurd h
  merged_read [] (l ∷ ls) asked h count lines = absurd (omega (arith, count))
  merged_read (told k e ∷ as') [] asked h count lines = absurd (omega (arith, count))
  merged_read (told k e ∷ as') (l ∷ ls) [] h count lines = absurd h
  merged_read (told k e ∷ as') (l ∷ ls) (a ∷ asked) h count lines =
      let more = merged_read as' ls asked h.1 (omega (arith, count)) lines in
      let read : line_read s l ≡ told a.checkable a.event = has_read s l (told a.checkable a.event) w.names h.0 in
      record {
        events = ap (λ z. line_events (as_line z ∷ lines_read s (merged as' ls))) read ∙ ap (λ zs. a ∷ zs) more.events;
        refusals = λ n. ap (λ z. line_refusals n (as_line z ∷ lines_read s (merged as' ls))) read ∙ more.refusals (n + 1);
      }
  merged_read (faulty f ∷ as') ls asked h count lines =
      let again : IsRefusedAgain s f = refused_again s w lines.0.0 f lines.0.1 in
      let more = merged_read as' ls asked h count lines.1 in
      let read : line_read s (or_nothing (refused_text s f)) ≡ faulty f = ap (λ t. line_read s (or_nothing t)) again.is ∙ has_read s again.line (faulty f) w.names again.tells in
      record {
        events = ap (λ z. line_events (as_line z ∷ lines_read s (merged as' ls))) read ∙ more.events;
        refusals = λ n. ap (λ z. line_refusals n (as_line z ∷ lines_read s (merged as' ls))) read ∙ ap (λ zs. refused_line n (fault_name f) ∷ zs) (more.refusals (n + 1));
      }

pub refilled : (s : PlainSite) → IsWellNamed s → (answers : List Answer) (lines : List (List ℕ)) (asked : List Asked) → AreOfLines s answers → AskFor s lines asked → length lines ≡ asking_among answers → AreRefilled s answers lines asked
refilled s w answers lines asked are ask count =
    let read = merged_read s w answers lines asked ask count are in
    record {
      all = merged s w answers lines;
      are = filled_is s w answers [] [] lines 1 refl count are;
      events = read.events;
      refusals = read.refusals 1;
    }
