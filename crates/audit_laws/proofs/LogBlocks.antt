-- The text of a run's turns is cut into their lines, a block for each turn.
use Rattle.std.proofs.Common.{◌≡◌, ℕ, suc, true, false, cond, List, [], ◌∷◌, ◌++◌, map, refl, sym, ap, ◌∙◌, subst, Option}
use Rattle.std.specs.List.{AllByRecursion, concat, flat_map}
use Rattle.jiff_tz.specs.declared.tzif.Tzif.{Tzif}
use Rattle.site_edge.specs.declared.turn.Turn.{Turn}
use Rattle.site_model.specs.PlainSite.{PlainSite}
use Rattle.site_model.specs.declared.entry.Entry.{Entry}
use Rattle.site_text.specs.Entries.{start_text}
use Rattle.log_text.specs.LogLines.{turn_line}
use Rattle.run_meaning.specs.Dealing.{Refusal, refused_line, refused_report}
use Rattle.run_meaning.specs.Runs.{IsRunFrom, Stage, TurnLog, stage_after}
use Rattle.run_meaning.specs.Turns.{Command, Histories, missing, words}
use Rattle.run_text.specs.LogText.{command_line, ordered_line, refusal_line, round_lines, styled_entry, turn_lines}
use Rattle.run_text.specs.TurnReading.{turn_read}
use Rattle.run_text.specs.declared.style.Style.{Style}
use Rattle.run_text.specs.declared.style.Style.TheVariants.{One, Two}
use Rattle.turn_engine.specs.Stages.{basis_of_site}
use Rattle.site_audit.specs.Blocks.{begins_turn, blocks_of, lines_of, with_line}
use Rattle.site_audit.proofs.WholeLines.{lines_back, turn_lines_whole, AreWhole, IsWhole}

all_behind : {A : Type 0} (P : A → Type 0) (xs ys : List A) → AllByRecursion P xs → AllByRecursion P ys → AllByRecursion P (xs ++ ys)
all_behind P [] ys h g = g
all_behind P (x ∷ xs) ys h g = (h.0, all_behind P xs ys h.1 g)

-- ---- lines that begin no turn

abbrev GoesOn : List ℕ → Type 0
GoesOn line = begins_turn line ≡ false

refusal_goes_on : (r : Refusal) → GoesOn (refusal_line r)
refusal_goes_on (refused_line n fault) = refl
refusal_goes_on (refused_report order) = refl

entry_goes_on : (style : Style) (s : PlainSite) (k : ℕ) (e : Entry) → GoesOn (styled_entry style s k e)
unfolding start_text
entry_goes_on One s k e = refl
entry_goes_on Two s k e = refl

command_goes_on : (style : Style) (s : PlainSite) (n k : ℕ) (c : Command) → GoesOn (command_line style s n k c)
command_goes_on One s n k (words ws) = refl
command_goes_on Two s n k (words ws) = refl
command_goes_on One s n k (missing macro) = refl
command_goes_on Two s n k (missing macro) = refl

all_go_on : {A : Type 0} (line : A → List ℕ) → ((x : A) → GoesOn (line x)) → (xs : List A) → AllByRecursion GoesOn (map line xs)
all_go_on line f [] = tt
all_go_on line f (x ∷ xs) = (f x, all_go_on line f xs)

round_goes_on : (style : Style) (s : PlainSite) (k : ℕ) (round : Histories) → AllByRecursion GoesOn (flat_map (λ lines. lines) (round_lines style s k round))
round_goes_on style s k [] = tt
round_goes_on style s k (es ∷ round) = all_behind GoesOn (map (styled_entry style s k) es) (flat_map (λ lines. lines) (round_lines style s (suc k) round)) (all_go_on (styled_entry style s k) (entry_goes_on style s k) es) (round_goes_on style s (suc k) round)

abbrev others_of : Style → PlainSite → TurnLog → List (List ℕ)
others_of style s l = (map refusal_line l.refusals ++ flat_map (λ lines. lines) (round_lines style s 0 l.round)) ++ map (ordered_line style s) l.orders

others_go_on : (style : Style) (s : PlainSite) (l : TurnLog) → AllByRecursion GoesOn (others_of style s l)
others_go_on style s l =
    all_behind GoesOn (map refusal_line l.refusals ++ flat_map (λ lines. lines) (round_lines style s 0 l.round)) (map (ordered_line style s) l.orders)
    (all_behind GoesOn (map refusal_line l.refusals) (flat_map (λ lines. lines) (round_lines style s 0 l.round)) (all_go_on refusal_line refusal_goes_on l.refusals) (round_goes_on style s 0 l.round))
    (all_go_on (ordered_line style s) (λ o. command_goes_on style s o.number o.checkable o.command) l.orders)

-- ---- a block for each turn

-- the first of these begins a turn, where there is one
abbrev Begins : List (List (List ℕ)) → Type 0
Begins [] = Unit {0}
Begins ([] ∷ blocks) = ⊥
Begins ((m ∷ ms) ∷ blocks) = begins_turn m ≡ true

one_block : (l : List ℕ) (lines more : List (List ℕ)) → AllByRecursion GoesOn lines → Begins (blocks_of more) → with_line l (blocks_of (lines ++ more)) ≡ (l ∷ lines) ∷ blocks_of more
one_block l [] more h g = by (blocks_of more) g
  where
    by : (blocks : List (List (List ℕ))) → Begins blocks → with_line l blocks ≡ (l ∷ []) ∷ blocks
    by [] g = refl
    by ([] ∷ blocks) g = absurd g
    by ((m ∷ ms) ∷ blocks) g = ap (λ t. cond t ((l ∷ []) ∷ (m ∷ ms) ∷ blocks) ((l ∷ m ∷ ms) ∷ blocks)) g
one_block l (r ∷ lines) more h g =
    ap (with_line l) (one_block r lines more h.1 g)
    ∙ ap (λ t. cond t ((l ∷ []) ∷ (r ∷ lines) ∷ blocks_of more) ((l ∷ r ∷ lines) ∷ blocks_of more)) h.0

module _ (style : Style) (s : PlainSite) where
  begin : (ls : List TurnLog) → Begins (map (turn_lines style s) ls)
  begin [] = tt
  begin (l ∷ ls) = refl

  pub block_each : (ls : List TurnLog) → blocks_of (flat_map (turn_lines style s) ls) ≡ map (turn_lines style s) ls
  block_each [] = refl
  block_each (l ∷ ls) =
      one_block (turn_line l.number l.moment) (others_of style s l) (flat_map (turn_lines style s) ls) (others_go_on style s l) (subst Begins (sym (block_each ls)) (begin ls))
      ∙ ap (λ blocks. turn_lines style s l ∷ blocks) (block_each ls)

  whole_all : (zone : Option Tzif) (callers : ℕ) (ts : List Turn) (ls : List TurnLog) (st : Stage) → IsRunFrom (basis_of_site s zone) callers st (map (turn_read s) ts) ls → AreWhole (flat_map (turn_lines style s) ls)
  whole_all table callers [] ls st run = subst (λ ms. AreWhole (flat_map (turn_lines style s) ms)) (sym run) tt
  whole_all table callers (t ∷ ts) [] st run = absurd run
  whole_all table callers (t ∷ ts) (l ∷ ls) st run =
      all_behind IsWhole (turn_lines style s l) (flat_map (turn_lines style s) ls) (turn_lines_whole style s table callers st t l run.0)
      (whole_all table callers ts ls (stage_after (basis_of_site s table) st (turn_read s t) l) run.1)

  -- what is cut out of the text of a run
  pub blocks_back : (zone : Option Tzif) (callers : ℕ) (ts : List Turn) (ls : List TurnLog) (st : Stage) → IsRunFrom (basis_of_site s zone) callers st (map (turn_read s) ts) ls → blocks_of (lines_of (concat (flat_map (turn_lines style s) ls))) ≡ map (turn_lines style s) ls
  blocks_back zone callers ts ls st run = ap blocks_of (lines_back (flat_map (turn_lines style s) ls) (whole_all zone callers ts ls st run)) ∙ block_each ls
