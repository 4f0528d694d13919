-- Parts of lines, dealt one behind another.
use Rattle.std.proofs.Common.{◌≡◌, ℕ, suc, ◌+◌, ◌*◌, ◌<◌, ◌≤◌, List, [], ◌∷◌, ◌++◌, length, map, take, get_or, refl, sym, ap, ◌∙◌, subst, append_assoc, arith}
use Rattle.std.specs.Prelude.{IfOk, Result, Ok}
use Rattle.std.specs.Fork.{slice_chunk}
use Rattle.event_text.specs.Reading.{line_read}
use Rattle.run_meaning.specs.Dealing.{Refusal, line_events, line_refusals}
use Rattle.run_meaning.specs.Turns.{Asked}
use Rattle.run_text.specs.TurnReading.{as_line, lines_read}
use Rattle.site_base.specs.declared.memory.OutOfMemory.{OutOfMemory}
use Rattle.site_model.specs.PlainSite.{PlainSite}
use Rattle.site_posts.specs.Made.{asked_of}
use Rattle.turn_deal.specs.Dealt.{refusal_of}
use Rattle.turn_deal.specs.Parts.{AreParts, Deal}
use Rattle.turn_deal.specs.declared.lines.LinesDealt.{LinesDealt}
use Rattle.turn_deal.proofs.LineByLine.{events_step, refusals_step}
use Rattle.turn_deal.proofs.Parting.{next_at, next_within, one_longer, part_more, part_within, parts_whole}

-- Some lines, and then others.

events_both : (s : PlainSite) (xs ys : List (List ℕ)) → line_events (lines_read s (xs ++ ys)) ≡ line_events (lines_read s xs) ++ line_events (lines_read s ys)
events_both s [] ys = refl
events_both s (x ∷ xs) ys =
    let l = as_line (line_read s x) in
    events_step l (lines_read s (xs ++ ys))
    ∙ ap (λ as'. line_events (l ∷ []) ++ as') (events_both s xs ys)
    ∙ sym (append_assoc (line_events (l ∷ [])) (line_events (lines_read s xs)) (line_events (lines_read s ys)))
    ∙ ap (λ as'. as' ++ line_events (lines_read s ys)) (sym (events_step l (lines_read s xs)))

abbrev refused : PlainSite → ℕ → List (List ℕ) → List Refusal
refused s n ls = line_refusals (n + 1) (lines_read s ls)

refusals_both : (s : PlainSite) (n : ℕ) (xs ys : List (List ℕ)) → refused s n (xs ++ ys) ≡ refused s n xs ++ refused s (n + length xs) ys
refusals_both s n [] ys = let e : n ≡ n + 0 = omega arith in ap (λ k. refused s k ys) e
refusals_both s n (x ∷ xs) ys =
    let l = as_line (line_read s x) in
    let one = line_refusals (n + 1) (l ∷ []) in
    let e : suc (n + 1) ≡ (n + 1) + 1 = omega arith in
    let f : (n + 1) + length xs ≡ n + suc (length xs) = omega arith in
    refusals_step (n + 1) l (lines_read s (xs ++ ys))
    ∙ ap (λ k. one ++ line_refusals k (lines_read s (xs ++ ys))) e
    ∙ ap (λ rs. one ++ rs) (refusals_both s (n + 1) xs ys)
    ∙ sym (append_assoc one (refused s (n + 1) xs) (refused s ((n + 1) + length xs) ys))
    ∙ ap (λ k. (one ++ refused s (n + 1) xs) ++ refused s k ys) f
    ∙ ap (λ k. (one ++ line_refusals k (lines_read s xs)) ++ refused s (n + suc (length xs)) ys) (sym e)
    ∙ ap (λ rs. rs ++ refused s (n + suc (length xs)) ys) (sym (refusals_step (n + 1) l (lines_read s xs)))

-- Part after part.

module _ (s : PlainSite) (size : ℕ) (lines : List (List ℕ)) (parts : List (Result LinesDealt OutOfMemory)) (some : 0 < size) (are : AreParts s size lines parts) where
  abbrev Parts : Type 0
  Parts = List (Result LinesDealt OutOfMemory)

  module _ (before rest : Parts) (d : LinesDealt) (whole : before ++ Ok d ∷ rest ≡ parts) where
    within : length before < length parts
    within = subst (λ (ps : Parts). length before < length ps) whole (next_within before rest (Ok d))

    begins : length before * size ≤ length lines
    begins = part_within size (length parts) (length before) lines some are.many within

    dealt : Deal s (length before * size) (slice_chunk lines size (length before)) d
    dealt =
        let at : get_or parts (length before) (Ok d) ≡ Ok d = subst (λ (ps : Parts). get_or ps (length before) (Ok d) ≡ Ok d) whole (next_at before rest (Ok d) (Ok d)) in
        subst (λ (r : Result LinesDealt OutOfMemory). IfOk r (Deal s (length before * size) (slice_chunk lines size (length before)))) at (are.each (length before) (Ok d) within)

    -- the events of one part more
    pub events_more : (done more : List Asked) → more ≡ done ++ map asked_of d.acts.items → done ≡ line_events (lines_read s (take (length before * size) lines))
        → more ≡ line_events (lines_read s (take (length (before ++ Ok d ∷ []) * size) lines))
    events_more done more grown so_far =
        let made : ℕ → List (List ℕ) → List Asked = λ n ls. line_events (lines_read s ls) in
        grown
        ∙ ap (λ as'. as' ++ map asked_of d.acts.items) so_far
        ∙ ap (λ as'. line_events (lines_read s (take (length before * size) lines)) ++ as') dealt.events
        ∙ sym (part_more made (λ n. events_both s) size lines (length before) begins)
        ∙ ap (λ k. line_events (lines_read s (take (k * size) lines))) (sym (one_longer before (Ok d)))

    -- what is refused of one part more
    pub refusals_more : (done more : List Refusal) → more ≡ done ++ map refusal_of d.refusals.items → done ≡ line_refusals 1 (lines_read s (take (length before * size) lines))
        → more ≡ line_refusals 1 (lines_read s (take (length (before ++ Ok d ∷ []) * size) lines))
    refusals_more done more grown so_far =
        grown
        ∙ ap (λ rs. rs ++ map refusal_of d.refusals.items) so_far
        ∙ ap (λ rs. line_refusals 1 (lines_read s (take (length before * size) lines)) ++ rs) dealt.refusals
        ∙ sym (part_more (refused s) (refusals_both s) size lines (length before) begins)
        ∙ ap (λ k. line_refusals 1 (lines_read s (take (k * size) lines))) (sym (one_longer before (Ok d)))

  -- all parts are all lines
  pub all_lines : take (length parts * size) lines ≡ lines
  all_lines = parts_whole size (length parts) lines some are.many
