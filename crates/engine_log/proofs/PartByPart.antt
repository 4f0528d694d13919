-- Parts of segments, whose lines stand one behind another.
use Rattle.std.proofs.Common.{◌≡◌, ℕ, ◌*◌, ◌<◌, ◌≤◌, List, [], ◌∷◌, ◌++◌, length, take, get_or, sym, ap, ◌∙◌, subst, append_assoc}
use Rattle.std.specs.Prelude.{IfOk, Result, Ok}
use Rattle.std.specs.Fork.{slice_chunk}
use Rattle.std.specs.List.{flat_map}
use Rattle.std.proofs.lemmas.List.Concat.{flat_map-append}
use Rattle.site_base.specs.declared.memory.OutOfMemory.{OutOfMemory}
use Rattle.site_model.specs.PlainSite.{PlainSite}
use Rattle.engine_log.specs.TurnLines.{AreParts, segment_lines}
use Rattle.site_posts.specs.declared.segment.Segment.{Segment}
use Rattle.run_text.specs.declared.style.Style.{Style}
use Rattle.turn_deal.proofs.Parting.{next_at, next_within, one_longer, part_more, part_within, parts_whole}

module _ (style : Style) (s : PlainSite) (size : ℕ) (xs : List Segment) (parts : List (Result (List (List ℕ)) OutOfMemory)) (some : 0 < size) (are : AreParts style s size xs parts) where
  abbrev Parts : Type 0
  Parts = List (Result (List (List ℕ)) OutOfMemory)

  abbrev lines : List Segment → List (List ℕ)
  lines ys = flat_map (segment_lines style s) ys

  -- the lines of one part more
  pub lines_more : (before rest : Parts) (part : List (List ℕ)) → before ++ Ok part ∷ rest ≡ parts → (first done more : List (List ℕ)) → more ≡ done ++ part
      → done ≡ first ++ lines (take (length before * size) xs) → more ≡ first ++ lines (take (length (before ++ Ok part ∷ []) * size) xs)
  lines_more before rest part whole first done more grown so_far =
      let n = length before in
      let within : n < length parts = subst (λ (ps : Parts). n < length ps) whole (next_within before rest (Ok part)) in
      let begins : n * size ≤ length xs = part_within size (length parts) n xs some are.many within in
      let at : get_or parts n (Ok part) ≡ Ok part = subst (λ (ps : Parts). get_or ps n (Ok part) ≡ Ok part) whole (next_at before rest (Ok part) (Ok part)) in
      let is : part ≡ lines (slice_chunk xs size n) = subst (λ (r : Result (List (List ℕ)) OutOfMemory). IfOk r (λ ls. ls ≡ lines (slice_chunk xs size n))) at (are.each n (Ok part) within) in
      let made : ℕ → List Segment → List (List ℕ) = λ k ys. lines ys in
      grown
      ∙ ap (λ ls. ls ++ part) so_far
      ∙ append_assoc first (lines (take (n * size) xs)) part
      ∙ ap (λ ls. first ++ (lines (take (n * size) xs) ++ ls)) is
      ∙ ap (λ ls. first ++ ls) (sym (part_more made (λ k. flat_map-append (segment_lines style s)) size xs n begins))
      ∙ ap (λ k. first ++ lines (take (k * size) xs)) (sym (one_longer before (Ok part)))

  -- all parts are all segments
  pub all_segments : take (length parts * size) xs ≡ xs
  all_segments = parts_whole size (length parts) xs some are.many
