-- Lines that are dealt one after another.
use Rattle.std.proofs.Common.{◌≡◌, ℕ, suc, ◌+◌, ◌<◌, List, [], ◌∷◌, ◌++◌, length, drop, get_or, refl, sym, ap, ◌∙◌, arith, append_assoc}
use Rattle.std.proofs.lemmas.List.{drop_more}
use Rattle.event_text.specs.Reading.{line_read}
use Rattle.run_meaning.specs.Dealing.{Refusal, refused_line, line_events, line_refusals}
use Rattle.run_meaning.specs.Turns.{Asked, Line, asking, faulty}
use Rattle.run_text.specs.TurnReading.{as_line, lines_read}
use Rattle.site_model.specs.PlainSite.{PlainSite}

-- what is left begins with the next one
next_of : {A : Type 0} (xs : List A) (i : ℕ) (x : A) → i < length xs → x ≡ get_or xs i x → drop i xs ≡ x ∷ drop (i + 1) xs
next_of xs i x h is = drop_more xs i x h ∙ ap (λ y. y ∷ drop (i + 1) xs) (sym is)

-- one more was made of the next one
rest_more : {A B : Type 0} (g : ℕ → List A → List B) (made : List B) → (n m : ℕ) (xs : List A) (i : ℕ) (x : A) (done more all : List B)
    → m ≡ n + 1 → i < length xs → x ≡ get_or xs i x → (g n (x ∷ drop (i + 1) xs) ≡ made ++ g (suc n) (drop (i + 1) xs))
    → more ≡ done ++ made → done ++ g n (drop i xs) ≡ all → more ++ g m (drop (i + 1) xs) ≡ all
rest_more g made n m xs i x done more all e h is step grown so_far =
    let next : m ≡ suc n = omega (arith, e) in
    ap (λ k. more ++ g k (drop (i + 1) xs)) next
    ∙ ap (λ ys. ys ++ g (suc n) (drop (i + 1) xs)) grown
    ∙ append_assoc done made (g (suc n) (drop (i + 1) xs))
    ∙ ap (λ ys. done ++ ys) (sym step)
    ∙ ap (λ ys. done ++ g n ys) (sym (next_of xs i x h is))
    ∙ so_far

pub events_step : (l : Line) (ls : List Line) → line_events (l ∷ ls) ≡ line_events (l ∷ []) ++ line_events ls
events_step (asking a) ls = refl
events_step (faulty f) ls = refl

pub refusals_step : (n : ℕ) (l : Line) (ls : List Line) → line_refusals n (l ∷ ls) ≡ line_refusals n (l ∷ []) ++ line_refusals (suc n) ls
refusals_step n (asking a) ls = let e : n + 1 ≡ suc n = omega arith in ap (λ k. line_refusals k ls) e
refusals_step n (faulty f) ls = let e : n + 1 ≡ suc n = omega arith in ap (λ k. refused_line n f ∷ line_refusals k ls) e

-- the events of one more line
pub events_more : (s : PlainSite) (xs : List (List ℕ)) (i : ℕ) (x line : List ℕ) (done more all : List Asked) → i < length xs → x ≡ get_or xs i x → line ≡ x
    → more ≡ done ++ line_events (as_line (line_read s line) ∷ []) → done ++ line_events (lines_read s (drop i xs)) ≡ all → more ++ line_events (lines_read s (drop (i + 1) xs)) ≡ all
events_more s xs i x line done more all h is at grown so_far =
    rest_more (λ n ls. line_events (lines_read s ls)) (line_events (as_line (line_read s x) ∷ [])) 0 1 xs i x done more all (omega arith) h is
    (events_step (as_line (line_read s x)) (lines_read s (drop (i + 1) xs))) (grown ∙ ap (λ l. done ++ line_events (as_line (line_read s l) ∷ [])) at) so_far

-- what is refused of one more line
pub refusals_more : (s : PlainSite) (n : ℕ) (xs : List (List ℕ)) (i : ℕ) (x line : List ℕ) (done more all : List Refusal) → i < length xs → x ≡ get_or xs i x → line ≡ x
    → more ≡ done ++ line_refusals n (as_line (line_read s line) ∷ []) → done ++ line_refusals n (lines_read s (drop i xs)) ≡ all → more ++ line_refusals (n + 1) (lines_read s (drop (i + 1) xs)) ≡ all
refusals_more s n xs i x line done more all h is at grown so_far =
    rest_more (λ k ls. line_refusals k (lines_read s ls)) (line_refusals n (as_line (line_read s x) ∷ [])) n (n + 1) xs i x done more all refl h is
    (refusals_step n (as_line (line_read s x)) (lines_read s (drop (i + 1) xs))) (grown ∙ ap (λ l. done ++ line_refusals n (as_line (line_read s l) ∷ [])) at) so_far
