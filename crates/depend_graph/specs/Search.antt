-- A search from child to parent: what is found so far, and which checkables are marked.
use Rattle.std.specs.Prelude.{◌≡◌, ℕ, suc, ◌<◌, ◌↔◌, List, [], ◌∷◌, ◌++◌, length, slice_index, nat_eq, All, IsTrue, if◌then◌else◌}
use Rattle.site_model.specs.PlainSite.{PlainSite}
use Rattle.site_model.specs.Sound.{AreDistinct}
use Rattle.run_meaning.specs.Turns.{of_index}
use Rattle.depend_graph.specs.Parents.{has, IsAbove}

-- every number in these lists is an index
abbrev pub AreBelow : ℕ → List (List ℕ) → Type 0
AreBelow count lists = (c : ℕ) → All (λ p. p < count) (of_index c lists)

-- what is found once these are looked at, each of them that is new at the end
abbrev pub added : List ℕ → List ℕ → List ℕ
added found [] = found
added found (p ∷ ps) = if has p found then added found ps else added (found ++ p ∷ []) ps

-- how many bear a mark
abbrev pub count_marked : ℕ → List ℕ → ℕ
count_marked mark [] = 0
count_marked mark (m ∷ ms) = if nat_eq m mark then suc (count_marked mark ms) else count_marked mark ms

-- those that are found are those that bear the mark, each once
pub record AreMarked (mark : ℕ) (found marks : List ℕ) : Type 0 where
  pub below : All (λ p. p < length marks) found
  pub marked : (p : ℕ) → p < length marks → nat_eq (slice_index marks p) mark ≡ has p found
  pub once : AreDistinct found
  pub few : length found ≡ count_marked mark marks

-- these are the ancestors of a checkable, each once
pub record AreAbove (s : PlainSite) (c : ℕ) (found : List ℕ) : Type 0 where
  pub above : (p : ℕ) → IsTrue (has p found) ↔ IsAbove s c p
  pub once : AreDistinct found

-- the lists are those of the ancestors
pub record AreAllAbove (s : PlainSite) (lists : List (List ℕ)) : Type 0 where
  pub above : (c : ℕ) → c < length s.checkables → AreAbove s c (of_index c lists)
