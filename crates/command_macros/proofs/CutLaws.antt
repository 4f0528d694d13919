-- `split_once` cuts at the first mark.
use Rattle.std.proofs.Common.{◌≡◌, ◌≢◌, ℕ, zero, suc, ◌<◌, List, [], ◌∷◌, ◌++◌, length, get_or, MatchOption, Option, Some, None, suc-le-suc, zero-le}
use Rattle.std.proofs.lemmas.Str.Pattern.{split_parts, IsSplitOnceResult}
use denote.Ref.{Bor}
use Rattle.command_macros.specs.Cuts.{Lacks}

pub lacks_from : (c : ℕ) (bs : List ℕ) → ((i : ℕ) → i < length bs → get_or bs i 0 ≢ c) → Lacks c bs
lacks_from c [] h = tt
lacks_from c (b ∷ bs) h = (h zero (suc-le-suc zero-le), lacks_from c bs (λ i lt. h (suc i) (suc-le-suc lt)))

pub cut_is : (c : ℕ) (bs : List ℕ) (r : Option (Bor (List ℕ) × Bor (List ℕ))) → IsSplitOnceResult c bs r → c < 128
    → MatchOption r (Lacks c bs) (λ x. (bs ≡ x.0.now ++ c ∷ x.1.now) × Lacks c x.0.now)
cut_is c bs r h small = by r (split_parts c bs r h small)
  where
    by : (r : Option (Bor (List ℕ) × Bor (List ℕ))) → MatchOption r ((i : ℕ) → i < length bs → get_or bs i 0 ≢ c) (λ x. (bs ≡ x.0.now ++ (c ∷ x.1.now)) × ((i : ℕ) → i < length x.0.now → get_or x.0.now i 0 ≢ c))
        → MatchOption r (Lacks c bs) (λ x. (bs ≡ x.0.now ++ c ∷ x.1.now) × Lacks c x.0.now)
    by None h = lacks_from c bs h
    by (Some x) h = (h.0, lacks_from c x.0.now h.1)
