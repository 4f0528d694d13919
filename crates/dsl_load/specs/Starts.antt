-- Texts that are lent.
use Rattle.std.specs.Prelude.{ℕ, List, map}
use Rattle.std.specs.Borrow.{Bor}

abbrev pub texts_view : List (Bor (List ℕ)) → List (List ℕ)
texts_view ts = map (λ t. t.now) ts
