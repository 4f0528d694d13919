-- Texts that are lent.
use Rattle.std.specs.Prelude.{ℕ, List, Option, map}
use Rattle.std.specs.Borrow.{Bor}
use Rattle.std.specs.Option.{option_map}
use Rattle.arrayvec.specs.ArrayVec.{ArrayVec}

abbrev pub texts_view : List (Bor (List ℕ)) → List (List ℕ)
texts_view ts = map (λ t. t.now) ts

abbrev pub fields_view : Option (ArrayVec (Bor (List ℕ))) → Option (List (List ℕ))
fields_view fs = option_map (λ v. texts_view v.items) fs

abbrev pub text_view : Option (Bor (List ℕ)) → Option (List ℕ)
text_view t = option_map (λ x. x.now) t

abbrev pub numbers_view : Option (ArrayVec ℕ) → Option (List ℕ)
numbers_view ns = option_map (λ v. v.items) ns
