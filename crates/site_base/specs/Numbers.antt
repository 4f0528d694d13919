-- Numbers, as whole numbers of thousandths: how they are written, and what is calculated with them.
use Rattle.std.specs.Prelude.{ℕ, ℤ, pos, negsuc, ◌+ℤ◌, ◌-ℤ◌, ◌*ℤ◌, ◌+◌, ◌/◌, ◌%◌, ◌^◌, ◌==◌, nat_lt, Bool, false, Option, Some, None, List, [], ◌∷◌, ◌++◌, if◌then◌else◌}
use Rattle.std.specs.Fmt.{decimal}
use Rattle.std.specs.Int.RustNames.{int_div}

-- the point and the digits behind it, without zeros at the end
abbrev pub fraction_text : ℕ → List ℕ
fraction_text f =
    if f == 0 then []
    else if f % 100 == 0 then 46 ∷ (48 + f / 100) ∷ []
    else if f % 10 == 0 then 46 ∷ (48 + f / 100) ∷ (48 + f / 10 % 10) ∷ []
    else 46 ∷ (48 + f / 100) ∷ (48 + f / 10 % 10) ∷ (48 + f % 10) ∷ []

-- the shortest decimal of so many thousandths
abbrev pub amount_text : ℕ → List ℕ
amount_text n = decimal (n / 1000) ++ fraction_text (n % 1000)

-- the shortest decimal of a number that is so many thousandths
abbrev pub number_text : ℤ → List ℕ
number_text (pos n) = amount_text n
number_text (negsuc n) = 45 ∷ amount_text (n + 1)

-- whether so many thousandths are a number
abbrev pub in_range : ℤ → Bool
in_range (pos n) = nat_lt n (2 ^ 63)
in_range (negsuc n) = nat_lt n (2 ^ 63)

-- the number of so many thousandths, if there is one
abbrev pub ranged : ℤ → Option ℤ
ranged z = if in_range z then Some z else None

abbrev pub is_zero : ℤ → Bool
is_zero (pos n) = n == 0
is_zero (negsuc n) = false

abbrev pub sum_of : ℤ → ℤ → Option ℤ
sum_of a b = ranged (a +ℤ b)

abbrev pub difference_of : ℤ → ℤ → Option ℤ
difference_of a b = ranged (a -ℤ b)

-- the product, cut toward zero to a whole number of thousandths
abbrev pub product_of : ℤ → ℤ → Option ℤ
product_of a b = ranged (int_div (a *ℤ b) (pos 1000))

-- the quotient, cut in the same way
abbrev pub quotient_of : ℤ → ℤ → Option ℤ
quotient_of a b = if is_zero b then None else ranged (int_div (a *ℤ pos 1000) b)

-- what is left of a when b is taken from it as often as the quotient says, cut toward zero to a whole number
abbrev pub rest_of : ℤ → ℤ → Option ℤ
rest_of a b = if is_zero b then None else Some (a -ℤ b *ℤ int_div a b)

-- whole seconds, rounded up
abbrev pub seconds_of : ℤ → Option ℕ
seconds_of (pos n) = Some ((n + 999) / 1000)
seconds_of (negsuc n) = None
