-- What a result or an option was.
use Rattle.std.proofs.Common.{◌≡◌, Option, Some, None, Result, Ok, Err, IfOk, IsOk, IfSome, IfNone, subst}
use Rattle.std.specs.Result.{result_ok}

pub ok_value : {A E : Type 0} (r : Result A E) (x : A) (P : A → Type 0) → Some x ≡ result_ok r → IfOk r P → P x
ok_value (Ok y) x P e h = let same : y ≡ x = cc in subst P same h
ok_value (Err y) x P e h = absurd (cc)

pub not_ok : {A E : Type 0} (r : Result A E) → None ≡ result_ok r → IsOk r → ⊥
not_ok (Ok y) e h = absurd (cc)
not_ok (Err y) e h = absurd (cc)

pub some_weaker : {A : Type 0} (o : Option A) (P Q : A → Type 0) → ((x : A) → P x → Q x) → IfSome o P → IfSome o Q
some_weaker None P Q f h = h
some_weaker (Some x) P Q f h = f x h

pub none_weaker : {A : Type 0} (o : Option A) (P Q : Type 0) → (P → Q) → IfNone o P → IfNone o Q
none_weaker None P Q f h = f h
none_weaker (Some x) P Q f h = h
