-- What the shape of a state file tells.
use Rattle.std.proofs.Common.{◌≡◌, ◌&&◌, Bool, true, false, cond, List, ℕ, Option, Some, None, IsUtf8, bytes_eq, refl, ap, ap₂, ◌∙◌}
use Rattle.std.specs.Str.{is_utf8}
use Rattle.std.proofs.lemmas.Str.{IsUtf8-from_is_utf8, is_utf8-from_IsUtf8}
use Rattle.std.proofs.lemmas.Option.{same_Some}
use Rattle.std.proofs.lemmas.Slice.Eq.{bytes_eq-Decides}
use Rattle.serde_json.specs.Data.{Data, null, boolean, number, string, array, object, Members, no_members, member}
use Rattle.serde_json.specs.Read.{read}
use Rattle.site_keep.specs.Shape.{two_among, two_members, value_of}

pub value_found : (bytes : List ℕ) (d : Data) → IsUtf8 bytes → read bytes ≡ Some d → value_of bytes ≡ Some d
unfolding value_of
value_found bytes d u e = ap (λ b. cond b (read bytes) None) (is_utf8-from_IsUtf8 bytes u) ∙ e

no_value_by : (bytes : List ℕ) (b : Bool) → is_utf8 bytes ≡ b → (IsUtf8 bytes → read bytes ≡ None) → cond b (read bytes) None ≡ None
no_value_by bytes true t h = h (IsUtf8-from_is_utf8 bytes t)
no_value_by bytes false t h = refl

pub no_value : (bytes : List ℕ) → (IsUtf8 bytes → read bytes ≡ None) → value_of bytes ≡ None
unfolding value_of
no_value bytes h = no_value_by bytes (is_utf8 bytes) refl h

value_by : (bytes : List ℕ) (d : Data) (b : Bool) → is_utf8 bytes ≡ b → cond b (read bytes) None ≡ Some d → IsUtf8 bytes × (read bytes ≡ Some d)
value_by bytes d true t e = (IsUtf8-from_is_utf8 bytes t, e)
value_by bytes d false t e = absurd cc

pub value_tells : (bytes : List ℕ) (d : Data) → value_of bytes ≡ Some d → IsUtf8 bytes × (read bytes ≡ Some d)
unfolding value_of
value_tells bytes d e = value_by bytes d (is_utf8 bytes) refl e

same : (xs : List ℕ) → bytes_eq xs xs ≡ true
same xs = (bytes_eq-Decides xs xs).1 refl

abbrev pair : List ℕ → Data → List ℕ × Data
pair k a = (k, a)

abbrev found : Data → Data → Option (Data × Data)
found a b = Some (a, b)

named : (b c : Bool) (f g k l : List ℕ) (a d x y : Data) → bytes_eq k f ≡ b → bytes_eq l g ≡ c → cond (b && c) (found a d) None ≡ found x y
    → member k a (member l d no_members) ≡ member f x (member g y no_members)
named true true f g k l a d x y kf lg e =
    let left : k ≡ f = (bytes_eq-Decides k f).0 kf in
    let right : l ≡ g = (bytes_eq-Decides l g).0 lg in
    let both = same_Some _ _ e in
    ap₂ (λ m ms. member m.0 m.1 ms) (ap₂ pair left (ap (λ z. z.0) both)) (ap₂ (λ m b. member m b no_members) right (ap (λ z. z.1) both))
named true false f g k l a d x y kf lg e = absurd cc
named false c f g k l a d x y kf lg e = absurd cc

among : (f g : List ℕ) (ms : Members) (x y : Data) → two_among f g ms ≡ Some (x, y) → ms ≡ member f x (member g y no_members)
among f g no_members x y e = absurd cc
among f g (member k a no_members) x y e = absurd cc
among f g (member k a (member l b no_members)) x y e = named (bytes_eq k f) (bytes_eq l g) f g k l a b x y refl refl e
among f g (member k a (member l b (member m c more))) x y e = absurd cc

-- the value has these two members and no others
pub two_sound : (f g : List ℕ) (d : Data) (x y : Data) → two_members f g d ≡ Some (x, y) → d ≡ object (member f x (member g y no_members))
unfolding two_members
two_sound f g null x y e = absurd cc
two_sound f g (boolean b) x y e = absurd cc
two_sound f g (number n) x y e = absurd cc
two_sound f g (string s) x y e = absurd cc
two_sound f g (array ds) x y e = absurd cc
two_sound f g (object ms) x y e = ap object (among f g ms x y e)

pub two_complete : (f g : List ℕ) (x y : Data) → two_members f g (object (member f x (member g y no_members))) ≡ Some (x, y)
unfolding two_members
two_complete f g x y = ap₂ (λ b c. cond (b && c) (found x y) None) (same f) (same g)
