-- What stands between quotes, character by character.
use Rattle.std.proofs.Common.{◌≡◌, ◌≢◌, ℕ, ◌≤◌, List, [], ◌∷◌, ◌++◌, arith, encode_utf8, encode_utf8_all, append-nil}
use Rattle.std.specs.List.{flat_map}
use Rattle.std.proofs.lemmas.Str.{encode_ascii, encodes-append}
use Rattle.std.proofs.lemmas.Grind.{flat_map-append}
use Rattle.std.proofs.lemmas.Bool.Decides.{nat_tests}
use lib.Utf8.{encode}
use Rattle.site_base.specs.Quoted.{escaped}

-- a byte above ASCII stands as it is
pub escaped_high : (b : ℕ) → 128 ≤ b → escaped b ≡ b ∷ []
escaped_high b h = grind (arith, nat_tests)

pub escaped_encode_high : (c : ℕ) → 128 ≤ c → flat_map escaped (encode c) ≡ encode c
unfolding encode
escaped_encode_high c h = grind (arith, nat_tests, escaped_high)

pub escaped_ascii : (b : ℕ) → 32 ≤ b → b ≢ 34 → b ≢ 92 → b ≢ 127 → escaped b ≡ b ∷ []
escaped_ascii b h a d e = grind (arith, nat_tests)

pub escaped_plain : (c : ℕ) → 32 ≤ c → c ≢ 34 → c ≢ 92 → c ≢ 127 → flat_map escaped (encode_utf8 c) ≡ encode_utf8 c
escaped_plain c h a d e = grind (arith, escaped_encode_high, escaped_ascii, encode_ascii)

-- one more character
pub escaped_more : (bs cs : List ℕ) (c : ℕ) → (34 ∷ flat_map escaped (encode_utf8_all cs)) ++ flat_map escaped (encode_utf8 c) ≡ 34 ∷ flat_map escaped (encode_utf8_all (cs ++ c ∷ []))
escaped_more bs cs c = rw (encodes-append, flat_map-append, append-nil)
