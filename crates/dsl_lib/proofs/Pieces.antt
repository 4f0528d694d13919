-- Pieces between separators.
use Rattle.std.proofs.Common.{◌≡◌, ℕ, ◌<◌, length, arith, append-nil, Bool, true, false, cond, List, [], ◌∷◌, ◌++◌, map, refl, sym, ap, ◌∙◌, append_assoc}
use Rattle.std.specs.Prelude.{encode_utf8}
use Rattle.std.specs.Str.{encode_utf8_all}
use Rattle.std.specs.List.{slice_split, onto_first}
use Rattle.std.proofs.lemmas.List.{length-map}
use Rattle.std.proofs.lemmas.List.Splits.{length-slice_split}
use Rattle.dsl_value.specs.declared.value.Value.{Value}
use Rattle.dsl_value.specs.declared.value.Value.TheVariants as value

-- more in front of the first piece
abbrev pub onto : List ℕ → List (List ℕ) → List (List ℕ)
onto piece [] = piece ∷ []
onto piece (p ∷ ps) = (piece ++ p) ∷ ps

-- the pieces of some characters, of which the first has begun
abbrev pub pieces_from : (ℕ → Bool) → List ℕ → List ℕ → List Value
pieces_from separates piece cs = map value.Str (onto piece (map encode_utf8_all (slice_split separates cs)))

onto_nothing : (ps : List (List ℕ)) → 0 < length ps → onto [] ps ≡ ps
onto_nothing [] h = absurd (omega (arith, h))
onto_nothing (p ∷ ps) h = refl

pub pieces_none : (separates : ℕ → Bool) (cs : List ℕ) → pieces_from separates [] cs ≡ map value.Str (map encode_utf8_all (slice_split separates cs))
pieces_none separates cs = ap (map value.Str) (onto_nothing (map encode_utf8_all (slice_split separates cs)) (omega (arith, length-map (slice_split separates cs) encode_utf8_all, length-slice_split separates cs)))

-- a separator ends the piece
pub pieces_cut : (separates : ℕ → Bool) (piece cs others : List ℕ) (c : ℕ) → cs ≡ c ∷ others → separates c ≡ true → pieces_from separates piece cs ≡ value.Str piece ∷ pieces_from separates [] others
pieces_cut separates piece cs others c e s =
    ap (pieces_from separates piece) e
    ∙ ap (λ b. map value.Str (onto piece (map encode_utf8_all (cond b ([] ∷ slice_split separates others) (onto_first c (slice_split separates others)))))) s
    ∙ ap (λ x. value.Str x ∷ map value.Str (map encode_utf8_all (slice_split separates others))) (append-nil piece)
    ∙ ap (λ x. value.Str piece ∷ x) (sym (pieces_none separates others))

onto_more : (piece : List ℕ) (c : ℕ) (ps : List (List ℕ)) → onto piece (map encode_utf8_all (onto_first c ps)) ≡ onto (piece ++ encode_utf8 c) (map encode_utf8_all ps)
onto_more piece c [] = ap (λ x. x ∷ []) (ap (λ x. piece ++ x) (append-nil (encode_utf8 c)))
onto_more piece c (p ∷ ps) = ap (λ x. x ∷ map encode_utf8_all ps) (sym (append_assoc piece (encode_utf8 c) (encode_utf8_all p)))

-- another character is one more of it
pub pieces_more : (separates : ℕ → Bool) (piece cs others : List ℕ) (c : ℕ) → cs ≡ c ∷ others → separates c ≡ false → pieces_from separates piece cs ≡ pieces_from separates (piece ++ encode_utf8 c) others
pieces_more separates piece cs others c e s =
    ap (pieces_from separates piece) e
    ∙ ap (λ b. map value.Str (onto piece (map encode_utf8_all (cond b ([] ∷ slice_split separates others) (onto_first c (slice_split separates others)))))) s
    ∙ ap (map value.Str) (onto_more piece c (slice_split separates others))

pub pieces_begun : (separates : ℕ → Bool) (made : List Value) (piece cs : List ℕ) → made ≡ [] → piece ≡ [] → made ++ pieces_from separates piece cs ≡ map value.Str (map encode_utf8_all (slice_split separates cs))
pieces_begun separates made piece cs em ep = ap (λ x. x ++ pieces_from separates piece cs) em ∙ ap (λ x. pieces_from separates x cs) ep ∙ pieces_none separates cs

pub pieces_pushed : (separates : ℕ → Bool) (made next all : List Value) (piece last new cs others : List ℕ) (c : ℕ) → cs ≡ c ∷ others → separates c ≡ true → last ≡ piece → new ≡ [] → next ≡ made ++ value.Str last ∷ [] → made ++ pieces_from separates piece cs ≡ all
    → next ++ pieces_from separates new others ≡ all
pieces_pushed separates made next all piece last new cs others c e s el en em h =
    ap (λ x. x ++ pieces_from separates new others) em ∙ append_assoc made (value.Str last ∷ []) (pieces_from separates new others)
    ∙ ap (λ x. made ++ value.Str x ∷ pieces_from separates new others) el ∙ ap (λ x. made ++ value.Str piece ∷ pieces_from separates x others) en
    ∙ ap (λ x. made ++ x) (sym (pieces_cut separates piece cs others c e s)) ∙ h
