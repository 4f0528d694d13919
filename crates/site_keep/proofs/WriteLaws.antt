-- What is written of a state file, one after the other.
use Rattle.std.proofs.Common.{◌≡◌, ℕ, suc, ◌+◌, ◌<◌, ◌≤◌, List, [], ◌∷◌, ◌++◌, drop, get_or, length, map, slice_get, slice_index, sum, take, Some, refl, sym, ap, ap₂, ◌∙◌, arith, append_assoc, length-drop}
use Rattle.std.proofs.lemmas.List.{drop_more, drop-append-le, take_all, take-append-le}
use Rattle.std.proofs.lemmas.List.Sums.{sum_by-cons, sum_by-drop_more}
use Rattle.std.proofs.lemmas.Option.{get_or_from_slice_get, slice_get_within}
use Rattle.json.specs.Print.{print}
use Rattle.json.specs.Token as token
use Rattle.json.specs.Token.{Token}
use Rattle.serde_json.specs.Data.{array, Items}
use Rattle.serde_json.proofs.Texts.{print-outline}
use Rattle.run_meaning.specs.Turns.{Histories}
use Rattle.site_model.specs.PlainSite.{PlainCheck, PlainSite}
use Rattle.site_keep.specs.Pieces.{pieces}
use Rattle.site_keep.specs.Shape.{line_items, saved_data, saved_items, state_data}
use Rattle.site_keep.specs.StateFile.{lines_from, lines_of, saved, saved_from, state_file}
use Rattle.site_keep.specs.Writing.{item_tokens, saved_among, saved_as, tokens_of}

-- these tokens and those of what follows, in one list
abbrev pub Rest : List Token → List Token → List Token → Type 0
Rest out rest whole = out ++ rest ≡ whole

-- one item more is written as this
pub entry_more : {X : Type 0} (text : X → List ℕ) (i : ℕ) (xs : List X) (x : X) (old new whole : List (List ℕ)) → i < length xs → x ≡ get_or xs i x → new ≡ old ++ text x ∷ []
    → old ++ map text (drop i xs) ≡ whole → new ++ map text (drop (i + 1) xs) ≡ whole
entry_more text i xs x old new whole within is added h =
    let front : drop i xs ≡ x ∷ drop (i + 1) xs = drop_more xs i x within ∙ ap (λ y. y ∷ drop (i + 1) xs) (sym is) in
    ap (λ ls. ls ++ map text (drop (i + 1) xs)) added ∙ append_assoc old (text x ∷ []) (map text (drop (i + 1) xs)) ∙ sym (ap (λ ys. old ++ map text ys) front) ∙ h

first_piece : (ns : List ℕ) (i : ℕ) → i < length ns → drop i ns ≡ slice_index ns i ∷ drop (i + 1) ns
first_piece ns i within = drop_more ns i 0 within

pub first_fits : (ns : List ℕ) (i : ℕ) (rest : List ℕ) → i < length ns → sum (drop i ns) ≡ length rest → slice_index ns i ≤ length rest
first_fits ns i rest within all = let front = sum_by-drop_more (λ n. n) ns i 0 within in omega (arith, front, all)

pub rest_sum : (ns : List ℕ) (i : ℕ) (rest more : List ℕ) → i < length ns → more ≡ drop (slice_index ns i) rest → sum (drop i ns) ≡ length rest → sum (drop (i + 1) ns) ≡ length more
rest_sum ns i rest more within is all =
    let front = sum_by-drop_more (λ n. n) ns i 0 within in
    let many = ap length is in
    omega (arith, front, many, length-drop (slice_index ns i) rest, all)

pub piece_more : (ns : List ℕ) (i : ℕ) (rest more : List ℕ) (out new whole : List Token) → i < length ns → new ≡ out ++ token.string (take (slice_index ns i) rest) ∷ [] → more ≡ drop (slice_index ns i) rest
    → Rest out (item_tokens (line_items (pieces (drop i ns) rest))) whole → Rest new (item_tokens (line_items (pieces (drop (i + 1) ns) more))) whole
piece_more ns i rest more out new whole within added is h =
    let n = slice_index ns i in
    ap₂ (λ ts xs. ts ++ item_tokens (line_items (pieces (drop (i + 1) ns) xs))) added is
    ∙ append_assoc out (token.string (take n rest) ∷ []) (item_tokens (line_items (pieces (drop (i + 1) ns) (drop n rest))))
    ∙ sym (ap (λ xs. out ++ item_tokens (line_items (pieces xs rest))) (first_piece ns i within))
    ∙ h

-- a piece of its own length is added
pub piece_added : (ns text line : List ℕ) → sum ns ≡ length text → pieces (ns ++ length line ∷ []) (text ++ line) ≡ pieces ns text ++ line ∷ []
piece_added [] [] line all = ap (λ l. l ∷ []) (take_all (length line) line (omega arith))
piece_added [] (c ∷ text) line all = absurd (omega (arith, all))
piece_added (n ∷ ns) text line all =
    let first = sum_by-cons (λ m. m) n ns in
    let few : n ≤ length text = omega (arith, first, all) in
    ap₂ (λ x xs. x ∷ xs) (take-append-le n text line few)
    (ap (pieces (ns ++ length line ∷ [])) (drop-append-le n text line few) ∙ piece_added ns (drop n text) line (omega (arith, first, few, all, length-drop n text)))

drop_at : {X : Type 0} (xs : List X) (i : ℕ) (x : X) → slice_get xs i ≡ Some x → drop i xs ≡ x ∷ drop (i + 1) xs
drop_at xs i x at = drop_more xs i x (slice_get_within xs i x at) ∙ ap (λ y. y ∷ drop (i + 1) xs) (get_or_from_slice_get xs i x x at)

pub checkable_more : (i : ℕ) (cs : List PlainCheck) (all : List (List (List ℕ))) (c : PlainCheck) (lines : List (List ℕ)) (out new whole : List Token) → slice_get cs i ≡ Some c → slice_get all i ≡ Some lines
    → new ≡ out ++ tokens_of (saved_data (saved_as c lines)) → Rest out (item_tokens (saved_items (saved_among (drop i cs) (drop i all)))) whole
    → Rest new (item_tokens (saved_items (saved_among (drop (i + 1) cs) (drop (i + 1) all)))) whole
checkable_more i cs all c lines out new whole is are added rest =
    let more = item_tokens (saved_items (saved_among (drop (i + 1) cs) (drop (i + 1) all))) in
    ap (λ ts. ts ++ more) added
    ∙ append_assoc out (tokens_of (saved_data (saved_as c lines))) more
    ∙ sym (ap₂ (λ xs ys. out ++ item_tokens (saved_items (saved_among xs ys))) (drop_at cs i c is) (drop_at all i lines are))
    ∙ rest

-- Arrays and objects.

pub array_begun : (out new : List Token) (ds : Items) → new ≡ out ++ token.begin_array ∷ [] → Rest new (item_tokens ds) (out ++ tokens_of (array ds))
array_begun out new ds e = ap (λ ts. ts ++ item_tokens ds) e ∙ append_assoc out (token.begin_array ∷ []) (item_tokens ds)

regroup : (o : List Token) (a k l z : Token) (xs ys : List Token) → (((((o ++ a ∷ []) ++ k ∷ []) ++ xs) ++ l ∷ []) ++ ys) ++ z ∷ [] ≡ o ++ (a ∷ k ∷ (xs ++ (l ∷ (ys ++ z ∷ []))))
regroup o a k l z xs ys = simp append_assoc

pub object_written : (o0 o1 o2 o3 o4 o5 o6 : List Token) (k l : Token) (xs ys : List Token) → o1 ≡ o0 ++ token.begin_object ∷ [] → o2 ≡ o1 ++ k ∷ [] → o3 ≡ o2 ++ xs → o4 ≡ o3 ++ l ∷ [] → o5 ≡ o4 ++ ys → o6 ≡ o5 ++ token.end_object ∷ []
    → o6 ≡ o0 ++ (token.begin_object ∷ k ∷ (xs ++ (l ∷ (ys ++ token.end_object ∷ []))))
object_written o0 o1 o2 o3 o4 o5 o6 k l xs ys e1 e2 e3 e4 e5 e6 =
    e6
    ∙ ap (λ x. x ++ token.end_object ∷ []) (e5 ∙ ap (λ x. x ++ ys) (e4 ∙ ap (λ x. x ++ l ∷ []) (e3 ∙ ap (λ x. x ++ xs) (e2 ∙ ap (λ x. x ++ k ∷ []) e1))))
    ∙ regroup o0 token.begin_object k l token.end_object xs ys

-- The whole text.

among_lines : (s : PlainSite) (k : ℕ) (cs : List PlainCheck) (hs : Histories) → saved_among cs (lines_from s k hs) ≡ saved_from s k cs hs
among_lines s k [] hs = refl
among_lines s k (c ∷ cs) [] = refl
among_lines s k (c ∷ cs) (h ∷ hs) = ap (λ xs. saved s k c h ∷ xs) (among_lines s (suc k) cs hs)

pub file_text : (s : PlainSite) (lines : List (List (List ℕ))) (hs : Histories) → lines ≡ lines_of s hs → print (tokens_of (state_data (saved_among s.checkables lines))) ++ 10 ∷ [] ≡ state_file s hs
unfolding state_file
file_text s lines hs are =
    ap (λ xs. print (tokens_of (state_data xs)) ++ 10 ∷ []) (ap (saved_among s.checkables) are ∙ among_lines s 0 s.checkables hs) ∙ ap (λ t. t ++ 10 ∷ []) (print-outline (state_data (saved_from s 0 s.checkables hs)))
