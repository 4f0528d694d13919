-- A state file's text is read back as its value.
use Rattle.std.proofs.Common.{◌≡◌, ℕ, ◌≤◌, List, [], ◌∷◌, ◌++◌, codes, decimal, Option, Some, option_map, option_and_then, refl, sym, ap, ◌∙◌, arith, append-nil}
use Rattle.json.specs.Json as json
use Rattle.json.specs.Json.{if_last}
use Rattle.json.specs.Lex.{tokens}
use Rattle.json.specs.Print.{print}
use Rattle.json.specs.Tree as tree
use Rattle.json.specs.Tree.{json_tokens, HasNumbers, ItemsHaveNumbers}
use Rattle.json.proofs.Printed.Decimals.{IsNumber-decimal}
use Rattle.json.proofs.Printed.Trees.{value-json_tokens, ArePrintable-json_tokens}
use Rattle.serde_json.specs.Data.{Data, Items, no_members, Num, array, object, number, put}
use Rattle.serde_json.specs.Read.{of_json, of_items, number_of, read, max_depth}
use Rattle.serde_json.specs.Written.{compact_text, items_outline, outline}
use Rattle.serde_json.proofs.Numbers.{number_of-decimal}
use Rattle.serde_json.proofs.Texts.{print-outline}
use Rattle.site_keep.specs.Shape.{Saved, line_items, saved_items, state_data}
use Rattle.site_keep.specs.Writing.{tokens_of}
use Rattle.site_keep.proofs.NewlineLaws.{tokens_before_newline}

-- Numbers stand where numbers have to.

line_numbers : (lines : List (List ℕ)) → ItemsHaveNumbers (items_outline (line_items lines))
line_numbers [] = tt
line_numbers (line ∷ lines) = (tt, line_numbers lines)

saved_numbers : (xs : List Saved) → ItemsHaveNumbers (items_outline (saved_items xs))
saved_numbers [] = tt
saved_numbers (x ∷ xs) = ((line_numbers x.lines, (tt, tt)), saved_numbers xs)

state_numbers : (xs : List Saved) → HasNumbers (outline (state_data xs))
state_numbers xs = (saved_numbers xs, (IsNumber-decimal 1 (omega arith), tt))

-- How deep it is.

line_depth : (lines : List (List ℕ)) → tree.items_depth (items_outline (line_items lines)) ≡ 0
line_depth [] = refl
line_depth (line ∷ lines) = rw (line_depth lines) refl

saved_depth : (xs : List Saved) → tree.items_depth (items_outline (saved_items xs)) ≤ 2
saved_depth [] = omega arith
saved_depth (x ∷ xs) = rw (line_depth x.lines) (omega (arith, saved_depth xs))

state_depth : (xs : List Saved) → tree.depth (outline (state_data xs)) ≤ max_depth
state_depth xs = omega (arith, saved_depth xs)

-- What is read of it.

lines_of : (lines : List (List ℕ)) → of_items (items_outline (line_items lines)) ≡ Some (line_items lines)
lines_of [] = refl
lines_of (line ∷ lines) = rw (lines_of lines) refl

saved_of : (xs : List Saved) → of_items (items_outline (saved_items xs)) ≡ Some (saved_items xs)
saved_of [] = refl
saved_of (x ∷ xs) = rw (lines_of x.lines, saved_of xs) refl

-- the value with this version
abbrev versioned : Items → Option Num → Option Data
versioned ds version =
    option_map object (option_and_then (λ d. option_and_then (λ n. Some (put (codes "version") n (put (codes "checkables") d no_members))) (option_map number version)) (Some (array ds)))

state_of : (xs : List Saved) → of_json (outline (state_data xs)) ≡ Some (state_data xs)
state_of xs =
    ap (λ o. option_map object (option_and_then (λ d. option_and_then (λ n. Some (put (codes "version") n (put (codes "checkables") d no_members))) (option_map number (number_of (decimal 1)))) (option_map array o))) (saved_of xs)
    ∙ ap (versioned (saved_items xs)) (number_of-decimal 1 (omega arith))

-- a text with the tokens of a state file has its value
pub read_tokens : (text : List ℕ) (xs : List Saved) → tokens text ≡ tokens_of (state_data xs) → read text ≡ Some (state_data xs)
read_tokens text xs same =
    let j : json.Json = outline (state_data xs) in
    ap (λ ts. option_and_then of_json (option_and_then (λ p. if_last p.0 p.1) (json.value max_depth ts))) (same ∙ sym (append-nil (json_tokens j)))
    ∙ ap (λ r. option_and_then of_json (option_and_then (λ p. if_last p.0 p.1) r)) (value-json_tokens j max_depth [] (state_depth xs))
    ∙ state_of xs

pub read_back : (xs : List Saved) → read (compact_text (state_data xs) ++ 10 ∷ []) ≡ Some (state_data xs)
read_back xs =
    let j : json.Json = outline (state_data xs) in
    let text : compact_text (state_data xs) ≡ print (json_tokens j) = sym (print-outline (state_data xs)) in
    read_tokens (compact_text (state_data xs) ++ 10 ∷ []) xs (ap (λ t. tokens (t ++ 10 ∷ [])) text ∙ tokens_before_newline (json_tokens j) (ArePrintable-json_tokens j (state_numbers xs)))
