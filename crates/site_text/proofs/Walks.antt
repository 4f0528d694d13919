-- What an open bracket adds to what is left.
use Rattle.std.proofs.Common.{◌≡◌, ℕ, ◌+◌, ◌<◌, suc, Bool, true, false, List, [], ◌∷◌, ◌++◌, Vec, Global, refl, sym, ap, ◌∙◌, append_assoc, append-nil, arith, Result, Ok, Err, OnOk}
use Rattle.site_base.specs.Data.{Data}
use Rattle.site_base.specs.Quoted.{quoted}
use Rattle.site_base.specs.View.{view, items_view, pairs_view}
use Rattle.site_base.specs.declared.tree.Tree.{Tree, List as Listed, Dict}
use Rattle.site_base.specs.declared.tree.Tree as tree
use Rattle.site_base.proofs.Views.{view-List, view-Dict}
use Rattle.site_text.specs.Listing.{comma_if, tree_text, items_text, pairs_text}
use Rattle.site_text.specs.Walk.{open_text, open_weight, opened_text, opened_weight, weight, items_weight, pairs_weight}
use Rattle.site_text.specs.declared.walk.Open.{Open}

pub opened_more : (os : List Open) (o : Open) → opened_text (os ++ o ∷ []) ≡ open_text o ++ opened_text os
opened_more [] o = sym (append-nil (open_text o))
opened_more (p ∷ os) o = ap (λ xs. xs ++ open_text p) (opened_more os o) ∙ append_assoc (open_text o) (opened_text os) (open_text p)

pub weight_more : (os : List Open) (o : Open) → opened_weight (os ++ o ∷ []) ≡ open_weight o + opened_weight os
weight_more [] o = omega arith
weight_more (p ∷ os) o = omega (arith, weight_more os o)

-- a bracket that is opened, and what then is left
begun : (b : ℕ) (out text : List ℕ) (os : List Open) (o : Open) (t : Tree) → tree_text (view t) ≡ b ∷ text → open_text o ≡ text → (out ++ b ∷ []) ++ opened_text (os ++ o ∷ []) ≡ out ++ (tree_text (view t) ++ opened_text os)
begun b out text os o t whole is =
    append_assoc out (b ∷ []) (opened_text (os ++ o ∷ []))
    ∙ (ap (λ xs. out ++ b ∷ xs) (opened_more os o ∙ ap (λ xs. xs ++ opened_text os) is) ∙ sym (ap (λ xs. out ++ (xs ++ opened_text os)) whole))

pub list_begun : (out : List ℕ) (os : List Open) (o : Open) (t : Tree) (v : Vec Tree Global) → t ≡ tree.List v → open_text o ≡ items_text false (items_view v.items) → (out ++ 91 ∷ []) ++ opened_text (os ++ o ∷ []) ≡ out ++ (tree_text (view t) ++ opened_text os)
list_begun out os o t v is text = begun 91 out (items_text false (items_view v.items)) os o t (ap tree_text (ap view is ∙ view-List v)) text

pub dict_begun : (out : List ℕ) (os : List Open) (o : Open) (t : Tree) (v : Vec (List ℕ × Tree) Global) → t ≡ tree.Dict v → open_text o ≡ pairs_text false (pairs_view v.items)
    → (out ++ 123 ∷ []) ++ opened_text (os ++ o ∷ []) ≡ out ++ (tree_text (view t) ++ opened_text os)
dict_begun out os o t v is text = begun 123 out (pairs_text false (pairs_view v.items)) os o t (ap tree_text (ap view is ∙ view-Dict v)) text

pub list_weighs : (os : List Open) (o : Open) (t : Tree) (v : Vec Tree Global) → t ≡ tree.List v → open_weight o ≡ items_weight (items_view v.items) → opened_weight (os ++ o ∷ []) ≡ weight (view t) + opened_weight os
list_weighs os o t v is w = weight_more os o ∙ ap (λ n. n + opened_weight os) (w ∙ sym (ap weight (ap view is ∙ view-List v)))

pub dict_weighs : (os : List Open) (o : Open) (t : Tree) (v : Vec (List ℕ × Tree) Global) → t ≡ tree.Dict v → open_weight o ≡ pairs_weight (pairs_view v.items) → opened_weight (os ++ o ∷ []) ≡ weight (view t) + opened_weight os
dict_weighs os o t v is w = weight_more os o ∙ ap (λ n. n + opened_weight os) (w ∙ sym (ap weight (ap view is ∙ view-Dict v)))

-- what comes next in an open bracket, and what then is left
pub item_next : (out : List ℕ) (later : Bool) (os : List Open) (o : Open) (items rest : List Tree) (first : Tree) → items ≡ first ∷ rest → open_text o ≡ items_text true (items_view rest)
    → (out ++ comma_if later) ++ (tree_text (view first) ++ opened_text (os ++ o ∷ [])) ≡ out ++ (items_text later (items_view items) ++ opened_text os)
item_next out later os o items rest first parts left =
    let comma : List ℕ = comma_if later in
    let text : List ℕ = tree_text (view first) in
    let more : List ℕ = items_text true (items_view rest) in
    let below : List ℕ = opened_text os in
    append_assoc out comma (text ++ opened_text (os ++ o ∷ []))
    ∙ ap (λ xs. out ++ xs)
    (ap (λ xs. comma ++ (text ++ xs)) (opened_more os o ∙ ap (λ xs. xs ++ below) left)
    ∙ sym (ap (λ ts. items_text later (items_view ts) ++ below) parts ∙ (append_assoc comma (text ++ more) below ∙ ap (λ xs. comma ++ xs) (append_assoc text more below))))

pub pair_next : (out : List ℕ) (later : Bool) (os : List Open) (o : Open) (pairs rest : List (List ℕ × Tree)) (first : List ℕ × Tree) → pairs ≡ first ∷ rest → open_text o ≡ pairs_text true (pairs_view rest)
    → (out ++ (comma_if later ++ (quoted first.0 ++ 58 ∷ []))) ++ (tree_text (view first.1) ++ opened_text (os ++ o ∷ [])) ≡ out ++ (pairs_text later (pairs_view pairs) ++ opened_text os)
pair_next out later os o pairs rest first parts left =
    let comma : List ℕ = comma_if later in
    let key : List ℕ = quoted first.0 in
    let text : List ℕ = tree_text (view first.1) in
    let more : List ℕ = pairs_text true (pairs_view rest) in
    let below : List ℕ = opened_text os in
    append_assoc out (comma ++ (key ++ 58 ∷ [])) (text ++ opened_text (os ++ o ∷ []))
    ∙ ap (λ xs. out ++ xs)
    (append_assoc comma (key ++ 58 ∷ []) (text ++ opened_text (os ++ o ∷ []))
    ∙ (ap (λ xs. comma ++ xs) (append_assoc key (58 ∷ []) (text ++ opened_text (os ++ o ∷ [])))
    ∙ (ap (λ xs. comma ++ (key ++ 58 ∷ (text ++ xs))) (opened_more os o ∙ ap (λ xs. xs ++ below) left)
    ∙ sym (ap (λ ts. pairs_text later (pairs_view ts) ++ below) parts
    ∙ (append_assoc comma (key ++ 58 ∷ (text ++ more)) below
    ∙ ap (λ xs. comma ++ xs) (append_assoc key (58 ∷ (text ++ more)) below ∙ ap (λ xs. key ++ 58 ∷ xs) (append_assoc text more below)))))))

pub item_weighs : (os : List Open) (o : Open) (items rest : List Tree) (first : Tree) → items ≡ first ∷ rest → open_weight o ≡ items_weight (items_view rest) → weight (view first) + opened_weight (os ++ o ∷ []) < items_weight (items_view items) + opened_weight os
item_weighs os o items rest first parts left =
    let whole : items_weight (items_view items) ≡ suc (weight (view first) + items_weight (items_view rest)) = ap (λ ts. items_weight (items_view ts)) parts in
    omega (arith, whole, left, weight_more os o)

pub pair_weighs : (os : List Open) (o : Open) (pairs rest : List (List ℕ × Tree)) (first : List ℕ × Tree) → pairs ≡ first ∷ rest → open_weight o ≡ pairs_weight (pairs_view rest) → weight (view first.1) + opened_weight (os ++ o ∷ []) < pairs_weight (pairs_view pairs) + opened_weight os
pair_weighs os o pairs rest first parts left =
    let whole : pairs_weight (pairs_view pairs) ≡ suc (weight (view first.1) + pairs_weight (pairs_view rest)) = ap (λ ts. pairs_weight (pairs_view ts)) parts in
    omega (arith, whole, left, weight_more os o)

-- what follows from what a call gave
pub on_ok : {A E P Q : Type 0} (r : Result A E) → (P → Q) → OnOk r P → OnOk r Q
on_ok (Ok x) f h = f h
on_ok (Err e) f h = tt
