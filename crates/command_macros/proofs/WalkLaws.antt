-- What an open array adds to what is left.
use Rattle.std.proofs.Common.{◌≡◌, ℕ, ◌+◌, ◌<◌, suc, Bool, true, false, List, [], ◌∷◌, ◌++◌, Vec, Global, refl, sym, ap, ◌∙◌, arith, Result, Ok, Err, OnOk}
use Rattle.site_base.specs.View.{view, items_view}
use Rattle.site_base.specs.declared.tree.Tree.{Tree}
use Rattle.command_macros.specs.Made.{Made, made, missing, behind, followed}
use Rattle.command_macros.specs.Values.{value_made}
use Rattle.command_macros.specs.Walk.{semicolon_if, left_made, open_made, opened_made, open_weight, opened_weight, weight, items_weight}
use Rattle.command_macros.specs.declared.texts.Open.{Open}
use Rattle.site_base.specs.declared.tree.Tree as tree
use Rattle.command_macros.specs.Values.{items_made}
use Rattle.command_macros.proofs.MadeLaws.{behind_nothing, behind_both, behind_followed, followed_both, followed_end}
use Rattle.command_macros.proofs.TreeViews.{view_list}

module _ (text : List ℕ → Made) (nothing : Made) where
  pub opened_more : (os : List Open) (o : Open) → opened_made text nothing (os ++ o ∷ []) ≡ followed (open_made text nothing o) (opened_made text nothing os)
  opened_more [] o = behind_nothing (open_made text nothing o) ∙ sym (followed_end (open_made text nothing o))
  opened_more (p ∷ os) o =
      ap (λ m. followed m (open_made text nothing p)) (opened_more os o)
      ∙ followed_both (open_made text nothing o) (opened_made text nothing os) (open_made text nothing p)

  -- the first item of what is left
  pub left_next : (later : Bool) (items rest : List Tree) (first : Tree) → items ≡ first ∷ rest
      → left_made text nothing later (items_view items) ≡ behind (semicolon_if later) (followed (value_made text nothing (view first)) (left_made text nothing true (items_view rest)))
  left_next false items rest first e =
      ap (λ ts. left_made text nothing false (items_view ts)) e
      ∙ sym (behind_nothing (followed (value_made text nothing (view first)) (left_made text nothing true (items_view rest))))
  left_next true items rest first e =
      ap (λ ts. left_made text nothing true (items_view ts)) e
      ∙ sym (behind_followed (semicolon_if true) (value_made text nothing (view first)) (left_made text nothing true (items_view rest)))

  pub left_none : (later : Bool) (items : List Tree) → items ≡ [] → left_made text nothing later (items_view items) ≡ made []
  left_none false items e = ap (λ ts. left_made text nothing false (items_view ts)) e
  left_none true items e = ap (λ ts. left_made text nothing true (items_view ts)) e

  -- an array that is begun
  pub list_begun : (os : List Open) (o : Open) (t : Tree) (v : Vec Tree Global) → t ≡ tree.List v → open_made text nothing o ≡ items_made text nothing (items_view v.items)
      → opened_made text nothing (os ++ o ∷ []) ≡ followed (value_made text nothing (view t)) (opened_made text nothing os)
  list_begun os o t v is e =
      opened_more os o ∙ ap (λ m. followed m (opened_made text nothing os)) (e ∙ sym (ap (value_made text nothing) (ap view is ∙ view_list v)))

  -- an array with an item
  pub item_next : (out mid : List ℕ) (later : Bool) (os news : List Open) (o : Open) (items rest : List Tree) (first : Tree) → mid ≡ out ++ semicolon_if later → items ≡ first ∷ rest
      → open_made text nothing o ≡ left_made text nothing true (items_view rest) → news ≡ os ++ o ∷ []
      → behind mid (followed (value_made text nothing (view first)) (opened_made text nothing news)) ≡ behind out (followed (left_made text nothing later (items_view items)) (opened_made text nothing os))
  item_next out mid later os news o items rest first m e left n =
      let value : Made = value_made text nothing (view first) in
      let more : Made = left_made text nothing true (items_view rest) in
      let below : Made = opened_made text nothing os in
      let comma : List ℕ = semicolon_if later in
      ap (λ x. behind x (followed value (opened_made text nothing news))) m
      ∙ (ap (λ x. behind (out ++ comma) (followed value x)) (ap (opened_made text nothing) n ∙ (opened_more os o ∙ ap (λ x. followed x below) left))
      ∙ (sym (behind_both out comma (followed value (followed more below)))
      ∙ ap (behind out)
      (ap (behind comma) (sym (followed_both value more below))
      ∙ (behind_followed comma (followed value more) below ∙ ap (λ x. followed x below) (sym (left_next later items rest first e))))))

pub weight_more : (os : List Open) (o : Open) → opened_weight (os ++ o ∷ []) ≡ open_weight o + opened_weight os
weight_more [] o = omega arith
weight_more (p ∷ os) o = omega (arith, weight_more os o)

pub list_weighs : (os : List Open) (o : Open) (t : Tree) (v : Vec Tree Global) → t ≡ tree.List v → open_weight o ≡ items_weight (items_view v.items) → opened_weight (os ++ o ∷ []) ≡ weight (view t) + opened_weight os
list_weighs os o t v is w = weight_more os o ∙ ap (λ n. n + opened_weight os) (w ∙ sym (ap weight (ap view is ∙ view_list v)))

pub item_weighs : (os : List Open) (o : Open) (items rest : List Tree) (first : Tree) → items ≡ first ∷ rest → open_weight o ≡ items_weight (items_view rest) → weight (view first) + opened_weight (os ++ o ∷ []) < items_weight (items_view items) + opened_weight os
item_weighs os o items rest first parts left =
    let whole : items_weight (items_view items) ≡ suc (weight (view first) + items_weight (items_view rest)) = ap (λ ts. items_weight (items_view ts)) parts in
    omega (arith, whole, left, weight_more os o)

-- what follows from what a call gave
pub on_ok : {A E P Q : Type 0} (r : Result A E) → (P → Q) → OnOk r P → OnOk r Q
on_ok (Ok x) f h = f h
on_ok (Err e) f h = tt
