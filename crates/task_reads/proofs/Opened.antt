-- What trees are equal by.
use Rattle.std.proofs.Common.{◌≡◌, ◌+◌, ◌*◌, ◌<◌, ℕ, List, [], ◌∷◌, length, Vec, Global, refl, sym, ap, ◌∙◌, arith}
use Rattle.site_base.specs.Data.{Pairs, dict}
use Rattle.site_base.specs.View.{view, items_view, pairs_view}
use Rattle.site_base.specs.Weight.{weight, pairs_weight}
use Rattle.site_base.specs.declared.tree.Tree.{Tree}
use Rattle.site_base.specs.declared.tree.Tree as tree
use Rattle.site_base.proofs.Views.{view-Dict}
use Rattle.site_base.proofs.Weights.{weight_dict}
use Rattle.task_reads.specs.Lefts.{Tells}

same_dict : (ps qs : Pairs) → dict ps ≡ dict qs → ps ≡ qs
same_dict ps qs h = cc

-- two dictionaries are equal if and only if their pairs are
pub dicts : (d e : Tree) (v w : Vec (List ℕ × Tree) Global) (ps qs : List (List ℕ × Tree)) → d ≡ tree.Dict v → e ≡ tree.Dict w → ps ≡ v.items → qs ≡ w.items
    → Tells (pairs_view ps ≡ pairs_view qs) (view d ≡ view e) × (1 + 2 * pairs_weight ps < 2 * weight d)
dicts d e v w ps qs is_d is_e is_ps is_qs =
    let of_d : view d ≡ dict (pairs_view v.items) = ap view is_d ∙ view-Dict v in
    let of_e : view e ≡ dict (pairs_view w.items) = ap view is_e ∙ view-Dict w in
    let weighs : weight d ≡ 1 + pairs_weight v.items = ap weight is_d ∙ weight_dict v in
    let same : pairs_weight ps ≡ pairs_weight v.items = ap pairs_weight is_ps in (
      record {
        there = λ h. of_d ∙ ap dict (sym (ap pairs_view is_ps) ∙ h ∙ ap pairs_view is_qs) ∙ sym of_e;
        back = λ h. ap pairs_view is_ps ∙ same_dict (pairs_view v.items) (pairs_view w.items) (sym of_d ∙ h ∙ of_e) ∙ sym (ap pairs_view is_qs);
      },
      omega (arith, weighs, same),
    )

-- nothing is equal to nothing alone
pub no_items : (xs ys : List Tree) → length xs ≡ 0 → items_view xs ≡ items_view ys → length ys ≡ 0
no_items [] [] none same = refl
no_items [] (y ∷ ys) none same = absurd cc
no_items (x ∷ xs) ys none same = absurd (omega (arith, none))

pub no_pairs : (xs ys : List (List ℕ × Tree)) → length xs ≡ 0 → pairs_view xs ≡ pairs_view ys → length ys ≡ 0
no_pairs [] [] none same = refl
no_pairs [] (y ∷ ys) none same = absurd cc
no_pairs (x ∷ xs) ys none same = absurd (omega (arith, none))
