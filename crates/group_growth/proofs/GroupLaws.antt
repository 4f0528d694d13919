-- Names that are added one after another are added together.
use Rattle.std.proofs.Common.{◌≡◌, ℕ, List, [], ◌∷◌, ◌++◌, Bool, true, false, cond, Vec, Global, rules, refl, sym, ap, ◌∙◌}
use Rattle.std.specs.declared.cmp.Ordering.{Ordering}
use Rattle.std.specs.declared.cmp.Ordering.TheVariants.{Less, Equal, Greater}
use Rattle.site_base.specs.Data as tree
use Rattle.site_base.specs.Data.{Data, Items, Pairs, no_pairs, pair, no_items}
use Rattle.site_base.specs.View.{view, items_view, pairs_view}
use Rattle.site_base.specs.declared.tree.Tree.{Tree, the_lemmas}
use Rattle.site_base.specs.declared.tree.Tree.TheVariants as trees
use Rattle.object_types.specs.Names.{attribute_name}
use Rattle.object_types.specs.declared.attribute.Attribute.TheVariants as attribute
use Rattle.dsl_value.specs.Pairs.{key_cmp}
use Rattle.commit_meaning.specs.Groups.{put_by, tree_grown, with_pair, items_of, items_under, has_string, with_last, with_groups}
use Rattle.group_growth.specs.Adding.{any_missing, with_names}
use Rattle.group_growth.proofs.Keys.{itself, own, other}

-- ---- a pair that was put in

-- what stands under its key
pub under_put : (k : List ℕ) (d : Data) (ps : Pairs) → items_under k (with_pair k d ps) ≡ items_of d
under_put k d no_pairs = ap (λ b. cond b (items_of d) no_items) (own k)
under_put k d (pair j e ps) = by (under_put k d ps) (key_cmp k j) refl
  where
    by : items_under k (with_pair k d ps) ≡ items_of d → (o : Ordering) → key_cmp k j ≡ o → items_under k (put_by o k d j e ps (with_pair k d ps)) ≡ items_of d
    by rest Less h = ap (λ b. cond b (items_of d) (items_under k (pair j e ps))) (own k)
    by rest Equal h = ap (λ b. cond b (items_of d) (items_under k ps)) (own k)
    by rest Greater h = ap (λ b. cond b (items_of e) (items_under k (with_pair k d ps))) (other j k h) ∙ rest

-- and another one in its place
pub put_twice : (k : List ℕ) (c d : Data) (ps : Pairs) → with_pair k d (with_pair k c ps) ≡ with_pair k d ps
put_twice k c d no_pairs = ap (λ o. put_by o k d k c no_pairs (with_pair k d no_pairs)) (itself k)
put_twice k c d (pair j e ps) = by (put_twice k c d ps) (key_cmp k j) refl
  where
    by : with_pair k d (with_pair k c ps) ≡ with_pair k d ps → (o : Ordering) → key_cmp k j ≡ o → with_pair k d (put_by o k c j e ps (with_pair k c ps)) ≡ put_by o k d j e ps (with_pair k d ps)
    by rest Less h = ap (λ o. put_by o k d k c (pair j e ps) (with_pair k d (pair j e ps))) (itself k)
    by rest Equal h = ap (λ o. put_by o k d k c ps (with_pair k d ps)) (itself k)
    by rest Greater h = ap (λ o. put_by o k d j e (with_pair k c ps) (with_pair k d (with_pair k c ps))) h ∙ ap (pair j e) rest

-- ---- names

-- a name that is pushed
pub last_is : (n : List ℕ) (ts : List Tree) (t : Tree) → view t ≡ tree.string n → items_view (ts ++ t ∷ []) ≡ with_last n (items_view ts)
last_is n [] t e = ap (λ d. tree.item d no_items) e
last_is n (x ∷ ts) t e = ap (tree.item (view x)) (last_is n ts t e)

pub none_missing : (ns : List (List ℕ)) (ds : Items) → any_missing ns ds ≡ false → with_names ns ds ≡ ds
none_missing [] ds h = refl
none_missing (n ∷ ns) ds h = by (none_missing ns ds) (has_string n ds) h
  where
    by : (any_missing ns ds ≡ false → with_names ns ds ≡ ds) → (b : Bool) → cond b (any_missing ns ds) true ≡ false → with_names ns (cond b ds (with_last n ds)) ≡ ds
    by rest true e = rest e
    by rest false e = absurd cc

abbrev pub key : List ℕ
key = attribute_name attribute.Groups

abbrev pub put_all : Items → Pairs → Pairs
put_all ds ps = with_pair key (tree.list ds) ps

-- all names together
module _ (ns : List (List ℕ)) (more : Items) (ps : Pairs) where
  last_step : (b : Bool) → any_missing ns more ≡ b → cond b (put_all (with_names ns more) (put_all more ps)) (put_all more ps) ≡ put_all (with_names ns more) ps
  last_step true h = put_twice key (tree.list more) (tree.list (with_names ns more)) ps
  last_step false h = ap (λ ds. put_all ds ps) (sym (none_missing ns more h))

abbrev pub Together : List (List ℕ) → Pairs → Type 0
Together ns ps = with_groups ns ps ≡ cond (any_missing ns (items_under key ps)) (put_all (with_names ns (items_under key ps)) ps) ps

pub together : (ns : List (List ℕ)) (ps : Pairs) → Together ns ps
together [] ps = refl
together (n ∷ ns) ps = by (λ qs. together ns qs) (has_string n (items_under key ps))
  where
    by : ((qs : Pairs) → Together ns qs) → (b : Bool)
        → with_groups ns (cond b ps (put_all (with_last n (items_under key ps)) ps)) ≡ cond (cond b (any_missing ns (items_under key ps)) true) (put_all (with_names ns (cond b (items_under key ps) (with_last n (items_under key ps)))) ps) ps
    by rest true = rest ps
    by rest false =
        rest (put_all (with_last n (items_under key ps)) ps)
        ∙ ap (λ ds. cond (any_missing ns ds) (put_all (with_names ns ds) (put_all (with_last n (items_under key ps)) ps)) (put_all (with_last n (items_under key ps)) ps)) (under_put key (tree.list (with_last n (items_under key ps))) ps)
        ∙ last_step ns (with_last n (items_under key ps)) ps (any_missing ns (with_last n (items_under key ps))) refl

-- ---- trees

seen : (v : Vec (List ℕ × Tree) Global) → view (trees.Dict v) ≡ tree.dict (pairs_view v.items)
seen v = search (rules, the_lemmas)

-- a dictionary whose pairs have more groups
pub grown_dict : (ns : List (List ℕ)) (v w : Vec (List ℕ × Tree) Global) → pairs_view w.items ≡ with_groups ns (pairs_view v.items) → view (trees.Dict w) ≡ tree_grown ns (view (trees.Dict v))
grown_dict ns v w h = seen w ∙ ap (λ ps. tree.dict ps) h ∙ sym (ap (tree_grown ns) (seen v))
