-- An object joins the groups that it wasn't in.
use Rattle.std.proofs.Common.{◌≡◌, inl, inr, ℕ, List, [], ◌∷◌, Bool, true, false, cond, Some, refl, sym, ap, ◌∙◌, subst}
use Rattle.std.specs.Prelude.{◌||◌}
use Rattle.std.specs.List.{AllByRecursion, IsDistinct}
use Rattle.std.specs.Str.{bytes_eq}
use Rattle.std.specs.declared.cmp.Ordering.{Ordering}
use Rattle.std.specs.declared.cmp.Ordering.TheVariants.{Less, Equal, Greater}
use Rattle.site_base.specs.Data as tree
use Rattle.site_base.specs.Data.{Data, Items, no_items, Pairs, no_pairs, pair}
use Rattle.dsl_value.specs.Pairs.{key_cmp}
use Rattle.object_values.specs.Attributes.{value_under}
use Rattle.commit_meaning.specs.Groups.{has_string, is_string, items_under, put_by, tree_grown, with_groups, with_last, with_pair}
use Rattle.group_growth.specs.Joining.{AreAmong, ObjectsJoin, TakesNames, followed_by, groups_key}
use Rattle.group_growth.proofs.GroupLaws.{under_put}
use Rattle.group_growth.proofs.Keys.{even, own, same}
use Rattle.group_growth.proofs.StringLaws.{last_string}

-- ---- lists with strings behind them

nothing_behind : (ds : Items) → ds ≡ followed_by [] ds
nothing_behind no_items = refl
nothing_behind (tree.item d ds) = ap (tree.item d) (nothing_behind ds)

last_first : (n : List ℕ) (ns : List (List ℕ)) (ds : Items) → followed_by ns (with_last n ds) ≡ followed_by (n ∷ ns) ds
last_first n ns no_items = refl
last_first n ns (tree.item d ds) = ap (tree.item d) (last_first n ns ds)

-- what stood in front is still there
still_there : (n : List ℕ) (ns : List (List ℕ)) (ds : Items) → has_string n ds ≡ true → has_string n (followed_by ns ds) ≡ true
still_there n ns no_items h = absurd cc
still_there n ns (tree.item d ds) h = by (is_string n d) (still_there n ns ds) h
  where
    by : (b : Bool) → (has_string n ds ≡ true → has_string n (followed_by ns ds) ≡ true) → cond b true (has_string n ds) ≡ true → cond b true (has_string n (followed_by ns ds)) ≡ true
    by true rest e = refl
    by false rest e = rest e

-- ---- names that a list lacks

neither_left : (a b : Bool) → (a || b) ≡ false → a ≡ false
neither_left true b h = h
neither_left false b h = refl

neither_right : (a b : Bool) → (a || b) ≡ false → b ≡ false
neither_right true b h = absurd cc
neither_right false b h = h

-- what a list with one string more lacks, the list lacks, and it isn't that string
lacked : (n : List ℕ) (ds : Items) (ms : List (List ℕ)) → AllByRecursion (λ m. has_string m (with_last n ds) ≡ false) ms → AllByRecursion (λ m. has_string m ds ≡ false) ms
lacked n ds [] h = tt
lacked n ds (m ∷ ms) h = (neither_left (has_string m ds) (bytes_eq n m) (sym (last_string m n ds) ∙ h.0), lacked n ds ms h.1)

others : (n : List ℕ) (ds : Items) (ms : List (List ℕ)) → AllByRecursion (λ m. has_string m (with_last n ds) ≡ false) ms → AllByRecursion (λ m. bytes_eq n m ≡ false) ms
others n ds [] h = tt
others n ds (m ∷ ms) h = (neither_right (has_string m ds) (bytes_eq n m) (sym (last_string m n ds) ∙ h.0), others n ds ms h.1)

last_is_there : (n : List ℕ) (ds : Items) → has_string n (with_last n ds) ≡ true
last_is_there n ds = last_string n n ds ∙ by (has_string n ds) (bytes_eq n n) (own n)
  where
    by : (a b : Bool) → b ≡ true → (a || b) ≡ true
    by true b e = refl
    by false b e = e

-- ---- names one after another

none_added : (ds : Items) → TakesNames [] ds ds
unfolding IsDistinct
none_added ds = record { added = []; front = nothing_behind ds; taken = tt; new = tt; once = tt; all = tt }

skipped : (n : List ℕ) (xs ns : List (List ℕ)) → AreAmong xs ns → AreAmong xs (n ∷ ns)
skipped n [] ns h = tt
skipped n (x ∷ xs) ns h = inr h

-- a name that is there already
known : (n : List ℕ) (ns : List (List ℕ)) (ds es : Items) → has_string n ds ≡ true → TakesNames ns ds es → TakesNames (n ∷ ns) ds es
known n ns ds es h g = record {
  added = g.added;
  front = g.front;
  taken = skipped n g.added ns g.taken;
  new = g.new;
  once = g.once;
  all = (ap (has_string n) g.front ∙ still_there n g.added ds h, g.all);
}

-- one that isn't
unknown : (n : List ℕ) (ns : List (List ℕ)) (ds es : Items) → has_string n ds ≡ false → TakesNames ns (with_last n ds) es → TakesNames (n ∷ ns) ds es
unfolding IsDistinct
unknown n ns ds es h g = record {
  added = n ∷ g.added;
  front = g.front ∙ last_first n g.added ds;
  taken = inl (refl, g.taken);
  new = (h, lacked n ds g.added g.new);
  once = (others n ds g.added g.new, g.once);
  all = (ap (has_string n) g.front ∙ still_there n g.added (with_last n ds) (last_is_there n ds), g.all);
}

abbrev groups_in : Pairs → Items
groups_in = items_under groups_key

grows : (ns : List (List ℕ)) (ps : Pairs) → TakesNames ns (groups_in ps) (groups_in (with_groups ns ps))
grows [] ps = none_added (groups_in ps)
grows (n ∷ ns) ps = by (has_string n (groups_in ps)) refl (λ qs. grows ns qs)
  where
    more : Pairs
    more = with_pair groups_key (tree.list (with_last n (groups_in ps))) ps

    by : (b : Bool) → has_string n (groups_in ps) ≡ b → ((qs : Pairs) → TakesNames ns (groups_in qs) (groups_in (with_groups ns qs))) → TakesNames (n ∷ ns) (groups_in ps) (groups_in (with_groups ns (cond b ps more)))
    by true h rest = known n ns (groups_in ps) (groups_in (with_groups ns ps)) h (rest ps)
    by false h rest =
        unknown n ns (groups_in ps) (groups_in (with_groups ns more)) h
        (subst (λ ds. TakesNames ns ds (groups_in (with_groups ns more))) (under_put groups_key (tree.list (with_last n (groups_in ps))) ps) (rest more))

-- ---- other keys

other_key : (k key : List ℕ) (d : Data) (ps : Pairs) → bytes_eq k key ≡ false → value_under key (with_pair k d ps) ≡ value_under key ps
other_key k key d no_pairs h = ap (λ b. cond b (Some d) (value_under key no_pairs)) h
other_key k key d (pair j e ps) h = by (other_key k key d ps h) (key_cmp k j) refl
  where
    by : value_under key (with_pair k d ps) ≡ value_under key ps → (o : Ordering) → key_cmp k j ≡ o → value_under key (put_by o k d j e ps (with_pair k d ps)) ≡ value_under key (pair j e ps)
    by rest Less c = ap (λ b. cond b (Some d) (value_under key (pair j e ps))) h
    by rest Equal c =
        let is : j ≡ k = same j k (even k j c) in
        ap (λ b. cond b (Some d) (value_under key ps)) h ∙ sym (ap (λ x. cond (bytes_eq x key) (Some e) (value_under key ps)) is ∙ ap (λ b. cond b (Some e) (value_under key ps)) h)
    by rest Greater c = ap (λ v. cond (bytes_eq j key) (Some e) v) rest

stays : (ns : List (List ℕ)) (key : List ℕ) (ps : Pairs) → bytes_eq groups_key key ≡ false → value_under key (with_groups ns ps) ≡ value_under key ps
stays [] key ps h = refl
stays (n ∷ ns) key ps h = by (has_string n (groups_in ps)) (λ qs. stays ns key qs h)
  where
    more : Pairs
    more = with_pair groups_key (tree.list (with_last n (groups_in ps))) ps

    by : (b : Bool) → ((qs : Pairs) → value_under key (with_groups ns qs) ≡ value_under key qs) → value_under key (with_groups ns (cond b ps more)) ≡ value_under key ps
    by true rest = rest ps
    by false rest = rest more ∙ other_key groups_key key (tree.list (with_last n (groups_in ps))) ps h

pub objects_join : ObjectsJoin
objects_join o ps names is = (with_groups names ps, ap (λ d. record o { tree = tree_grown names d }) is, record { groups = grows names ps; others = λ key h. stays names key ps h })
