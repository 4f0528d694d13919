-- The members of user groups, gathered one by one.
use Rattle.std.proofs.Common.{◌≡◌, ℕ, zero, suc, ◌+◌, ◌<◌, Bool, true, false, cond, List, [], ◌∷◌, ◌++◌, length, map, drop, get_or, slice_get, Option, Some, None, refl, sym, ap, ◌∙◌, append_assoc, append-nil, arith, subst, length-append, length-set, set}
use Rattle.std.specs.Borrow.{Bor}
use Rattle.std.specs.List.{cons_option, filter}
use Rattle.std.specs.Option.{option_and_then, option_map, option_to_list}
use Rattle.std.specs.Str.{bytes_eq}
use Rattle.std.proofs.lemmas.Slice.Eq.{bytes_eq-Decides}
use Rattle.std.specs.Arc.{arc_value}
use Rattle.site_base.specs.View.{items_view, view}
use Rattle.site_base.specs.declared.tree.Tree.{Tree}
use Rattle.site_model.specs.Names.{place_of}
use Rattle.site_model.specs.PlainSite.{object_view}
use Rattle.site_model.specs.declared.object.Object.{Object}
use Rattle.object_types.specs.declared.attribute.Attribute.TheVariants as attribute
use Rattle.object_types.specs.declared.object_type.ObjectType.TheVariants as object
use Rattle.object_values.specs.Values.{names_at, string_of, texts_of}
use Rattle.conf_check.proofs.PlaceLaws.{place_first}
use Rattle.object_lists.specs.Listed.{lent_view}
use Rattle.object_lists.specs.Members.{AreMembers, list_at, list_or_none, list_under}
use Rattle.object_lists.specs.Users.{in_groups, members, memberships_from}
use Rattle.object_lists.specs.declared.members.Members.{Members}
use Rattle.object_lists.proofs.Steps.{next, texts_next}

-- The list under a name.

under_first : (k x : List ℕ) (names : List (List ℕ)) (q : List ℕ) (lists : List (List ℕ)) → list_under (x ∷ names) (q ∷ lists) k ≡ cond (bytes_eq k x) q (list_under names lists k)
under_first k x names q lists = ap (λ p. list_or_none (option_and_then (slice_get (q ∷ lists)) p)) (place_first k x names) ∙ by (bytes_eq k x) (place_of k names)
  where
    by : (b : Bool) (p : Option ℕ) → list_or_none (option_and_then (slice_get (q ∷ lists)) (cond b (Some 0) (option_map suc p))) ≡ cond b q (list_or_none (option_and_then (slice_get lists) p))
    by true p = refl
    by false None = refl
    by false (Some j) = refl

-- one more name with no list changes nothing
under_new : (n k : List ℕ) (names lists : List (List ℕ)) → length lists ≡ length names → list_under (names ++ n ∷ []) (lists ++ [] ∷ []) k ≡ list_under names lists k
under_new n k [] [] level = under_first k n [] [] [] ∙ by (bytes_eq k n)
  where
    by : (b : Bool) → cond b [] (list_under [] [] k) ≡ list_under [] [] k
    by true = refl
    by false = refl
under_new n k [] (q ∷ lists) level = absurd (cc)
under_new n k (x ∷ names) [] level = absurd (cc)
under_new n k (x ∷ names) (q ∷ lists) level =
    under_first k x (names ++ n ∷ []) q (lists ++ [] ∷ []) ∙ ap (cond (bytes_eq k x) q) (under_new n k names lists (omega arith)) ∙ sym (under_first k x names q lists)

-- a number behind the list of a name
under_set : (n k : List ℕ) (u : ℕ) (names lists : List (List ℕ)) (p : ℕ) → length lists ≡ length names → place_of n names ≡ Some p
    → list_under names (set lists p (list_at lists p ++ u ∷ [])) k ≡ list_under names lists k ++ cond (bytes_eq k n) (u ∷ []) []
under_set n k u [] lists p level there = absurd (cc)
under_set n k u (x ∷ names) [] p level there = absurd (cc)
under_set n k u (x ∷ names) (q ∷ lists) p level there = by (λ j e. under_set n k u names lists j (omega arith) e) (bytes_eq n x) refl (sym (place_first n x names) ∙ there)
  where
    same : bytes_eq n x ≡ true → (b : Bool) → bytes_eq k x ≡ b → cond b (q ++ u ∷ []) (list_under names lists k) ≡ cond b q (list_under names lists k) ++ cond (bytes_eq k n) (u ∷ []) []
    same is b e =
        let here : bytes_eq k n ≡ b = ap (bytes_eq k) ((bytes_eq-Decides n x).0 is) ∙ e in
        then b ∙ sym (ap (λ c. cond b q (list_under names lists k) ++ cond c (u ∷ []) []) here)
      where
        then : (b : Bool) → cond b (q ++ u ∷ []) (list_under names lists k) ≡ cond b q (list_under names lists k) ++ cond b (u ∷ []) []
        then true = refl
        then false = sym (append-nil (list_under names lists k))

    other : bytes_eq n x ≡ false → (b : Bool) → bytes_eq k x ≡ b → cond b q (list_under names lists k ++ cond (bytes_eq k n) (u ∷ []) []) ≡ cond b q (list_under names lists k) ++ cond (bytes_eq k n) (u ∷ []) []
    other is false e = refl
    other is true e =
        let not_here : bytes_eq k n ≡ false = ap (λ m. bytes_eq m n) ((bytes_eq-Decides k x).0 e) ∙ back (bytes_eq x n) refl in
        sym (append-nil q) ∙ sym (ap (λ c. q ++ cond c (u ∷ []) []) not_here)
      where
        back : (c : Bool) → bytes_eq x n ≡ c → bytes_eq x n ≡ false
        back false h = h
        back true h = let turned : bytes_eq n x ≡ true = (bytes_eq-Decides n x).1 (sym ((bytes_eq-Decides x n).0 h)) in absurd (cc)

    deep : ((j : ℕ) → place_of n names ≡ Some j → list_under names (set lists j (list_at lists j ++ u ∷ [])) k ≡ list_under names lists k ++ cond (bytes_eq k n) (u ∷ []) [])
        → bytes_eq n x ≡ false → (o : Option ℕ) → place_of n names ≡ o → option_map suc o ≡ Some p
        → list_under (x ∷ names) (set (q ∷ lists) p (list_at (q ∷ lists) p ++ u ∷ [])) k ≡ list_under (x ∷ names) (q ∷ lists) k ++ cond (bytes_eq k n) (u ∷ []) []
    deep rest is None e h = absurd (cc)
    deep rest is (Some j) e h =
        let at : suc j ≡ p = cc in
        subst (λ i. list_under (x ∷ names) (set (q ∷ lists) i (list_at (q ∷ lists) i ++ u ∷ [])) k ≡ list_under (x ∷ names) (q ∷ lists) k ++ cond (bytes_eq k n) (u ∷ []) []) at
        (under_first k x names q (set lists j (list_at lists j ++ u ∷ []))
        ∙ ap (cond (bytes_eq k x) q) (rest j e)
        ∙ other is (bytes_eq k x) refl
        ∙ sym (ap (λ l. l ++ cond (bytes_eq k n) (u ∷ []) []) (under_first k x names q lists)))

    by : ((j : ℕ) → place_of n names ≡ Some j → list_under names (set lists j (list_at lists j ++ u ∷ [])) k ≡ list_under names lists k ++ cond (bytes_eq k n) (u ∷ []) [])
        → (b : Bool) → bytes_eq n x ≡ b → cond b (Some 0) (option_map suc (place_of n names)) ≡ Some p
        → list_under (x ∷ names) (set (q ∷ lists) p (list_at (q ∷ lists) p ++ u ∷ [])) k ≡ list_under (x ∷ names) (q ∷ lists) k ++ cond (bytes_eq k n) (u ∷ []) []
    by rest false is h = deep rest is (place_of n names) refl h
    by rest true is h =
        let at : 0 ≡ p = cc in
        subst (λ i. list_under (x ∷ names) (set (q ∷ lists) i (list_at (q ∷ lists) i ++ u ∷ [])) k ≡ list_under (x ∷ names) (q ∷ lists) k ++ cond (bytes_eq k n) (u ∷ []) []) at
        (under_first k x names (q ++ u ∷ []) lists ∙ same is (bytes_eq k x) refl ∙ sym (ap (λ l. l ++ cond (bytes_eq k n) (u ∷ []) []) (under_first k x names q lists)))

-- Memberships.

members_more : (ms : List (List ℕ × ℕ)) (n : List ℕ) (u : ℕ) (k : List ℕ) → members (ms ++ (n, u) ∷ []) k ≡ members ms k ++ cond (bytes_eq k n) (u ∷ []) []
members_more [] n u k = by (bytes_eq k n)
  where
    by : (b : Bool) → map (λ (m : List ℕ × ℕ). m.1) (cond b ((n, u) ∷ []) []) ≡ cond b (u ∷ []) []
    by true = refl
    by false = refl
members_more (m ∷ ms) n u k = by (bytes_eq k m.0) (members_more ms n u k)
  where
    by : (b : Bool) → members (ms ++ (n, u) ∷ []) k ≡ members ms k ++ cond (bytes_eq k n) (u ∷ []) []
        → map (λ (p : List ℕ × ℕ). p.1) (cond b (m ∷ filter (λ (p : List ℕ × ℕ). bytes_eq k p.0) (ms ++ (n, u) ∷ [])) (filter (λ (p : List ℕ × ℕ). bytes_eq k p.0) (ms ++ (n, u) ∷ [])))
        ≡ map (λ (p : List ℕ × ℕ). p.1) (cond b (m ∷ filter (λ (p : List ℕ × ℕ). bytes_eq k p.0) ms) (filter (λ (p : List ℕ × ℕ). bytes_eq k p.0) ms)) ++ cond (bytes_eq k n) (u ∷ []) []
    by true e = ap (λ l. m.1 ∷ l) e
    by false e = e

pub grown : (ms : List (List ℕ × ℕ)) (kept more : Members) (group : List ℕ) (user place : ℕ) → AreMembers ms kept → place_of group kept.names ≡ Some place
    → more.names ≡ kept.names → more.lists.items ≡ set kept.lists.items place (list_at kept.lists.items place ++ user ∷ []) → AreMembers (ms ++ (group, user) ∷ []) more
grown ms kept more group user place are there names lists = record {
  level = ap length lists ∙ length-set kept.lists.items place (list_at kept.lists.items place ++ user ∷ []) ∙ are.level ∙ sym (ap length names);
  lists = λ k.
      ap (λ ns. list_under ns more.lists.items k) names
      ∙ ap (λ ls. list_under kept.names ls k) lists
      ∙ under_set group k user kept.names kept.lists.items place are.level there
      ∙ ap (λ l. l ++ cond (bytes_eq k group) (user ∷ []) []) (are.lists k)
      ∙ sym (members_more ms group user k);
}

pub with_group : (ms : List (List ℕ × ℕ)) (kept more : Members) (group : List ℕ) → AreMembers ms kept → more.names ≡ kept.names ++ group ∷ [] → more.lists.items ≡ kept.lists.items ++ [] ∷ [] → AreMembers ms more
with_group ms kept more group are names lists = record {
  level = ap length lists ∙ length-append kept.lists.items ([] ∷ []) ∙ ap (λ n. n + 1) are.level ∙ sym (length-append kept.names (group ∷ [])) ∙ sym (ap length names);
  lists = λ k.
      ap (λ ns. list_under ns more.lists.items k) names
      ∙ ap (λ ls. list_under (kept.names ++ group ∷ []) ls k) lists
      ∙ under_new group k kept.names kept.lists.items are.level
      ∙ are.lists k;
}

-- The memberships so far, with those of the rest, are all.
pub record AreSoFar (kept : Members) (rest all : List (List ℕ × ℕ)) : Type 0 where
  pub now : List (List ℕ × ℕ)
  pub are : AreMembers now kept
  pub whole : now ++ rest ≡ all

in_first : (user : ℕ) (n : Option (List ℕ)) (ns : List (List ℕ)) → in_groups user (cons_option n ns) ≡ in_groups user (option_to_list n) ++ in_groups user ns
in_first user None ns = refl
in_first user (Some n) ns = refl

pub group_step : (kept more : Members) (user : ℕ) (ts : List Tree) (i : ℕ) (t : Tree) (n : Option (List ℕ)) (all : List (List ℕ × ℕ)) → i < length ts → t ≡ get_or ts i t → n ≡ string_of (view t)
    → ((ms : List (List ℕ × ℕ)) → AreMembers ms kept → AreMembers (ms ++ in_groups user (option_to_list n)) more)
    → AreSoFar kept (in_groups user (texts_of (items_view (drop i ts)))) all → AreSoFar more (in_groups user (texts_of (items_view (drop (i + 1) ts)))) all
group_step kept more user ts i t n all inside same is each so_far =
    let rest = texts_of (items_view (drop (i + 1) ts)) in
    record {
      now = so_far.now ++ in_groups user (option_to_list n);
      are = each so_far.now so_far.are;
      whole =
          append_assoc so_far.now (in_groups user (option_to_list n)) (in_groups user rest)
          ∙ ap (λ ms. so_far.now ++ ms)
          (ap (λ o. in_groups user (option_to_list o) ++ in_groups user rest) is
          ∙ sym (in_first user (string_of (view t)) rest)
          ∙ sym (ap (in_groups user) (texts_next ts i t inside same)))
          ∙ so_far.whole;
    }

pub user_step : (kept more : Members) (users : List (Bor Object)) (i : ℕ) (o : Bor Object) (groups : List (List ℕ)) (all : List (List ℕ × ℕ)) → i < length users → o ≡ get_or users i o
    → groups ≡ names_at object.User attribute.Groups (view (arc_value o.now.tree))
    → ((ms : List (List ℕ × ℕ)) → AreMembers ms kept → AreMembers (ms ++ in_groups i groups) more)
    → AreSoFar kept (memberships_from i (lent_view (drop i users))) all → AreSoFar more (memberships_from (i + 1) (lent_view (drop (i + 1) users))) all
user_step kept more users i o groups all inside same is each so_far =
    let rest = lent_view (drop (i + 1) users) in
    let plus : i + 1 ≡ suc i = omega arith in
    record {
      now = so_far.now ++ in_groups i groups;
      are = each so_far.now so_far.are;
      whole =
          append_assoc so_far.now (in_groups i groups) (memberships_from (i + 1) rest)
          ∙ ap (λ ms. so_far.now ++ ms)
          (ap (λ gs. in_groups i gs ++ memberships_from (i + 1) rest) is
          ∙ ap (λ j. in_groups i (names_at object.User attribute.Groups (view (arc_value o.now.tree))) ++ memberships_from j rest) plus
          ∙ sym (ap (λ os. memberships_from i (lent_view os)) (next users i o inside same)))
          ∙ so_far.whole;
    }

-- the list of a place
pub list_there : (ls : List (List ℕ)) (k : ℕ) (d : List ℕ) → k < length ls → get_or ls k d ≡ list_at ls k
list_there [] k d h = absurd (omega arith)
list_there (l ∷ ls) zero d h = refl
list_there (l ∷ ls) (suc k) d h = list_there ls k d (omega arith)
