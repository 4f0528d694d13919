-- What a store keeps of itself, under each change.
use Rattle.std.proofs.Common.{◌≡◌, ℕ, ◌+◌, ◌-◌, ◌<◌, ◌≤◌, ◌^◌, Bool, true, false, cond, not, List, [], ◌∷◌, ◌++◌, length, get_or, set, slice_get, Some, refl, sym, ap, subst, ◌∙◌, arith, length-append}
use Rattle.std.specs.List.{AllByRecursion, filter}
use Rattle.std.specs.Ordering.{eq_by_cmp, match_ordering}
use Rattle.std.specs.FinMap.Entries as entries
use Rattle.std.specs.declared.cmp.Ordering.TheVariants.{Less, Equal, Greater}
use Rattle.std.proofs.lemmas.List.{append_assoc, set-append_right, get_or-append_right, length-set, append-nil}
use Rattle.std.proofs.lemmas.Option.{get_or_from_slice_get}
use Rattle.std.proofs.lemmas.List.Elements.{All-set, All-from_recursion, recursion_from_All}
use Rattle.dsl_value.specs.declared.value.Value.{Value}
use Rattle.dsl_value.specs.declared.value.Value.TheVariants as value
use Rattle.dsl_value.specs.Pairs.{Pairs, key_cmp, put, dict_of}
use Rattle.dsl_value.proofs.Places.{sorted_put}
use Rattle.dsl_value.specs.Changes.{changed as changed_by, NamesIn}
use Rattle.dsl_value.specs.declared.change.Change.{Change}
use Rattle.dsl_value.specs.declared.change.Change.TheVariants as change
use Rattle.dsl_value.specs.Contents.{PlainCell, array, dict, PlainFunction, Contained, Contents, with_cells, cell_at, pushed, with_value, with_pair, without_pair, IsInOrder}
use Rattle.dsl_value.specs.Parts.{beside}
use Rattle.dsl_value.specs.Whole.{Names, NamesAll, Stands, Captures, IsWhole, IsKept}

module _ {X : Type 0} (P : X → Type 0) where
  pub all_append : (xs ys : List X) → AllByRecursion P xs → AllByRecursion P ys → AllByRecursion P (xs ++ ys)
  all_append [] ys a b = b
  all_append (x ∷ xs) ys a b = (a.0, all_append xs ys a.1 b)

  pub all_set : (xs : List X) (i : ℕ) (x : X) → P x → AllByRecursion P xs → AllByRecursion P (set xs i x)
  all_set xs i x p a = recursion_from_All P _ (All-set P xs i x p (All-from_recursion P xs a))

  pub all_more : (Q : X → Type 0) → ((x : X) → P x → Q x) → (xs : List X) → AllByRecursion P xs → AllByRecursion Q xs
  all_more Q f [] a = tt
  all_more Q f (x ∷ xs) a = (f x a.0, all_more Q f xs a.1)

  all_filter : (p : X → Bool) (xs : List X) → AllByRecursion P xs → AllByRecursion P (filter p xs)
  all_filter p [] a = tt
  all_filter p (x ∷ xs) a = elim (p x) as (λ b. AllByRecursion P (cond b (x ∷ filter p xs) (filter p xs))) [ true ↦ (a.0, all_filter p xs a.1) | false ↦ all_filter p xs a.1 ]

module _ (cells functions more_cells more_functions : ℕ) (le : cells ≤ more_cells) (le_functions : functions ≤ more_functions) where
  names_more : (v : Value) → Names cells functions v → Names more_cells more_functions v
  names_more value.Null n = tt
  names_more (value.Bool b) n = tt
  names_more (value.Number z) n = tt
  names_more (value.Str t) n = tt
  names_more (value.Ref k) n = omega (arith, n, le)
  names_more (value.Func k) n = omega (arith, n, le_functions)

  pairs_more : (ps : Pairs) → NamesAll cells functions ps → NamesAll more_cells more_functions ps
  pairs_more = all_more (λ p. Names cells functions p.1) (λ p. Names more_cells more_functions p.1) (λ p. names_more p.1)

  stands_more : (c : PlainCell) → Stands cells functions c → Stands more_cells more_functions c
  stands_more (array vs) s = all_more (Names cells functions) (Names more_cells more_functions) names_more vs s
  stands_more (dict ps) s = (pairs_more ps s.0, s.1)

  whole_cells : (cs : List PlainCell) → AllByRecursion (Stands cells functions) cs → AllByRecursion (Stands more_cells more_functions) cs
  whole_cells = all_more (Stands cells functions) (Stands more_cells more_functions) stands_more

  whole_functions : (fs : List PlainFunction) → AllByRecursion (Captures cells functions) fs → AllByRecursion (Captures more_cells more_functions) fs
  whole_functions = all_more (Captures cells functions) (Captures more_cells more_functions) (λ f. pairs_more f.captured)

names_put : (cells functions : ℕ) (k : List ℕ) (v : Value) (ps : Pairs) → Names cells functions v → NamesAll cells functions ps → NamesAll cells functions (put k v ps)
names_put cells functions k v [] n a = (n, tt)
names_put cells functions k v (p ∷ ps) n a =
    elim (key_cmp k p.0) as (λ o. NamesAll cells functions (match_ordering o ((k, v) ∷ p ∷ ps) ((p.0, v) ∷ ps) (p ∷ put k v ps))) [
      | Less ↦ (n, a)
      | Equal ↦ (n, a.1)
      | Greater ↦ (a.0, names_put cells functions k v ps n a.1)
    ]

pub stands_put : (cells functions : ℕ) (c : PlainCell) (k : ℕ) (v : Value) → Names cells functions v → Stands cells functions c → Stands cells functions (with_value c k v)
stands_put cells functions (array vs) k v n s = all_set (Names cells functions) vs k v n s
stands_put cells functions (dict ps) k v n s = s

pub stands_pushed : (cells functions : ℕ) (c : PlainCell) (v : Value) → Names cells functions v → Stands cells functions c → Stands cells functions (pushed c v)
stands_pushed cells functions (array vs) v n s = all_append (Names cells functions) vs (v ∷ []) s (n, tt)
stands_pushed cells functions (dict ps) v n s = s

pub stands_set : (cells functions : ℕ) (c : PlainCell) (k : List ℕ) (v : Value) → Names cells functions v → Stands cells functions c → Stands cells functions (with_pair c k v)
stands_set cells functions (array vs) k v n s = s
stands_set cells functions (dict ps) k v n s = (names_put cells functions k v ps n s.0, sorted_put k v ps s.1)

pub stands_removed : (cells functions : ℕ) (c : PlainCell) (k : List ℕ) → Stands cells functions c → Stands cells functions (without_pair c k)
stands_removed cells functions (array vs) k s = s
stands_removed cells functions (dict ps) k s = (all_filter (λ p. Names cells functions p.1) (λ p. not (eq_by_cmp key_cmp k p.0)) ps s.0, entries.is_sorted-where_key key_cmp (λ x. not (eq_by_cmp key_cmp k x)) ps s.1)

pub stands_changed : (cells functions : ℕ) (c : PlainCell) (x : Change) → NamesIn cells functions x → Stands cells functions c → Stands cells functions (changed_by x c)
stands_changed cells functions c (change.Put i v) n s = stands_put cells functions c i v n s
stands_changed cells functions c (change.Push v) n s = stands_pushed cells functions c v n s
stands_changed cells functions c (change.Set k v) n s = stands_set cells functions c k v n s
stands_changed cells functions c (change.Remove k) n s = stands_removed cells functions c k.now s

pub in_order : (cells functions : ℕ) (c : PlainCell) → Stands cells functions c → IsInOrder c
in_order cells functions (array vs) s = tt
in_order cells functions (dict ps) s = s.1

pub stands_at : (cells functions : ℕ) (cs : List PlainCell) (k : ℕ) → k < length cs → AllByRecursion (Stands cells functions) cs → Stands cells functions (cell_at cs k)
stands_at cells functions cs k inside a = All-from_recursion (Stands cells functions) cs a k (array []) inside

-- a cell that isn't among the frozen ones stands among the live ones
pub at_live : (frozen live : List PlainCell) (k : ℕ) → length frozen ≤ k → cell_at (frozen ++ live) k ≡ cell_at live (k - length frozen)
at_live frozen live k le = get_or-append_right frozen live (length frozen) k (array []) refl le

pub set_live : (frozen live : List PlainCell) (k : ℕ) (c : PlainCell) → length frozen ≤ k → set (frozen ++ live) k c ≡ frozen ++ set live (k - length frozen) c
set_live frozen live k c le = set-append_right frozen live (length frozen) k c refl le

-- a live cell takes another content
pub kept_set : (frozen live : Contained) (b k : ℕ) (c : PlainCell) → IsKept frozen live b → b ≤ k → Stands (length (frozen.cells ++ live.cells)) (length (frozen.functions ++ live.functions)) c
    → IsKept frozen (record { cells = set live.cells (k - length frozen.cells) c; functions = live.functions }) b
kept_set frozen live b k c kept le stands =
    let same : set (frozen.cells ++ live.cells) k c ≡ frozen.cells ++ set live.cells (k - length frozen.cells) c = set_live frozen.cells live.cells k c (omega (arith, kept.shared, le)) in
    let long : length (frozen.cells ++ set live.cells (k - length frozen.cells) c) ≡ length (frozen.cells ++ live.cells) = ap length (sym same) ∙ length-set (frozen.cells ++ live.cells) k c in
    record {
      shared = kept.shared;
      base = subst (λ n. b ≤ n) (sym long) kept.base;
      few = subst (λ n. n < 2 ^ 32) (sym long) kept.few;
      few_functions = kept.few_functions;
      whole = record {
        cells = subst (λ n. AllByRecursion (Stands n (length (frozen.functions ++ live.functions))) (frozen.cells ++ set live.cells (k - length frozen.cells) c)) (sym long)
            (subst (AllByRecursion (Stands (length (frozen.cells ++ live.cells)) (length (frozen.functions ++ live.functions)))) same (all_set _ (frozen.cells ++ live.cells) k c stands kept.whole.cells));
        functions = subst (λ n. AllByRecursion (Captures n (length (frozen.functions ++ live.functions))) (frozen.functions ++ live.functions)) (sym long) kept.whole.functions;
      };
    }

one_more : {X : Type 0} (xs ys : List X) (x : X) → (xs ++ ys) ++ x ∷ [] ≡ xs ++ (ys ++ x ∷ [])
one_more [] ys x = refl
one_more (y ∷ xs) ys x = ap (λ zs. y ∷ zs) (one_more xs ys x)

longer : {X : Type 0} (xs : List X) (x : X) → length (xs ++ x ∷ []) ≡ length xs + 1
longer [] x = refl
longer (y ∷ xs) x = omega (arith, longer xs x)

-- cells are added
pub kept_more : (frozen live : Contained) (b : ℕ) (cs : List PlainCell) → IsKept frozen live b → length (frozen.cells ++ live.cells) + length cs < 2 ^ 32
    → AllByRecursion (Stands (length (frozen.cells ++ live.cells) + length cs) (length (frozen.functions ++ live.functions))) cs
    → IsKept frozen (record { cells = live.cells ++ cs; functions = live.functions }) b
kept_more frozen live b cs kept few stands =
    let n = length (frozen.cells ++ live.cells) in
    let m = length (frozen.functions ++ live.functions) in
    let k = n + length cs in
    let same = append_assoc frozen.cells live.cells cs in
    let long : length (frozen.cells ++ (live.cells ++ cs)) ≡ k = ap length (sym same) ∙ length-append (frozen.cells ++ live.cells) cs in
    record {
      shared = kept.shared;
      base = omega (arith, kept.base, long);
      few = omega (arith, few, long);
      few_functions = kept.few_functions;
      whole = record {
        cells = subst (λ j. AllByRecursion (Stands j m) (frozen.cells ++ (live.cells ++ cs))) (sym long)
            (subst (AllByRecursion (Stands k m)) same (all_append (Stands k m) (frozen.cells ++ live.cells) cs (whole_cells n m k m (omega arith) (omega arith) _ kept.whole.cells) stands));
        functions = subst (λ j. AllByRecursion (Captures j m) (frozen.functions ++ live.functions)) (sym long)
            (whole_functions n m k m (omega arith) (omega arith) _ kept.whole.functions);
      };
    }

-- a cell is added
pub kept_added : (frozen live : Contained) (b : ℕ) (c : PlainCell) → IsKept frozen live b → length (frozen.cells ++ live.cells) + 1 < 2 ^ 32 → Stands (length (frozen.cells ++ live.cells)) (length (frozen.functions ++ live.functions)) c
    → IsKept frozen (record { cells = live.cells ++ c ∷ []; functions = live.functions }) b
kept_added frozen live b c kept few stands =
    let n = length (frozen.cells ++ live.cells) in
    let m = length (frozen.functions ++ live.functions) in
    kept_more frozen live b (c ∷ []) kept few (stands_more n m (n + 1) m (omega arith) (omega arith) c stands, tt)

-- a function is added
pub kept_function : (frozen live : Contained) (b : ℕ) (f : PlainFunction) → IsKept frozen live b → length (frozen.functions ++ live.functions) + 1 < 2 ^ 32 → Captures (length (frozen.cells ++ live.cells)) (length (frozen.functions ++ live.functions)) f
    → IsKept frozen (record { cells = live.cells; functions = live.functions ++ f ∷ [] }) b
kept_function frozen live b f kept few captures =
    let n = length (frozen.cells ++ live.cells) in
    let m = length (frozen.functions ++ live.functions) in
    let same = one_more frozen.functions live.functions f in
    let long : length (frozen.functions ++ (live.functions ++ f ∷ [])) ≡ m + 1 = ap length (sym same) ∙ longer (frozen.functions ++ live.functions) f in
    record {
      shared = kept.shared;
      base = kept.base;
      few = kept.few;
      few_functions = omega (arith, few, long);
      whole = record {
        cells = subst (λ k. AllByRecursion (Stands n k) (frozen.cells ++ live.cells)) (sym long) (whole_cells n m n (m + 1) (omega arith) (omega arith) _ kept.whole.cells);
        functions = subst (λ k. AllByRecursion (Captures n k) (frozen.functions ++ (live.functions ++ f ∷ []))) (sym long)
            (subst (AllByRecursion (Captures n (m + 1))) same (all_append (Captures n (m + 1)) (frozen.functions ++ live.functions) (f ∷ [])
            (whole_functions n m n (m + 1) (omega arith) (omega arith) _ kept.whole.functions) (pairs_more n m n (m + 1) (omega arith) (omega arith) f.captured captures, tt)));
      };
    }

pub names_dict : (cells functions : ℕ) (ps sorted : Pairs) → NamesAll cells functions ps → Stands cells functions (dict sorted) → Stands cells functions (dict (dict_of ps sorted))
names_dict cells functions [] sorted a s = s
names_dict cells functions (p ∷ ps) sorted a s = names_dict cells functions ps (put p.0 p.1 sorted) a.1 (names_put cells functions p.0 p.1 sorted a.0 s.0, sorted_put p.0 p.1 sorted s.1)

pub stands_dict : (cells functions : ℕ) (ps : Pairs) → NamesAll cells functions ps → Stands cells functions (dict (dict_of ps []))
stands_dict cells functions ps a = names_dict cells functions ps [] a (tt, tt)

-- what clauses see of a store with these layers
abbrev pub shown : Contained → Contained → ℕ → Contents
shown frozen live b = record { cells = frozen.cells ++ live.cells; base = b; functions = frozen.functions ++ live.functions }

module _ (frozen live : Contained) (b k : ℕ) (f : PlainCell → PlainCell) (kept : IsKept frozen live b) (le : b ≤ k) where
  abbrev after : ℕ → Contained
  after n = record { cells = set live.cells (k - n) (f (cell_at live.cells (k - n))); functions = live.functions }

  -- what a change of one live cell gives, and that the store keeps what it keeps
  abbrev Changes : Contained → Contents → Type 0
  Changes new s = IsKept frozen new b × (shown frozen new b ≡ with_cells s (set s.cells k (f (cell_at s.cells k))))

  changed_plain : k < length (frozen.cells ++ live.cells)
      → (Stands (length (frozen.cells ++ live.cells)) (length (frozen.functions ++ live.functions)) (cell_at (frozen.cells ++ live.cells) k) → Stands (length (frozen.cells ++ live.cells)) (length (frozen.functions ++ live.functions)) (f (cell_at (frozen.cells ++ live.cells) k)))
      → Changes (after (length frozen.cells)) (shown frozen live b)
  changed_plain inside stands =
      let far : length frozen.cells ≤ k = omega (arith, kept.shared, le) in
      let same = at_live frozen.cells live.cells k far in (
        subst (λ c. IsKept frozen (record { cells = set live.cells (k - length frozen.cells) (f c); functions = live.functions }) b) same
            (kept_set frozen live b k (f (cell_at (frozen.cells ++ live.cells) k)) kept le (stands (stands_at _ _ _ k inside kept.whole.cells))),
        ap (λ cs. record { cells = cs; base = b; functions = frozen.functions ++ live.functions })
            (ap (λ c. frozen.cells ++ set live.cells (k - length frozen.cells) (f c)) (sym same) ∙ sym (set_live frozen.cells live.cells k (f (cell_at (frozen.cells ++ live.cells) k)) far)),
      )

  pub changed : (new : Contained) (n : ℕ) (s : Contents) → shown frozen live b ≡ s → n ≡ length frozen.cells → k < length s.cells
      → (Stands (length s.cells) (length s.functions) (cell_at s.cells k) → Stands (length s.cells) (length s.functions) (f (cell_at s.cells k)))
      → new ≡ after n → Changes new s
  changed new n s view long inside stands ok =
      subst (λ l. Changes l s) (sym ok) (subst (λ m. Changes (after m) s) (sym long)
      (subst (λ t. k < length t.cells → (Stands (length t.cells) (length t.functions) (cell_at t.cells k) → Stands (length t.cells) (length t.functions) (f (cell_at t.cells k))) → Changes (after (length frozen.cells)) t) view changed_plain inside stands))

module _ (frozen live : Contained) (b : ℕ) (kept : IsKept frozen live b) (s : Contents) (view : shown frozen live b ≡ s) where
  pub added : (new : Contained) (c : PlainCell) → length s.cells + 1 < 2 ^ 32 → Stands (length s.cells) (length s.functions) c → new ≡ record { cells = live.cells ++ c ∷ []; functions = live.functions } → IsKept frozen new b
  added new c few stands ok = subst (λ l. IsKept frozen l b) (sym ok)
      (subst (λ t. length t.cells + 1 < 2 ^ 32 → Stands (length t.cells) (length t.functions) c → IsKept frozen (record { cells = live.cells ++ c ∷ []; functions = live.functions }) b) view (kept_added frozen live b c kept) few stands)

  pub added_all : (new : Contained) (cs : List PlainCell) → length s.cells + length cs < 2 ^ 32 → AllByRecursion (Stands (length s.cells + length cs) (length s.functions)) cs → new ≡ record { cells = live.cells ++ cs; functions = live.functions } → IsKept frozen new b
  added_all new cs few stands ok = subst (λ l. IsKept frozen l b) (sym ok)
      (subst (λ t. length t.cells + length cs < 2 ^ 32 → AllByRecursion (Stands (length t.cells + length cs) (length t.functions)) cs → IsKept frozen (record { cells = live.cells ++ cs; functions = live.functions }) b) view (kept_more frozen live b cs kept) few stands)

  pub added_function : (new : Contained) (f : PlainFunction) → length s.functions + 1 < 2 ^ 32 → Captures (length s.cells) (length s.functions) f → new ≡ record { cells = live.cells; functions = live.functions ++ f ∷ [] } → IsKept frozen new b
  added_function new f few captures ok = subst (λ l. IsKept frozen l b) (sym ok)
      (subst (λ t. length t.functions + 1 < 2 ^ 32 → Captures (length t.cells) (length t.functions) f → IsKept frozen (record { cells = live.cells; functions = live.functions ++ f ∷ [] }) b) view (kept_function frozen live b f kept) few captures)

  -- a cell that is read stands
  pub read_stands : (k n : ℕ) (c : PlainCell) → n ≡ length frozen.cells → n ≤ k → k < length s.cells → c ≡ cell_at live.cells (k - n) → Stands (length s.cells) (length s.functions) c
  read_stands k n c long le inside is = subst (Stands (length s.cells) (length s.functions)) (at_live frozen.cells live.cells k (omega (arith, long, le)) ∙ ap (λ m. cell_at live.cells (k - m)) (sym long) ∙ sym is)
      (subst (λ t. k < length t.cells → Stands (length t.cells) (length t.functions) (cell_at (frozen.cells ++ live.cells) k)) view (λ h. stands_at _ _ _ k h kept.whole.cells) inside)

  pub read_captures : (k n : ℕ) (f : PlainFunction) → n ≡ length frozen.functions → n ≤ k → k < length s.functions → Some f ≡ slice_get live.functions (k - n) → Captures (length s.cells) (length s.functions) f
  read_captures k n f long le inside is =
      let found : get_or (frozen.functions ++ live.functions) k f ≡ f = get_or-append_right frozen.functions live.functions n k f (sym long) le ∙ get_or_from_slice_get live.functions (k - n) f f (sym is) in
      subst (Captures (length s.cells) (length s.functions)) found
      (subst (λ t. k < length t.functions → Captures (length t.cells) (length t.functions) (get_or (frozen.functions ++ live.functions) k f)) view (λ h. All-from_recursion (Captures (length (frozen.cells ++ live.cells)) (length (frozen.functions ++ live.functions))) (frozen.functions ++ live.functions) kept.whole.functions k f h) inside)

abbrev pub nothing : Contained
nothing = record { cells = []; functions = [] }

kept_moved : (frozen live : Contained) (b : ℕ) → IsKept frozen live b → IsKept (beside frozen live) nothing (length (frozen.cells ++ live.cells))
kept_moved frozen live b kept =
    let e = append-nil (frozen.cells ++ live.cells) in
    let e' = append-nil (frozen.functions ++ live.functions) in
    record {
      shared = omega arith;
      base = subst (λ cs. length (frozen.cells ++ live.cells) ≤ length cs) (sym e) (omega arith);
      few = subst (λ cs. length cs < 2 ^ 32) (sym e) kept.few;
      few_functions = subst (λ fs. length fs < 2 ^ 32) (sym e') kept.few_functions;
      whole = subst (λ cs. IsWhole cs ((frozen.functions ++ live.functions) ++ [])) (sym e) (subst (λ fs. IsWhole (frozen.cells ++ live.cells) fs) (sym e') kept.whole);
    }

-- the live layer becomes a frozen one
pub moved : (frozen live new_frozen new_live : Contained) (b n m : ℕ) → IsKept frozen live b → new_frozen ≡ beside frozen live → new_live ≡ nothing → n ≡ length frozen.cells → m ≡ length live.cells → IsKept new_frozen new_live (n + m)
moved frozen live new_frozen new_live b n m kept same empty long long_live =
    let e = length-append frozen.cells live.cells in
    let sum : n + m ≡ length (frozen.cells ++ live.cells) = omega (arith, long, long_live, e) in
    subst (λ k. IsKept new_frozen new_live k) (sym sum) (subst (λ l. IsKept new_frozen l (length (frozen.cells ++ live.cells))) (sym empty) (subst (λ f. IsKept f nothing (length (frozen.cells ++ live.cells))) (sym same) (kept_moved frozen live b kept)))
