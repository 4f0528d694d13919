-- Rules by the types that they go to.
use Rattle.std.proofs.Common.{◌≡◌, ◌<◌, ◌≤◌, ◌+◌, ℕ, suc, List, [], ◌∷◌, ◌++◌, length, get_or, slice_set, Bool, true, false, cond, refl, sym, ap, ◌∙◌, subst, arith, append-nil, append_assoc, drop}
use Rattle.std.specs.List.{AllByRecursion}
use Rattle.std.specs.Str.{bytes_eq}
use Rattle.std.proofs.lemmas.List.{drop_more}
use Rattle.std.proofs.lemmas.Slice.Eq.{bytes_eq-Decides}
use Rattle.dsl_value.specs.Contents.{Contents}
use Rattle.wave_objects.specs.Applying.{AppliedNamed}
use Rattle.wave_objects.specs.AtTargets.{PlacedNamed}
use Rattle.wave_objects.specs.ByType.{placed_rule, rules_going_to, type_rules, types_before}
use Rattle.wave_objects.specs.declared.applying.Applied.{Applied}
use Rattle.wave_objects.specs.declared.by_type.PlacedRule.{PlacedRule}
use Rattle.wave_objects.specs.declared.by_type.RulesOfType.{RulesOfType}

same : (a b : List ℕ) → bytes_eq a b ≡ true → a ≡ b
same a b h = (bytes_eq-Decides a b).0 h

-- ---- types

-- a rule that goes to a type
module _ (placed : PlacedRule) (target : List ℕ) where
  abbrev here_if : List ℕ → List PlacedRule
  here_if kind = cond (bytes_eq kind target) (placed ∷ []) []

  -- its own type has it behind its rules
  own_type : (kind : List ℕ) (t u : RulesOfType) (ts : List RulesOfType) → t.kind.now ≡ target → u.kind ≡ t.kind → u.rules.items ≡ t.rules.items ++ placed ∷ []
      → type_rules kind (u ∷ ts) ≡ type_rules kind (t ∷ ts) ++ here_if kind
  own_type kind t u ts is same_kind more =
      ap (λ k. cond (bytes_eq kind k.now) u.rules.items (type_rules kind ts)) same_kind
      ∙ (ap (λ k. cond (bytes_eq kind k) u.rules.items (type_rules kind ts)) is
      ∙ (by (bytes_eq kind target)
      ∙ ap (λ k. cond (bytes_eq kind k) t.rules.items (type_rules kind ts) ++ here_if kind) (sym is)))
    where
      by : (b : Bool) → cond b u.rules.items (type_rules kind ts) ≡ cond b t.rules.items (type_rules kind ts) ++ cond b (placed ∷ []) []
      by true = more
      by false = sym (append-nil (type_rules kind ts))

  -- another type has it not
  other_type : (kind : List ℕ) (t : RulesOfType) (us ts : List RulesOfType) → bytes_eq t.kind.now target ≡ false → type_rules kind us ≡ type_rules kind ts ++ here_if kind
      → type_rules kind (t ∷ us) ≡ type_rules kind (t ∷ ts) ++ here_if kind
  other_type kind t us ts other rest = by (bytes_eq kind t.kind.now) refl
    where
      by : (b : Bool) → bytes_eq kind t.kind.now ≡ b → cond b t.rules.items (type_rules kind us) ≡ cond b t.rules.items (type_rules kind ts) ++ here_if kind
      by true e =
          let none : bytes_eq kind target ≡ false = ap (λ k. bytes_eq k target) (same kind t.kind.now e) ∙ other in
          sym (ap (λ b. t.rules.items ++ cond b (placed ∷ []) []) none ∙ append-nil t.rules.items)
      by false e = rest

  abbrev at_by : List RulesOfType → Bool → ℕ
  at_by ts b = cond b 0 (suc (types_before target ts))

  put_first : (kind : List ℕ) (ts : List RulesOfType) (d u : RulesOfType) → types_before target ts < length ts → u.kind ≡ (get_or ts (types_before target ts) d).kind
      → u.rules.items ≡ (get_or ts (types_before target ts) d).rules.items ++ placed ∷ [] → type_rules kind (slice_set ts (types_before target ts) u) ≡ type_rules kind ts ++ here_if kind
  put_first kind [] d u inside same_kind more = absurd (omega (arith, inside))
  put_first kind (t ∷ ts) d u inside same_kind more = by (put_first kind ts d u) (bytes_eq t.kind.now target) refl inside same_kind more
    where
      by : (types_before target ts < length ts → u.kind ≡ (get_or ts (types_before target ts) d).kind → u.rules.items ≡ (get_or ts (types_before target ts) d).rules.items ++ placed ∷ []
          → type_rules kind (slice_set ts (types_before target ts) u) ≡ type_rules kind ts ++ here_if kind)
          → (b : Bool) → bytes_eq t.kind.now target ≡ b → at_by ts b < suc (length ts) → u.kind ≡ (get_or (t ∷ ts) (at_by ts b) d).kind → u.rules.items ≡ (get_or (t ∷ ts) (at_by ts b) d).rules.items ++ placed ∷ []
          → type_rules kind (slice_set (t ∷ ts) (at_by ts b) u) ≡ type_rules kind (t ∷ ts) ++ here_if kind
      by rest true e i k p = own_type kind t u ts (same t.kind.now target e) k p
      by rest false e i k p = other_type kind t (slice_set ts (types_before target ts) u) ts e (rest (omega (arith, i)) k p)

  pub put_here : (kind : List ℕ) (ts : List RulesOfType) (i : ℕ) (d u : RulesOfType) → i ≡ types_before target ts → i < length ts → u.kind ≡ (get_or ts i d).kind
      → u.rules.items ≡ (get_or ts i d).rules.items ++ placed ∷ [] → type_rules kind (slice_set ts i u) ≡ type_rules kind ts ++ here_if kind
  put_here kind ts i d u here =
      subst (λ j. j < length ts → u.kind ≡ (get_or ts j d).kind → u.rules.items ≡ (get_or ts j d).rules.items ++ placed ∷ [] → type_rules kind (slice_set ts j u) ≡ type_rules kind ts ++ here_if kind) (sym here) (put_first kind ts d u)

  pub put_last : (kind : List ℕ) (ts : List RulesOfType) (u : RulesOfType) → length ts ≤ types_before target ts → u.kind.now ≡ target → u.rules.items ≡ placed ∷ []
      → type_rules kind (ts ++ u ∷ []) ≡ type_rules kind ts ++ here_if kind
  put_last kind [] u past is more = ap (λ k. cond (bytes_eq kind k) u.rules.items []) is ∙ ap (λ ps. cond (bytes_eq kind target) ps []) more
  put_last kind (t ∷ ts) u past is more = by (λ h. put_last kind ts u h is more) (bytes_eq t.kind.now target) refl past
    where
      by : (length ts ≤ types_before target ts → type_rules kind (ts ++ u ∷ []) ≡ type_rules kind ts ++ here_if kind)
          → (b : Bool) → bytes_eq t.kind.now target ≡ b → suc (length ts) ≤ cond b 0 (suc (types_before target ts)) → type_rules kind (t ∷ (ts ++ u ∷ [])) ≡ type_rules kind (t ∷ ts) ++ here_if kind
      by rest true e h = absurd (omega (arith, h))
      by rest false e h = other_type kind t (ts ++ u ∷ []) ts e (rest (omega (arith, h)))

one_before : (so_far rest : List PlacedRule) (p : PlacedRule) (b : Bool) → (so_far ++ cond b (p ∷ []) []) ++ rest ≡ so_far ++ cond b (p ∷ rest) rest
one_before so_far rest p true = append_assoc so_far (p ∷ []) rest
one_before so_far rest p false = ap (λ ps. ps ++ rest) (append-nil so_far)

-- the rules so far, and those that are left, are all
pub next_rule : (kind : List ℕ) (all so_far now : List PlacedRule) (rules : List Applied) (i : ℕ) (x : Applied) → i < length rules → x ≡ get_or rules i x
    → now ≡ so_far ++ cond (bytes_eq kind x.rule.now.target) (placed_rule i x.rule ∷ []) [] → so_far ++ rules_going_to kind i (drop i rules) ≡ all
    → now ++ rules_going_to kind (i + 1) (drop (i + 1) rules) ≡ all
next_rule kind all so_far now rules i x inside here more h =
    ap (λ ps. ps ++ rules_going_to kind (i + 1) (drop (i + 1) rules)) more
    ∙ (one_before so_far (rules_going_to kind (i + 1) (drop (i + 1) rules)) (placed_rule i x.rule) (bytes_eq kind x.rule.now.target)
    ∙ (ap (λ xs. so_far ++ rules_going_to kind i xs) (sym (drop_more rules i x inside ∙ ap (λ (y : Applied). y ∷ drop (i + 1) rules) (sym here))) ∙ h))

-- what the rules of a type captured, and where they stand

pub named_of_type : (c : Contents) (kind : List ℕ) (i : ℕ) (xs : List Applied) → AppliedNamed c xs → PlacedNamed c (rules_going_to kind i xs)
named_of_type c kind i [] n = tt
named_of_type c kind i (x ∷ xs) n = by (named_of_type c kind (i + 1) xs n.1) (bytes_eq kind x.rule.now.target)
  where
    by : PlacedNamed c (rules_going_to kind (i + 1) xs) → (b : Bool)
        → PlacedNamed c (cond b (placed_rule i x.rule ∷ rules_going_to kind (i + 1) xs) (rules_going_to kind (i + 1) xs))
    by rest true = (n.0, rest)
    by rest false = rest

-- each rule has a place among so many
abbrev pub HavePlaces : ℕ → List PlacedRule → Type 0
HavePlaces n ps = AllByRecursion (λ p. p.place < n) ps

pub places_of_type : (kind : List ℕ) (n i : ℕ) (xs : List Applied) → i + length xs ≡ n → HavePlaces n (rules_going_to kind i xs)
places_of_type kind n i [] e = tt
places_of_type kind n i (x ∷ xs) e = by (places_of_type kind n (i + 1) xs (omega (arith, e))) (bytes_eq kind x.rule.now.target)
  where
    by : HavePlaces n (rules_going_to kind (i + 1) xs) → (b : Bool)
        → HavePlaces n (cond b (placed_rule i x.rule ∷ rules_going_to kind (i + 1) xs) (rules_going_to kind (i + 1) xs))
    by rest true = (omega (arith, e), rest)
    by rest false = rest
