-- What the tree of least moments tells of its leaves, and what a change leaves of it.
use Rattle.std.proofs.Common.{◌≡◌, ◌≢◌, ℕ, zero, suc, ◌+◌, ◌-◌, ◌*◌, ◌/◌, ◌^◌, ◌<◌, ◌≤◌, List, Option, Some, None, min, length, set, refl, sym, ap, subst, ◌∙◌, inl, inr, arith, length-set, get_or-set_other, get_or-set_same, slice_index_or}
use Rattle.std.proofs.lemmas.Bool.{cases_eq, cases_lt}
use Rattle.std.proofs.lemmas.Bool.Decides.{nat_tests}
use Rattle.std.proofs.lemmas.List.{get_or_past, get_or-replicate}
use Rattle.std.proofs.lemmas.Grind.{pow_more}
use Rattle.std.proofs.lemmas.Nat.{pow_pos}
use Rattle.std.proofs.Math.Pow.{pow_mono}
use Rattle.std.proofs.lemmas.Option.{none-some, same_Some}
use Rattle.wheel_links.specs.Due.{IsNextDue, IsNoneDue}
use Rattle.wheel_links.specs.Members.{Members, empty, moment_of}
use Rattle.wheel_links.specs.Tree.{IsTree, Fits, FitsBut, lesser, node_of}
use Rattle.wheel_links.proofs.Members.{length-empty, member_within}

pub node-inner : (inner : List (Option ℕ)) (ms : Members) (n : ℕ) → n < length inner → node_of inner ms n ≡ slice_index_or inner n None
unfolding node_of
node-inner inner ms n low = grind (arith, nat_tests)

pub node-leaf : (inner : List (Option ℕ)) (ms : Members) (n : ℕ) → length inner ≤ n → node_of inner ms n ≡ moment_of ms (n - length inner)
unfolding node_of
node-leaf inner ms n high = grind (arith, nat_tests)

-- where the second has a moment, the first has one that isn't after it
abbrev pub AtMost : Option ℕ → Option ℕ → Type 0
AtMost a b = (m : ℕ) → b ≡ Some m → (k : ℕ) × (a ≡ Some k) × (k ≤ m)

at_most-trans : (a b c : Option ℕ) → AtMost a b → AtMost b c → AtMost a c
at_most-trans a b c p q m e =
    let h = q m e in
    let g = p h.0 h.1 in
    (g.0, g.1, omega (arith, g.2, h.2))

lesser-left : (a b : Option ℕ) → AtMost (lesser a b) a
lesser-left (Some x) (Some y) m e = (min x y, refl, omega (arith, same_Some x m e))
lesser-left (Some x) None m e = (x, refl, omega (arith, same_Some x m e))
lesser-left None b m e = absurd (none-some m e)

lesser-right : (a b : Option ℕ) → AtMost (lesser a b) b
lesser-right (Some x) (Some y) m e = (min x y, refl, omega (arith, same_Some y m e))
lesser-right (Some x) None m e = absurd (none-some m e)
lesser-right None b m e = (m, e, omega arith)

-- where the left one isn't the lesser moment, the right one is
pub lesser-other : (a b : Option ℕ) (v : ℕ) → lesser a b ≡ Some v → a ≢ Some v → b ≡ Some v
lesser-other (Some x) (Some y) v e ne =
    let h : min x y ≡ v = same_Some (min x y) v e in
    let d : x ≢ v = λ q. ne (ap Some q) in
    let r : y ≡ v = omega arith in
    ap Some r
lesser-other (Some x) None v e ne = absurd (ne e)
lesser-other None b v e ne = e

-- from a level's first node on, each node before this one holds no moment or a later one
abbrev pub AreLater : List (Option ℕ) → Members → ℕ → ℕ → ℕ → Type 0
AreLater inner ms first node v = (i m : ℕ) → first ≤ i → i < node → node_of inner ms i ≡ Some m → v < m

module _ (inner : List (Option ℕ)) (ms : Members) (fits : FitsBut 0 inner ms) where
  above_left : (n : ℕ) → 0 < n → n < length inner → AtMost (node_of inner ms n) (node_of inner ms (2 * n))
  above_left n some low m e =
      let h = lesser-left (node_of inner ms (2 * n)) (node_of inner ms (2 * n + 1)) m e in
      (h.0, fits n some low (λ z. omega arith) ∙ h.1, h.2)

  above_right : (n : ℕ) → 0 < n → n < length inner → AtMost (node_of inner ms n) (node_of inner ms (2 * n + 1))
  above_right n some low m e =
      let h = lesser-right (node_of inner ms (2 * n)) (node_of inner ms (2 * n + 1)) m e in
      (h.0, fits n some low (λ z. omega arith) ∙ h.1, h.2)

  -- the node above another holds a moment that isn't after the other's
  above : (n : ℕ) → 2 ≤ n → n < 2 * length inner → AtMost (node_of inner ms (n / 2)) (node_of inner ms n)
  above n some low = elim (cases_eq n (2 * (n / 2))) [
    | inl e ↦ subst (λ z. AtMost (node_of inner ms (n / 2)) (node_of inner ms z)) (sym e) (above_left (n / 2) (omega arith) (omega arith))
    | inr ne ↦
        let e : 2 * (n / 2) + 1 ≡ n = omega arith in
        subst (λ z. AtMost (node_of inner ms (n / 2)) (node_of inner ms z)) e (above_right (n / 2) (omega arith) (omega arith))
  ]

  root_below : (k n : ℕ) → n < k → 0 < n → n < 2 * length inner → AtMost (node_of inner ms 1) (node_of inner ms n)
  root_below zero n below some low = absurd (omega arith)
  root_below (suc k) n below some low = elim (cases_eq n 1) [
    | inl e ↦ subst (λ z. AtMost (node_of inner ms 1) (node_of inner ms z)) (sym e) (λ m e. (m, e, omega arith))
    | inr ne ↦ at_most-trans (node_of inner ms 1) (node_of inner ms (n / 2)) (node_of inner ms n) (root_below k (n / 2) (omega arith) (omega arith) (omega arith)) (above n (omega arith) low)
  ]

  -- so it is in the level below, before the node on the left
  pub later-left : (first node v : ℕ) → 0 < first → node ≤ length inner → AreLater inner ms first node v → AreLater inner ms (2 * first) (2 * node) v
  later-left first node v some low later i m from before at =
      let h = above i (omega arith) (omega arith) m at in
      let l = later (i / 2) h.0 (omega arith) (omega arith) h.1 in
      omega (arith, l, h.2)

  -- and before the node on the right, if the one on the left holds another moment
  pub later-right : (first node v : ℕ) → 0 < first → first ≤ node → node < length inner → node_of inner ms node ≡ Some v → node_of inner ms (2 * node) ≢ Some v
      → AreLater inner ms first node v → AreLater inner ms (2 * first) (2 * node + 1) v
  later-right first node v some from_first low is other later i m from before at = elim (cases_eq i (2 * node)) [
    | inl e ↦
        let here : node_of inner ms (2 * node) ≡ Some m = ap (node_of inner ms) (sym e) ∙ at in
        let h = above_left node (omega arith) low m here in
        let same : h.0 ≡ v = same_Some h.0 v (sym h.1 ∙ is) in
        let apart : m ≢ v = λ q. other (here ∙ ap Some q) in
        omega (arith, h.2)
    | inr ne ↦ later-left first node v some (omega arith) later i m from (omega arith) at
  ]

  -- the node on the right then holds the moment of the node above
  pub right_is : (node v : ℕ) → 0 < node → node < length inner → node_of inner ms node ≡ Some v → node_of inner ms (2 * node) ≢ Some v → node_of inner ms (2 * node + 1) ≡ Some v
  right_is node v some low is other =
      lesser-other (node_of inner ms (2 * node)) (node_of inner ms (2 * node + 1)) v (sym (fits node some low (λ z. omega arith)) ∙ is) other

module _ (depth : ℕ) (inner : List (Option ℕ)) (ms : Members) (t : IsTree depth inner ms) where
  leaf_is : (id m : ℕ) → moment_of ms id ≡ Some m → node_of inner ms (length inner + id) ≡ Some m
  leaf_is id m at =
      let e : length inner + id - length inner ≡ id = omega arith in
      node-leaf inner ms (length inner + id) (omega arith) ∙ ap (moment_of ms) e ∙ at

  -- the root holds a moment that no member's is before
  root_is_least : (id m : ℕ) → moment_of ms id ≡ Some m → (k : ℕ) × (node_of inner ms 1 ≡ Some k) × (k ≤ m)
  root_is_least id m at =
      let within : id < length ms = member_within ms id m at in
      root_below inner ms t.fits (suc (length inner + id)) (length inner + id) (omega arith) (omega (arith, t.leaf_each)) (omega (arith, t.leaf_each)) m (leaf_is id m at)

  pub none_at_all : (now : ℕ) → node_of inner ms 1 ≡ None → IsNoneDue ms now
  none_at_all now none = λ id m at.
      let h = root_is_least id m at in
      absurd (none-some h.0 (sym none ∙ h.1))

  pub none_yet : (now v : ℕ) → node_of inner ms 1 ≡ Some v → now < v → IsNoneDue ms now
  none_yet now v is later = λ id m at.
      let h = root_is_least id m at in
      let same : h.0 ≡ v = same_Some h.0 v (sym h.1 ∙ is) in
      omega (arith, h.2)

  -- the leaf with the root's moment, with only later ones before it, is the first member's
  pub found : (node v : ℕ) → node_of inner ms 1 ≡ Some v → length inner ≤ node → node_of inner ms node ≡ Some v → AreLater inner ms (length inner) node v
      → IsNextDue ms v (node - length inner)
  found node v is high at later = record {
    moment = v;
    member = sym (node-leaf inner ms node high) ∙ at;
    due = omega arith;
    first = λ other k at_other.
        let h = root_is_least other k at_other in
        let same : h.0 ≡ v = same_Some h.0 v (sym h.1 ∙ is) in (
          omega (arith, h.2),
          λ e. elim (cases_lt (length inner + other) node) [
            | inl before ↦ let l = later (length inner + other) k (omega arith) before (leaf_is other k at_other) in absurd (omega (arith, l))
            | inr past ↦ omega arith
          ],
        );
  }

pub due_by : (ms : Members) (v now id : ℕ) → v ≤ now → IsNextDue ms v id → IsNextDue ms now id
due_by ms v now id before d = record { moment = d.moment; member = d.member; due = omega (arith, d.due); first = d.first }

fits_by : (a b c a' b' c' : Option ℕ) → a' ≡ a → b' ≡ b → c' ≡ c → a ≡ lesser b c → a' ≡ lesser b' c'
fits_by a b c a' b' c' p q r h = p ∙ h ∙ ap (λ z. lesser z c) (sym q) ∙ ap (λ z. lesser b' z) (sym r)

node-set_leaf : (inner : List (Option ℕ)) (ms : Members) (id : ℕ) (v : Option ℕ) (c : ℕ) → c ≢ length inner + id → node_of inner (set ms id v) c ≡ node_of inner ms c
node-set_leaf inner ms id v c other = elim (cases_lt c (length inner)) [
  | inl low ↦ node-inner inner (set ms id v) c low ∙ sym (node-inner inner ms c low)
  | inr high ↦
      let apart : c - length inner ≢ id = λ e. other (omega arith) in
      node-leaf inner (set ms id v) c high ∙ get_or-set_other ms id (c - length inner) v None apart ∙ sym (node-leaf inner ms c high)
]

-- after a change of a leaf, the one node that may not fit is the node above it
pub fits-leaf : (inner : List (Option ℕ)) (ms : Members) (id : ℕ) (v : Option ℕ) → FitsBut 0 inner ms → FitsBut ((length inner + id) / 2) inner (set ms id v)
fits-leaf inner ms id v fits n some low ne =
    fits_by (node_of inner ms n) (node_of inner ms (2 * n)) (node_of inner ms (2 * n + 1)) _ _ _
    (node-set_leaf inner ms id v n (λ e. omega arith))
    (node-set_leaf inner ms id v (2 * n) (λ e. ne (omega arith)))
    (node-set_leaf inner ms id v (2 * n + 1) (λ e. ne (omega arith)))
    (fits n some low (λ z. omega arith))

node-set_other : (inner : List (Option ℕ)) (ms : Members) (p : ℕ) (v : Option ℕ) (c : ℕ) → c ≢ p → node_of (set inner p v) ms c ≡ node_of inner ms c
node-set_other inner ms p v c other =
    let len : length (set inner p v) ≡ length inner = length-set inner p v in
    elim (cases_lt c (length inner)) [
      | inl low ↦ node-inner (set inner p v) ms c (omega arith) ∙ get_or-set_other inner p c v None other ∙ sym (node-inner inner ms c low)
      | inr high ↦ node-leaf (set inner p v) ms c (omega arith) ∙ ap (λ z. moment_of ms (c - z)) len ∙ sym (node-leaf inner ms c high)
    ]

node-set_same : (inner : List (Option ℕ)) (ms : Members) (p : ℕ) (v : Option ℕ) → p < length inner → node_of (set inner p v) ms p ≡ v
node-set_same inner ms p v low =
    let len : length (set inner p v) ≡ length inner = length-set inner p v in
    node-inner (set inner p v) ms p (omega arith) ∙ get_or-set_same inner p v None low

-- once that node is rewritten, it is the node above that one
pub fits-node : (inner : List (Option ℕ)) (ms : Members) (p : ℕ) (v : Option ℕ) → 0 < p → p < length inner → FitsBut p inner ms
    → v ≡ lesser (node_of inner ms (2 * p)) (node_of inner ms (2 * p + 1)) → FitsBut (p / 2) (set inner p v) ms
fits-node inner ms p v some low fits is n some_n low_n ne =
    let len : length (set inner p v) ≡ length inner = length-set inner p v in
    let left : node_of (set inner p v) ms (2 * n) ≡ node_of inner ms (2 * n) = node-set_other inner ms p v (2 * n) (λ e. ne (omega arith)) in
    let right : node_of (set inner p v) ms (2 * n + 1) ≡ node_of inner ms (2 * n + 1) = node-set_other inner ms p v (2 * n + 1) (λ e. ne (omega arith)) in
    elim (cases_eq n p) [
      | inl e ↦
          fits_by v (node_of inner ms (2 * n)) (node_of inner ms (2 * n + 1)) _ _ _
          (ap (node_of (set inner p v) ms) e ∙ node-set_same inner ms p v low) left right
          (is ∙ ap (λ z. lesser (node_of inner ms (2 * z)) (node_of inner ms (2 * z + 1))) (sym e))
      | inr other ↦
          fits_by (node_of inner ms n) (node_of inner ms (2 * n)) (node_of inner ms (2 * n + 1)) _ _ _
          (node-set_other inner ms p v n other) left right
          (fits n some_n (omega arith) other)
    ]

-- where that node has what it is to have already, all inner nodes fit
pub fits-all : (inner : List (Option ℕ)) (ms : Members) (p : ℕ) → p < length inner → FitsBut p inner ms
    → slice_index_or inner p None ≡ lesser (node_of inner ms (2 * p)) (node_of inner ms (2 * p + 1)) → FitsBut 0 inner ms
fits-all inner ms p low fits is n some_n low_n ne = elim (cases_eq n p) [
  | inl e ↦ subst (λ k. Fits inner ms k) (sym e) (node-inner inner ms p low ∙ is)
  | inr other ↦ fits n some_n low_n other
]

none_each : (k i : ℕ) → moment_of (empty k) i ≡ None
none_each k i = elim (cases_lt i k) [
  | inl low ↦ get_or-replicate k i None None low
  | inr high ↦ get_or_past (empty k) i None (omega (arith, length-empty k))
]

node_none : (k capacity n : ℕ) → node_of (empty k) (empty capacity) n ≡ None
node_none k capacity n = elim (cases_lt n (length (empty k))) [
  | inl low ↦ node-inner (empty k) (empty capacity) n low ∙ none_each k n
  | inr high ↦ node-leaf (empty k) (empty capacity) n high ∙ none_each capacity (n - length (empty k))
]

-- a tree with no member
pub tree-empty : (depth capacity : ℕ) → depth ≤ 32 → capacity ≤ 2 ^ depth → IsTree depth (empty (2 ^ depth)) (empty capacity)
tree-empty depth capacity few enough = record {
  few = few;
  inner_count = length-empty (2 ^ depth);
  leaf_each = omega (arith, length-empty capacity, length-empty (2 ^ depth));
  fits = λ n some low ne. fits_by None None None _ _ _ (node_none (2 ^ depth) capacity n) (node_none (2 ^ depth) capacity (2 * n)) (node_none (2 ^ depth) capacity (2 * n + 1)) refl;
}

-- there are few inner nodes
pub few_inner : (depth : ℕ) (inner : List (Option ℕ)) (ms : Members) → IsTree depth inner ms → length inner ≤ 2 ^ 32
few_inner depth inner ms t = let h : 2 ^ depth ≤ 2 ^ 32 = pow_mono t.few in omega (arith, t.inner_count, h)

-- the way down has come to a node of this level that holds the moment, with only later ones before it
pub record IsDescent (inner : List (Option ℕ)) (ms : Members) (level node v : ℕ) : Type 0 where
  pub from : 2 ^ level ≤ node
  pub to : node < 2 ^ (level + 1)
  pub at : node_of inner ms node ≡ Some v
  pub later : AreLater inner ms (2 ^ level) node v

pub descent-first : (inner : List (Option ℕ)) (ms : Members) (v : ℕ) → node_of inner ms 1 ≡ Some v → IsDescent inner ms 0 1 v
descent-first inner ms v at = record { from = omega arith; to = omega arith; at = at; later = λ i m from before is. absurd (omega arith) }

pub descent-inner : (depth : ℕ) (inner : List (Option ℕ)) (ms : Members) (level node v : ℕ) → IsTree depth inner ms → level < depth → IsDescent inner ms level node v → node < length inner
descent-inner depth inner ms level node v t below d =
    let h : 2 ^ (level + 1) ≤ 2 ^ depth = pow_mono (omega arith) in
    omega (arith, h, t.inner_count, d.to)

pub descent-left : (depth : ℕ) (inner : List (Option ℕ)) (ms : Members) (level node next v : ℕ) → IsTree depth inner ms → level < depth → IsDescent inner ms level node v
    → node_of inner ms (2 * node) ≡ Some v → next ≡ 2 * node → IsDescent inner ms (level + 1) next v
descent-left depth inner ms level node next v t below d at is =
    let low = descent-inner depth inner ms level node v t below d in
    let some = pow_pos level in
    let double : 2 ^ (level + 1) ≡ 2 * 2 ^ level = pow_more 2 level ∙ (omega arith) in
    let double_again : 2 ^ (level + 1 + 1) ≡ 2 * 2 ^ (level + 1) = pow_more 2 (level + 1) ∙ (omega arith) in
    subst (λ z. IsDescent inner ms (level + 1) z v) (sym is)
    (record {
      from = omega (arith, double, d.from);
      to = omega (arith, double_again, d.to);
      at = at;
      later = subst (λ z. AreLater inner ms z (2 * node) v) (sym double) (later-left inner ms t.fits (2 ^ level) node v some (omega arith) d.later);
    })

pub descent-right : (depth : ℕ) (inner : List (Option ℕ)) (ms : Members) (level node next v : ℕ) → IsTree depth inner ms → level < depth → IsDescent inner ms level node v
    → node_of inner ms (2 * node) ≢ Some v → next ≡ 2 * node + 1 → IsDescent inner ms (level + 1) next v
descent-right depth inner ms level node next v t below d other is =
    let low = descent-inner depth inner ms level node v t below d in
    let some = pow_pos level in
    let double : 2 ^ (level + 1) ≡ 2 * 2 ^ level = pow_more 2 level ∙ (omega arith) in
    let double_again : 2 ^ (level + 1 + 1) ≡ 2 * 2 ^ (level + 1) = pow_more 2 (level + 1) ∙ (omega arith) in
    subst (λ z. IsDescent inner ms (level + 1) z v) (sym is)
    (record {
      from = omega (arith, double, d.from);
      to = omega (arith, double_again, d.to);
      at = right_is inner ms t.fits node v (omega (arith, d.from)) low d.at other;
      later = subst (λ z. AreLater inner ms z (2 * node + 1) v) (sym double) (later-right inner ms t.fits (2 ^ level) node v some d.from low d.at other d.later);
    })

-- one level further down, left or right
pub descent-next : (depth : ℕ) (inner : List (Option ℕ)) (ms : Members) (level node next v : ℕ) → IsTree depth inner ms → level < depth → IsDescent inner ms level node v
    → (node_of inner ms (2 * node) ≡ Some v → next ≡ 2 * node) → (node_of inner ms (2 * node) ≢ Some v → next ≡ 2 * node + 1) → IsDescent inner ms (level + 1) next v
descent-next depth inner ms level node next v t below d left right = by (node_of inner ms (2 * node)) refl where
  by : (o : Option ℕ) → node_of inner ms (2 * node) ≡ o → IsDescent inner ms (level + 1) next v
  by None e =
      let other : node_of inner ms (2 * node) ≢ Some v = λ h. none-some v (sym e ∙ h) in
      descent-right depth inner ms level node next v t below d other (right other)
  by (Some m) e = elim (cases_eq m v) [
    | inl same ↦ let at : node_of inner ms (2 * node) ≡ Some v = e ∙ ap Some same in descent-left depth inner ms level node next v t below d at (left at)
    | inr ne ↦ let other : node_of inner ms (2 * node) ≢ Some v = λ h. ne (same_Some m v (sym e ∙ h)) in descent-right depth inner ms level node next v t below d other (right other)
  ]

-- at the leaves
pub descent-last : (depth : ℕ) (inner : List (Option ℕ)) (ms : Members) (node v : ℕ) → IsTree depth inner ms → node_of inner ms 1 ≡ Some v → IsDescent inner ms depth node v
    → (length inner ≤ node) × (node < 2 * length inner) × IsNextDue ms v (node - length inner)
descent-last depth inner ms node v t root d =
    let high : length inner ≤ node = omega (arith, t.inner_count, d.from) in
    let double : 2 ^ (depth + 1) ≡ 2 * 2 ^ depth = pow_more 2 depth ∙ (omega arith) in
    (high, omega (arith, t.inner_count, d.to, double), found depth inner ms t node v root high d.at (subst (λ z. AreLater inner ms z node v) (sym t.inner_count) d.later))
