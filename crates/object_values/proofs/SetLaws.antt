-- Sets that are made of the states or kinds of which something holds.
use Rattle.std.proofs.Common.{◌≡◌, ℕ, zero, suc, ◌+◌, ◌<◌, ◌≤◌, Bool, true, false, cond, List, [], ◌∷◌, ◌++◌, length, get_or, drop, IsTrue, ◌↔◌, refl, sym, ap, ◌∙◌, arith, lit<, append_assoc, append-nil}
use Rattle.std.proofs.lemmas.List.{drop_more, at_drop_all}
use Rattle.std.specs.List.{Contains, filter}
use Rattle.std.proofs.lemmas.List.Elements.{All-contains, filter_passes}
use Rattle.site_model.specs.declared.kind_set.KindSet.{KindSet}
use Rattle.site_model.specs.declared.note_kind.NoteKind.{NoteKind}
use Rattle.site_model.specs.declared.note_kind.NoteKind.TheVariants as kind
use Rattle.site_model.specs.declared.state.State.{State}
use Rattle.site_model.specs.declared.state.State.TheVariants as state
use Rattle.site_model.specs.declared.state_set.StateSet.{StateSet}
use Rattle.site_model.specs.Sets.{has_state, has_kind}
use Rattle.object_values.specs.Filters.{set_of_states, set_of_kinds}

contains_first : {A : Type 0} (x : A) (xs : List A) → Contains (x ∷ xs) x
contains_first x xs = (0, omega arith, refl)

contains_later : {A : Type 0} (y x : A) (xs : List A) → Contains xs x → Contains (y ∷ xs) x
contains_later y x xs h = (suc h.0, omega (arith, h.1), h.2)

-- what is there and passes is kept
kept : {A : Type 0} (p : A → Bool) (xs : List A) (k : ℕ) (x : A) → k < length xs → get_or xs k x ≡ x → p x ≡ true → Contains (filter p xs) x
kept p [] k x inside is passes = absurd (omega arith)
kept p (y ∷ xs) zero x inside is passes = rw (is, passes) (contains_first x (filter p xs))
kept p (y ∷ xs) (suc k) x inside is passes = by (kept p xs k x (omega arith) is passes) (p y)
  where
    by : Contains (filter p xs) x → (b : Bool) → Contains (cond b (y ∷ filter p xs) (filter p xs)) x
    by rest true = contains_later y x (filter p xs) rest
    by rest false = rest

same_tests : (a b : Bool) → (a ≡ true → b ≡ true) → (b ≡ true → a ≡ true) → a ≡ b
same_tests true b there back = sym (there refl)
same_tests false true there back = back refl
same_tests false false there back = refl

-- a test that says whether something is kept of a list in which it is
filtered : {A : Type 0} (p : A → Bool) (xs : List A) (x : A) (b : Bool) → Contains xs x → (IsTrue b ↔ Contains (filter p xs) x) → b ≡ p x
filtered p xs x b there says =
    same_tests b (p x)
    (λ e. All-contains (λ y. p y ≡ true) (filter p xs) x (filter_passes p xs) (says.0 e))
    (λ e. says.1 (kept p xs there.0 x there.1 there.2 e))

abbrev pub all_states : List State
all_states = state.Okay ∷ state.Warning ∷ state.Critical ∷ state.Unknown ∷ state.Up ∷ state.Down ∷ []

a_state : (s : State) → Contains all_states s
a_state state.Okay = (0, lit< tt, refl)
a_state state.Warning = (1, lit< tt, refl)
a_state state.Critical = (2, lit< tt, refl)
a_state state.Unknown = (3, lit< tt, refl)
a_state state.Up = (4, lit< tt, refl)
a_state state.Down = (5, lit< tt, refl)

abbrev state_flags : Bool → Bool → Bool → Bool → Bool → Bool → StateSet
state_flags a b c d e f = record { okay = a; warning = b; critical = c; unknown = d; up = e; down = f }

-- a set of the states of which something holds
pub states_are : (holds : State → Bool) (set : StateSet) (list : List State) → list ≡ filter holds all_states → ((s : State) → IsTrue (has_state set s) ↔ Contains list s) → set ≡ set_of_states holds
states_are holds set list is says =
    let each : (s : State) → has_state set s ≡ holds s =
    λ s. filtered holds all_states s (has_state set s) (a_state s) (rw is at (says s)) in
    ap (λ x. state_flags x set.warning set.critical set.unknown set.up set.down) (each state.Okay)
    ∙ ap (λ x. state_flags (holds state.Okay) x set.critical set.unknown set.up set.down) (each state.Warning)
    ∙ ap (λ x. state_flags (holds state.Okay) (holds state.Warning) x set.unknown set.up set.down) (each state.Critical)
    ∙ ap (λ x. state_flags (holds state.Okay) (holds state.Warning) (holds state.Critical) x set.up set.down) (each state.Unknown)
    ∙ ap (λ x. state_flags (holds state.Okay) (holds state.Warning) (holds state.Critical) (holds state.Unknown) x set.down) (each state.Up)
    ∙ ap (λ x. state_flags (holds state.Okay) (holds state.Warning) (holds state.Critical) (holds state.Unknown) (holds state.Up) x) (each state.Down)

abbrev pub all_kinds : List NoteKind
all_kinds = kind.Problem ∷ kind.Recovery ∷ kind.Acknowledgement ∷ kind.Custom ∷ kind.DowntimeStart ∷ kind.DowntimeEnd ∷ kind.DowntimeRemoved ∷ kind.FlappingStart ∷ kind.FlappingEnd ∷ []

a_kind : (k : NoteKind) → Contains all_kinds k
a_kind kind.Problem = (0, lit< tt, refl)
a_kind kind.Recovery = (1, lit< tt, refl)
a_kind kind.Acknowledgement = (2, lit< tt, refl)
a_kind kind.Custom = (3, lit< tt, refl)
a_kind kind.DowntimeStart = (4, lit< tt, refl)
a_kind kind.DowntimeEnd = (5, lit< tt, refl)
a_kind kind.DowntimeRemoved = (6, lit< tt, refl)
a_kind kind.FlappingStart = (7, lit< tt, refl)
a_kind kind.FlappingEnd = (8, lit< tt, refl)

abbrev kind_flags : Bool → Bool → Bool → Bool → Bool → Bool → Bool → Bool → Bool → KindSet
kind_flags a b c d e f g h i = record { problem = a; recovery = b; acknowledgement = c; custom = d; downtime_start = e; downtime_end = f; downtime_removed = g; flapping_start = h; flapping_end = i }

pub kinds_are : (holds : NoteKind → Bool) (set : KindSet) (list : List NoteKind) → list ≡ filter holds all_kinds → ((k : NoteKind) → IsTrue (has_kind set k) ↔ Contains list k) → set ≡ set_of_kinds holds
kinds_are holds set list is says =
    let each : (k : NoteKind) → has_kind set k ≡ holds k =
    λ k. filtered holds all_kinds k (has_kind set k) (a_kind k) (rw is at (says k)) in
    ap (λ x. kind_flags x set.recovery set.acknowledgement set.custom set.downtime_start set.downtime_end set.downtime_removed set.flapping_start set.flapping_end) (each kind.Problem)
    ∙ ap (λ x. kind_flags (holds kind.Problem) x set.acknowledgement set.custom set.downtime_start set.downtime_end set.downtime_removed set.flapping_start set.flapping_end) (each kind.Recovery)
    ∙ ap (λ x. kind_flags (holds kind.Problem) (holds kind.Recovery) x set.custom set.downtime_start set.downtime_end set.downtime_removed set.flapping_start set.flapping_end) (each kind.Acknowledgement)
    ∙ ap (λ x. kind_flags (holds kind.Problem) (holds kind.Recovery) (holds kind.Acknowledgement) x set.downtime_start set.downtime_end set.downtime_removed set.flapping_start set.flapping_end) (each kind.Custom)
    ∙ ap (λ x. kind_flags (holds kind.Problem) (holds kind.Recovery) (holds kind.Acknowledgement) (holds kind.Custom) x set.downtime_end set.downtime_removed set.flapping_start set.flapping_end) (each kind.DowntimeStart)
    ∙ ap (λ x. kind_flags (holds kind.Problem) (holds kind.Recovery) (holds kind.Acknowledgement) (holds kind.Custom) (holds kind.DowntimeStart) x set.downtime_removed set.flapping_start set.flapping_end) (each kind.DowntimeEnd)
    ∙ ap (λ x. kind_flags (holds kind.Problem) (holds kind.Recovery) (holds kind.Acknowledgement) (holds kind.Custom) (holds kind.DowntimeStart) (holds kind.DowntimeEnd) x set.flapping_start set.flapping_end) (each kind.DowntimeRemoved)
    ∙ ap (λ x. kind_flags (holds kind.Problem) (holds kind.Recovery) (holds kind.Acknowledgement) (holds kind.Custom) (holds kind.DowntimeStart) (holds kind.DowntimeEnd) (holds kind.DowntimeRemoved) x set.flapping_end) (each kind.FlappingStart)
    ∙ ap (λ x. kind_flags (holds kind.Problem) (holds kind.Recovery) (holds kind.Acknowledgement) (holds kind.Custom) (holds kind.DowntimeStart) (holds kind.DowntimeEnd) (holds kind.DowntimeRemoved) (holds kind.FlappingStart) x) (each kind.FlappingEnd)

-- inside a list the default says nothing
get_or_any : {A : Type 0} (xs : List A) (i : ℕ) (d e : A) → i < length xs → get_or xs i d ≡ get_or xs i e
get_or_any [] i d e inside = absurd (omega arith)
get_or_any (x ∷ xs) zero d e inside = refl
get_or_any (x ∷ xs) (suc i) d e inside = get_or_any xs i d e (omega arith)

-- one more of a list, kept or not
pub kept_more : {A : Type 0} (p : A → Bool) (xs : List A) (i : ℕ) (x : A) (list more all : List A) → i < length xs → x ≡ get_or xs i x → more ≡ list ++ cond (p x) (x ∷ []) [] → list ++ filter p (drop i xs) ≡ all → more ++ filter p (drop (i + 1) xs) ≡ all
kept_more p xs i x list more all inside is grown so_far =
    ap (λ ys. ys ++ filter p (drop (i + 1) xs)) grown
    ∙ append_assoc list (cond (p x) (x ∷ []) []) (filter p (drop (i + 1) xs))
    ∙ by (p x) refl
    ∙ so_far
  where
    next : filter p (drop i xs) ≡ cond (p x) (x ∷ filter p (drop (i + 1) xs)) (filter p (drop (i + 1) xs))
    next = ap (filter p) (drop_more xs i x inside ∙ ap (λ y. y ∷ drop (i + 1) xs) (sym is))

    by : (b : Bool) → p x ≡ b → list ++ (cond b (x ∷ []) [] ++ filter p (drop (i + 1) xs)) ≡ list ++ filter p (drop i xs)
    by true e = ap (λ ys. list ++ ys) (sym (next ∙ ap (λ b. cond b (x ∷ filter p (drop (i + 1) xs)) (filter p (drop (i + 1) xs))) e))
    by false e = ap (λ ys. list ++ ys) (sym (next ∙ ap (λ b. cond b (x ∷ filter p (drop (i + 1) xs)) (filter p (drop (i + 1) xs))) e))

-- the same at a place
pub kept_at : {A : Type 0} (p : A → Bool) (xs : List A) (i : ℕ) (d : A) (has : Bool) (list more all : List A) → i < length xs → has ≡ p (get_or xs i d) → more ≡ list ++ cond has (get_or xs i d ∷ []) [] → list ++ filter p (drop i xs) ≡ all → more ++ filter p (drop (i + 1) xs) ≡ all
kept_at p xs i d has list more all inside is grown so_far =
    kept_more p xs i (get_or xs i d) list more all inside (get_or_any xs i d (get_or xs i d) inside) (grown ∙ ap (λ b. list ++ cond b (get_or xs i d ∷ []) []) is) so_far

-- all of a list
pub kept_all : {A : Type 0} (p : A → Bool) (xs : List A) (i : ℕ) (list all : List A) → length xs ≤ i → list ++ filter p (drop i xs) ≡ all → list ≡ all
kept_all p xs i list all past so_far = sym (append-nil list) ∙ sym (at_drop_all (λ ys. list ++ filter p ys) xs i past) ∙ so_far
