-- What a change of one member leaves of a wheel's inside.
use Rattle.std.proofs.Common.{◌≡◌, ◌≢◌, ◌==◌, ℕ, ◌+◌, ◌-◌, ◌%◌, ◌^◌, ◌<◌, if◌then◌else◌, List, Some, None, length, refl, sym, ap, ◌∙◌, inl, inr, arith, length-set}
use Rattle.std.proofs.lemmas.Bool.{cases_lt}
use Rattle.std.proofs.lemmas.Bool.Decides.{nat_tests}
use Rattle.std.proofs.Math.Nat.{mod-lt}
use Rattle.std.proofs.lemmas.Option.{none-some}
use Rattle.std.specs.Option.{option_map}
use Rattle.wheel_links.specs.declared.links.Link.{Link}
use Rattle.wheel_links.specs.Inside.{IsWheel}
use Rattle.wheel_links.specs.Links.{after_at, before_at, IsUnlinked, IsAppended, AreAlone}
use Rattle.wheel_links.specs.Members.{Members, moment_of, insert, remove, empty}
use Rattle.wheel_links.specs.Rings.{AreSlots, HasRings, slot_of}
use Rattle.wheel_links.proofs.Circles.{taken_out, put_in}
use Rattle.wheel_links.proofs.Members.{count-empty, count-insert, count-remove, length-empty, member_within, none_at_first}
use Rattle.wheel_links.proofs.Slots.{slot-head, slot-id, slot-member, slot-set_other, slot-set_same, member_of_slot, slot_within}

when_equal : {A : Type 0} (x y : ℕ) (a b : A) → x ≡ y → (if x == y then a else b) ≡ a
when_equal x y a b e = grind (arith, nat_tests)

when_other : {A : Type 0} (x y : ℕ) (a b : A) → x ≢ y → (if x == y then a else b) ≡ b
when_other x y a b ne = grind (arith, nat_tests)

unlinked_cell : (n : ℕ) (ms : Members) (links links' : List Link) (id m : ℕ) → HasRings n ms links → moment_of ms id ≡ Some m → IsUnlinked links links' (n + id)
    → HasRings n (remove ms id) links'
unlinked_cell n ms links links' id m r at un =
    let c = n + id in
    let within : id < length ms = member_within ms id m at in
    taken_out r c (m % n) (slot-member n ms id m at) (omega arith)
    (un.after (before_at links c) ∙ when_equal (before_at links c) (before_at links c) _ _ refl)
    (λ x ne. un.after x ∙ when_other x (before_at links c) _ _ ne)
    (un.before (after_at links c) ∙ when_equal (after_at links c) (after_at links c) _ _ refl)
    (λ x ne. un.before x ∙ when_other x (after_at links c) _ _ ne)
    (slot-set_same n ms id None within)
    (λ x ne. slot-set_other n ms id None x ne)

appended_cell : (n : ℕ) (ms : Members) (links links' : List Link) (id m : ℕ) → 0 < n → HasRings n ms links → moment_of ms id ≡ None → id < length ms → IsAppended links links' (m % n) (n + id)
    → HasRings n (insert ms id m) links'
appended_cell n ms links links' id m some r at within app =
    let c = n + id in
    let s = m % n in
    let low : s < n = mod-lt m some in
    let fresh : slot_of n ms c ≡ None = slot-id n ms id ∙ ap (option_map (λ k. k % n)) at in
    let last_in : slot_of n ms (before_at links s) ≡ Some s = r.before_in s s (slot-head n ms s low) in
    let apart : c ≢ before_at links s = λ e. none-some s (sym fresh ∙ ap (slot_of n ms) e ∙ last_in) in
    put_in r c s (slot-head n ms s low) low (omega arith) fresh
    (app.after (before_at links s) ∙ when_equal (before_at links s) (before_at links s) _ _ refl)
    (app.after c ∙ when_other c (before_at links s) _ _ apart ∙ when_equal c c _ _ refl)
    (λ x ne new. app.after x ∙ when_other x (before_at links s) _ _ ne ∙ when_other x c _ _ new)
    (app.before s ∙ when_equal s s _ _ refl)
    (app.before c ∙ when_other c s _ _ (λ e. omega arith) ∙ when_equal c c _ _ refl)
    (λ x ne new. app.before x ∙ when_other x s _ _ ne ∙ when_other x c _ _ new)
    (slot-set_same n ms id (Some m) within)
    (λ x ne. slot-set_other n ms id (Some m) x ne)

-- the neighbours of a ring's cell exist
pub before_within : (n : ℕ) (ms : Members) (links : List Link) (c s : ℕ) → AreSlots n ms links → slot_of n ms c ≡ Some s → before_at links c < length links
before_within n ms links c s a here =
    let h = slot_within n ms (before_at links c) s (a.rings.before_in c s here) in
    omega (arith, h, a.cells)

pub after_within : (n : ℕ) (ms : Members) (links : List Link) (c s : ℕ) → AreSlots n ms links → slot_of n ms c ≡ Some s → after_at links c < length links
after_within n ms links c s a here =
    let h = slot_within n ms (after_at links c) s (a.rings.after_in c s here) in
    omega (arith, h, a.cells)

-- a member is put in
pub wheel-insert : (n : ℕ) (ms : Members) (links links' : List Link) (count id m : ℕ) → IsWheel n ms links count
    → id < length ms → moment_of ms id ≡ None → length links' ≡ length links → IsAppended links links' (m % n) (n + id)
    → IsWheel n (insert ms id m) links' (count + 1)
wheel-insert n ms links links' count id m w within at len app =
    let a = w.slotted in
    record {
      slotted = record {
        some_slots = a.some_slots;
        few_slots = a.few_slots;
        few_ids = omega (arith, length-set ms id (Some m), a.few_ids);
        cells = omega (arith, length-set ms id (Some m), a.cells);
        rings = appended_cell n ms links links' id m a.some_slots a.rings at within app;
      };
      counted = omega (arith, count-insert ms id m within at, w.counted);
    }

-- a member is taken out
pub wheel-remove : (n : ℕ) (ms : Members) (links links' : List Link) (count id m : ℕ)
    → IsWheel n ms links count → moment_of ms id ≡ Some m → length links' ≡ length links → IsUnlinked links links' (n + id)
    → IsWheel n (remove ms id) links' (count - 1)
wheel-remove n ms links links' count id m w at len un =
    let a = w.slotted in
    record {
      slotted = record {
        some_slots = a.some_slots;
        few_slots = a.few_slots;
        few_ids = omega (arith, length-set ms id None, a.few_ids);
        cells = omega (arith, length-set ms id None, a.cells);
        rings = unlinked_cell n ms links links' id m a.rings at un;
      };
      counted = omega (arith, count-remove ms id m at, w.counted);
    }

-- a wheel with no member
pub wheel-empty : (n capacity : ℕ) (links : List Link) → 0 < n → n < 2 ^ 32 → capacity < 2 ^ 32 - 1 → length links ≡ n + capacity → AreAlone links
    → IsWheel n (empty capacity) links 0
wheel-empty n capacity links some few few_ids cells alone_each =
    let len_ms : length (empty capacity) ≡ capacity = length-empty capacity in
    let low : (c s : ℕ) → slot_of n (empty capacity) c ≡ Some s → c < n = λ c s here. elim (cases_lt c n) [
      | inl below ↦ below
      | inr high ↦ let m = member_of_slot n (empty capacity) c s here high in absurd (none_at_first capacity (c - n) m.0 m.1)
    ] in
    let own_after : (c s : ℕ) → slot_of n (empty capacity) c ≡ Some s → after_at links c ≡ c = λ c s here. let below = low c s here in ap (λ (l : Link). l.after) (alone_each c (omega arith)) in
    let own_before : (c s : ℕ) → slot_of n (empty capacity) c ≡ Some s → before_at links c ≡ c = λ c s here. let below = low c s here in ap (λ (l : Link). l.before) (alone_each c (omega arith)) in
    record {
      slotted = record {
        some_slots = some;
        few_slots = few;
        few_ids = omega (arith, len_ms);
        cells = omega (arith, len_ms);
        rings = record {
          rank = λ c. c;
          after_in = λ c s here. ap (slot_of n (empty capacity)) (own_after c s here) ∙ here;
          before_in = λ c s here. ap (slot_of n (empty capacity)) (own_before c s here) ∙ here;
          back = λ c s here. ap (before_at links) (own_after c s here) ∙ own_before c s here;
          forth = λ c s here. ap (after_at links) (own_before c s here) ∙ own_after c s here;
          rises = λ c s here high. let below = low c s here in absurd (omega arith);
        };
      };
      counted = sym (count-empty capacity);
    }
