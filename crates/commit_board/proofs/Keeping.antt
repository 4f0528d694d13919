-- Each call keeps what a board keeps.
use Rattle.std.proofs.Common.{arith, ◌≡◌, ℕ, zero, suc, ◌-◌, ◌<◌, ◌≤◌, List, [], ◌∷◌, ◌++◌, Bool, true, false, not, length, map, slice_get, slice_set, Option, Some, None, MatchBool, Vec, vec_capacity, refl, sym, ap, ◌∙◌, subst}
use Rattle.std.proofs.lemmas.List.Sums.{count_by-le-length}
use Rattle.std.proofs.lemmas.List.{length-append}
use Rattle.std.specs.declared.alloc.Global.{Global}
use Rattle.commit_board.specs.declared.slot.Slot.{Slot}
use Rattle.commit_board.specs.declared.slot.Slot.TheVariants.{Open, Claimed, Answered}
use Rattle.commit_board.specs.Boards.{AreAnswers, Contents, Fits, Holds, Stands, has_answer, is_open, opens}
use Rattle.commit_board.specs.Places.{below, times}
use Rattle.commit_board.proofs.Slots.{all_open, at_itself, at_none, count_one, count_open, count_set, count_unanswered, length_open, length_set, open_each, open_without, opens_all, opens_set, stand_set, times_more}

module _ {T A : Type 0} {size : ℕ → ℕ} {asks : ℕ → ℕ → T → Type 0} {gives : ℕ → ℕ → A → Type 0} {wave : ℕ} {is_running : Bool} {slots : List (Slot T A)} {free : Vec ℕ Global} {left : ℕ} (h : Holds size asks gives wave is_running slots free left) where
  -- a wave has as many slots as before
  whole_set : (i : ℕ) (x : Slot T A) → (b : Bool) → MatchBool b (length slots ≡ size wave) (slots ≡ []) → MatchBool b (length (slice_set slots i x) ≡ size wave) (slice_set slots i x ≡ [])
  whole_set i x true e = length_set slots i x ∙ e
  whole_set i x false e = rw e refl

  still : (i : ℕ) (x : Slot T A) → Fits (asks wave i) (gives wave i) x → Stands size asks gives (record { wave = wave; is_running = is_running; slots = slice_set slots i x })
  still i x f = record {
    whole = whole_set i x is_running h.stands.whole;
    each = stand_set (λ k s. Fits (asks wave k) (gives wave k) s) slots i x h.stands.each f;
  }

  -- a place that is listed is that of an open task
  open_by : (s : Option (Slot T A)) → 1 ≤ opens s → (t : T) × (s ≡ Some (Open t))
  open_by (Some (Open t)) l = (t, refl)
  open_by (Some Claimed) l = absurd (omega (arith, l))
  open_by (Some (Answered a)) l = absurd (omega (arith, l))
  open_by None l = absurd (omega (arith, l))

  pub listed_is_open : (rest : List ℕ) (i : ℕ) → free.items ≡ rest ++ i ∷ [] → (t : T) × (slice_get slots i ≡ Some (Open t))
  listed_is_open rest i e = open_by (slice_get slots i) (omega (arith, h.listed i, ap (times i) e, times_more i rest i, at_itself i 1))

  pub claims : (rest : Vec ℕ Global) (i : ℕ) (t : T) → free.items ≡ rest.items ++ i ∷ [] → vec_capacity rest ≡ vec_capacity free → slice_get slots i ≡ Some (Open t)
      → Holds size asks gives wave is_running (slice_set slots i Claimed) rest left
  claims rest i t e room is = record {
    stands = still i Claimed tt;
    listed = λ k. omega (arith, h.listed k, ap (times k) e, times_more k rest.items i, opens_set slots i (Open t) Claimed is k, at_none i k);
    many = omega (arith, h.many, ap length e, length-append rest.items (i ∷ []), count_set is_open slots i (Open t) Claimed is);
    room = omega (arith, h.room, room, length_set slots i Claimed);
    counted = h.counted ∙ sym (omega (arith, count_set (λ s. not (has_answer s)) slots i (Open t) Claimed is));
  }

  pub waits : (i : ℕ) → slice_get slots i ≡ Some Claimed → 1 ≤ left
  waits i is = omega (arith, h.counted, count_one (λ s. not (has_answer s)) slots i Claimed is refl)

  pub answers : (i : ℕ) (a : A) → slice_get slots i ≡ Some Claimed → gives wave i a → Holds size asks gives wave is_running (slice_set slots i (Answered a)) free (left - 1)
  answers i a is right = record {
    stands = still i (Answered a) right;
    listed = λ k. omega (arith, h.listed k, opens_set slots i Claimed (Answered a) is k);
    many = omega (arith, h.many, count_set is_open slots i Claimed (Answered a) is);
    room = omega (arith, h.room, length_set slots i (Answered a));
    counted = omega (arith, h.counted, waits i is, count_set (λ s. not (has_answer s)) slots i Claimed (Answered a) is);
  }

  pub has_room : (i : ℕ) (t : T) → slice_get slots i ≡ Some Claimed → length free.items < vec_capacity free
  has_room i t is = omega (
    arith,
    h.many,
    h.room,
    length_set slots i (Open t),
    count_set is_open slots i Claimed (Open t) is,
    count_by-le-length is_open (slice_set slots i (Open t)),
  )

  pub opens_again : (more : Vec ℕ Global) (i : ℕ) (t : T) → more.items ≡ free.items ++ i ∷ [] → vec_capacity more ≡ vec_capacity free → slice_get slots i ≡ Some Claimed → asks wave i t
      → Holds size asks gives wave is_running (slice_set slots i (Open t)) more left
  opens_again more i t e room is asked = record {
    stands = still i (Open t) asked;
    listed = λ k. omega (arith, h.listed k, ap (times k) e, times_more k free.items i, opens_set slots i Claimed (Open t) is k, at_none i k);
    many = omega (arith, h.many, ap length e, length-append free.items (i ∷ []), count_set is_open slots i Claimed (Open t) is);
    room = omega (arith, h.room, room, length_set slots i (Open t));
    counted = h.counted ∙ sym (omega (arith, count_set (λ s. not (has_answer s)) slots i Claimed (Open t) is));
  }

  -- once all answers are there, no place is listed
  none_listed : (xs : List ℕ) → length xs ≡ 0 → xs ≡ []
  none_listed [] e = refl
  none_listed (x ∷ xs) e = absurd (omega (arith, e))

  pub closes : left ≡ 0 → Holds {T = T} {A = A} size asks gives wave false [] free left
  closes e =
      let none : free.items ≡ [] = none_listed free.items (omega (arith, h.many, h.counted, e, open_without slots)) in
      record {
        stands = record { whole = refl; each = λ k s is. absurd cc };
        listed = λ k. ap (times k) none;
        many = ap length none;
        room = omega arith;
        counted = e;
      }

-- a wave begins with all of its tasks open
module _ {T A : Type 0} (size : ℕ → ℕ) (asks : ℕ → ℕ → T → Type 0) (gives : ℕ → ℕ → A → Type 0) (wave : ℕ) where
  pub starts : (tasks : List T) (free : Vec ℕ Global) → length tasks ≡ size wave → ((k : ℕ) (t : T) → slice_get tasks k ≡ Some t → asks wave k t)
      → ((k : ℕ) → times k free.items ≡ below k (length tasks)) → length free.items ≡ length tasks → length tasks ≤ vec_capacity free
      → Holds size asks gives wave true (all_open A tasks) free (length tasks)
  starts tasks free whole asked listed many room = record {
    stands = record { whole = length_open A tasks ∙ whole; each = open_each (asks wave) (gives wave) tasks asked };
    listed = λ k. listed k ∙ sym (opens_all A tasks k);
    many = many ∙ sym (count_open A tasks);
    room = omega (arith, room, length_open A tasks);
    counted = sym (count_unanswered A tasks);
  }

-- the answers of slots that are all answered are right
answers_each : {T A : Type 0} (asks : ℕ → T → Type 0) (gives : ℕ → A → Type 0) (xs : List A) → ((k : ℕ) (s : Slot T A) → slice_get (map (λ a. Answered a) xs) k ≡ Some s → Fits (asks k) (gives k) s)
    → (k : ℕ) (a : A) → slice_get xs k ≡ Some a → gives k a
answers_each asks gives [] all k a e = absurd cc
answers_each asks gives (x ∷ xs) all zero a e = let same : x ≡ a = cc in subst (gives zero) same (all zero (Answered x) refl)
answers_each asks gives (x ∷ xs) all (suc k) a e = answers_each (λ n. asks (suc n)) (λ n. gives (suc n)) xs (λ n. all (suc n)) k a e

abbrev all_answered : (T : Type 0) {A : Type 0} → List A → List (Slot T A)
all_answered T xs = map (λ a. Answered a) xs

answers_long : (T : Type 0) {A : Type 0} (xs : List A) → length (all_answered T xs) ≡ length xs
answers_long T [] = refl
answers_long T (a ∷ xs) = ap suc (answers_long T xs)

pub are_right : {T A : Type 0} {size : ℕ → ℕ} {asks : ℕ → ℕ → T → Type 0} {gives : ℕ → ℕ → A → Type 0} {board : Contents T A} → Stands size asks gives board → board.is_running ≡ true
    → (xs : List A) → board.slots ≡ map (λ a. Answered a) xs → AreAnswers (size board.wave) (gives board.wave) xs
are_right {T} {A} {size} {asks} {gives} {board} h runs xs e = record {
  whole = sym (answers_long T xs) ∙ (ap length (sym e) ∙ subst (λ b. MatchBool b (length board.slots ≡ size board.wave) (board.slots ≡ [])) runs h.whole);
  each = answers_each (asks board.wave) (gives board.wave) xs (λ k s is. h.each k s (ap (λ l. slice_get l k) e ∙ is));
}
