-- The first of those that have started is the first of all, if that has started; and they are those in effect.
use Rattle.std.proofs.Common.{◌≡◌, ℕ, ◌+◌, ◌≤◌, max, Bool, true, false, ◌&&◌, nat_lt, nat_le, cond, Option, Some, None, List, [], ◌∷◌, map, filter, refl, sym, ap, ◌∙◌, inl, inr, arith}
use Rattle.std.specs.Bool.{⊤}
use Rattle.std.specs.List.{All}
use Rattle.std.proofs.lemmas.Bool.{lt-ltb, le-ltb, ltb-false, ltb-true, le-leb, leb-true, leb-false, and_left}
use Rattle.std.proofs.lemmas.Bool.Decides.{nat_tests}
use Rattle.std.proofs.lemmas.Option.{none-some}
use Rattle.std.proofs.lemmas.List.Elements.{All-nil, All-cons, All-head, All-tail, All-weaker}
use Rattle.downtime_book.specs.declared.downtime.Downtime.{Downtime}
use Rattle.downtime_book.specs.declared.kind.Kind.{Kind}
use Rattle.downtime_book.specs.declared.kind.Kind.TheVariants.{Fixed, Flexible}
use Rattle.downtime_book.specs.declared.rank.Rank.{Rank}
use Rattle.downtime_book.specs.Calls.{Call, added, resulted, cancelled, first_problem, is_cancelled, downtime_of, downtimes, latest}
use Rattle.downtime_book.specs.Downtime.{kind_until, kind_is_in_effect, is_live, is_in_effect, kind_is_waiting, is_triggered_by, triggered_at, after_result}
use Rattle.downtime_book.specs.Firsts.{first_of, kind_counts, is_waiting, starts}
use Rattle.downtime_book.specs.Naming.{rank_of, lesser, least, started}
use Rattle.downtime_book.proofs.NamingLemmas.{Before, Before-total, lesser-here, lesser-there, rank_of-after_result}

-- ---- the first of those that have started
before_start : (a b : Rank) → Before a b → a.start ≤ b.start
before_start a b (inl h) = omega arith
before_start a b (inr h) = omega (arith, h.0)

module _ (m : ℕ) where
  started-here : (r q : Rank) → Before r q → (a b : Bool) → nat_le r.start m ≡ a → nat_le q.start m ≡ b → cond a (Some r) None ≡ cond a (Some (lesser r (cond b (Some q) None))) (cond b (Some q) None)
  started-here r q h true true e f = ap (λ (z : Rank). Some z) (sym (lesser-here r q h))
  started-here r q h true false e f = refl
  started-here r q h false true e f = absurd (omega (arith, before_start r q h, leb-false r.start m e, leb-true q.start m f))
  started-here r q h false false e f = refl

  started-there : (r q : Rank) → Before q r → (a b : Bool) → nat_le r.start m ≡ a → nat_le q.start m ≡ b → cond b (Some q) None ≡ cond a (Some (lesser r (cond b (Some q) None))) (cond b (Some q) None)
  started-there r q h true true e f = ap (λ (z : Rank). Some z) (sym (lesser-there r q h))
  started-there r q h true false e f = absurd (omega (arith, before_start q r h, leb-true r.start m e, leb-false q.start m f))
  started-there r q h false true e f = refl
  started-there r q h false false e f = refl

  started-lesser : (r : Rank) (o : Option Rank) → started m (Some (lesser r o)) ≡ cond (nat_le r.start m) (Some (lesser r (started m o))) (started m o)
  started-lesser r None = refl
  started-lesser r (Some q) =
      elim (Before-total r q) [
        | inl h ↦ ap (λ (z : Rank). started m (Some z)) (lesser-here r q h) ∙ started-here r q h (nat_le r.start m) (nat_le q.start m) refl refl
        | inr h ↦ ap (λ (z : Rank). started m (Some z)) (lesser-there r q h) ∙ started-there r q h (nat_le r.start m) (nat_le q.start m) refl refl
      ]

  pub started-first_of : (t : Downtime → Bool) (ds : List Downtime) → started m (first_of t ds) ≡ first_of (λ d. t d && nat_le d.start m) ds
  started-first_of t [] = refl
  started-first_of t (d ∷ ds) =
      let r = rank_of d in
      let o = first_of t ds in
      let p = first_of (λ d. t d && nat_le d.start m) ds in
      let more : started m o ≡ p = started-first_of t ds in
      elim (t d) as (λ b. started m (cond b (Some (lesser r o)) o) ≡ cond (b && nat_le d.start m) (Some (lesser r p)) p) [
        | true ↦ started-lesser r o ∙ ap (λ (z : Option Rank). cond (nat_le d.start m) (Some (lesser r z)) z) more
        | false ↦ more
      ]

-- none passes the test where there is no first
first_none : (t : Downtime → Bool) (ds : List Downtime) → first_of t ds ≡ None → All (λ d. t d ≡ false) ds
first_none t [] h = All-nil _
first_none t (d ∷ ds) h = by (t d) refl h (first_none t ds)
  where
    by : (b : Bool) → t d ≡ b → cond b (Some (lesser (rank_of d) (first_of t ds))) (first_of t ds) ≡ None → (first_of t ds ≡ None → All (λ d. t d ≡ false) ds) → All (λ d. t d ≡ false) (d ∷ ds)
    by true e k more = absurd (none-some _ (sym k))
    by false e k more = All-cons (λ d. t d ≡ false) d ds e (more k)

-- where none of those that wait has started, a problem triggers none
pub none_triggered : (m : ℕ) (ds : List Downtime) → started m (first_of is_waiting ds) ≡ None → All (λ d. is_triggered_by m d ≡ false) ds
none_triggered m ds h =
    All-weaker (λ d. (is_waiting d && nat_le d.start m) ≡ false) (λ d. is_triggered_by m d ≡ false) (λ d e. and_left (is_waiting d && nat_le d.start m) (nat_lt m d.«end») e) ds
    (first_none (λ d. is_waiting d && nat_le d.start m) ds (sym (started-first_of m is_waiting ds) ∙ h))

-- ---- a trigger
-- it isn't before the start nor after the moment
abbrev pub trigger_is_prompt : Option ℕ → ℕ → ℕ → Type 0
trigger_is_prompt None start m = ⊤
trigger_is_prompt (Some t) start m = (start ≤ t) × (t ≤ m)

abbrev pub kind_is_prompt : Kind → ℕ → ℕ → Type 0
kind_is_prompt Fixed start m = ⊤
kind_is_prompt (Flexible d o) start m = trigger_is_prompt o start m

abbrev pub IsPrompt : ℕ → Downtime → Type 0
IsPrompt m d = kind_is_prompt d.kind d.start m

prompt_later : (o : Option ℕ) (s l m : ℕ) → l ≤ m → trigger_is_prompt o s l → trigger_is_prompt o s m
prompt_later None s l m u h = tt
prompt_later (Some t) s l m u h = (h.0, omega (arith, h.1))

kind_prompt_later : (k : Kind) (s l m : ℕ) → l ≤ m → kind_is_prompt k s l → kind_is_prompt k s m
kind_prompt_later Fixed s l m u h = tt
kind_prompt_later (Flexible d o) s l m u h = prompt_later o s l m u h

pub all_prompt_later : (l m : ℕ) (ds : List Downtime) → l ≤ m → All (IsPrompt l) ds → All (IsPrompt m) ds
all_prompt_later l m ds u h = All-weaker (IsPrompt l) (IsPrompt m) (λ d k. kind_prompt_later d.kind d.start l m u k) ds h

first_prompt : (s e : ℕ) (h : List Call) → trigger_is_prompt (first_problem s e h) s (latest h)
first_prompt s e [] = tt
first_prompt s e (added _ _ _ _ _ ∷ h) = first_prompt s e h
first_prompt s e (resulted t p ∷ h) = by (p && nat_le s t && nat_lt t e) refl (first_prompt s e h)
  where
    by : (b : Bool) → (p && nat_le s t && nat_lt t e) ≡ b → trigger_is_prompt (first_problem s e h) s (latest h) → trigger_is_prompt (cond b (Some t) (first_problem s e h)) s (max t (latest h))
    by true q more = (grind (arith, nat_tests), omega arith)
    by false q more = prompt_later (first_problem s e h) s (latest h) (max t (latest h)) (omega arith) more
first_prompt s e (cancelled _ t ∷ h) = prompt_later (first_problem s e h) s (latest h) (max t (latest h)) (omega arith) (first_prompt s e h)

downtime_prompt : (n s e : ℕ) (f : Bool) (d : ℕ) (h : List Call) → IsPrompt (latest h) (downtime_of n s e f d h)
downtime_prompt n s e true d h = tt
downtime_prompt n s e false d h = first_prompt s e h

pub downtimes_prompt : (h : List Call) → All (IsPrompt (latest h)) (downtimes h)
downtimes_prompt [] = All-nil _
downtimes_prompt (added n s e f d ∷ h) =
    elim (is_cancelled n h) as (λ b. All (IsPrompt (latest h)) (cond b (downtimes h) (downtime_of n s e f d h ∷ downtimes h)))
    [ true ↦ downtimes_prompt h | false ↦ All-cons (IsPrompt (latest h)) (downtime_of n s e f d h) (downtimes h) (downtime_prompt n s e f d h) (downtimes_prompt h) ]
downtimes_prompt (resulted t p ∷ h) = all_prompt_later (latest h) (max t (latest h)) (downtimes h) (omega arith) (downtimes_prompt h)
downtimes_prompt (cancelled n t ∷ h) = all_prompt_later (latest h) (max t (latest h)) (downtimes h) (omega arith) (downtimes_prompt h)

-- ---- what is in effect once a result came
and_true : (a : Bool) → (a && true) ≡ a
and_true true = refl
and_true false = refl

lasts : (m d : ℕ) (b : Bool) → nat_lt 0 d ≡ b → (nat_le m m && nat_lt m (m + d)) ≡ b
lasts m d true e = ap (λ a. a && nat_lt m (m + d)) (le-leb m m (omega arith)) ∙ lt-ltb m (m + d) (let h = ltb-true 0 d e in omega (arith, h))
lasts m d false e = ap (λ a. a && nat_lt m (m + d)) (le-leb m m (omega arith)) ∙ le-ltb m (m + d) (let h = ltb-false 0 d e in omega (arith, h))

-- nothing triggers one that doesn't wait
abbrev kind_after : ℕ → Bool → Kind → ℕ → ℕ → Bool
kind_after m p k s e =
    cond (p && (kind_is_waiting k && nat_le s m && nat_lt m e)) (kind_is_in_effect (triggered_at m k) s e m) (kind_is_in_effect k s e m)

kind_starts : (m : ℕ) (k : Kind) (s e : ℕ) (p : Bool) → nat_lt m (kind_until k e) ≡ true → kind_is_prompt k s m → kind_after m p k s e ≡ (kind_counts p k && nat_le s m)
kind_starts m Fixed s e true live h = ap (λ b. nat_le s m && b) live ∙ and_true (nat_le s m)
kind_starts m Fixed s e false live h = ap (λ b. nat_le s m && b) live ∙ and_true (nat_le s m)
kind_starts m (Flexible d (Some t)) s e true live h =
    ap (λ b. nat_le t m && b) live ∙ and_true (nat_le t m) ∙ le-leb t m h.1 ∙ sym (le-leb s m (omega (arith, h.0, h.1)))
kind_starts m (Flexible d (Some t)) s e false live h =
    ap (λ b. nat_le t m && b) live ∙ and_true (nat_le t m) ∙ le-leb t m h.1 ∙ sym (le-leb s m (omega (arith, h.0, h.1)))
kind_starts m (Flexible d None) s e false live h = refl
kind_starts m (Flexible d None) s e true live h =
    let x = nat_le m m && nat_lt m (m + d) in
    ap (λ b. cond (nat_le s m && b) x false) live ∙ elim (nat_le s m) as (λ a. cond (a && true) x false ≡ (nat_lt 0 d && a))
    [ true ↦ lasts m d (nat_lt 0 d) refl ∙ sym (and_true (nat_lt 0 d)) | false ↦ elim (nat_lt 0 d) as (λ c. false ≡ (c && false)) [ true ↦ refl | false ↦ refl ] ]

starts_in_effect : (m : ℕ) (p : Bool) (d : Downtime) → is_live m d ≡ true → IsPrompt m d → is_in_effect m (after_result m p d) ≡ starts m p d
starts_in_effect m p d live h =
    let e : Downtime = record d { kind = triggered_at m d.kind } in
    let after : is_in_effect m (after_result m p d) ≡ kind_after m p d.kind d.start d.«end» =
    elim (p && is_triggered_by m d) as (λ b. is_in_effect m (cond b e d) ≡ cond b (kind_is_in_effect (triggered_at m d.kind) d.start d.«end» m) (kind_is_in_effect d.kind d.start d.«end» m))
    [ true ↦ refl | false ↦ refl ] in
    after ∙ kind_starts m d.kind d.start d.«end» p live h

same_least : (a b : Bool) (r s : Rank) (o q : Option Rank) → a ≡ b → r ≡ s → o ≡ q → cond a (Some (lesser r o)) o ≡ cond b (Some (lesser s q)) q
same_least a b r s o q e f g = cc

-- of those that are live, those in effect are those that have started
pub least_starts : (m : ℕ) (p : Bool) (ds : List Downtime) → All (IsPrompt m) ds → least m (map (after_result m p) (filter (is_live m) ds)) ≡ first_of (starts m p) (filter (is_live m) ds)
least_starts m p [] h = refl
least_starts m p (d ∷ ds) h =
    let live = filter (is_live m) ds in
    let more = least_starts m p ds (All-tail (IsPrompt m) d ds h) in
    let by : (b : Bool) → is_live m d ≡ b → least m (map (after_result m p) (cond b (d ∷ live) live)) ≡ first_of (starts m p) (cond b (d ∷ live) live) =
    λ b. elim b as (λ b. is_live m d ≡ b → least m (map (after_result m p) (cond b (d ∷ live) live)) ≡ first_of (starts m p) (cond b (d ∷ live) live)) [
      | true ↦ λ e. same_least _ _ _ _ _ _ (starts_in_effect m p d e (All-head (IsPrompt m) d ds h)) (rank_of-after_result m p d) more
      | false ↦ λ e. more
    ] in
    by (is_live m d) refl
