-- A result after entries.
use Rattle.std.proofs.Common.{rules, ◌≡◌, ℕ, zero, suc, ◌+◌, ◌-◌, ◌*◌, ◌&&◌, take, List, [], ◌∷◌, ◌++◌, length, reverse, Bool, true, false, not, nat_lt, min, Option, Some, None, refl, sym, ap, ◌∙◌, arith, if◌then◌else◌}
use Rattle.std.specs.Prelude.{is_some}
use Rattle.std.proofs.lemmas.List.{reverse-append}
use Rattle.site_model.specs.PlainSite.{PlainCheck}
use Rattle.site_model.specs.declared.ack.Ack.{Ack}
use Rattle.site_model.specs.declared.entry.Entry.{Entry}
use Rattle.site_model.specs.declared.event.Event.{Event}
use Rattle.site_model.specs.declared.event.Event.TheVariants as event
use Rattle.site_model.specs.declared.state.State.{State}
use Rattle.site_model.specs.declared.view.View.{View}
use Rattle.run_meaning.specs.View.{state_by, is_problem, same_state, status_in, or_before, last_status, state_after, state_of, problems_with, problems, hard_at, attempt_at, is_hard_problem, leave_hard_problem, changes, change, ack_after, ack_with, ack_of, checks_in, notes_in, switched_to, switched, is_change, change_with, changes_back, weight_from, flapping_value, flapping_at, flapping_with, flapping_back, view_back, view_of, state_unchecked}
use Rattle.check_state.specs.Slots.{padded}

pub back_of : (h : List Entry) (e : Entry) → reverse (h ++ e ∷ []) ≡ e ∷ reverse h
back_of h e = reverse-append h (e ∷ [])

-- The state is a problem exactly where problems stand at the end.

well : (host : Option ℕ) → is_problem (state_unchecked host) ≡ false
well None = refl
well (Some h) = refl

one_more : (b : Bool) (n : ℕ) → b ≡ nat_lt 0 (if b then n + 1 else 0)
one_more true n = search rules
one_more false n = refl

problem_with : (c : PlainCheck) (o : Option ℕ) (before : Option ℕ) (n : ℕ) → is_problem (state_after c before) ≡ nat_lt 0 n → is_problem (state_after c (or_before o before)) ≡ nat_lt 0 (problems_with c o n)
problem_with c None before n e = e
problem_with c (Some s) before n e = one_more (is_problem (state_by c.host s)) n

pub problem_stands : (c : PlainCheck) (back : List Entry) → is_problem (state_of c back) ≡ nat_lt 0 (problems c back)
problem_stands c [] = well c.host
problem_stands c (e ∷ back) = problem_with c (status_in e.event) (last_status back) (problems c back) (problem_stands c back)

-- Of a result.

pub still_checks : (v : Event) (s : ℕ) (b : Bool) → status_in v ≡ Some s → switched_to (checks_in v) b ≡ b
still_checks (event.Result status passive output perf) s b e = refl
still_checks event.Tick s b e = refl
still_checks (event.Ack sticky notify) s b e = refl
still_checks event.Unack s b e = refl
still_checks (event.Down start end fixed duration) s b e = refl
still_checks (event.Undown number) s b e = refl
still_checks (event.Checks on) s b e = absurd cc
still_checks (event.Notes on) s b e = refl
still_checks (event.Check moment forced) s b e = refl

pub still_notes : (v : Event) (s : ℕ) (b : Bool) → status_in v ≡ Some s → switched_to (notes_in v) b ≡ b
still_notes (event.Result status passive output perf) s b e = refl
still_notes event.Tick s b e = refl
still_notes (event.Ack sticky notify) s b e = refl
still_notes event.Unack s b e = refl
still_notes (event.Down start end fixed duration) s b e = refl
still_notes (event.Undown number) s b e = refl
still_notes (event.Checks on) s b e = refl
still_notes (event.Notes on) s b e = absurd cc
still_notes (event.Check moment forced) s b e = refl

pub result_acks : (c : PlainCheck) (v : Event) (s : ℕ) (taken : Bool) (before : State) (a : Ack) → status_in v ≡ Some s → ack_with c v taken before a ≡ ack_after before (state_by c.host s) a
result_acks c (event.Result status passive output perf) s taken before a e = let same : status ≡ s = cc in ap (λ k. ack_after before (state_by c.host k) a) same
result_acks c event.Tick s taken before a e = absurd cc
result_acks c (event.Ack sticky notify) s taken before a e = absurd cc
result_acks c event.Unack s taken before a e = absurd cc
result_acks c (event.Down start end fixed duration) s taken before a e = absurd cc
result_acks c (event.Undown number) s taken before a e = absurd cc
result_acks c (event.Checks on) s taken before a e = absurd cc
result_acks c (event.Notes on) s taken before a e = absurd cc
result_acks c (event.Check moment forced) s taken before a e = absurd cc

-- Slots.

take_padded : (n : ℕ) (cs : List Bool) → take n (padded (suc n) cs) ≡ padded n cs
take_padded zero cs = refl
take_padded (suc n) [] = ap (λ z. false ∷ z) (take_padded n [])
take_padded (suc n) (c ∷ cs) = ap (λ z. c ∷ z) (take_padded n cs)

-- what fills up weighs nothing
weighs_padded : (n j : ℕ) (cs : List Bool) → weight_from j (padded n cs) ≡ weight_from j (take n cs)
weighs_padded zero j cs = refl
weighs_padded (suc n) j [] = let h : weight_from (j + 1) (padded n []) ≡ 0 = weighs_padded n (j + 1) [] ∙ ap (weight_from (j + 1)) (take_none n) in omega (arith, h)
  where
    take_none : (n : ℕ) → take {A = Bool} n [] ≡ []
    take_none zero = refl
    take_none (suc n) = refl
weighs_padded (suc n) j (c ∷ cs) = ap (λ z. (if c then 120 - 2 * j else 0) + z) (weighs_padded n (j + 1) cs)

-- Views by their fields.

abbrev pub seen : ℕ → Bool → State → Bool → ℕ → ℕ → Ack → Bool → Bool → Bool → View
seen a r s h m x k u w f = record { count = a; has_result = r; state = s; hard = h; attempt = m; change = x; ack = k; checks_on = u; notes_on = w; flapping = f }

pub same_view : (a b : ℕ) (r q : Bool) (s t : State) (h g : Bool) (m n : ℕ) (x y : ℕ) (k l : Ack) (u v : Bool) (w z : Bool) (f e : Bool) → a ≡ b → r ≡ q → s ≡ t → h ≡ g → m ≡ n → x ≡ y → k ≡ l → u ≡ v → w ≡ z → f ≡ e →
    seen a r s h m x k u w f ≡ seen b q t g n y l v z e
same_view a b r q s t h g m n x y k l u v w z f e ea er es eh em ex ek eu ew ef = rw (ea, er, es, eh, em, ex, ek, eu, ew, ef) refl

kept_after : (b : Bool) (n most : ℕ) → (if b then min (n + 1) most else 0) ≡ min (if b then n + 1 else 0) most
kept_after true n most = refl
kept_after false n most = search rules

attempt_after : (c : PlainCheck) (b : Bool) (n kept : ℕ) → kept ≡ (if b then min (n + 1) c.max else 0) → (if b then kept else 1) ≡ attempt_at c (if b then n + 1 else 0)
attempt_after c true n kept e = e ∙ search rules
attempt_after c false n kept e = refl

count_after : (n : ℕ) (back : List Entry) (e : Entry) → n ≡ length back → n + 1 ≡ length (e ∷ back)
count_after n back e is = ap (λ k. k + 1) is ∙ search rules

moved : (b d : Bool) (x y z : ℕ) → b ≡ d → x ≡ z → (if b then x else y) ≡ (if d then z else y)
moved b d x y z eb ex = rw (eb, ex) refl

-- The fields after a result, by what was kept of the entries before it.
module _ (c : PlainCheck) (v : View) (kept : ℕ) (h : List Entry) (e : Entry) (s : ℕ) (stands : v ≡ view_of c h) (counted : kept ≡ min (problems c (reverse h)) c.max) (result : status_in e.event ≡ Some s) where
  abbrev back : List Entry
  back = reverse h

  abbrev now : State
  now = state_by c.host s

  abbrev pub many : ℕ
  many = problems_with c (Some s) (problems c back)

  many_is : problems c (e ∷ back) ≡ many
  many_is = ap (λ o. problems_with c o (problems c back)) result

  state_is : state_of c (e ∷ back) ≡ now
  state_is = ap (λ o. state_after c (or_before o (last_status back))) result

  pub problem_is : is_problem now ≡ nat_lt 0 many
  problem_is = one_more (is_problem now) (problems c back)

  pub kept_is : (new : ℕ) → new ≡ (if is_problem now then min (problems c back + 1) c.max else 0) → new ≡ min many c.max
  kept_is new is = is ∙ kept_after (is_problem now) (problems c back) c.max

  was_one : is_hard_problem v.hard v.state ≡ leave_hard_problem c back
  was_one = ap (λ (w : View). is_hard_problem w.hard w.state) stands

  is_one : (hard : Bool) → hard ≡ hard_at c many → is_hard_problem hard now ≡ leave_hard_problem c (e ∷ back)
  is_one hard is = ap (λ (b : Bool). b && is_problem now) is ∙ sym (ap (λ n. hard_at c n && is_problem now) many_is) ∙ sym (ap (λ t. hard_at c (problems c (e ∷ back)) && is_problem t) state_is)

  pub change_is : (hard : Bool) (at : ℕ) → hard ≡ hard_at c many → e.moment ≡ at → (if is_hard_problem hard now && not (is_hard_problem v.hard v.state && same_state v.state now) then at else v.change) ≡ change c (e ∷ back)
  change_is hard at is moment =
      let still : (is_hard_problem v.hard v.state && same_state v.state now) ≡ (leave_hard_problem c back && same_state (state_of c back) (state_of c (e ∷ back))) =
      ap (λ (b : Bool). b && same_state v.state now) was_one ∙ ap (λ (w : View). leave_hard_problem c back && same_state w.state now) stands ∙ ap (λ t. leave_hard_problem c back && same_state (state_of c back) t) (sym state_is) in
      let made : (is_hard_problem hard now && not (is_hard_problem v.hard v.state && same_state v.state now)) ≡ (leave_hard_problem c (e ∷ back) && not (leave_hard_problem c back && same_state (state_of c back) (state_of c (e ∷ back)))) =
      ap (λ (b : Bool). b && not (is_hard_problem v.hard v.state && same_state v.state now)) (is_one hard is) ∙ ap (λ (b : Bool). leave_hard_problem c (e ∷ back) && not b) still in
      let whole : (is_hard_problem hard now && not (is_hard_problem v.hard v.state && same_state v.state now)) ≡ changes c e back =
      made ∙ sym (ap (λ o. is_some o && (leave_hard_problem c (e ∷ back) && not (leave_hard_problem c back && same_state (state_of c back) (state_of c (e ∷ back))))) result) in
      ap (λ (w : View). if is_hard_problem hard now && not (is_hard_problem v.hard v.state && same_state v.state now) then at else w.change) stands
      ∙ moved (is_hard_problem hard now && not (is_hard_problem v.hard v.state && same_state v.state now)) (changes c e back) at (change c back) e.moment whole (sym moment)

  -- the slots after it
  abbrev pub slots : List Bool
  slots = is_change c s back ∷ changes_back c back

  slots_are : changes_back c (e ∷ back) ≡ slots
  slots_are = ap (λ o. change_with c o back (changes_back c back)) result

  pub change_told : (v.has_result && not (same_state v.state now)) ≡ is_change c s back
  change_told = ap (λ (w : View). w.has_result && not (same_state w.state now)) stands

  pub kept_slots : (old new : List Bool) → old ≡ padded 20 (changes_back c back) → new ≡ is_change c s back ∷ take 19 old → new ≡ padded 20 (changes_back c (reverse (h ++ e ∷ [])))
  kept_slots old new was is =
      is ∙ ap (λ z. is_change c s back ∷ take 19 z) was ∙ ap (λ z. is_change c s back ∷ z) (take_padded 19 (changes_back c back))
      ∙ sym (ap (padded 20) (ap (changes_back c) (back_of h e) ∙ slots_are))

  pub value_is : (old new : List Bool) → old ≡ padded 20 (changes_back c back) → new ≡ is_change c s back ∷ take 19 old → 50 * weight_from 1 new ≡ flapping_value c (e ∷ back)
  value_is old new was is =
      ap (λ z. 50 * weight_from 1 z) (kept_slots old new was is ∙ ap (λ z. padded 20 (changes_back c z)) (back_of h e))
      ∙ ap (λ n. 50 * n) (weighs_padded 20 1 (changes_back c (e ∷ back)))

  pub flapping_is : (f : Bool) (value : ℕ) → value ≡ flapping_value c (e ∷ back) → ((was : Bool) → v.flapping ≡ (c.flapping && was) → f ≡ (c.flapping && flapping_at c value was)) → f ≡ (c.flapping && flapping_back c (e ∷ back))
  flapping_is f value is made =
      made (flapping_back c back) (ap (λ (w : View). w.flapping) stands)
      ∙ ap (λ n. c.flapping && flapping_at c n (flapping_back c back)) is
      ∙ sym (ap (λ o. c.flapping && flapping_with c o (flapping_value c (e ∷ back)) (flapping_back c back)) result)

  pub view_is : (state : State) (hard : Bool) (new attempt moved_at : ℕ) (a : Ack) (at : ℕ) → state ≡ now → hard ≡ hard_at c many → new ≡ (if is_problem now then min (problems c back + 1) c.max else 0) → attempt ≡ (if is_problem now then new else 1)
      → e.moment ≡ at → moved_at ≡ (if is_hard_problem hard now && not (is_hard_problem v.hard v.state && same_state v.state now) then at else v.change)
      → a ≡ ack_after v.state now v.ack → (f : Bool) → f ≡ (c.flapping && flapping_back c (e ∷ back)) → seen (v.count + 1) true state hard attempt moved_at a v.checks_on v.notes_on f ≡ view_of c (h ++ e ∷ [])
  view_is state hard new attempt moved_at a at es eh en ea em ec ek f ef =
      same_view _ _ _ _ _ _ _ _ _ _ _ _ _ _ _ _ _ _ _ _
      (count_after v.count back e (ap (λ (w : View). w.count) stands))
      (sym (ap (λ o. is_some (or_before o (last_status back))) result))
      (es ∙ sym state_is)
      (eh ∙ sym (ap (λ n. hard_at c n) many_is))
      (ea ∙ attempt_after c (is_problem now) (problems c back) new en ∙ sym (ap (λ n. attempt_at c n) many_is))
      (ec ∙ change_is hard at eh em)
      (ek ∙ ap (λ (w : View). ack_after w.state now w.ack) stands ∙ sym (result_acks c e.event s e.taken (state_of c back) (ack_of c back) result))
      (ap (λ (w : View). w.checks_on) stands ∙ sym (ap (λ (b : Bool). c.active && b) (still_checks e.event s (switched checks_in back) result)))
      (ap (λ (w : View). w.notes_on) stands ∙ sym (ap (λ (b : Bool). c.notify && b) (still_notes e.event s (switched notes_in back) result)))
      ef
      ∙ sym (ap (view_back c) (back_of h e))

  pub problems_are : (new : ℕ) → new ≡ (if is_problem now then min (problems c back + 1) c.max else 0) → new ≡ min (problems c (reverse (h ++ e ∷ []))) c.max
  problems_are new is = kept_is new is ∙ sym (ap (λ n. min n c.max) (ap (problems c) (back_of h e) ∙ many_is))
