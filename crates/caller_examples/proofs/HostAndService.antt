-- A host's event and its service's: the two orders, and nothing else.
use Rattle.std.proofs.Common.{◌≡◌, ◌<◌, ◌≤◌, ◌++◌, ℕ, zero, suc, List, [], ◌∷◌, length, take, map, slice_get, cond, Some, inl, inr, ◌⊎◌, refl, sym, ap, ap₂, ◌∙◌, subst, arith, lit<, length-take-le}
use Rattle.std.proofs.lemmas.List.Sorted.{IsPermutation-sym}
use Rattle.site_model.specs.declared.entry.Entry.{Entry}
use Rattle.site_model.specs.declared.sight.Sight.{Sight}
use Rattle.run_meaning.specs.Turns.{Histories, of_index}
use Rattle.run_meaning.specs.Rounds.{IsRound}
use Rattle.run_meaning.specs.Alone.{Move}
use Rattle.run_meaning.specs.Shares.{done_in}
use Rattle.run_meaning.specs.TwoCallers.{down, events, nothing, rules}
use Rattle.run_meaning.proofs.Lists.{get_map, length_map, moves_on, of_index_past, one_at}
use Rattle.run_meaning.proofs.Meeting.{moves_make}
use Rattle.run_meaning.proofs.Parts.{apart}
use Rattle.run_meaning.proofs.Shares.{entries_are_dealt}
use Rattle.run_meaning.proofs.Sole.{done_by, front}
use Rattle.caller_examples.specs.Orders.{on_host, on_service, host_first, service_first}
use Rattle.caller_examples.proofs.Orders.{one}
use Rattle.caller_examples.proofs.Moves.{AllSeen, EntryOf, round_is}

each_of_two : (P : Move → Type 0) (a c : Move) → P a → P c → (i : ℕ) (m : Move) → slice_get (a ∷ c ∷ []) i ≡ Some m → P m
each_of_two P a c pa pc zero m h = let e : a ≡ m = cc in subst P e pa
each_of_two P a c pa pc (suc zero) m h = let e : c ≡ m = cc in subst P e pc
each_of_two P a c pa pc (suc (suc i)) m h = absurd cc

abbrev Small : Move → Type 0
Small m = m.caller < 2

abbrev OnSite : Move → Type 0
OnSite m = m.asked.checkable < length rules.site.checkables

pub host_is : IsRound rules 10 nothing events host_first
host_is = moves_make rules 10 nothing 2 (on_host ∷ on_service ∷ []) (each_of_two Small on_host on_service (lit< tt) (lit< tt)) (each_of_two OnSite on_host on_service (lit< tt) (lit< tt))

pub service_is : IsRound rules 10 nothing events service_first
service_is = moves_make rules 10 nothing 2 (on_service ∷ on_host ∷ []) (each_of_two Small on_service on_host (lit< tt) (lit< tt)) (each_of_two OnSite on_service on_host (lit< tt) (lit< tt))

none_or_one : (n : ℕ) → n ≤ 1 → (n ≡ 0) ⊎ (n ≡ 1)
none_or_one zero h = inl refl
none_or_one (suc zero) h = inr refl
none_or_one (suc (suc n)) h = absurd (omega arith)

-- a list that shows one thing has one
only_one : {A B : Type 0} (f : A → B) (xs : List A) (y : B) (j : ℕ) (x : A) → map f xs ≡ y ∷ [] → slice_get xs j ≡ Some x → (j ≡ 0) × (f x ≡ y)
only_one f [] y j x e h = absurd cc
only_one f (a ∷ []) y zero x e h = (refl, cc)
only_one f (a ∷ []) y (suc j) x e h = absurd cc
only_one f (a ∷ c ∷ xs) y j x e h = absurd (let n = ap length e in omega (arith, n))

-- a list that shows nothing has nothing
has_none : {A B : Type 0} (f : A → B) (xs : List A) (j : ℕ) (x : A) → map f xs ≡ [] → slice_get xs j ≡ Some x → ⊥
has_none f [] j x e h = absurd cc
has_none f (a ∷ xs) j x e h = absurd (let n = ap length e in omega (arith, n))

-- nothing stands further on
past : (c : ℕ) (a d : Move) → a.asked.checkable < 2 → d.asked.checkable < 2 → moves_on (suc (suc c)) (a ∷ d ∷ []) ≡ []
past c a d p q =
    let k = suc (suc c) in
    let first = apart a.asked.checkable k (λ e. omega (arith, e)) in
    let second = apart d.asked.checkable k (λ e. omega (arith, e)) in
    ap₂ (λ s t. cond s (a ∷ cond t (d ∷ []) []) (cond t (d ∷ []) [])) first second

-- the service's entry has a sight that counts so many
record IsSeen (round : Histories) (n : ℕ) : Type 0 where
  entry : Entry
  sight : Sight
  at : slice_get (of_index 1 round) 0 ≡ Some entry
  first : slice_get entry.sights 0 ≡ Some sight
  count : sight.count ≡ n

module _ (round : Histories) (x : IsRound rules 10 nothing events round) where
  host_done : map done_in (of_index 0 round) ≡ (0, down) ∷ []
  host_done = one (0, down) _ (IsPermutation-sym _ _ (entries_are_dealt rules 10 nothing events round x 0))

  service_done : map done_in (of_index 1 round) ≡ (1, down) ∷ []
  service_done = one (1, down) _ (IsPermutation-sym _ _ (entries_are_dealt rules 10 nothing events round x 1))

  one_of_host : length (of_index 0 round) ≡ 1
  one_of_host = sym (length_map done_in (of_index 0 round)) ∙ ap length host_done

  none_past : (c : ℕ) → of_index (suc (suc c)) round ≡ []
  none_past c = of_index_past round (suc (suc c)) (let w : length round ≡ 2 = x.whole in omega (arith, w))

  host_taken : (c : ℕ) → map done_in (of_index c round) ≡ map done_by (moves_on c (on_host ∷ on_service ∷ []))
  host_taken zero = host_done
  host_taken (suc zero) = service_done
  host_taken (suc (suc c)) = ap (map done_in) (none_past c) ∙ ap (map done_by) (sym (past c on_host on_service (lit< tt) (lit< tt)))

  service_taken : (c : ℕ) → map done_in (of_index c round) ≡ map done_by (moves_on c (on_service ∷ on_host ∷ []))
  service_taken zero = host_done
  service_taken (suc zero) = service_done
  service_taken (suc (suc c)) = ap (map done_in) (none_past c) ∙ ap (map done_by) (sym (past c on_service on_host (lit< tt) (lit< tt)))

  -- the host's entry has seen nothing
  host_saw : (n : ℕ) (e : Entry) → slice_get (of_index 0 round) n ≡ Some e → (j : ℕ) (y : Sight) → slice_get e.sights j ≡ Some y → ⊥
  host_saw n e at j y h = has_none (λ (s : Sight). s.checkable) e.sights j y (x.ancestors 0 n e at) h

  -- the service's entry, whose one sight is of the host
  service_saw : (n : ℕ) (e : Entry) → slice_get (of_index 1 round) n ≡ Some e → (j : ℕ) (y : Sight) → slice_get e.sights j ≡ Some y → (j ≡ 0) × (y.checkable ≡ 0)
  service_saw n e at j y h = only_one (λ (s : Sight). s.checkable) e.sights 0 j y (x.ancestors 1 n e at) h

  -- each sight of an entry of the service counts so
  seen_so : (n : ℕ) → IsSeen round n → (k : ℕ) (e : Entry) → slice_get (of_index 1 round) k ≡ Some e → (j : ℕ) (y : Sight) → slice_get e.sights j ≡ Some y → (y.checkable ≡ 0) × (y.count ≡ n)
  seen_so n s k e at j y h =
      let (k0, is) = only_one done_in (of_index 1 round) (1, down) k e service_done at in
      let same : e ≡ s.entry = one_at (of_index 1 round) 0 e s.entry (subst (λ z. slice_get (of_index 1 round) z ≡ Some e) k0 at) s.at in
      let (j0, checkable) = service_saw k e at j y h in
      let first : slice_get s.entry.sights 0 ≡ Some y = subst (λ z. slice_get z.sights 0 ≡ Some y) same (subst (λ z. slice_get e.sights z ≡ Some y) j0 h) in
      (checkable, ap (λ (z : Sight). z.count) (one_at s.entry.sights 0 y s.sight first s.first) ∙ s.count)

  host_seen : IsSeen round 1 → AllSeen nothing (on_host ∷ on_service ∷ []) round
  host_seen s zero m e h at j y k =
      let is : on_host ≡ m = cc in
      absurd (host_saw 0 e (subst (λ z. EntryOf (on_host ∷ on_service ∷ []) round 0 z e) (sym is) at) j y k)
  host_seen s (suc zero) m e h at j y k =
      let is : on_service ≡ m = cc in
      let (host, count) = seen_so 1 s 0 e (subst (λ z. EntryOf (on_host ∷ on_service ∷ []) round 1 z e) (sym is) at) j y k in
      let long : length (take 1 (of_index 0 round)) ≡ 1 = length-take-le 1 (of_index 0 round) (let n = one_of_host in omega (arith, n)) in
      count ∙ sym long ∙ ap (λ c. length (front nothing (on_host ∷ on_service ∷ []) round 1 c)) (sym host)
  host_seen s (suc (suc i)) m e h at j y k = absurd cc

  service_seen : IsSeen round 0 → AllSeen nothing (on_service ∷ on_host ∷ []) round
  service_seen s zero m e h at j y k =
      let is : on_service ≡ m = cc in
      let (host, count) = seen_so 0 s 0 e (subst (λ z. EntryOf (on_service ∷ on_host ∷ []) round 0 z e) (sym is) at) j y k in
      count ∙ ap (λ c. length (front nothing (on_service ∷ on_host ∷ []) round 0 c)) (sym host)
  service_seen s (suc zero) m e h at j y k =
      let is : on_host ≡ m = cc in
      absurd (host_saw 0 e (subst (λ z. EntryOf (on_service ∷ on_host ∷ []) round 1 z e) (sym is) at) j y k)
  service_seen s (suc (suc i)) m e h at j y k = absurd cc

  pub only : (round ≡ host_first) ⊎ (round ≡ service_first)
  only =
      let (e, at, is) = get_map done_in (of_index 1 round) 0 (1, down) (ap (λ z. slice_get z 0) service_done) in
      let (y, first, host) = get_map (λ (s : Sight). s.checkable) e.sights 0 0 (ap (λ z. slice_get z 0) (x.ancestors 1 0 e at)) in
      let most : y.count ≤ length (nothing_and y.checkable) = (x.seen 1 0 0 e y at first).1 in
      let most_of_host : y.count ≤ length (of_index 0 round) = subst (λ c. y.count ≤ length (nothing_and c)) host most in
      let few : y.count ≤ 1 = omega (arith, most_of_host, one_of_host) in
      by e y at first (none_or_one y.count few)
    where
      nothing_and : ℕ → List Entry
      nothing_and c = of_index c nothing ++ of_index c round

      by : (e : Entry) (y : Sight) → slice_get (of_index 1 round) 0 ≡ Some e → slice_get e.sights 0 ≡ Some y → (y.count ≡ 0) ⊎ (y.count ≡ 1) → (round ≡ host_first) ⊎ (round ≡ service_first)
      by e y at first (inl n) = inr (round_is rules 10 nothing events round x (on_service ∷ on_host ∷ []) service_taken (service_seen (record { entry = e; sight = y; at = at; first = first; count = n })))
      by e y at first (inr n) = inl (round_is rules 10 nothing events round x (on_host ∷ on_service ∷ []) host_taken (host_seen (record { entry = e; sight = y; at = at; first = first; count = n })))
