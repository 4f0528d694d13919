-- Tests of histories tell what histories are.
use Rattle.std.proofs.Common.{◌≡◌, ℕ, suc, ◌+◌, ◌<◌, ◌≤◌, ◌==◌, ◌&&◌, ◌⊎◌, inl, inr, Bool, true, false, nat_le, nat_lt, List, [], ◌∷◌, length, map, All, refl, sym, ap, ◌∙◌, arith}
use Rattle.std.specs.Bool.{Decides}
use Rattle.std.specs.List.{list_all}
use Rattle.std.proofs.lemmas.Bool.Decides.{Decides-and, Decides-at, Decides-by_and, Decides-eqb, Decides-like, Decides-ltb, leb_tells}
use Rattle.std.proofs.lemmas.List.Elements.{All-cons, All-head, All-nil, All-tail}
use Rattle.run_meaning.specs.Turns.{from_on}
use Rattle.site_model.specs.PlainSite.{PlainSite}
use Rattle.site_model.specs.declared.decision.Decision.{Decision}
use Rattle.site_model.specs.declared.entry.Entry.{Entry}
use Rattle.site_model.specs.declared.event.Event.{Event}
use Rattle.site_model.specs.declared.event.Event.TheVariants as event
use Rattle.site_model.specs.declared.outcome.Outcome.{Outcome}
use Rattle.site_model.specs.declared.outcome.Outcome.TheVariants as outcome
use Rattle.site_model.specs.declared.sight.Sight.{Sight}
use Rattle.checkable_core.specs.Histories.{DecidesOwn, IsDuration, IsEntryOf, IsHistory, IsLawful, NamesOwn, Rises}
use Rattle.checkable_core.specs.HistoryTests.{decides_own, is_duration, is_entry_of, is_history_from, is_lawful, names_own}

le_decides : (a b : ℕ) → Decides (nat_le a b) (a ≤ b)
le_decides a b = by (leb_tells a b)
  where
    by : ((nat_le a b ≡ true) × (a ≤ b)) ⊎ ((nat_le a b ≡ false) × (b < a)) → Decides (nat_le a b) (a ≤ b)
    by (inl (t, l)) = (λ _. l, λ _. t)
    by (inr (f, g)) = (λ t. absurd cc, λ l. absurd (omega (arith, l, g)))

yes : Decides true (Unit {0})
yes = (λ _. tt, λ _. refl)

all_decides : {X : Type 0} (test : X → Bool) (P : X → Type 0) → ((x : X) → Decides (test x) (P x)) → (xs : List X) → Decides (list_all test xs) (All P xs)
all_decides test P each xs = Decides-by_and test P (list_all test) each refl (λ _ _. refl) xs

-- Events.

duration : (fixed : Bool) (d : ℕ) → Decides (is_duration fixed d) (IsDuration fixed d)
duration true d = Decides-eqb d 0
duration false d = Decides-ltb 0 d

lawful : (v : Event) → Decides (is_lawful v) (IsLawful v)
lawful (event.Result status passive output perf) = le_decides status 3
lawful event.Tick = yes
lawful (event.Ack sticky notify) = yes
lawful event.Unack = yes
lawful (event.Down start finish fixed d) = Decides-and (nat_lt start finish) (is_duration fixed d) (Decides-ltb start finish) (duration fixed d)
lawful (event.Undown number) = yes
lawful (event.Checks on) = yes
lawful (event.Notes on) = yes
lawful (event.Check at forced) = yes

-- Names.

own : (s : PlainSite) (o : Outcome) → Decides (names_own s o) (NamesOwn s o)
own s (outcome.Sent users) = all_decides (λ u. nat_lt u (length s.users)) (λ u. u < length s.users) (λ u. Decides-ltb u (length s.users)) users
own s outcome.Disabled = yes
own s (outcome.Dependency depend) = Decides-ltb depend (length s.depends)
own s (outcome.Host host) = Decides-ltb host (length s.checkables)
own s (outcome.Downtime number) = yes
own s outcome.Flapping = yes
own s outcome.Acknowledged = yes
own s outcome.Period = yes
own s outcome.Kind = yes
own s outcome.State = yes
own s outcome.TooEarly = yes
own s outcome.TooLate = yes
own s outcome.Repeat = yes
own s outcome.NoUsers = yes

decided : (s : PlainSite) (d : Decision) → Decides (decides_own s d) (DecidesOwn s d)
decided s d =
    Decides-like (decides_own s d) (λ p. record { notification = p.0; outcome = p.1 }) (λ r. (r.notification, r.outcome))
    (Decides-and (nat_lt d.notification (length s.notifies)) (names_own s d.outcome) (Decides-ltb d.notification (length s.notifies)) (own s d.outcome))

pub entry : (s : PlainSite) (e : Entry) → Decides (is_entry_of s e) (IsEntryOf s e)
entry s e =
    let seen : Sight → Bool = λ (x : Sight). nat_lt x.checkable (length s.checkables) in
    Decides-like (is_entry_of s e) (λ p. record { event = p.0; sights = p.1.0; decisions = p.1.1 }) (λ r. (r.event, (r.sights, r.decisions)))
    (Decides-and (is_lawful e.event) (list_all seen e.sights && list_all (decides_own s) e.decisions) (lawful e.event)
    (Decides-and (list_all seen e.sights) (list_all (decides_own s) e.decisions)
    (all_decides seen (λ (x : Sight). x.checkable < length s.checkables) (λ (x : Sight). Decides-ltb x.checkable (length s.checkables)) e.sights)
    (all_decides (decides_own s) (DecidesOwn s) (decided s) e.decisions)))

-- Entries.

record IsFrom (s : PlainSite) (n from : ℕ) (es : List Entry) : Type 0 where
  pub numbers : map (λ (e : Entry). e.number) es ≡ from_on (n + 1) (length es)
  pub moments : Rises from es
  pub entries : All (IsEntryOf s) es

up : (n : ℕ) → suc (n + 1) ≡ n + 1 + 1
up n = omega arith

first : (n : ℕ) (e : Entry) (es : List Entry) → map (λ (x : Entry). x.number) (e ∷ es) ≡ from_on (n + 1) (length (e ∷ es)) → (e.number ≡ n + 1) × (map (λ (x : Entry). x.number) es ≡ from_on (n + 1 + 1) (length es))
first n e es h =
    let rest : map (λ (x : Entry). x.number) es ≡ from_on (suc (n + 1)) (length es) = cc in
    (cc, rest ∙ ap (λ k. from_on k (length es)) (up n))

from : (s : PlainSite) (n m : ℕ) (es : List Entry) → Decides (is_history_from s n m es) (IsFrom s n m es)
from s n m [] = (λ _. record { numbers = refl; moments = tt; entries = All-nil (IsEntryOf s) }, λ _. refl)
from s n m (e ∷ es) =
    Decides-like (is_history_from s n m (e ∷ es))
    (λ p. record {
      numbers = ap (λ k. k ∷ map (λ (x : Entry). x.number) es) p.0 ∙ ap (λ ks. (n + 1) ∷ ks) (p.1.1.1.numbers ∙ sym (ap (λ k. from_on k (length es)) (up n)));
      moments = (p.1.0, p.1.1.1.moments);
      entries = All-cons (IsEntryOf s) e es p.1.1.0 p.1.1.1.entries;
    })
    (λ r. let (here, rest) = first n e es r.numbers in
    (here, (r.moments.0, (All-head (IsEntryOf s) e es r.entries, record { numbers = rest; moments = r.moments.1; entries = All-tail (IsEntryOf s) e es r.entries }))))
    (Decides-and (e.number == n + 1) (nat_le m e.moment && (is_entry_of s e && is_history_from s (n + 1) e.moment es)) (Decides-eqb e.number (n + 1))
    (Decides-and (nat_le m e.moment) (is_entry_of s e && is_history_from s (n + 1) e.moment es) (le_decides m e.moment)
    (Decides-and (is_entry_of s e) (is_history_from s (n + 1) e.moment es) (entry s e) (from s (n + 1) e.moment es))))

pub history : (s : PlainSite) (es : List Entry) → Decides (is_history_from s 0 0 es) (IsHistory s es)
history s es =
    Decides-like (is_history_from s 0 0 es) (λ r. record { numbers = r.numbers; moments = r.moments; entries = r.entries }) (λ r. record { numbers = r.numbers; moments = r.moments; entries = r.entries })
    (from s 0 0 es)

-- One entry after the other.

pub passes : (a b c d : Bool) → (a && (b && c)) ≡ true → (a && (b && (c && d))) ≡ d
passes true true true d h = refl
passes true true false d h = absurd cc
passes true false c d h = absurd cc
passes false b c d h = absurd cc

pub fails : (a b c d : Bool) → (a && (b && c)) ≡ false → (a && (b && (c && d))) ≡ false
fails true true true d h = absurd cc
fails true true false d h = refl
fails true false c d h = refl
fails false b c d h = refl

pub tells : (s : PlainSite) (es : List Entry) (b : Bool) → b ≡ is_history_from s 0 0 es → Decides b (IsHistory s es)
tells s es b e = Decides-at b (is_history_from s 0 0 es) e (history s es)

pub tells_entry : (s : PlainSite) (e : Entry) (b : Bool) → b ≡ is_entry_of s e → Decides b (IsEntryOf s e)
tells_entry s e b is = Decides-at b (is_entry_of s e) is (entry s e)
