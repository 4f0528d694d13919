-- What is carried over to a site is a history of it.
use Rattle.std.proofs.Common.{◌≡◌, ℕ, zero, suc, ◌<◌, List, [], ◌∷◌, All, length, map, slice_get, Option, Some, None, option_map, refl, sym, ap, ◌∙◌, subst}
use Rattle.std.specs.List.{cons_option, filter_map}
use Rattle.std.proofs.lemmas.List.Elements.{All-cons, All-head, All-nil, All-tail}
use Rattle.checkable_core.specs.Histories.{DecidesOwn, IsEntryOf, IsHistory, NamesOwn, Rises}
use Rattle.run_meaning.specs.Turns.{Histories, from_on, of_index}
use Rattle.run_meaning.proofs.Lists.{get_map, length_map, within}
use Rattle.site_model.proofs.Places.{place_is}
use Rattle.site_model.specs.Names.{IsPlaceOf, place_of}
use Rattle.site_model.specs.PlainSite.{PlainCheck, PlainSite, full_names}
use Rattle.site_model.specs.Sound.{IsIndex}
use Rattle.site_model.specs.declared.decision.Decision.{Decision}
use Rattle.site_model.specs.declared.depend_spec.DependSpec.{DependSpec}
use Rattle.site_model.specs.declared.entry.Entry.{Entry}
use Rattle.site_model.specs.declared.note_kind.NoteKind.{NoteKind}
use Rattle.site_model.specs.declared.notify_spec.NotifySpec.{NotifySpec}
use Rattle.site_model.specs.declared.outcome.Outcome.{Outcome}
use Rattle.site_model.specs.declared.outcome.Outcome.TheVariants as outcome
use Rattle.site_model.specs.declared.sight.Sight.{Sight}
use Rattle.site_model.specs.declared.user_spec.UserSpec.{UserSpec}
use Rattle.site_text.specs.Entries.{depend_names, notify_names, user_names}
use Rattle.history_carry.specs.Carried.{history_at}
use Rattle.history_carry.specs.Entries.{carried_decision, carried_decisions, carried_entry, carried_history, carried_outcome, carried_sight, carried_sights, carried_users, decided}
use Rattle.history_carry.specs.Moves.{if_there, moved, moves_between, places_among}
use Rattle.history_carry.specs.declared.moves.Moves.{Moves}
use Rattle.history_carry.proofs.Ascending.{ascending_all}

-- ---- lists

-- what holds of each thing that a function gives holds of all of them
module _ {A B : Type 0} (P : B → Type 0) (f : A → Option B) (each : (a : A) (b : B) → f a ≡ Some b → P b) where
  all_given : (xs : List A) → All P (filter_map f xs)
  all_given [] = All-nil P
  all_given (x ∷ xs) = by (f x) refl (all_given xs)
    where
      by : (o : Option B) → f x ≡ o → All P (filter_map f xs) → All P (cons_option o (filter_map f xs))
      by None e rest = rest
      by (Some b) e rest = All-cons P b (filter_map f xs) (each x b e) rest

same_sight : (x y : Sight) → Some x ≡ Some y → x ≡ y
same_sight x y h = cc

same_decision : (x y : Decision) → Some x ≡ Some y → x ≡ y
same_decision x y h = cc

same_outcome : (o p : Outcome) → Some o ≡ Some p → o ≡ p
same_outcome o p h = cc

-- ---- places

place_within : (name : List ℕ) (ns : List (List ℕ)) (k : ℕ) → place_of name ns ≡ Some k → k < length ns
place_within name ns k e = within ns k name (subst (IsPlaceOf name ns) e (place_is name ns))

module _ (names others : List (List ℕ)) where
  found_within : (place : ℕ) (o : Option (Option ℕ)) → ((x : Option ℕ) → o ≡ Some x → (name : List ℕ) × (place_of name others ≡ x)) → if_there o ≡ Some place → place < length others
  found_within place None each h = absurd cc
  found_within place (Some x) each h = let n = each x refl in place_within n.0 others place (n.1 ∙ h)

  moved_within : (k place : ℕ) → moved (places_among names others) k ≡ Some place → place < length others
  moved_within k place h =
      found_within place (slice_get (places_among names others) k)
      (λ x e. let n = get_map (λ name. place_of name others) names k x e in (n.0, n.2)) h

-- ---- entries

module _ (s t : PlainSite) where
  abbrev m : Moves
  m = moves_between s t

  checkable_within : (k place : ℕ) → moved m.checkables k ≡ Some place → IsIndex (length t.checkables) place
  checkable_within k place h = subst (λ n. place < n) (length_map (λ (c : PlainCheck). c.name) t.checkables) (moved_within (full_names s) (full_names t) k place h)

  depend_within : (k place : ℕ) → moved m.depends k ≡ Some place → IsIndex (length t.depends) place
  depend_within k place h = subst (λ n. place < n) (length_map (λ (d : DependSpec). d.name) t.depends) (moved_within (depend_names s) (depend_names t) k place h)

  notify_within : (k place : ℕ) → moved m.notifies k ≡ Some place → IsIndex (length t.notifies) place
  notify_within k place h = subst (λ n. place < n) (length_map (λ (x : NotifySpec). x.name) t.notifies) (moved_within (notify_names s) (notify_names t) k place h)

  user_within : (k place : ℕ) → moved m.users k ≡ Some place → IsIndex (length t.users) place
  user_within k place h = subst (λ n. place < n) (length_map (λ (u : UserSpec). u.name) t.users) (moved_within (user_names s) (user_names t) k place h)

  abbrev SeesOwn : Sight → Type 0
  SeesOwn x = IsIndex (length t.checkables) x.checkable

  sight_own : (x y : Sight) → carried_sight m x ≡ Some y → SeesOwn y
  sight_own x y h = by (moved m.checkables x.checkable) refl h
    where
      by : (o : Option ℕ) → moved m.checkables x.checkable ≡ o → option_map (λ k. record { checkable = k; count = x.count }) o ≡ Some y → SeesOwn y
      by None e k = absurd cc
      by (Some place) e k = subst SeesOwn (same_sight (record { checkable = place; count = x.count }) y k) (checkable_within x.checkable place e)

  sights_own : (xs : List Sight) → All SeesOwn (carried_sights m xs)
  sights_own xs = ascending_all (λ (x : Sight). x.checkable) SeesOwn (filter_map (carried_sight m) xs) (all_given SeesOwn (carried_sight m) sight_own xs)

  users_own : (us : List ℕ) → All (IsIndex (length t.users)) (carried_users m us)
  users_own us = ascending_all (λ (u : ℕ). u) (IsIndex (length t.users)) (filter_map (moved m.users) us) (all_given (IsIndex (length t.users)) (moved m.users) user_within us)

  depend_own : (k : ℕ) (o : Outcome) (p : Option ℕ) → moved m.depends k ≡ p → option_map outcome.Dependency p ≡ Some o → NamesOwn t o
  depend_own k o None e h = absurd cc
  depend_own k o (Some place) e h = subst (NamesOwn t) (same_outcome (outcome.Dependency place) o h) (depend_within k place e)

  host_own : (k : ℕ) (o : Outcome) (p : Option ℕ) → moved m.checkables k ≡ p → option_map outcome.Host p ≡ Some o → NamesOwn t o
  host_own k o None e h = absurd cc
  host_own k o (Some place) e h = subst (NamesOwn t) (same_outcome (outcome.Host place) o h) (checkable_within k place e)

  outcome_own : (o p : Outcome) → carried_outcome m o ≡ Some p → NamesOwn t p
  outcome_own (outcome.Sent users) p h = subst (NamesOwn t) (same_outcome (outcome.Sent (carried_users m users)) p h) (users_own users)
  outcome_own (outcome.Dependency depend) p h = depend_own depend p (moved m.depends depend) refl h
  outcome_own (outcome.Host host) p h = host_own host p (moved m.checkables host) refl h
  outcome_own outcome.Disabled p h = subst (NamesOwn t) (same_outcome outcome.Disabled p h) tt
  outcome_own (outcome.Downtime number) p h = subst (NamesOwn t) (same_outcome (outcome.Downtime number) p h) tt
  outcome_own outcome.Flapping p h = subst (NamesOwn t) (same_outcome outcome.Flapping p h) tt
  outcome_own outcome.Acknowledged p h = subst (NamesOwn t) (same_outcome outcome.Acknowledged p h) tt
  outcome_own outcome.Period p h = subst (NamesOwn t) (same_outcome outcome.Period p h) tt
  outcome_own outcome.Kind p h = subst (NamesOwn t) (same_outcome outcome.Kind p h) tt
  outcome_own outcome.State p h = subst (NamesOwn t) (same_outcome outcome.State p h) tt
  outcome_own outcome.TooEarly p h = subst (NamesOwn t) (same_outcome outcome.TooEarly p h) tt
  outcome_own outcome.TooLate p h = subst (NamesOwn t) (same_outcome outcome.TooLate p h) tt
  outcome_own outcome.Repeat p h = subst (NamesOwn t) (same_outcome outcome.Repeat p h) tt
  outcome_own outcome.NoUsers p h = subst (NamesOwn t) (same_outcome outcome.NoUsers p h) tt

  decided_own : (kind : NoteKind) (k : Option ℕ) (o : Option Outcome) (d : Decision) → ((place : ℕ) → k ≡ Some place → IsIndex (length t.notifies) place) → ((p : Outcome) → o ≡ Some p → NamesOwn t p)
      → decided kind k o ≡ Some d → DecidesOwn t d
  decided_own kind (Some k) (Some o) d notes names h =
      subst (DecidesOwn t) (same_decision (record { notification = k; kind = kind; outcome = o }) d h) (record { notification = notes k refl; outcome = names o refl })
  decided_own kind (Some k) None d notes names h = absurd cc
  decided_own kind None (Some o) d notes names h = absurd cc
  decided_own kind None None d notes names h = absurd cc

  decision_own : (x d : Decision) → carried_decision m x ≡ Some d → DecidesOwn t d
  decision_own x d h = decided_own x.kind (moved m.notifies x.notification) (carried_outcome m x.outcome) d (λ place e. notify_within x.notification place e) (λ p e. outcome_own x.outcome p e) h

  decisions_own : (ds : List Decision) → All (DecidesOwn t) (carried_decisions m ds)
  decisions_own ds = ascending_all (λ (d : Decision). d.notification) (DecidesOwn t) (filter_map (carried_decision m) ds) (all_given (DecidesOwn t) (carried_decision m) decision_own ds)

  entry_own : (e : Entry) → IsEntryOf s e → IsEntryOf t (carried_entry m e)
  entry_own e h = record { event = h.event; sights = sights_own e.sights; decisions = decisions_own e.decisions }

  -- ---- histories

  numbers_stay : (es : List Entry) → map (λ (e : Entry). e.number) (carried_history m es) ≡ map (λ (e : Entry). e.number) es
  numbers_stay [] = refl
  numbers_stay (e ∷ es) = ap (λ ns. e.number ∷ ns) (numbers_stay es)

  rising_stays : (from : ℕ) (es : List Entry) → Rises from es → Rises from (carried_history m es)
  rising_stays from [] h = tt
  rising_stays from (e ∷ es) h = (h.0, rising_stays e.moment es h.1)

  entries_own : (es : List Entry) → All (IsEntryOf s) es → All (IsEntryOf t) (carried_history m es)
  entries_own [] h = All-nil (IsEntryOf t)
  entries_own (e ∷ es) h = All-cons (IsEntryOf t) (carried_entry m e) (carried_history m es) (entry_own e (All-head (IsEntryOf s) e es h)) (entries_own es (All-tail (IsEntryOf s) e es h))

  history_own : (es : List Entry) → IsHistory s es → IsHistory t (carried_history m es)
  history_own es h = record {
    numbers = numbers_stay es ∙ h.numbers ∙ ap (from_on 1) (sym (length_map (carried_entry m) es));
    moments = rising_stays 0 es h.moments;
    entries = entries_own es h.entries;
  }

  pub histories_own : (hs : Histories) → All (IsHistory s) hs → All (IsHistory t) (map (carried_history m) hs)
  histories_own [] h = All-nil (IsHistory t)
  histories_own (es ∷ hs) h = All-cons (IsHistory t) (carried_history m es) (map (carried_history m) hs) (history_own es (All-head (IsHistory s) es hs h)) (histories_own hs (All-tail (IsHistory s) es hs h))

-- no entries are a history of each site
no_history : (t : PlainSite) → IsHistory t []
no_history t = record { numbers = refl; moments = tt; entries = All-nil (IsEntryOf t) }

of_index_own : (t : PlainSite) (hs : Histories) (k : ℕ) → All (IsHistory t) hs → IsHistory t (of_index k hs)
of_index_own t [] k h = no_history t
of_index_own t (es ∷ hs) zero h = All-head (IsHistory t) es hs h
of_index_own t (es ∷ hs) (suc k) h = of_index_own t hs k (All-tail (IsHistory t) es hs h)

pub at_own : (t : PlainSite) (hs : Histories) (o : Option ℕ) → All (IsHistory t) hs → IsHistory t (history_at hs o)
at_own t hs None h = no_history t
at_own t hs (Some k) h = of_index_own t hs k h

named_own : (t : PlainSite) (others : List (List ℕ)) (hs : Histories) (names : List (List ℕ)) → All (IsHistory t) hs → All (IsHistory t) (map (λ name. history_at hs (place_of name others)) names)
named_own t others hs [] h = All-nil (IsHistory t)
named_own t others hs (n ∷ ns) h = All-cons (IsHistory t) (history_at hs (place_of n others)) (map (λ name. history_at hs (place_of name others)) ns) (at_own t hs (place_of n others) h) (named_own t others hs ns h)

pub named_lawful : (t : PlainSite) (others : List (List ℕ)) (hs : Histories) (names : List (List ℕ)) (books : Histories) → All (IsHistory t) hs → books ≡ map (λ name. history_at hs (place_of name others)) names → All (IsHistory t) books
named_lawful t others hs names books h e = subst (All (IsHistory t)) (sym e) (named_own t others hs names h)
