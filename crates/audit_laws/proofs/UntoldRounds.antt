-- Without the texts of results events make the same rounds, and the same is ordered.
use Rattle.std.proofs.Common.{◌≡◌, ◌<◌, ◌≤◌, ◌-◌, ◌+◌, ℕ, zero, suc, ◌&&◌, not, nat_eq, nat_lt, Bool, true, false, cond, List, [], ◌∷◌, ◌++◌, length, codes, map, take, slice_get, option_map, refl, sym, ap, ap₂, ◌∙◌, subst, Option, Some, None}
use Rattle.std.proofs.lemmas.List.{length-map, map-append, take-map}
use Rattle.std.specs.List.{cons_option}
use Rattle.site_model.specs.PlainSite.{PlainCheck, PlainSite}
use Rattle.site_model.specs.declared.entry.Entry.{Entry}
use Rattle.site_model.specs.declared.event.Event.{Event}
use Rattle.site_model.specs.declared.event.Event.TheVariants as event
use Rattle.site_model.specs.declared.sight.Sight.{Sight}
use Rattle.site_model.specs.declared.view.View.{View}
use Rattle.site_text.specs.Entries.{effect_text, event_text, lists_text, start_text, status_text, void_text}
use Rattle.log_text.specs.EntryTwo.{untold, without_texts}
use Rattle.run_meaning.specs.Acts.{Act, Seen, entry_of}
use Rattle.run_meaning.specs.Dealing.{last_moment, ticks_from, wants_tick}
use Rattle.run_meaning.specs.Meaning.{rules_of}
use Rattle.run_meaning.specs.Rounds.{IsEntryFor, IsMade, IsRound, all_seen, behind, entries_by, events_on, seen_at}
use Rattle.run_meaning.specs.Reachability.{for_checks}
use Rattle.run_meaning.specs.Schedule.{Watch, due_from, seen_after, walk_from, walk_over, watch_from, watch_with, watches_from, is_waiting}
use Rattle.run_meaning.specs.Turns.{Asked, Command, Histories, Outstanding, Planned, Plans, Slot, of_index}
use Rattle.run_meaning.specs.View.{is_hard_problem, view_of}
use Rattle.audit_laws.specs.Untold.{KeepsLines, KeepsOrders, KeepsRounds, KeepsTicks}
use Rattle.audit_laws.specs.Versions.{untold_act, untold_all, untold_asked}
use Rattle.audit_laws.proofs.UntoldEntries.{entries_same, one_more}
use Rattle.audit_laws.proofs.UntoldViews.{bare, views}

-- ---- lists

pub of_map : {A B : Type 0} (f : A → B) (k : ℕ) (xss : List (List A)) → of_index k (map (map f) xss) ≡ map f (of_index k xss)
of_map f k [] = refl
of_map f zero (xs ∷ xss) = refl
of_map f (suc k) (xs ∷ xss) = of_map f k xss

-- what stands in a list that was mapped
pub record Got {A B : Type 0} (f : A → B) (xs : List A) (i : ℕ) (y : B) : Type 0 where
  pub of : A
  pub at : slice_get xs i ≡ Some of
  pub is : f of ≡ y

pub got : {A B : Type 0} (f : A → B) (xs : List A) (i : ℕ) (y : B) → slice_get (map f xs) i ≡ Some y → Got f xs i y
got f [] i y e = absurd (let g : None ≡ Some y = e in cc)
got f (x ∷ xs) zero y e = record { of = x; at = refl; is = same e }
  where
    same : Some (f x) ≡ Some y → f x ≡ y
    same e = cc
got f (x ∷ xs) (suc i) y e = by (got f xs i y e)
  where
    by : Got f xs i y → Got f (x ∷ xs) (suc i) y
    by g = record { of = g.of; at = g.at; is = g.is }

pub indexed : (k : ℕ) (histories : Histories) → of_index k (untold_all histories) ≡ bare (of_index k histories)
indexed k histories = of_map untold k histories

-- ---- ticks

last_same : (history : List Entry) → last_moment (bare history) ≡ last_moment history
last_same [] = refl
last_same (e ∷ []) = refl
last_same (e ∷ f ∷ es) = last_same (f ∷ es)

wants_same : (c : PlainCheck) (history : List Entry) (moment : ℕ) → wants_tick c (bare history) moment ≡ wants_tick c history moment
wants_same c history moment = ap₂ (λ (v : View) n. is_hard_problem v.hard v.state && not (nat_lt moment (n + 60))) (views c history) (last_same history)

ticks_of : (k : ℕ) (cs : List PlainCheck) (before : Histories) (moment : ℕ) → ticks_from k cs (untold_all before) moment ≡ ticks_from k cs before moment
ticks_of k [] before moment = refl
ticks_of k (c ∷ cs) before moment =
    ap₂ (λ t more. cond t (record { checkable = k; event = event.Tick } ∷ more) more)
    (ap (λ es. wants_tick c es moment) (indexed k before) ∙ wants_same c (of_index k before) moment)
    (ticks_of (suc k) cs before moment)

pub ticks_same : (s : PlainSite) → KeepsTicks s
ticks_same s before moment = ticks_of 0 s.checkables before moment

-- ---- orders

watch_same : (c : PlainCheck) (v : View) (moment : ℕ) (e : Event) (w : Watch) → watch_with c v moment (without_texts e) w ≡ watch_with c v moment e w
watch_same c v moment (event.Result status passive output perf) w = refl
watch_same c v moment e w = refl

watched : (c : PlainCheck) (history es : List Entry) (w : Watch) → watch_from c (bare history) (bare es) w ≡ watch_from c history es w
watched c history [] w = refl
watched c history (e ∷ es) w =
    ap (λ h. watch_from c h (bare es) (watch_with c (view_of c h) e.moment (without_texts e.event) w)) (one_more history e)
    ∙ (watched c (history ++ e ∷ []) es (watch_with c (view_of c (bare (history ++ e ∷ []))) e.moment (without_texts e.event) w)
    ∙ ap (watch_from c (history ++ e ∷ []) es)
    (ap (λ v. watch_with c v e.moment (without_texts e.event) w) (views c (history ++ e ∷ [])) ∙ watch_same c (view_of c (history ++ e ∷ [])) e.moment e.event w))

watches_same : (k : ℕ) (cs : List PlainCheck) (ss : List Slot) (os : List Outstanding) (before round : Histories) → watches_from k cs ss os (untold_all before) (untold_all round) ≡ watches_from k cs ss os before round
watches_same k [] ss os before round = refl
watches_same k (c ∷ cs) [] os before round = refl
watches_same k (c ∷ cs) (s ∷ ss) os before round =
    ap₂ (λ w ws. w ∷ ws)
    (ap₂ (λ h es. watch_from c h es (record { slot = s; waiting = is_waiting os k })) (indexed k before) (indexed k round)
    ∙ watched c (of_index k before) (of_index k round) (record { slot = s; waiting = is_waiting os k }))
    (watches_same (suc k) cs ss os before round)

pub behind_same : (before round : Histories) (k : ℕ) → of_index k (untold_all before) ++ of_index k (untold_all round) ≡ bare (of_index k before ++ of_index k round)
behind_same before round k = ap₂ (λ xs ys. xs ++ ys) (indexed k before) (indexed k round) ∙ sym (map-append untold (of_index k before) (of_index k round))

seen_same : (k : ℕ) (cs : List PlainCheck) (before round : Histories) → seen_after k cs (untold_all before) (untold_all round) ≡ seen_after k cs before round
seen_same k [] before round = refl
seen_same k (c ∷ cs) before round =
    ap₂ (λ (v : View) (more : List Seen). record { checkable = k; view = v } ∷ more)
    (ap (view_of c) (behind_same before round k) ∙ views c (of_index k before ++ of_index k round))
    (seen_same (suc k) cs before round)

abbrev planned : PlainSite → (ℕ → ℕ → Bool) → (ℕ → Command) → Plans → ℕ → List Watch → List Seen → Planned
planned s holds command plans moment watches seen =
    let w = walk_over command (record { site = s; holds = holds; purpose = for_checks; moment = moment; seen = seen }) (due_from moment 0 watches) (walk_from plans watches) in
    record { orders = w.orders; slots = w.slots }

pub orders_same : (s : PlainSite) (holds : ℕ → ℕ → Bool) (command : ℕ → Command) → KeepsOrders s holds command
orders_same s holds command plans moment before round =
    ap₂ (planned s holds command plans moment)
    (watches_same 0 s.checkables plans.slots plans.outstanding before round) (seen_same 0 s.checkables before round)

-- ---- lines

event_same : (e : Event) → event_text (without_texts e) ≡ event_text e
event_same (event.Result status passive output perf) = refl
event_same e = refl

effect_same : (e : Entry) → effect_text (untold e) ≡ effect_text e
unfolding effect_text
effect_same e = ap (λ bs. bs ++ (void_text e.taken ++ (codes " -> " ++ status_text e.state e.hard e.attempt))) (event_same e.event)

start_same : (s : PlainSite) (k : ℕ) (e : Entry) → start_text s k (untold e) ≡ start_text s k e
unfolding start_text
start_same s k e = refl

lists_same : (s : PlainSite) (e : Entry) → lists_text s (untold e) ≡ lists_text s e
unfolding lists_text
lists_same s e = refl

pub lines_same : (s : PlainSite) → KeepsLines s
lines_same s k e =
    ap₂ (λ xs ys. xs ++ (ys ++ (lists_text s (untold e) ++ 10 ∷ []))) (start_same s k e) (effect_same e)
    ∙ ap (λ zs. start_text s k e ++ (effect_text e ++ (zs ++ 10 ∷ []))) (lists_same s e)

-- ---- rounds

by_same : (k : ℕ) (es : List Entry) → entries_by k (bare es) ≡ bare (entries_by k es)
by_same k [] = refl
by_same k (e ∷ es) = by (nat_eq e.caller k) (by_same k es)
  where
    by : (t : Bool) → entries_by k (bare es) ≡ bare (entries_by k es) → cond t (untold e ∷ entries_by k (bare es)) (entries_by k (bare es)) ≡ bare (cond t (e ∷ entries_by k es) (entries_by k es))
    by true ih = ap (λ xs. untold e ∷ xs) ih
    by false ih = ih

events_same : (es : List Entry) → map (λ (e : Entry). e.event) (bare es) ≡ map without_texts (map (λ (e : Entry). e.event) es)
events_same [] = refl
events_same (e ∷ es) = ap (λ xs. without_texts e.event ∷ xs) (events_same es)

on_same : (c : ℕ) (events : List Asked) → events_on c (map untold_asked events) ≡ map without_texts (events_on c events)
on_same c [] = refl
on_same c (a ∷ events) = by (nat_eq a.checkable c) (on_same c events)
  where
    by : (t : Bool) → events_on c (map untold_asked events) ≡ map without_texts (events_on c events)
        → cond t (without_texts a.event ∷ events_on c (map untold_asked events)) (events_on c (map untold_asked events)) ≡ map without_texts (cond t (a.event ∷ events_on c events) (events_on c events))
    by true ih = ap (λ xs. without_texts a.event ∷ xs) ih
    by false ih = ih

many_on : (c i : ℕ) (events : List Asked) → length (events_on c (take i (map untold_asked events))) ≡ length (events_on c (take i events))
many_on c i events =
    ap (λ xs. length (events_on c xs)) (take-map untold_asked i events)
    ∙ (ap length (on_same c (take i events)) ∙ length-map (events_on c (take i events)) without_texts)

long : (k : ℕ) (histories : Histories) → length (of_index k (untold_all histories)) ≡ length (of_index k histories)
long k histories = ap length (indexed k histories) ∙ length-map (of_index k histories) untold

long_behind : (before round : Histories) (k : ℕ) → length (behind (untold_all before) (untold_all round) k) ≡ length (behind before round k)
long_behind before round k = ap length (behind_same before round k) ∙ length-map (behind before round k) untold

-- what is seen
-- a sight of a checkable that shows this
abbrev seen_as : ℕ → View → Seen
seen_as k v = record { checkable = k; view = v }

sight_same : (s : PlainSite) (before round : Histories) (x : Sight) → seen_at s (behind (untold_all before) (untold_all round)) x ≡ seen_at s (behind before round) x
sight_same s before round x = by (slice_get s.checkables x.checkable)
  where
    shown : (c : PlainCheck) → view_of c (take x.count (behind (untold_all before) (untold_all round) x.checkable)) ≡ view_of c (take x.count (behind before round x.checkable))
    shown c =
        ap (λ es. view_of c (take x.count es)) (behind_same before round x.checkable)
        ∙ (ap (view_of c) (take-map untold x.count (behind before round x.checkable)) ∙ views c (take x.count (behind before round x.checkable)))

    by : (o : Option PlainCheck) → option_map (λ (c : PlainCheck). seen_as x.checkable (view_of c (take x.count (behind (untold_all before) (untold_all round) x.checkable)))) o
        ≡ option_map (λ (c : PlainCheck). seen_as x.checkable (view_of c (take x.count (behind before round x.checkable)))) o
    by None = refl
    by (Some c) = ap (λ (v : View). Some (seen_as x.checkable v)) (shown c)

pub all_seen_same : (s : PlainSite) (before round : Histories) (xs : List Sight) → all_seen s (behind (untold_all before) (untold_all round)) xs ≡ all_seen s (behind before round) xs
all_seen_same s before round [] = refl
all_seen_same s before round (x ∷ xs) = by (seen_at s (behind (untold_all before) (untold_all round)) x) (seen_at s (behind before round) x) (sight_same s before round x) (all_seen_same s before round xs)
  where
    by : (o p : Option Seen) → o ≡ p → all_seen s (behind (untold_all before) (untold_all round)) xs ≡ all_seen s (behind before round) xs
        → cons_option o (all_seen s (behind (untold_all before) (untold_all round)) xs) ≡ cons_option p (all_seen s (behind before round) xs)
    by o p e ih = ap₂ cons_option e ih

module _ (s : PlainSite) (holds : ℕ → ℕ → Bool) (moment : ℕ) (before : Histories) (events : List (List Asked)) (round : Histories) (h : IsRound (rules_of s holds) moment before events round) where
  abbrev after : ℕ → List Entry
  after c = of_index c (untold_all round)

  -- an entry of the round is one of the other without its texts
  entry_at : (c i : ℕ) (e : Entry) → slice_get (after c) i ≡ Some e → Got untold (of_index c round) i e
  entry_at c i e at = got untold (of_index c round) i e (ap (λ es. slice_get es i) (sym (indexed c round)) ∙ at)

  made_of : (c i : ℕ) (e : Entry) → slice_get (of_index c round) i ≡ Some e → IsMade (rules_of s holds) moment (behind (untold_all before) (untold_all round)) c (of_index c (untold_all before) ++ take i (after c)) (untold e)
  made_of c i e at = record {
    check = m.check;
    is = m.is;
    made =
        ap untold m.made
        ∙ (sym (entries_same s holds c m.check history (all_seen s (behind before round) e.sights) act)
        ∙ ap₂ (λ es seen. entry_of (rules_of s holds) c m.check es seen (untold_act act)) (sym past) (sym (all_seen_same s before round e.sights)));
  }
    where
      history : List Entry
      history = of_index c before ++ take i (of_index c round)

      m : IsMade (rules_of s holds) moment (behind before round) c history e
      m = h.made c i e at

      act : Act
      act = record { caller = e.caller; moment = moment; event = e.event; sights = e.sights }

      past : of_index c (untold_all before) ++ take i (after c) ≡ bare history
      past =
          ap₂ (λ xs ys. xs ++ take i ys) (indexed c before) (indexed c round)
          ∙ (ap (λ ys. bare (of_index c before) ++ ys) (take-map untold i (of_index c round)) ∙ sym (map-append untold (of_index c before) (take i (of_index c round))))

  -- of each caller
  abbrev told : List (List Asked)
  told = map (map untold_asked) events

  record For (k i : ℕ) (e : Entry) : Type 0 where
    of : Entry
    is : untold of ≡ e
    entry : IsEntryFor (of_index k events) round k i of

  entry_for : (k i : ℕ) (e : Entry) → IsEntryFor (of_index k told) (untold_all round) k i e → For k i e
  entry_for k i e f = record { of = g.of; is = g.is; entry = record { asked = a.of; at = a.at; made = g.at } }
    where
      a : Got untold_asked (of_index k events) i f.asked
      a = got untold_asked (of_index k events) i f.asked (ap (λ xs. slice_get xs i) (sym (of_map untold_asked k events)) ∙ f.at)

      same : f.asked.checkable ≡ a.of.checkable
      same = ap (λ (x : Asked). x.checkable) (sym a.is)

      places : (c : ℕ) → slice_get (entries_by k (of_index c (untold_all round))) (length (events_on c (take i (of_index k told)))) ≡ Some e → slice_get (bare (entries_by k (of_index c round))) (length (events_on c (take i (of_index k events)))) ≡ Some e
      places c at =
          ap₂ (λ es n. slice_get es n) (sym (ap (entries_by k) (indexed c round) ∙ by_same k (of_index c round)))
          (sym (ap (λ xs. length (events_on c (take i xs))) (of_map untold_asked k events) ∙ many_on c i (of_index k events)))
          ∙ at

      g : Got untold (entries_by k (of_index a.of.checkable round)) (length (events_on a.of.checkable (take i (of_index k events)))) e
      g =
          got untold (entries_by k (of_index a.of.checkable round)) (length (events_on a.of.checkable (take i (of_index k events)))) e
          (places a.of.checkable (subst (λ c. slice_get (entries_by k (of_index c (untold_all round))) (length (events_on c (take i (of_index k told)))) ≡ Some e) same f.made))

  sights_of : (of e : Entry) → untold of ≡ e → e.sights ≡ of.sights
  sights_of of e is = ap (λ (x : Entry). x.sights) (sym is)

  sight_in : (of e : Entry) (j : ℕ) (x : Sight) → untold of ≡ e → slice_get e.sights j ≡ Some x → slice_get of.sights j ≡ Some x
  sight_in of e j x is at = ap (λ xs. slice_get xs j) (sym (sights_of of e is)) ∙ at

  caller_of : (of e : Entry) → untold of ≡ e → e.caller ≡ of.caller
  caller_of of e is = ap (λ (x : Entry). x.caller) (sym is)

  round_same : IsRound (rules_of s holds) moment (untold_all before) told (untold_all round)
  round_same = record {
    whole = length-map round bare ∙ h.whole;
    taken = λ k c lt.
        ap (map (λ (e : Entry). e.event)) (ap (entries_by k) (indexed c round) ∙ by_same k (of_index c round))
        ∙ (events_same (entries_by k (of_index c round))
        ∙ (ap (map without_texts) (h.taken k c (subst (λ n. k < n) (length-map events (map untold_asked)) lt))
        ∙ (sym (on_same c (of_index k events)) ∙ sym (ap (events_on c) (of_map untold_asked k events)))));
    callers = λ c i e at.
        let g = entry_at c i e at in
        subst (λ n. n < length told) (sym (caller_of g.of e g.is)) (subst (λ n. g.of.caller < n) (sym (length-map events (map untold_asked))) (h.callers c i g.of g.at));
    made = λ c i e at.
        let g = entry_at c i e at in
        subst (IsMade (rules_of s holds) moment (behind (untold_all before) (untold_all round)) c (of_index c (untold_all before) ++ take i (after c))) g.is (made_of c i g.of g.at);
    ancestors = λ c i e at.
        let g = entry_at c i e at in
        ap (map (λ (x : Sight). x.checkable)) (sights_of g.of e g.is) ∙ h.ancestors c i g.of g.at;
    seen = λ c i j e x at sight.
        let g = entry_at c i e at in
        let n = h.seen c i j g.of x g.at (sight_in g.of e j x g.is sight) in
        (subst (λ n. n ≤ x.count) (sym (long x.checkable before)) n.0, subst (λ n. x.count ≤ n) (sym (long_behind before round x.checkable)) n.1);
    rising = λ k i j m n e f x y lt first second one two same.
        let p = entry_for k i e first in
        let q = entry_for k j f second in
        h.rising k i j m n p.of q.of x y lt p.entry q.entry (sight_in p.of e m x p.is one) (sight_in q.of f n y q.is two) same;
    own = λ k i m e x first sight.
        let p = entry_for k i e first in
        own_count k x
        ∙ (h.own k i m p.of x p.entry (sight_in p.of e m x p.is sight)
        ∙ sym (ap (λ xs. length (events_on x.checkable (take i xs))) (of_map untold_asked k events) ∙ many_on x.checkable i (of_index k events)));
  }
    where
      own_count : (k : ℕ) (x : Sight) → length (entries_by k (take (x.count - length (of_index x.checkable (untold_all before))) (after x.checkable))) ≡ length (entries_by k (take (x.count - length (of_index x.checkable before)) (of_index x.checkable round)))
      own_count k x =
          ap₂ (λ n es. length (entries_by k (take (x.count - n) es))) (long x.checkable before) (indexed x.checkable round)
          ∙ (ap (λ es. length (entries_by k es)) (take-map untold (x.count - length (of_index x.checkable before)) (of_index x.checkable round))
          ∙ (ap length (by_same k (take (x.count - length (of_index x.checkable before)) (of_index x.checkable round)))
          ∙ length-map (entries_by k (take (x.count - length (of_index x.checkable before)) (of_index x.checkable round))) untold))

pub rounds_same : (s : PlainSite) (holds : ℕ → ℕ → Bool) → KeepsRounds s holds
rounds_same s holds moment before events round h = round_same s holds moment before events round h
