-- Every event that is dealt goes to one caller; every report is taken or refused; every line is an event or refused.
use Rattle.std.proofs.Common.{◌≡◌, ◌<◌, ◌≤◌, ◌+◌, ◌%◌, ◌≢◌, ℕ, zero, suc, List, [], ◌∷◌, ◌++◌, length, map, filter, nat_eq, cond, not, ◌||◌, is_some, Bool, true, false, Some, None, Option, refl, sym, ap, ◌∙◌, subst, arith, eq-eqb, eqb-true, IsPermutation, All, AllPairs}
use Rattle.std.specs.List.{flat_map, list_any}
use Rattle.std.proofs.lemmas.List.{append-nil}
use Rattle.std.proofs.lemmas.List.Kept.{AllPairs-cons}
use Rattle.std.proofs.lemmas.Nat.{mod_below}
use Rattle.std.proofs.lemmas.List.Sorted.{IsPermutation-refl, IsPermutation-sym, IsPermutation-trans, IsPermutation-append, IsPermutation-append_right, IsPermutation-cons, IsPermutation-middle, IsPermutation-map}
use Rattle.run_meaning.specs.Turns.{Asked, Line, asking, faulty, Outstanding, Reported, ReadTurn, from_on}
use Rattle.run_meaning.specs.Dealing.{Refusal, Taken, line_events, line_refusals, checkable_of, without, still, taking, taken_reports, refusing, report_refusals, goes_to, lines_to, dealt, ticks}
use Rattle.run_meaning.specs.Rounds.{IsRound}
use Rattle.run_meaning.specs.Runs.{Basis, Stage, TurnLog, IsTurn, begun_by, events_of, refusals_of, reports_of, lines_of, stage_after}
use Rattle.run_meaning.specs.Shares.{orders_refused, lines_kept, reports_kept, kept_of}
use Rattle.run_meaning.proofs.Parts.{in_parts, parts, parts_flat, turn_about}

-- Each event goes to one caller.

no_lines : (lines : List Asked) (n first : ℕ) → 0 < first → flat_map (λ ys. ys) (map (λ k. lines_to k lines) (from_on first n)) ≡ []
no_lines lines zero first h = refl
no_lines lines (suc n) zero h = absurd (omega arith)
no_lines lines (suc n) (suc first) h = no_lines lines n (suc (suc first)) (omega arith)

all_lines : (lines : List Asked) (callers : ℕ) → 1 ≤ callers → flat_map (λ ys. ys) (map (λ k. lines_to k lines) (from_on 0 callers)) ≡ lines
all_lines lines zero h = absurd (omega arith)
all_lines lines (suc n) h = ap (λ z. lines ++ z) (no_lines lines n 1 (omega arith)) ∙ append-nil lines

map_same : (ts : List Asked) → map (λ (a : Asked). a) ts ≡ ts
map_same [] = refl
map_same (t ∷ ts) = ap (λ z. t ∷ z) (map_same ts)

flat_same : {B : Type 0} (f g : ℕ → List B) (ks : List ℕ) → ((k : ℕ) → f k ≡ g k) → flat_map (λ ys. ys) (map f ks) ≡ flat_map (λ ys. ys) (map g ks)
flat_same f g [] h = refl
flat_same f g (k ∷ ks) h = ap (λ z. z ++ flat_map (λ ys. ys) (map f ks)) (h k) ∙ ap (λ z. g k ++ z) (flat_same f g ks h)

pub each_to_one : (callers : ℕ) (lines : List Asked) (reports : List Taken) (ticks : List Asked) → 1 ≤ callers → IsPermutation (lines ++ (map (λ t. t.asked) reports ++ ticks)) (flat_map (λ events. events) (dealt callers lines reports ticks))
each_to_one callers lines reports ticks some =
    let ks = from_on 0 callers in
    let order : Taken → ℕ = λ t. t.order % callers in
    let place : Asked → ℕ = λ a. a.checkable % callers in
    let R : ℕ → List Asked = λ k. map (λ (t : Taken). t.asked) (filter (λ t. goes_to callers k t.order) reports) in
    let T : ℕ → List Asked = λ k. filter (λ a. goes_to callers k a.checkable) ticks in
    let L : ℕ → List Asked = λ k. lines_to k lines in
    let reported : IsPermutation (map (λ (t : Taken). t.asked) reports) (flat_map (λ ys. ys) (map R ks)) =
    subst (IsPermutation (map (λ (t : Taken). t.asked) reports)) (sym (parts_flat order (λ (t : Taken). t.asked) callers 0 reports))
    (IsPermutation-map (λ (t : Taken). t.asked) reports (parts order 0 callers reports) (in_parts order callers 0 reports (λ i t h. let m = mod_below t.order callers (omega arith) in (omega arith, omega arith)))) in
    let ticked : IsPermutation ticks (flat_map (λ ys. ys) (map T ks)) =
    subst (IsPermutation ticks) (sym (map_same (parts place 0 callers ticks)) ∙ sym (parts_flat place (λ (a : Asked). a) callers 0 ticks) ∙ flat_same (λ k. map (λ (a : Asked). a) (T k)) T ks (λ k. map_same (T k)))
    (in_parts place callers 0 ticks (λ i a h. let m = mod_below a.checkable callers (omega arith) in (omega arith, omega arith))) in
    let rest = IsPermutation-append (map (λ (t : Taken). t.asked) reports) (flat_map (λ ys. ys) (map R ks)) ticks (flat_map (λ ys. ys) (map T ks)) reported ticked in
    let later = IsPermutation-trans (map (λ (t : Taken). t.asked) reports ++ ticks) (flat_map (λ ys. ys) (map R ks) ++ flat_map (λ ys. ys) (map T ks)) (flat_map (λ ys. ys) (map (λ k. R k ++ T k) ks)) rest
    (IsPermutation-sym (flat_map (λ ys. ys) (map (λ k. R k ++ T k) ks)) (flat_map (λ ys. ys) (map R ks) ++ flat_map (λ ys. ys) (map T ks)) (turn_about R T ks)) in
    let all = IsPermutation-append_right lines (map (λ (t : Taken). t.asked) reports ++ ticks) (flat_map (λ ys. ys) (map (λ k. R k ++ T k) ks)) later in
    let whole : IsPermutation (flat_map (λ ys. ys) (map (λ k. L k ++ (R k ++ T k)) ks)) (lines ++ flat_map (λ ys. ys) (map (λ k. R k ++ T k) ks)) =
    subst (λ z. IsPermutation (flat_map (λ ys. ys) (map (λ k. L k ++ (R k ++ T k)) ks)) (z ++ flat_map (λ ys. ys) (map (λ k. R k ++ T k) ks))) (all_lines lines callers some) (turn_about L (λ k. R k ++ T k) ks) in
    IsPermutation-trans (lines ++ (map (λ (t : Taken). t.asked) reports ++ ticks)) (lines ++ flat_map (λ ys. ys) (map (λ k. R k ++ T k) ks)) (flat_map (λ ys. ys) (dealt callers lines reports ticks)) all
    (IsPermutation-sym (flat_map (λ ys. ys) (map (λ k. L k ++ (R k ++ T k)) ks)) (lines ++ flat_map (λ ys. ys) (map (λ k. R k ++ T k) ks)) whole)

-- Each report is taken or refused.

pub taken_or_refused : (os : List Outstanding) (rs : List Reported) → IsPermutation (map (λ r. r.order) rs) (map (λ t. t.order) (taken_reports os rs) ++ orders_refused (report_refusals os rs))
taken_or_refused os [] = IsPermutation-refl []
taken_or_refused os (r ∷ rs) = by (checkable_of r.order os) (taken_or_refused (without r.order os) rs)
  where
    T : List ℕ
    T = map (λ (t : Taken). t.order) (taken_reports (without r.order os) rs)

    R : List ℕ
    R = orders_refused (report_refusals (without r.order os) rs)

    by : (c : Option ℕ) → IsPermutation (map (λ (r : Reported). r.order) rs) (T ++ R) → IsPermutation (r.order ∷ map (λ (r : Reported). r.order) rs) (map (λ (t : Taken). t.order) (taking r c (taken_reports (without r.order os) rs)) ++ orders_refused (refusing r c (report_refusals (without r.order os) rs)))
    by (Some c) h = IsPermutation-cons r.order (map (λ (r : Reported). r.order) rs) (T ++ R) h
    by None h =
        IsPermutation-trans (r.order ∷ map (λ (r : Reported). r.order) rs) (r.order ∷ (T ++ R)) (T ++ r.order ∷ R) (IsPermutation-cons r.order (map (λ (r : Reported). r.order) rs) (T ++ R) h)
        (IsPermutation-sym (T ++ r.order ∷ R) (r.order ∷ (T ++ R)) (IsPermutation-middle T r.order R))

-- an order that was taken out isn't there
gone : (o : ℕ) (os : List Outstanding) → checkable_of o (without o os) ≡ None
gone o [] = refl
gone o (x ∷ os) = by (nat_eq x.order o) refl (gone o os)
  where
    by : (t : Bool) → nat_eq x.order o ≡ t → checkable_of o (without o os) ≡ None → checkable_of o (cond (not t) (x ∷ without o os) (without o os)) ≡ None
    by true q h = h
    by false q h = ap (λ t. cond t (Some x.checkable) (checkable_of o (without o os))) q ∙ h

-- what is there without some order was there
was_there : (p o : ℕ) (os : List Outstanding) → is_some (checkable_of p (without o os)) ≡ true → is_some (checkable_of p os) ≡ true
was_there p o [] h = h
was_there p o (x ∷ os) h = by (nat_eq x.order o) (nat_eq x.order p) refl h (was_there p o os)
  where
    by : (t u : Bool) → nat_eq x.order p ≡ u → is_some (checkable_of p (cond (not t) (x ∷ without o os) (without o os))) ≡ true → (is_some (checkable_of p (without o os)) ≡ true → is_some (checkable_of p os) ≡ true) → is_some (cond u (Some x.checkable) (checkable_of p os)) ≡ true
    by t true q h f = refl
    by true false q h f = f h
    by false false q h f = f (ap (λ u. is_some (cond u (Some x.checkable) (checkable_of p (without o os)))) (sym q) ∙ h)

abbrev IsThere : List Outstanding → ℕ → Type 0
IsThere os o = is_some (checkable_of o os) ≡ true

none : {X : Type 0} (P : X → Type 0) → All P []
none P k d inside = absurd (omega arith)

more : {X : Type 0} (P : X → Type 0) (x : X) (xs : List X) → P x → All P xs → All P (x ∷ xs)
more P x xs here rest zero d inside = here
more P x xs here rest (suc k) d inside = rest k d (omega arith)

weaker : {X : Type 0} (P Q : X → Type 0) (f : (x : X) → P x → Q x) (xs : List X) → All P xs → All Q xs
weaker P Q f [] h = none Q
weaker P Q f (x ∷ xs) h = more Q x xs (f x (h 0 x (omega arith))) (weaker P Q f xs (λ k d inside. h (suc k) d (omega arith)))

-- only outstanding orders are taken
taken_there : (os : List Outstanding) (rs : List Reported) → All (IsThere os) (map (λ (t : Taken). t.order) (taken_reports os rs))
taken_there os [] = none (IsThere os)
taken_there os (r ∷ rs) = by (checkable_of r.order os) refl (weaker (IsThere (without r.order os)) (IsThere os) (λ p. was_there p r.order os) (map (λ (t : Taken). t.order) (taken_reports (without r.order os) rs)) (taken_there (without r.order os) rs))
  where
    by : (c : Option ℕ) → checkable_of r.order os ≡ c → All (IsThere os) (map (λ (t : Taken). t.order) (taken_reports (without r.order os) rs)) → All (IsThere os) (map (λ (t : Taken). t.order) (taking r c (taken_reports (without r.order os) rs)))
    by None q h = h
    by (Some c) q h = more (IsThere os) r.order (map (λ (t : Taken). t.order) (taken_reports (without r.order os) rs)) (ap is_some q) h

-- of an order at most one
pub taken_once : (os : List Outstanding) (rs : List Reported) → AllPairs (λ x y. x ≢ y) (map (λ t. t.order) (taken_reports os rs))
taken_once os [] = λ i j d lt inside. absurd (omega arith)
taken_once os (r ∷ rs) = by (checkable_of r.order os) (taken_once (without r.order os) rs)
  where
    T : List ℕ
    T = map (λ (t : Taken). t.order) (taken_reports (without r.order os) rs)

    differs : (p : ℕ) → IsThere (without r.order os) p → r.order ≢ p
    differs p h e = let f : false ≡ true = sym (ap is_some (gone r.order os)) ∙ ap (λ z. is_some (checkable_of z (without r.order os))) e ∙ h in absurd cc

    by : (c : Option ℕ) → AllPairs (λ x y. x ≢ y) T → AllPairs (λ x y. x ≢ y) (map (λ (t : Taken). t.order) (taking r c (taken_reports (without r.order os) rs)))
    by None h = h
    by (Some c) h = AllPairs-cons (λ x y. x ≢ y) r.order T (weaker (IsThere (without r.order os)) (λ p. r.order ≢ p) differs T (taken_there (without r.order os) rs)) h

-- Each line is an event or refused.

pub event_or_refused : (n : ℕ) (ls : List Line) → length (line_events ls) + length (line_refusals n ls) ≡ length ls
event_or_refused n [] = refl
event_or_refused n (asking a ∷ ls) = let h = event_or_refused (n + 1) ls in omega arith
event_or_refused n (faulty f ∷ ls) = let h = event_or_refused (n + 1) ls in omega arith

-- Refused lines and reports change nothing.

pub events_append : (ls ms : List Line) → line_events (ls ++ ms) ≡ line_events ls ++ line_events ms
events_append [] ms = refl
events_append (asking a ∷ ls) ms = ap (λ z. a ∷ z) (events_append ls ms)
events_append (faulty f ∷ ls) ms = events_append ls ms

same_events : (ls : List Line) → line_events (lines_kept ls) ≡ line_events ls
same_events [] = refl
same_events (asking a ∷ ls) = ap (λ z. a ∷ z) (same_events ls)
same_events (faulty f ∷ ls) = same_events ls

-- without an order that isn't there all stays
pub nothing_gone : (o : ℕ) (os : List Outstanding) → checkable_of o os ≡ None → without o os ≡ os
nothing_gone o [] h = refl
nothing_gone o (x ∷ os) h = by (nat_eq x.order o) h (nothing_gone o os)
  where
    by : (t : Bool) → cond t (Some x.checkable) (checkable_of o os) ≡ None → (checkable_of o os ≡ None → without o os ≡ os) → cond (not t) (x ∷ without o os) (without o os) ≡ x ∷ os
    by true h f = absurd cc
    by false h f = ap (λ z. x ∷ z) (f h)

same_taken : (os : List Outstanding) (rs : List Reported) → taken_reports os (reports_kept os rs) ≡ taken_reports os rs
same_taken os [] = refl
same_taken os (r ∷ rs) = by (checkable_of r.order os) refl (same_taken (without r.order os) rs)
  where
    later : List Reported
    later = reports_kept (without r.order os) rs

    by : (c : Option ℕ) → checkable_of r.order os ≡ c → taken_reports (without r.order os) later ≡ taken_reports (without r.order os) rs → taken_reports os (cond (is_some c) (r ∷ later) later) ≡ taking r c (taken_reports (without r.order os) rs)
    by None q h = ap (λ z. taken_reports z later) (sym (nothing_gone r.order os q)) ∙ h
    by (Some c) q h = ap (λ c. taking r c (taken_reports (without r.order os) later)) q ∙ ap (taking r (Some c)) h

same_still : (os : List Outstanding) (rs : List Reported) → still (reports_kept os rs) os ≡ still rs os
same_still os [] = refl
same_still os (r ∷ rs) = by (checkable_of r.order os) refl (same_still (without r.order os) rs)
  where
    later : List Reported
    later = reports_kept (without r.order os) rs

    by : (c : Option ℕ) → checkable_of r.order os ≡ c → still later (without r.order os) ≡ still rs (without r.order os) → still (cond (is_some c) (r ∷ later) later) os ≡ still rs (without r.order os)
    by None q h = ap (still later) (sym (nothing_gone r.order os q)) ∙ h
    by (Some c) q h = h

taken_past : (os : List Outstanding) (ds rs : List Reported) → taken_reports os (ds ++ reports_kept (still ds os) rs) ≡ taken_reports os (ds ++ rs)
taken_past os [] rs = same_taken os rs
taken_past os (d ∷ ds) rs = ap (taking d (checkable_of d.order os)) (taken_past (without d.order os) ds rs)

still_past : (os : List Outstanding) (ds rs : List Reported) → still (ds ++ reports_kept (still ds os) rs) os ≡ still (ds ++ rs) os
still_past os [] rs = same_still os rs
still_past os (d ∷ ds) rs = still_past (without d.order os) ds rs

pub same_dealt : (b : Basis) (callers : ℕ) (st : Stage) (t : ReadTurn) (moment : ℕ) → events_of b callers st (kept_of st t) moment ≡ events_of b callers st t moment
same_dealt b callers st t moment =
    let fed = b.feed (begun_by st moment) in
    let tick = ticks b.rules.site st.histories moment in
    let lines : line_events (lines_of b st (kept_of st t) moment) ≡ line_events (lines_of b st t moment) =
    events_append fed (lines_kept t.lines) ∙ ap (λ z. line_events fed ++ z) (same_events t.lines) ∙ sym (events_append fed t.lines) in
    ap (λ z. dealt callers z (taken_reports st.plans.outstanding (reports_of st (kept_of st t))) tick) lines
    ∙ ap (λ z. dealt callers (line_events (lines_of b st t moment)) z tick) (taken_past st.plans.outstanding st.due t.reports)

pub same_outstanding : (st : Stage) (t : ReadTurn) → still (reports_of st (kept_of st t)) st.plans.outstanding ≡ still (reports_of st t) st.plans.outstanding
same_outstanding st t = still_past st.plans.outstanding st.due t.reports

-- the log of a turn is that of the turn without what is refused, but for the refusals
pub same_turn : (b : Basis) (callers : ℕ) (st : Stage) (t : ReadTurn) (l : TurnLog) → IsTurn b callers st t l → IsTurn b callers st (kept_of st t) (record l { refusals = refusals_of b st (kept_of st t) l.moment })
same_turn b callers st t l x = record {
  number = x.number;
  moment = x.moment;
  refusals = refl;
  round = subst (λ z. IsRound b.rules l.moment st.histories z l.round) (sym (same_dealt b callers st t l.moment)) x.round;
  orders = x.orders;
}

pub same_stage : (b : Basis) (st : Stage) (t : ReadTurn) (l : TurnLog) (rs : List Refusal) → stage_after b st (kept_of st t) (record l { refusals = rs }) ≡ stage_after b st t l
same_stage b st t l rs =
    ap (λ (os : List Outstanding). record (stage_after b st t l) { plans = record ((stage_after b st t l).plans) { outstanding = os ++ map (λ o. record { order = o.number; checkable = o.checkable }) l.orders } }) (same_outstanding st t)

-- The first report of an outstanding order is taken.

-- another order stays
stays : (o p : ℕ) (os : List Outstanding) → nat_eq o p ≡ false → checkable_of o (without p os) ≡ checkable_of o os
stays o p [] n = refl
stays o p (x ∷ os) n = by (nat_eq x.order p) refl (nat_eq x.order o) refl (stays o p os n)
  where
    by : (t : Bool) → nat_eq x.order p ≡ t → (u : Bool) → nat_eq x.order o ≡ u → checkable_of o (without p os) ≡ checkable_of o os → checkable_of o (cond (not t) (x ∷ without p os) (without p os)) ≡ cond u (Some x.checkable) (checkable_of o os)
    by true q true r h = let f : true ≡ false = sym (eq-eqb o p (sym (eqb-true x.order o r) ∙ eqb-true x.order p q)) ∙ n in absurd cc
    by true q false r h = h
    by false q u r h = ap (λ u. cond u (Some x.checkable) (checkable_of o (without p os))) r ∙ ap (λ z. cond u (Some x.checkable) z) h

pub outstanding_taken : (os : List Outstanding) (rs : List Reported) (o : ℕ) → is_some (checkable_of o os) ≡ true → list_any (nat_eq o) (map (λ r. r.order) rs) ≡ true → list_any (nat_eq o) (map (λ t. t.order) (taken_reports os rs)) ≡ true
outstanding_taken os [] o there told = told
outstanding_taken os (r ∷ rs) o there told = by (nat_eq o r.order) refl told (outstanding_taken (without r.order os) rs o)
  where
    ordered : List ℕ
    ordered = map (λ (t : Taken). t.order) (taken_reports (without r.order os) rs)

    -- one that is taken comes first
    first : (c : Option ℕ) → is_some c ≡ true → nat_eq o r.order ≡ true → list_any (nat_eq o) (map (λ (t : Taken). t.order) (taking r c (taken_reports (without r.order os) rs))) ≡ true
    first None h q = absurd cc
    first (Some c) h q = ap (λ t. t || list_any (nat_eq o) ordered) q

    later : (c : Option ℕ) → list_any (nat_eq o) ordered ≡ true → nat_eq o r.order ≡ false → list_any (nat_eq o) (map (λ (t : Taken). t.order) (taking r c (taken_reports (without r.order os) rs))) ≡ true
    later None h q = h
    later (Some c) h q = ap (λ t. t || list_any (nat_eq o) ordered) q ∙ h

    by : (t : Bool) → nat_eq o r.order ≡ t → (t || list_any (nat_eq o) (map (λ (r : Reported). r.order) rs)) ≡ true → (is_some (checkable_of o (without r.order os)) ≡ true → list_any (nat_eq o) (map (λ (r : Reported). r.order) rs) ≡ true → list_any (nat_eq o) ordered ≡ true) → list_any (nat_eq o) (map (λ (t : Taken). t.order) (taking r (checkable_of r.order os) (taken_reports (without r.order os) rs))) ≡ true
    by true q h f = first (checkable_of r.order os) (ap (λ z. is_some (checkable_of z os)) (sym (eqb-true o r.order q)) ∙ there) q
    by false q h f = later (checkable_of r.order os) (f (ap is_some (stays o r.order os q) ∙ there) h) q
