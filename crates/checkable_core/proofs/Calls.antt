-- What entries do to downtimes.
use Rattle.std.proofs.Common.{◌≡◌, ℕ, ◌+◌, ◌≤◌, ◌==◌, ◌&&◌, ◌||◌, Bool, true, false, not, cond, List, [], ◌∷◌, ◌++◌, length, map, filter, Some, None, refl, sym, ap, ◌∙◌, arith, subst, append_assoc, append-nil, IsPermutation}
use Rattle.std.specs.List.{list_any}
use Rattle.downtime_book.specs.Calls.{Call, resulted, cancelled, downtimes, is_live_in, latest}
use Rattle.downtime_book.specs.Contents.{Contents, StandsFor, live_downtimes}
use Rattle.downtime_book.specs.Downtime.{after_result, is_live}
use Rattle.downtime_book.specs.Naming.{named}
use Rattle.downtime_book.specs.declared.downtime.Downtime.{Downtime}
use Rattle.downtime_book.proofs.LookBack.{downtimes-cancelled, downtimes-resulted, latest-cancelled, latest-resulted}
use Rattle.run_meaning.specs.Downtimes.{call_in, calls_from, in_effect}
use Rattle.run_meaning.specs.View.{status_in}
use Rattle.site_model.specs.PlainSite.{PlainCheck}
use Rattle.site_model.specs.declared.entry.Entry.{Entry}
use Rattle.site_model.specs.declared.event.Event.{Event}
use Rattle.site_model.specs.declared.event.Event.TheVariants as event
use Rattle.checkable_core.specs.Keeping.{IsProblemOf, moves_downtimes}

-- One entry more.

pub calls_more : (c : PlainCheck) (n m : ℕ) (h : List Entry) (e : Entry) → m ≡ n + length h → calls_from c n (h ++ e ∷ []) ≡ calls_from c n h ++ call_in c m e.moment e.event e.taken
calls_more c n m [] e is =
    let same : n ≡ m = omega (arith, is) in
    append-nil (call_in c n e.moment e.event e.taken) ∙ ap (λ k. call_in c k e.moment e.event e.taken) same
calls_more c n m (x ∷ h) e is =
    ap (λ cs. call_in c n x.moment x.event x.taken ++ cs) (calls_more c (n + 1) m h e (omega (arith, is)))
    ∙ sym (append_assoc (call_in c n x.moment x.event x.taken) (calls_from c (n + 1) h) (call_in c m e.moment e.event e.taken))

-- Calls of events.

pub call_of_result : (c : PlainCheck) (n m : ℕ) (v : Event) (taken problem : Bool) (status : ℕ) → status_in v ≡ Some status → IsProblemOf c v problem → call_in c n m v taken ≡ resulted m problem ∷ []
call_of_result c n m (event.Result status passive output perf) taken problem s is so = ap (λ b. resulted m b ∷ []) (sym (so status refl))
call_of_result c n m event.Tick taken problem s is so = absurd cc
call_of_result c n m (event.Ack sticky notify) taken problem s is so = absurd cc
call_of_result c n m event.Unack taken problem s is so = absurd cc
call_of_result c n m (event.Down start finish fixed duration) taken problem s is so = absurd cc
call_of_result c n m (event.Undown number) taken problem s is so = absurd cc
call_of_result c n m (event.Checks on) taken problem s is so = absurd cc
call_of_result c n m (event.Notes on) taken problem s is so = absurd cc
call_of_result c n m (event.Check at forced) taken problem s is so = absurd cc

pub call_of_none : (c : PlainCheck) (n m : ℕ) (v : Event) (taken : Bool) → status_in v ≡ None → moves_downtimes v ≡ false → call_in c n m v taken ≡ []
call_of_none c n m (event.Result status passive output perf) taken is moves = absurd cc
call_of_none c n m event.Tick taken is moves = refl
call_of_none c n m (event.Ack sticky notify) taken is moves = refl
call_of_none c n m event.Unack taken is moves = refl
call_of_none c n m (event.Down start finish fixed duration) taken is moves = absurd cc
call_of_none c n m (event.Undown number) taken is moves = absurd cc
call_of_none c n m (event.Checks on) taken is moves = refl
call_of_none c n m (event.Notes on) taken is moves = refl
call_of_none c n m (event.Check at forced) taken is moves = refl

pub call_of_end : (c : PlainCheck) (n m number : ℕ) (taken : Bool) → call_in c n m (event.Undown number) taken ≡ cond taken (cancelled number m ∷ []) []
call_of_end c n m number true = refl
call_of_end c n m number false = refl

pub no_status : (v : Event) → ((status : ℕ) (passive : Bool) (output perf : List ℕ) → v ≡ event.Result status passive output perf → ⊥) → status_in v ≡ None
no_status (event.Result status passive output perf) not = absurd (not status passive output perf refl)
no_status event.Tick not = refl
no_status (event.Ack sticky notify) not = refl
no_status event.Unack not = refl
no_status (event.Down start finish fixed duration) not = refl
no_status (event.Undown number) not = refl
no_status (event.Checks on) not = refl
no_status (event.Notes on) not = refl
no_status (event.Check at forced) not = refl

pub no_move : (v : Event) → ((start finish : ℕ) (fixed : Bool) (duration : ℕ) → v ≡ event.Down start finish fixed duration → ⊥) → ((number : ℕ) → v ≡ event.Undown number → ⊥) → moves_downtimes v ≡ false
no_move (event.Result status passive output perf) begins ends = refl
no_move event.Tick begins ends = refl
no_move (event.Ack sticky notify) begins ends = refl
no_move event.Unack begins ends = refl
no_move (event.Down start finish fixed duration) begins ends = absurd (begins start finish fixed duration refl)
no_move (event.Undown number) begins ends = absurd (ends number refl)
no_move (event.Checks on) begins ends = refl
no_move (event.Notes on) begins ends = refl
no_move (event.Check at forced) begins ends = refl

-- The downtime in effect with one entry more.

pub named_with_result : (c : PlainCheck) (h : List Entry) (e : Entry) (v : Event) (m : ℕ) (problem : Bool) (status : ℕ) → status_in v ≡ Some status → IsProblemOf c v problem → e.event ≡ v → e.moment ≡ m →
    named m (downtimes (calls_from c 1 h ++ resulted m problem ∷ [])) ≡ in_effect c (h ++ e ∷ []) m
named_with_result c h e v m problem status is so at when =
    let call : call_in c (1 + length h) e.moment e.event e.taken ≡ resulted m problem ∷ [] =
    ap (λ (w : Event). call_in c (1 + length h) e.moment w e.taken) at ∙ ap (λ (t : ℕ). call_in c (1 + length h) t v e.taken) when ∙ call_of_result c (1 + length h) m v e.taken problem status is so in
    ap (λ (cs : List Call). named m (downtimes cs)) (sym (calls_more c 1 (1 + length h) h e refl ∙ ap (λ (cs : List Call). calls_from c 1 h ++ cs) call))

pub named_without : (c : PlainCheck) (h : List Entry) (e : Entry) (v : Event) (m : ℕ) → status_in v ≡ None → moves_downtimes v ≡ false → e.event ≡ v →
    named m (downtimes (calls_from c 1 h)) ≡ in_effect c (h ++ e ∷ []) m
named_without c h e v m is moves at =
    let call : call_in c (1 + length h) e.moment e.event e.taken ≡ [] =
    ap (λ (w : Event). call_in c (1 + length h) e.moment w e.taken) at ∙ call_of_none c (1 + length h) e.moment v e.taken is moves in
    ap (λ (cs : List Call). named m (downtimes cs)) (sym (calls_more c 1 (1 + length h) h e refl ∙ ap (λ (cs : List Call). calls_from c 1 h ++ cs) call ∙ append-nil (calls_from c 1 h)))

-- A downtime that isn't live any more.

not_live : (live same : Bool) (d : Downtime) (ds : List Downtime) → (same && live) ≡ false → cond live (d ∷ ds) ds ≡ cond (not same) (cond live (d ∷ ds) ds) ds
not_live live false d ds h = refl
not_live true true d ds h = absurd cc
not_live false true d ds h = refl

split_or : (a b : Bool) → (a || b) ≡ false → (a ≡ false) × (b ≡ false)
split_or true b h = absurd cc
split_or false b h = (refl, h)

keep_live : (n m : ℕ) (ds : List Downtime) → list_any (λ d. (d.number == n) && is_live m d) ds ≡ false → filter (is_live m) (filter (λ d. not (d.number == n)) ds) ≡ filter (is_live m) ds
keep_live n m [] h = refl
keep_live n m (d ∷ ds) h =
    let (here, rest) = split_or ((d.number == n) && is_live m d) (list_any (λ x. (x.number == n) && is_live m x) ds) h in
    let less = filter (λ (x : Downtime). not (x.number == n)) ds in
    let parted : (same : Bool) → filter (is_live m) (cond (not same) (d ∷ less) less) ≡ cond (not same) (cond (is_live m d) (d ∷ filter (is_live m) less) (filter (is_live m) less)) (filter (is_live m) less) =
    λ same. elim same as (λ same. filter (is_live m) (cond (not same) (d ∷ less) less) ≡ cond (not same) (cond (is_live m d) (d ∷ filter (is_live m) less) (filter (is_live m) less)) (filter (is_live m) less)) [ true ↦ refl | false ↦ refl ] in
    parted (d.number == n)
    ∙ ap (λ (xs : List Downtime). cond (not (d.number == n)) (cond (is_live m d) (d ∷ xs) xs) xs) (keep_live n m ds rest)
    ∙ sym (not_live (is_live m d) (d.number == n) d (filter (is_live m) ds) here)

untouched : (m : ℕ) (ds : List Downtime) → map (after_result m false) ds ≡ ds
untouched m [] = refl
untouched m (d ∷ ds) = ap (λ xs. d ∷ xs) (untouched m ds)

-- where it isn't live, taking it away leaves what a result without a problem leaves
pub taken_away : (b : Contents) (n m : ℕ) (calls : List Call) → latest calls ≤ m → is_live_in calls n m ≡ false → StandsFor b (calls ++ resulted m false ∷ []) → StandsFor b (calls ++ cancelled n m ∷ [])
taken_away b n m calls late gone stands =
    let at : latest (calls ++ resulted m false ∷ []) ≡ latest (calls ++ cancelled n m ∷ []) = latest-resulted m false calls late ∙ sym (latest-cancelled n m calls late) in
    let live : live_downtimes (calls ++ resulted m false ∷ []) ≡ live_downtimes (calls ++ cancelled n m ∷ []) =
    ap (λ (t : ℕ). filter (is_live t) (downtimes (calls ++ resulted m false ∷ []))) (latest-resulted m false calls late)
    ∙ ap (filter (is_live m)) (downtimes-resulted m false calls ∙ untouched m (downtimes calls))
    ∙ sym (keep_live n m (downtimes calls) gone)
    ∙ ap (filter (is_live m)) (sym (downtimes-cancelled n m calls))
    ∙ ap (λ (t : ℕ). filter (is_live t) (downtimes (calls ++ cancelled n m ∷ []))) (sym (latest-cancelled n m calls late)) in
    record {
      latest = stands.latest ∙ at;
      downtimes = subst (λ (ds : List Downtime). IsPermutation ds b.downtimes) live stands.downtimes;
    }
