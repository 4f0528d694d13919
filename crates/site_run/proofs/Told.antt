-- What a run writes and starts of the turns that come to it.
use Rattle.std.proofs.Common.{◌≡◌, ◌+◌, ◌<◌, ◌≤◌, ℕ, zero, suc, List, [], ◌∷◌, ◌++◌, length, take, Option, Some, None, ◌⊎◌, inl, inr, refl, sym, ap, ◌∙◌, subst, arith, append_assoc, length-append}
use Rattle.std.proofs.lemmas.List.{append-nil}
use Rattle.run_meaning.specs.Runs.{TurnLog}
use Rattle.site_edge.specs.Lists.{Adds, AddsPart}
use Rattle.site_edge.specs.declared.order.Order.{Order}
use Rattle.site_edge.specs.declared.turn.Turn.{Turn}
use Rattle.site_run.specs.Courses.{AreLogsOf, Course, IsNextLog, behind, logs, orders_over, text_of, text_over}
use Rattle.site_run.specs.Ends.{TurnsCame, Ends, EndsBehind, IsBefore, IsBetween, IsInLines, IsInOrders, NoneLeft, Outside, Takes, TellsOf, WritesText}
use Rattle.site_run.specs.Starts.{started_of}
use Rattle.site_run.specs.declared.status.Status.{Status}
use Rattle.site_run.specs.declared.status.Status.TheVariants as status
use Rattle.site_run.proofs.Adding.{adds_part}
use Rattle.site_run.proofs.Going.{logs_are, logs_both, logs_then, orders_joined, orders_then, text_joined, text_then}

-- The turns that came: those that were taken, and those that are left.

pub record Coming (taken : List Turn) (old new : Option (List Turn)) : Type 0 where
  pub left : List Turn
  pub told : TurnsCame old (taken ++ left)
  pub none : NoneLeft new → left ≡ []

coming : (taken : List Turn) (o n : Option (List Turn)) → Takes taken o n → Coming taken o n
coming taken None n p = record { left = []; told = tt; none = λ h. refl }
coming taken (Some all) n p = record { left = p.0; told = sym p.1; none = λ h. subst NoneLeft p.2 h }

-- the first so many of them, where at least these were taken
front : (a left : List Turn) (limit : ℕ) → length a ≤ limit → (more : List Turn) × (take limit (a ++ left) ≡ a ++ more)
front [] left limit h = (take limit left, refl)
front (x ∷ a) left zero h = absurd (omega (arith, h))
front (x ∷ a) left (suc limit) h = let (more, e) = front a left limit (omega (arith, h)) in (more, ap (λ xs. x ∷ xs) e)

all_of : (a : List Turn) (limit : ℕ) → length a ≤ limit → take limit a ≡ a
all_of [] zero h = refl
all_of [] (suc limit) h = refl
all_of (x ∷ a) zero h = absurd (omega (arith, h))
all_of (x ∷ a) (suc limit) h = ap (λ xs. x ∷ xs) (all_of a limit (omega (arith, h)))

these_of : (a left : List Turn) → take (length a) (a ++ left) ≡ a
these_of [] left = refl
these_of (x ∷ a) left = ap (λ xs. x ∷ xs) (these_of a left)

prefix : {A : Type 0} (all these rest : List A) (o n : Option (List A)) → all ≡ these ++ rest → Adds these o n → AddsPart all o n
prefix all these rest o n e p = subst (λ xs. AddsPart xs o n) (sym e) (adds_part these rest o n p)

-- a prefix of what stands in the middle
within : {A : Type 0} (all first middle last part rest : List A) → all ≡ (first ++ middle) ++ last → middle ≡ part ++ rest → all ≡ (first ++ part) ++ (rest ++ last)
within all first middle last part rest e are =
    e ∙ ap (λ v. (first ++ v) ++ last) are ∙ ap (λ v. v ++ last) (sym (append_assoc first part rest)) ∙ append_assoc (first ++ part) rest last

-- So many of the turns that came have these logs, and whatever logs the others may have, of all that is written and started a prefix was;
-- all, where the run says so, for then there are no others.
pub record TellsAs (s : Status) (callers : ℕ) (c : Course) (limit : ℕ) (o n : Outside) : Type 0 where
  pub came : List Turn
  pub told : TurnsCame o.turns came
  pub taken : List Turn
  pub logs : List TurnLog
  pub are : AreLogsOf callers c taken logs
  pub more : List Turn
  pub front : take limit came ≡ taken ++ more
  pub written : (rest : List TurnLog) → (more ≡ [] → rest ≡ []) → WritesText s limit came (text_over c (logs ++ rest)) o.written n.written
  pub started : (rest : List TurnLog) → AddsPart (orders_over (logs ++ rest)) o.started n.started

module _ (callers : ℕ) (c : Course) (limit : ℕ) (o n : Outside) where
  -- what a prefix of a text is where the run ends so
  abbrev IsPart : Status → Type 0
  IsPart s = (came : List Turn) (text : List ℕ) → AddsPart text o.written n.written → WritesText s limit came text o.written n.written

  one_more : (done : List Turn) (t : Turn) → length done < limit → length (done ++ t ∷ []) ≤ limit
  one_more done t h = let l = length-append done (t ∷ []) in omega (arith, l, h)

  text_front : (ls rest : List TurnLog) → Adds (text_over c ls) o.written n.written → AddsPart (text_over c (ls ++ rest)) o.written n.written
  text_front ls rest p = prefix (text_over c (ls ++ rest)) (text_over c ls) (text_over c rest) o.written n.written (text_joined c ls rest) p

  orders_front : (ls rest : List TurnLog) → Adds (orders_over ls) o.started n.started → AddsPart (orders_over (ls ++ rest)) o.started n.started
  orders_front ls rest p = prefix (orders_over (ls ++ rest)) (orders_over ls) (orders_over rest) o.started n.started (orders_joined ls rest) p

  -- By the status.

  between : (s : Status) (done : List Turn) (ls : List TurnLog) → length done ≤ limit → AreLogsOf callers c done ls → IsBetween c done ls o n → IsPart s → TellsAs s callers c limit o n
  between s done ls few are x as' =
      let w = coming done o.turns n.turns x.0.turns in
      let f = front done w.left limit few in
      record {
        came = done ++ w.left;
        told = w.told;
        taken = done;
        logs = ls;
        are = are;
        more = f.0;
        front = f.1;
        written = λ rest none. as' (done ++ w.left) (text_over c (ls ++ rest)) (text_front ls rest x.0.written);
        started = λ rest. orders_front ls rest x.0.started;
      }

  -- a turn was taken, and nothing of it was written
  before : (s : Status) (done : List Turn) (ls : List TurnLog) (t : Turn) → length done < limit → AreLogsOf callers c done ls → IsBefore c done ls t o n → IsPart s → TellsAs s callers c limit o n
  before s done ls t few are x as' =
      let w = coming (done ++ t ∷ []) o.turns n.turns x.0.turns in
      let f = front (done ++ t ∷ []) w.left limit (one_more done t few) in
      record {
        came = (done ++ t ∷ []) ++ w.left;
        told = w.told;
        taken = done;
        logs = ls;
        are = are;
        more = t ∷ f.0;
        front = f.1 ∙ append_assoc done (t ∷ []) f.0;
        written = λ rest none. as' ((done ++ t ∷ []) ++ w.left) (text_over c (ls ++ rest)) (text_front ls rest x.0.written);
        started = λ rest. orders_front ls rest x.0.started;
      }

  in_lines : (s : Status) (done : List Turn) (ls : List TurnLog) (t : Turn) (l : TurnLog) → length done < limit → AreLogsOf callers c done ls → IsNextLog callers c done ls t l → IsInLines c done ls t l o n → IsPart s → TellsAs s callers c limit o n
  in_lines s done ls t l few are is x as' =
      let w = coming (done ++ t ∷ []) o.turns n.turns x.at.turns in
      let f = front (done ++ t ∷ []) w.left limit (one_more done t few) in
      record {
        came = (done ++ t ∷ []) ++ w.left;
        told = w.told;
        taken = done ++ t ∷ [];
        logs = ls ++ l ∷ [];
        are = logs_then callers c done ls t l are is;
        more = f.0;
        front = f.1;
        written = λ rest none. as' ((done ++ t ∷ []) ++ w.left) (text_over c ((ls ++ l ∷ []) ++ rest))
            (prefix (text_over c ((ls ++ l ∷ []) ++ rest)) (text_over c ls ++ x.part) (x.rest ++ text_over c rest) o.written n.written
            (within _ (text_over c ls) (text_of c l) (text_over c rest) x.part x.rest (text_joined c (ls ++ l ∷ []) rest ∙ ap (λ v. v ++ text_over c rest) (text_then c ls l)) x.are) x.at.written);
        started = λ rest. prefix (orders_over ((ls ++ l ∷ []) ++ rest)) (orders_over ls) (started_of l.orders ++ orders_over rest) o.started n.started
            (orders_joined (ls ++ l ∷ []) rest ∙ ap (λ v. v ++ orders_over rest) (orders_then ls l) ∙ append_assoc (orders_over ls) (started_of l.orders) (orders_over rest)) x.at.started;
      }

  in_orders : (s : Status) (done : List Turn) (ls : List TurnLog) (t : Turn) (l : TurnLog) → length done < limit → AreLogsOf callers c done ls → IsNextLog callers c done ls t l → IsInOrders c done ls t l o n → IsPart s → TellsAs s callers c limit o n
  in_orders s done ls t l few are is x as' =
      let w = coming (done ++ t ∷ []) o.turns n.turns x.at.turns in
      let f = front (done ++ t ∷ []) w.left limit (one_more done t few) in
      record {
        came = (done ++ t ∷ []) ++ w.left;
        told = w.told;
        taken = done ++ t ∷ [];
        logs = ls ++ l ∷ [];
        are = logs_then callers c done ls t l are is;
        more = f.0;
        front = f.1;
        written = λ rest none. as' ((done ++ t ∷ []) ++ w.left) (text_over c ((ls ++ l ∷ []) ++ rest))
            (text_front (ls ++ l ∷ []) rest (subst (λ v. Adds v o.written n.written) (sym (text_then c ls l)) x.at.written));
        started = λ rest. prefix (orders_over ((ls ++ l ∷ []) ++ rest)) (orders_over ls ++ x.part) (x.rest ++ orders_over rest) o.started n.started
            (within _ (orders_over ls) (started_of l.orders) (orders_over rest) x.part x.rest (orders_joined (ls ++ l ∷ []) rest ∙ ap (λ v. v ++ orders_over rest) (orders_then ls l)) x.are) x.at.started;
      }

  -- no logs are left where no turns are
  whole_text : (ls rest : List TurnLog) → rest ≡ [] → text_over c (ls ++ rest) ≡ text_over c ls
  whole_text ls rest e = ap (λ ms. text_over c (ls ++ ms)) e ∙ ap (text_over c) (append-nil ls)

  whole : (done : List Turn) (ls : List TurnLog) → length done ≤ limit → AreLogsOf callers c done ls → IsBetween c done ls o n → NoneLeft n.turns → TellsAs status.Done callers c limit o n
  whole done ls few are x none =
      let w = coming done o.turns n.turns x.0.turns in
      let all : done ++ w.left ≡ done = ap (λ left. done ++ left) (w.none none) ∙ append-nil done in
      record {
        came = done ++ w.left;
        told = w.told;
        taken = done;
        logs = ls;
        are = are;
        more = [];
        front = ap (take limit) all ∙ all_of done limit few ∙ sym (append-nil done);
        written = λ rest no_more. (
          subst (λ (ts : List Turn). length ts ≤ limit) (sym all) few,
          subst (λ v. Adds v o.written n.written) (sym (whole_text ls rest (no_more refl))) x.0.written,
        );
        started = λ rest. orders_front ls rest x.0.started;
      }

  spent : (done : List Turn) (ls : List TurnLog) (t : Turn) → length done ≡ limit → AreLogsOf callers c done ls → IsBefore c done ls t o n → TellsAs status.TurnsSpent callers c limit o n
  spent done ls t all are x =
      let w = coming (done ++ t ∷ []) o.turns n.turns x.0.turns in
      let came = (done ++ t ∷ []) ++ w.left in
      let l = length-append (done ++ t ∷ []) w.left in
      let k = length-append done (t ∷ []) in
      record {
        came = came;
        told = w.told;
        taken = done;
        logs = ls;
        are = are;
        more = [];
        front = ap (take limit) (append_assoc done (t ∷ []) w.left) ∙ ap (λ k. take k (done ++ (t ∷ [] ++ w.left))) (sym all) ∙ these_of done (t ∷ [] ++ w.left) ∙ sym (append-nil done);
        written = λ rest no_more. (omega (arith, l, k, all), subst (λ v. Adds v o.written n.written) (sym (whole_text ls rest (no_more refl))) x.0.written);
        started = λ rest. orders_front ls rest x.0.started;
      }

  by : (s : Status) (stands : List Turn → List TurnLog → Type 0) (d : List Turn) (ls : List TurnLog) → length d ≤ limit → AreLogsOf callers c d ls → EndsBehind s callers c limit stands d ls o n → TellsAs s callers c limit o n
  by status.Done stands d ls few are x = whole d ls few are x.1 x.2
  by status.TurnsSpent stands d ls few are x = spent d ls x.1.0 x.0 are x.1.1
  by status.WriteFault stands d ls few are (less, (t, (l, is, x))) = in_lines status.WriteFault d ls t l less are is x (λ came text p. p)
  by status.WorldFault stands d ls few are (inl x) = between status.WorldFault d ls few are x (λ came text p. p)
  by status.WorldFault stands d ls few are (inr (less, (t, (l, is, x)))) = in_orders status.WorldFault d ls t l less are is x (λ came text p. p)
  by status.OutOfMemory stands d ls few are (inl x) = between status.OutOfMemory d ls few are x (λ came text p. p)
  by status.OutOfMemory stands d ls few are (inr (less, (t, inl x))) = before status.OutOfMemory d ls t less are x (λ came text p. p)
  by status.OutOfMemory stands d ls few are (inr (less, (t, inr (l, is, inl x)))) = in_lines status.OutOfMemory d ls t l less are is x (λ came text p. p)
  by status.OutOfMemory stands d ls few are (inr (less, (t, inr (l, is, inr x)))) = in_orders status.OutOfMemory d ls t l less are is x (λ came text p. p)
  by status.Diagnosed stands d ls few are x = absurd x
  by status.Usage stands d ls few are x = absurd x
  by status.ReadFault stands d ls few are x = absurd x
  by status.NotLegal stands d ls few are x = absurd x

  -- a run tells of the turns that came
  pub tells_as : (s : Status) (stands : List Turn → List TurnLog → Type 0) → Ends s callers c limit stands o n → TellsAs s callers c limit o n
  tells_as s stands e = by s stands e.done e.logs e.few e.are e.ends

-- with one caller, by its logs
pub tells_of : (c : Course) (limit : ℕ) (o n : Outside) (s : Status) (stands : List Turn → List TurnLog → Type 0) → Ends s 1 c limit stands o n → TellsOf s c limit o n
tells_of c limit o n s stands e =
    let x = tells_as 1 c limit o n s stands e in
    let rest = logs (behind c x.taken) x.more in
    let same : logs c (take limit x.came) ≡ x.logs ++ rest =
    ap (logs c) x.front ∙ logs_both c x.taken x.more ∙ ap (λ ls. ls ++ rest) (sym (logs_are c x.taken x.logs x.are)) in
    record {
      came = x.came;
      told = x.told;
      written = subst (λ ls. WritesText s limit x.came (text_over c ls) o.written n.written) (sym same) (x.written rest (λ none. ap (logs (behind c x.taken)) none));
      started = subst (λ ls. AddsPart (orders_over ls) o.started n.started) (sym same) (x.started rest);
    }
