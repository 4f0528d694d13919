-- What each event of a turn says, and of which kind it is.
use Rattle.std.proofs.Common.{◌≡◌, ◌+◌, ◌^◌, ◌<◌, ◌≤◌, ◌||◌, ℕ, nat_eq, Bool, true, false, cond, List, [], ◌∷◌, filter, get_or, refl, sym, ap, ◌∙◌, arith, Some, None, Option, true≢false, ◌⊎◌, inl, inr}
use Rattle.std.specs.List.{AllByRecursion}
use Rattle.std.specs.Option.{option_map}
use Rattle.plugin_line.specs.Output.{plugin_result}
use Rattle.site_model.specs.PlainSite.{PlainSite, full_names}
use Rattle.site_model.specs.declared.event.Event.{Event}
use Rattle.site_model.specs.declared.event.Event.TheVariants as event
use Rattle.site_edge.specs.declared.report.Report.{Report}
use Rattle.event_text.specs.Lines.{Has, told}
use Rattle.run_meaning.specs.Dealing.{checkable_of, ordered_result, report_refusals, refusing, still, taken_reports, taking, without, Taken}
use Rattle.run_meaning.specs.Turns.{Asked, Outstanding, Reported}
use Rattle.site_audit.specs.Commands.{line_for, output_text}
use Rattle.site_audit.specs.Order.{stands}
use Rattle.site_audit.specs.Spots.{kind_of}
use Rattle.site_audit.specs.Telling.{event_said, is_report, report_of}
use Rattle.site_audit.specs.Told.{line_in, report_in}
use Rattle.audit_laws.specs.Types.{Open, Said}
use Rattle.audit_laws.specs.Askable.{CanBeAsked, IsInRange}
use Rattle.audit_laws.specs.Names.{IsWellNamed}
use Rattle.audit_laws.specs.Rereported.{orders_of, orders_taken}
use Rattle.audit_laws.specs.Reports.{IsReadAgain}
use Rattle.audit_laws.specs.Telling.{IsToldAgain}
use Rattle.audit_laws.proofs.Ordering.{eq_is, is_eq}
use Rattle.audit_laws.proofs.Outputs.{read_again}
use Rattle.audit_laws.proofs.Rereporting.{gone, stays, still_gone}
use Rattle.audit_laws.proofs.Told.{told_again}

-- ---- kinds

abbrev pub result_kind : Option Open → ℕ
result_kind None = 0
result_kind (Some o) = cond o.missing (1 + o.number) (2 ^ 64 + 1)

abbrev pub kind_by : Option Open → ℕ → Event → ℕ
kind_by o c (event.Result status false output perf) = result_kind o
kind_by o c (event.Result status true output perf) = 0
kind_by o c event.Tick = 2 ^ 64 + 2 + c
kind_by o c (event.Ack sticky notify) = 0
kind_by o c event.Unack = 0
kind_by o c (event.Down start end fixed duration) = 0
kind_by o c (event.Undown number) = 0
kind_by o c (event.Checks on) = 0
kind_by o c (event.Notes on) = 0
kind_by o c (event.Check moment forced) = 0

abbrev pub kind_asked : List (Option Open) → Asked → ℕ
kind_asked opens a = kind_by (get_or opens a.checkable None) a.checkable a.event

some_same : {A : Type 0} (x y : A) → Some x ≡ Some y → x ≡ y
some_same x y e = cc

none_some : {A : Type 0} (x : A) → None ≡ Some x → ⊥
none_some x e = absurd cc

line_kind : (f : List ℕ → Said) (c : ℕ) (o : Option (List ℕ)) (s : Said) → option_map f o ≡ Some s → ((l : List ℕ) → kind_of c (f l) ≡ 0) → kind_of c s ≡ 0
line_kind f c None s e k = absurd (none_some s e)
line_kind f c (Some l) s e k = ap (kind_of c) (sym (some_same (f l) s e)) ∙ k l

report_kind : (c n : ℕ) (m : Bool) (status : ℕ) (output perf : List ℕ) → kind_of c (report_of (record { number = n; missing = m }) status output perf) ≡ cond m (1 + n) (2 ^ 64 + 1)
report_kind c n true status output perf = refl
report_kind c n false status output perf = refl

-- what an event says is of its kind
pub said_kind : (name : List ℕ) (o : Option Open) (c : ℕ) (e : Event) (s : Said) → event_said name o e ≡ Some s → kind_of c s ≡ kind_by o c e
said_kind name None c (event.Result status false output perf) s h = absurd (none_some s h)
said_kind name (Some o) c (event.Result status false output perf) s h = ap (kind_of c) (sym (some_same (report_of o status output perf) s h)) ∙ report_kind c o.number o.missing status output perf
said_kind name o c (event.Result status true output perf) s h = line_kind _ c (line_for name (event.Result status true output perf)) s h (λ l. refl)
said_kind name o c event.Tick s h = ap (kind_of c) (sym (some_same _ s h))
said_kind name o c (event.Ack sticky notify) s h = line_kind _ c (line_for name (event.Ack sticky notify)) s h (λ l. refl)
said_kind name o c event.Unack s h = line_kind _ c (line_for name event.Unack) s h (λ l. refl)
said_kind name o c (event.Down start end fixed duration) s h = line_kind _ c (line_for name (event.Down start end fixed duration)) s h (λ l. refl)
said_kind name o c (event.Undown number) s h = line_kind _ c (line_for name (event.Undown number)) s h (λ l. refl)
said_kind name o c (event.Checks on) s h = line_kind _ c (line_for name (event.Checks on)) s h (λ l. refl)
said_kind name o c (event.Notes on) s h = line_kind _ c (line_for name (event.Notes on)) s h (λ l. refl)
said_kind name o c (event.Check moment forced) s h = line_kind _ c (line_for name (event.Check moment forced)) s h (λ l. refl)

-- a kind between lines and reports is that of a result
pub lacking_kind : (o : Option Open) (c : ℕ) (e : Event) → 1 ≤ kind_by o c e → kind_by o c e < 2 ^ 64 + 1 → kind_by o c e ≡ result_kind o
lacking_kind o c (event.Result status false output perf) low high = refl
lacking_kind o c (event.Result status true output perf) low high = absurd (omega (arith, low))
lacking_kind o c event.Tick low high = absurd (omega (arith, high))
lacking_kind o c (event.Ack sticky notify) low high = absurd (omega (arith, low))
lacking_kind o c event.Unack low high = absurd (omega (arith, low))
lacking_kind o c (event.Down start end fixed duration) low high = absurd (omega (arith, low))
lacking_kind o c (event.Undown number) low high = absurd (omega (arith, low))
lacking_kind o c (event.Checks on) low high = absurd (omega (arith, low))
lacking_kind o c (event.Notes on) low high = absurd (omega (arith, low))
lacking_kind o c (event.Check moment forced) low high = absurd (omega (arith, low))

result_low : (o : Option Open) → ((p : Open) → o ≡ Some p → p.number < 2 ^ 64) → result_kind o < 2 ^ 64 + 2
result_low None fit = omega arith
result_low (Some p) fit = by p.missing (fit p refl)
  where
    by : (t : Bool) → p.number < 2 ^ 64 → cond t (1 + p.number) (2 ^ 64 + 1) < 2 ^ 64 + 2
    by true lt = omega (arith, lt)
    by false lt = omega arith

-- a kind above reports is that of a tick
pub tick_kind : (o : Option Open) (c : ℕ) (e : Event) → ((p : Open) → o ≡ Some p → p.number < 2 ^ 64) → 2 ^ 64 + 2 ≤ kind_by o c e → kind_by o c e ≡ 2 ^ 64 + 2 + c
tick_kind o c (event.Result status false output perf) fit low = let lt = result_low o fit in absurd (omega (arith, low, lt))
tick_kind o c (event.Result status true output perf) fit low = absurd (omega (arith, low))
tick_kind o c event.Tick fit low = refl
tick_kind o c (event.Ack sticky notify) fit low = absurd (omega (arith, low))
tick_kind o c event.Unack fit low = absurd (omega (arith, low))
tick_kind o c (event.Down start end fixed duration) fit low = absurd (omega (arith, low))
tick_kind o c (event.Undown number) fit low = absurd (omega (arith, low))
tick_kind o c (event.Checks on) fit low = absurd (omega (arith, low))
tick_kind o c (event.Notes on) fit low = absurd (omega (arith, low))
tick_kind o c (event.Check moment forced) fit low = absurd (omega (arith, low))

-- ---- what a line can ask for

-- a line is said
pub record IsWord (x : Option Said) (l : List ℕ) : Type 0 where
  pub word : Said
  pub is : x ≡ Some word
  pub lines : line_in (Some word) ≡ l ∷ []
  pub reports : report_in (Some word) ≡ []

word_of : (f : List ℕ → Said) (x : Option Said) (o : Option (List ℕ)) (l : List ℕ) → o ≡ Some l → x ≡ option_map f o → ((l : List ℕ) → line_in (Some (f l)) ≡ l ∷ []) → ((l : List ℕ) → report_in (Some (f l)) ≡ []) → IsWord x l
word_of f x o l e same lines reports = record { word = f l; is = same ∙ ap (option_map f) e; lines = lines l; reports = reports l }

command_word : (o : Option Open) (name : List ℕ) (host : Option ℕ) (e : Event) (l : List ℕ) → IsInRange host e → line_for name e ≡ Some l → IsWord (event_said name o e) l
command_word o name host (event.Result status true output perf) l h g = word_of _ (event_said name o (event.Result status true output perf)) (line_for name (event.Result status true output perf)) l g refl (λ l. refl) (λ l. refl)
command_word o name host (event.Result status false output perf) l h g = absurd (true≢false (sym h.0))
command_word o name host event.Tick l h g = absurd h
command_word o name host (event.Ack sticky notify) l h g = word_of _ (event_said name o (event.Ack sticky notify)) (line_for name (event.Ack sticky notify)) l g refl (λ l. refl) (λ l. refl)
command_word o name host event.Unack l h g = word_of _ (event_said name o event.Unack) (line_for name event.Unack) l g refl (λ l. refl) (λ l. refl)
command_word o name host (event.Down start end fixed duration) l h g = word_of _ (event_said name o (event.Down start end fixed duration)) (line_for name (event.Down start end fixed duration)) l g refl (λ l. refl) (λ l. refl)
command_word o name host (event.Undown number) l h g = word_of _ (event_said name o (event.Undown number)) (line_for name (event.Undown number)) l g refl (λ l. refl) (λ l. refl)
command_word o name host (event.Checks on) l h g = word_of _ (event_said name o (event.Checks on)) (line_for name (event.Checks on)) l g refl (λ l. refl) (λ l. refl)
command_word o name host (event.Notes on) l h g = word_of _ (event_said name o (event.Notes on)) (line_for name (event.Notes on)) l g refl (λ l. refl) (λ l. refl)
command_word o name host (event.Check moment forced) l h g = word_of _ (event_said name o (event.Check moment forced)) (line_for name (event.Check moment forced)) l g refl (λ l. refl) (λ l. refl)

pub command_is : (o : Option Open) (c : ℕ) (host : Option ℕ) (e : Event) → IsInRange host e → (kind_by o c e ≡ 0) × (is_report e ≡ false)
command_is o c host (event.Result status true output perf) h = (refl, refl)
command_is o c host (event.Result status false output perf) h = absurd (true≢false (sym h.0))
command_is o c host event.Tick h = absurd h
command_is o c host (event.Ack sticky notify) h = (refl, refl)
command_is o c host event.Unack h = (refl, refl)
command_is o c host (event.Down start end fixed duration) h = (refl, refl)
command_is o c host (event.Undown number) h = (refl, refl)
command_is o c host (event.Checks on) h = (refl, refl)
command_is o c host (event.Notes on) h = (refl, refl)
command_is o c host (event.Check moment forced) h = (refl, refl)

-- a tick is
pub tick_word : (name : List ℕ) (o : Option Open) → (z : Said) × (event_said name o event.Tick ≡ Some z) × (line_in (Some z) ≡ []) × (report_in (Some z) ≡ [])
tick_word name o = (_, refl, refl, refl)

-- ---- what an event of a turn says

module _ (s : PlainSite) (opens : List (Option Open)) (os left : List Outstanding) where
  abbrev pub says : Asked → Option Said
  says a = event_said (get_or (full_names s) a.checkable []) (get_or opens a.checkable None) a.event

  -- the word of an event is a line that asks for it, a result for which a macro is missing, a report that is taken as it, or a tick
  pub record IsLineWord (a : Asked) (word : Said) : Type 0 where
    pub l : List ℕ
    pub lines : line_in (Some word) ≡ l ∷ []
    pub reports : report_in (Some word) ≡ []
    pub low : kind_asked opens a ≡ 0
    pub asks : Has s l (told a.checkable a.event)

  pub record IsLackingWord (a : Asked) (word : Said) : Type 0 where
    pub lines : line_in (Some word) ≡ []
    pub reports : report_in (Some word) ≡ []
    pub low : 1 ≤ kind_asked opens a
    pub high : kind_asked opens a < 2 ^ 64 + 1

  pub record IsReportWord (a : Asked) (word : Said) : Type 0 where
    pub q : Report
    pub lines : line_in (Some word) ≡ []
    pub reports : report_in (Some word) ≡ q ∷ []
    pub is_kind : kind_asked opens a ≡ 2 ^ 64 + 1
    pub there : checkable_of q.order left ≡ Some a.checkable
    pub event : a.event ≡ ordered_result q.status q.output
    pub opened : get_or opens a.checkable None ≡ Some (record { number = q.order; missing = false })

  pub record IsTickWord (a : Asked) (word : Said) : Type 0 where
    pub lines : line_in (Some word) ≡ []
    pub reports : report_in (Some word) ≡ []
    pub high : 2 ^ 64 + 2 ≤ kind_asked opens a

  pub record IsSayable (a : Asked) : Type 0 where
    pub word : Said
    pub is : says a ≡ Some word
    pub shows : IsLineWord a word ⊎ (IsLackingWord a word ⊎ (IsReportWord a word ⊎ IsTickWord a word))

  -- the result of an outstanding order, whose macro may be missing
  pub record IsResultOf (lacks : Bool) (t : Taken) : Type 0 where
    pub opened : get_or opens t.asked.checkable None ≡ Some (record { number = t.order; missing = lacks })
    pub status : ℕ
    pub output : List ℕ
    pub event : t.asked.event ≡ ordered_result status output
    pub left_is : lacks ≡ false → checkable_of t.order left ≡ Some t.asked.checkable

  pub line_sayable : IsWellNamed s → (a : Asked) → CanBeAsked s a.checkable a.event → IsSayable a
  line_sayable w a can =
      let again : IsToldAgain s a.checkable a.event = told_again s w a.checkable a.event can in
      let word = command_word (get_or opens a.checkable None) (get_or (full_names s) a.checkable []) can.check.host a.event again.line can.range again.is in
      record {
        word = word.word;
        is = word.is;
        shows = inl (record { l = again.line; lines = word.lines; reports = word.reports; low = (command_is (get_or opens a.checkable None) a.checkable can.check.host a.event can.range).0; asks = again.tells });
      }

  pub tick_sayable : (a : Asked) → a.event ≡ event.Tick → IsSayable a
  tick_sayable a e =
      let word = tick_word (get_or (full_names s) a.checkable []) (get_or opens a.checkable None) in
      let kind : kind_asked opens a ≡ 2 ^ 64 + 2 + a.checkable = ap (kind_by (get_or opens a.checkable None) a.checkable) e in
      record {
        word = word.0;
        is = ap (event_said (get_or (full_names s) a.checkable []) (get_or opens a.checkable None)) e ∙ word.1;
        shows = inr (inr (inr (record { lines = word.2; reports = word.3; high = omega (arith, kind) })));
      }

  abbrev of_open : Open → ℕ → List ℕ → Said
  of_open o status output = let r = plugin_result output status in report_of o r.status r.output r.perf

  result_said_so : (lacks : Bool) (t : Taken) (h : IsResultOf lacks t) → says t.asked ≡ Some (of_open (record { number = t.order; missing = lacks }) h.status h.output)
  result_said_so lacks t h =
      ap (λ e. event_said (get_or (full_names s) t.asked.checkable []) (get_or opens t.asked.checkable None) e) h.event
      ∙ ap (λ o. event_said (get_or (full_names s) t.asked.checkable []) o (ordered_result h.status h.output)) h.opened

  -- the kind of a result
  pub result_kind_is : (lacks : Bool) (t : Taken) → IsResultOf lacks t → kind_asked opens t.asked ≡ cond lacks (1 + t.order) (2 ^ 64 + 1)
  result_kind_is lacks t h = ap (λ e. kind_by (get_or opens t.asked.checkable None) t.asked.checkable e) h.event ∙ ap result_kind h.opened

  pub result_sayable : (lacks : Bool) (t : Taken) → t.order < 2 ^ 64 → IsResultOf lacks t → IsSayable t.asked
  result_sayable true t fit h =
      let e = result_kind_is true t h in
      record {
        word = of_open (record { number = t.order; missing = true }) h.status h.output;
        is = result_said_so true t h;
        shows = inr (inl (record { lines = refl; reports = refl; low = omega (arith, e); high = omega (arith, e, fit) }));
      }
  result_sayable false t fit h = record {
    word = of_open (record { number = t.order; missing = false }) h.status h.output;
    is = result_said_so false t h;
    shows = inr (inr (inl (record { q = own; lines = refl; reports = refl; is_kind = result_kind_is false t h; there = h.left_is refl; event = h.event ∙ sym again; opened = h.opened })));
  }
    where
      own : Report
      own = let p = plugin_result h.output h.status in record { order = t.order; status = p.status; output = output_text p.output p.perf }

      again : ordered_result own.status own.output ≡ ordered_result h.status h.output
      again = let r : IsReadAgain h.output h.status = read_again h.output h.status in ap (λ z. event.Result z.status false z.output z.perf) r

-- ---- which reports are taken

was_there : (n m c : ℕ) (os : List Outstanding) → checkable_of n (without m os) ≡ Some c → checkable_of n os ≡ Some c
was_there n m c os h = by (nat_eq n m) refl
  where
    by : (t : Bool) → nat_eq n m ≡ t → checkable_of n os ≡ Some c
    by true e = absurd (none_some c (sym (gone m os) ∙ (ap (λ k. checkable_of k (without m os)) (sym (eq_is n m e)) ∙ h)))
    by false e = sym (stays n m os e) ∙ h

pub was_still : (rs : List Reported) (n c : ℕ) (os : List Outstanding) → checkable_of n (still rs os) ≡ Some c → checkable_of n os ≡ Some c
was_still [] n c os h = h
was_still (r ∷ rs) n c os h = was_there n r.order c os (was_still rs n c (without r.order os) h)

-- an order that is there, of a report that is there, which is taken as the report's result
pub record IsTaken (os : List Outstanding) (rs : List Reported) (t : Taken) : Type 0 where
  pub there : checkable_of t.order os ≡ Some t.asked.checkable
  pub reported : stands (orders_of rs) t.order ≡ true
  pub status : ℕ
  pub output : List ℕ
  pub event : t.asked.event ≡ ordered_result status output

pub all_kept : {A : Type 0} (P : A → Type 0) (test : A → Bool) (xs : List A) → AllByRecursion P xs → AllByRecursion P (filter test xs)
all_kept P test [] h = tt
all_kept P test (x ∷ xs) h = by (test x) (all_kept P test xs h.1)
  where
    by : (t : Bool) → AllByRecursion P (filter test xs) → AllByRecursion P (cond t (x ∷ filter test xs) (filter test xs))
    by true rest = (h.0, rest)
    by false rest = rest

pub all_imply : {A : Type 0} (P Q : A → Type 0) → ((a : A) → P a → Q a) → (xs : List A) → AllByRecursion P xs → AllByRecursion Q xs
all_imply P Q f [] h = tt
all_imply P Q f (x ∷ xs) h = (f x h.0, all_imply P Q f xs h.1)

pub taken_facts : (os : List Outstanding) (rs : List Reported) → AllByRecursion (IsTaken os rs) (taken_reports os rs)
taken_facts os [] = tt
taken_facts os (r ∷ rs) = by (checkable_of r.order os) refl (all_imply (IsTaken (without r.order os) rs) (IsTaken os (r ∷ rs)) more (taken_reports (without r.order os) rs) (taken_facts (without r.order os) rs))
  where
    behind : (a b : Bool) → b ≡ true → (a || b) ≡ true
    behind true b e = refl
    behind false b e = e

    more : (t : Taken) → IsTaken (without r.order os) rs t → IsTaken os (r ∷ rs) t
    more t h = record {
      there = was_there t.order r.order t.asked.checkable os h.there;
      reported = behind (nat_eq t.order r.order) (stands (orders_of rs) t.order) h.reported;
      status = h.status;
      output = h.output;
      event = h.event;
    }

    by : (c : Option ℕ) → checkable_of r.order os ≡ c → AllByRecursion (IsTaken os (r ∷ rs)) (taken_reports (without r.order os) rs) → AllByRecursion (IsTaken os (r ∷ rs)) (taking r c (taken_reports (without r.order os) rs))
    by None e rest = rest
    by (Some c) e rest = (
      record { there = e; reported = ap (λ t. t || stands (orders_of rs) r.order) (is_eq r.order r.order refl); status = r.status; output = r.output; event = refl },
      rest,
    )

-- where none is refused all are taken
pub all_taken : (os : List Outstanding) (rs : List Reported) → report_refusals os rs ≡ [] → orders_taken (taken_reports os rs) ≡ orders_of rs
all_taken os [] h = refl
all_taken os (r ∷ rs) h = by (checkable_of r.order os) h (all_taken (without r.order os) rs)
  where
    by : (c : Option ℕ) → refusing r c (report_refusals (without r.order os) rs) ≡ [] → (report_refusals (without r.order os) rs ≡ [] → orders_taken (taken_reports (without r.order os) rs) ≡ orders_of rs)
        → orders_taken (taking r c (taken_reports (without r.order os) rs)) ≡ orders_of (r ∷ rs)
    by None e more = absurd cc
    by (Some c) e more = ap (λ zs. r.order ∷ zs) (more e)

-- one that is still there behind other reports isn't of them
pub not_of : (ds : List Reported) (os : List Outstanding) (n c : ℕ) → checkable_of n (still ds os) ≡ Some c → stands (orders_of ds) n ≡ false
not_of ds os n c h = by (stands (orders_of ds) n) refl
  where
    by : (t : Bool) → stands (orders_of ds) n ≡ t → t ≡ false
    by true e = absurd (none_some c (sym (still_gone ds os n e) ∙ h))
    by false e = refl
