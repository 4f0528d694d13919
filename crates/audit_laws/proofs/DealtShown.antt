-- What each caller takes of a turn, and what is heard of it, where results have no texts but those for which a macro is missing.
use Rattle.std.proofs.Common.{◌≡◌, ◌&&◌, ℕ, zero, suc, nat_lt, Bool, true, false, cond, List, [], ◌∷◌, ◌++◌, filter, get_or, map, slice_set, refl, sym, ap, ap₂, ◌∙◌, Option, Some, None, ◌⊎◌, inl, inr}
use Rattle.std.proofs.lemmas.List.{map-append}
use Rattle.std.specs.List.{AllByRecursion}
use Rattle.site_model.specs.PlainSite.{PlainSite, full_names}
use Rattle.site_model.specs.declared.entry.Entry.{Entry}
use Rattle.site_model.specs.declared.event.Event.{Event}
use Rattle.site_model.specs.declared.event.Event.TheVariants as event
use Rattle.log_text.specs.EntryTwo.{untold, without_texts}
use Rattle.log_text.specs.Fronts.{◌>>=◌}
use Rattle.run_meaning.specs.Dealing.{Taken, checkable_of, dealt, dealt_to, goes_to, lines_to, taken_reports, taking, without}
use Rattle.run_meaning.specs.Turns.{Asked, Histories, Outstanding, Reported, from_on}
use Rattle.site_audit.specs.Hearing.{entries_heard, heard_with, one_heard}
use Rattle.site_audit.specs.Telling.{after_entry, event_said, is_report, result_said}
use Rattle.site_audit.specs.Told.{nothing_heard, turn_heard, turn_told}
use Rattle.audit_laws.specs.Types.{Block, EntryLine, Heard, Open, Said}
use Rattle.audit_laws.specs.Alike.{untold_report}
use Rattle.audit_laws.specs.Retaken.{lines_from}
use Rattle.audit_laws.specs.Versions.{untold_all, untold_asked}
use Rattle.audit_laws.proofs.ByVersion.{twice_event}
use Rattle.audit_laws.proofs.EntryFits.{all_behind}
use Rattle.audit_laws.proofs.EventFacts.{IsResultOf}
use Rattle.audit_laws.proofs.Retexting.{asked_with, round_with, with_text}
use Rattle.audit_laws.proofs.UntoldRuns.{untold_result}

-- ---- the texts

abbrev lacks : Option Open → Bool
lacks None = false
lacks (Some o) = o.missing

abbrev keeping : Bool → Event → Event
keeping true v = v
keeping false v = without_texts v

module _ (opens : List (Option Open)) where
  abbrev pub text : ℕ → Event → Event
  text c v = keeping (is_report v && lacks (get_or opens c None)) v

  pub texts : (c : ℕ) (v : Event) → without_texts (text c v) ≡ without_texts v
  texts c v = by (is_report v && lacks (get_or opens c None))
    where
      by : (t : Bool) → without_texts (keeping t v) ≡ without_texts v
      by true = refl
      by false = twice_event v

  -- ---- what is heard

  abbrev IsOf : ℕ → Option Open → Type 0
  IsOf c o = (o ≡ get_or opens c None) ⊎ (o ≡ None)

  result_same : (name : List ℕ) (c : ℕ) (o : Option Open) (status : ℕ) (output perf : List ℕ) (q : Option Open) → (o ≡ q) ⊎ (o ≡ None)
      → event_said name o (without_texts (keeping (true && lacks q) (event.Result status false output perf))) ≡ event_said name o (keeping (true && lacks q) (event.Result status false output perf))
  result_same name c o status output perf None is = refl
  result_same name c o status output perf (Some p) is = by p.missing refl
    where
      lacking : (r : Option Open) → (r ≡ Some p) ⊎ (r ≡ None) → p.missing ≡ true → result_said r status [] [] ≡ result_said r status output perf
      lacking r (inl e) m = ap (λ x. result_said x status [] []) e ∙ (both p m ∙ sym (ap (λ x. result_said x status output perf) e))
        where
          both : (x : Open) → x.missing ≡ true → result_said (Some x) status [] [] ≡ result_said (Some x) status output perf
          both x m = cc
      lacking r (inr e) m = ap (λ x. result_said x status [] []) e ∙ sym (ap (λ x. result_said x status output perf) e)

      by : (t : Bool) → p.missing ≡ t → event_said name o (without_texts (keeping (true && t) (event.Result status false output perf))) ≡ event_said name o (keeping (true && t) (event.Result status false output perf))
      by true m = lacking o is m
      by false m = refl

  said_same : (name : List ℕ) (c : ℕ) (o : Option Open) (v : Event) → IsOf c o → event_said name o (without_texts (text c v)) ≡ event_said name o (text c v)
  said_same name c o (event.Result status false output perf) is = result_same name c o status output perf (get_or opens c None) is
  said_same name c o (event.Result status true output perf) is = refl
  said_same name c o event.Tick is = refl
  said_same name c o (event.Ack sticky notify) is = refl
  said_same name c o event.Unack is = refl
  said_same name c o (event.Down start end fixed duration) is = refl
  said_same name c o (event.Undown number) is = refl
  said_same name c o (event.Checks on) is = refl
  said_same name c o (event.Notes on) is = refl
  said_same name c o (event.Check moment forced) is = refl

  bare_report : (e : Event) → is_report (without_texts e) ≡ is_report e
  bare_report (event.Result status passive output perf) = refl
  bare_report event.Tick = refl
  bare_report (event.Ack sticky notify) = refl
  bare_report event.Unack = refl
  bare_report (event.Down start end fixed duration) = refl
  bare_report (event.Undown number) = refl
  bare_report (event.Checks on) = refl
  bare_report (event.Notes on) = refl
  bare_report (event.Check moment forced) = refl

  abbrev untold_line : EntryLine → EntryLine
  untold_line x = record x { entry = untold x.entry }

  abbrev SaysSo : EntryLine → Type 0
  SaysSo x = (name : List ℕ) (o : Option Open) → IsOf x.checkable o → event_said name o (without_texts x.entry.event) ≡ event_said name o x.entry.event

  abbrev AreOf : List (Option Open) → Type 0
  AreOf os = (c : ℕ) → IsOf c (get_or os c None)

  closed : (os : List (Option Open)) (k c : ℕ) → (get_or (slice_set os k None) c None ≡ get_or os c None) ⊎ (get_or (slice_set os k None) c None ≡ None)
  closed [] k c = inl refl
  closed (o ∷ os) zero zero = inr refl
  closed (o ∷ os) zero (suc c) = inl refl
  closed (o ∷ os) (suc k) zero = inl refl
  closed (o ∷ os) (suc k) (suc c) = closed os k c

  are_after : (os : List (Option Open)) (x : EntryLine) → AreOf os → AreOf (after_entry os x)
  are_after os x of c = by (is_report x.entry.event)
    where
      set : (get_or (slice_set os x.checkable None) c None ≡ get_or os c None) ⊎ (get_or (slice_set os x.checkable None) c None ≡ None) → IsOf c (get_or os c None) → IsOf c (get_or (slice_set os x.checkable None) c None)
      set (inl e) (inl f) = inl (e ∙ f)
      set (inl e) (inr f) = inr (e ∙ f)
      set (inr e) f = inr e

      by : (t : Bool) → IsOf c (get_or (cond t (slice_set os x.checkable None) os) c None)
      by true = set (closed os x.checkable c) (of c)
      by false = of c

  same_heard : (callers : ℕ) (names : List (List ℕ)) (os : List (Option Open)) (xs : List EntryLine) (h : Heard) → AreOf os → AllByRecursion SaysSo xs → entries_heard callers names os (map untold_line xs) h ≡ entries_heard callers names os xs h
  same_heard callers names os [] h of all = refl
  same_heard callers names os (x ∷ xs) h of all =
      ap₂ (λ o now. o >>= entries_heard callers names now (map untold_line xs)) one (ap (λ t. cond t (slice_set os x.checkable None) os) (bare_report x.entry.event))
      ∙ more (one_heard callers names os h x) (λ g. same_heard callers names (after_entry os x) xs g (are_after os x of) all.1)
    where
      with : (o : Option Said) → heard_with h (untold_line x) o ≡ heard_with h x o
      with None = refl
      with (Some s) = refl

      one : one_heard callers names os h (untold_line x) ≡ one_heard callers names os h x
      one =
          ap (λ o. heard_with h (untold_line x) (cond (nat_lt x.entry.caller callers) o None)) (all.0 (get_or names x.checkable []) (get_or os x.checkable None) (of x.checkable))
          ∙ with (cond (nat_lt x.entry.caller callers) (event_said (get_or names x.checkable []) (get_or os x.checkable None) x.entry.event) None)

      more : (o : Option Heard) → ((g : Heard) → entries_heard callers names (after_entry os x) (map untold_line xs) g ≡ entries_heard callers names (after_entry os x) xs g) → (o >>= entries_heard callers names (after_entry os x) (map untold_line xs)) ≡ (o >>= entries_heard callers names (after_entry os x) xs)
      more None again = refl
      more (Some g) again = again g

  abbrev line_of : ℕ → Entry → EntryLine
  line_of k e = record { checkable = k; entry = e }

  lines_bare : (k : ℕ) (round : Histories) → lines_from k (untold_all round) ≡ map untold_line (lines_from k round)
  lines_bare k [] = refl
  lines_bare k (es ∷ round) = ap₂ (λ xs ys. xs ++ ys) (these es) (lines_bare (suc k) round) ∙ sym (map-append untold_line (map (line_of k) es) (lines_from (suc k) round))
    where
      these : (es : List Entry) → map (line_of k) (map untold es) ≡ map untold_line (map (line_of k) es)
      these [] = refl
      these (e ∷ es) = ap (λ xs. line_of k (untold e) ∷ xs) (these es)

  all_say : (k : ℕ) (round : Histories) → AllByRecursion SaysSo (lines_from k (round_with text k round))
  all_say k [] = tt
  all_say k (es ∷ round) = all_behind SaysSo (map (line_of k) (map (with_text text k) es)) (lines_from (suc k) (round_with text (suc k) round)) (these es) (all_say (suc k) round)
    where
      these : (es : List Entry) → AllByRecursion SaysSo (map (line_of k) (map (with_text text k) es))
      these [] = tt
      these (e ∷ es) = (λ name o is. said_same name k o e.event is, these es)

  -- a block without the texts tells the same turn
  pub told_same : (callers : ℕ) (s : PlainSite) (b : Block) (round : Histories) → turn_told callers s opens (record b { entries = lines_from 0 (untold_all (round_with text 0 round)) }) ≡ turn_told callers s opens (record b { entries = lines_from 0 (round_with text 0 round) })
  told_same callers s b round =
      ap (λ o. o >>= turn_heard s b)
      (ap (λ xs. entries_heard callers (full_names s) opens xs nothing_heard) (lines_bare 0 (round_with text 0 round))
      ∙ same_heard callers (full_names s) opens (lines_from 0 (round_with text 0 round)) nothing_heard (λ c. inl refl) (all_say 0 round))

  -- ---- what is taken

  abbrev pub asked_text : Asked → Asked
  asked_text a = asked_with text a

  abbrev pub taken_text : Taken → Taken
  taken_text u = record u { asked = asked_text u.asked }

  abbrev taken_event : Taken → Asked
  taken_event u = u.asked

  module _ (callers : ℕ) (lines : List Asked) (taken : List Taken) (ends : List Asked) where
    lines_with : (k : ℕ) → map asked_text (lines_to k lines) ≡ lines_to k (map asked_text lines)
    lines_with zero = refl
    lines_with (suc k) = refl

    taken_with : (k : ℕ) (ts : List Taken) → map asked_text (map taken_event (filter (λ u. goes_to callers k u.order) ts)) ≡ map taken_event (filter (λ u. goes_to callers k u.order) (map taken_text ts))
    taken_with k [] = refl
    taken_with k (u ∷ ts) = by (goes_to callers k u.order) (taken_with k ts)
      where
        by : (t : Bool) → map asked_text (map taken_event (filter (λ (u : Taken). goes_to callers k u.order) ts)) ≡ map taken_event (filter (λ (u : Taken). goes_to callers k u.order) (map taken_text ts))
            → map asked_text (map taken_event (cond t (u ∷ filter (λ (u : Taken). goes_to callers k u.order) ts) (filter (λ (u : Taken). goes_to callers k u.order) ts)))
            ≡ map taken_event (cond t (taken_text u ∷ filter (λ (u : Taken). goes_to callers k u.order) (map taken_text ts)) (filter (λ (u : Taken). goes_to callers k u.order) (map taken_text ts)))
        by true ih = ap (λ xs. asked_text u.asked ∷ xs) ih
        by false ih = ih

    ends_with : (k : ℕ) (xs : List Asked) → map asked_text (filter (λ a. goes_to callers k a.checkable) xs) ≡ filter (λ a. goes_to callers k a.checkable) (map asked_text xs)
    ends_with k [] = refl
    ends_with k (x ∷ xs) = by (goes_to callers k x.checkable) (ends_with k xs)
      where
        by : (t : Bool) → map asked_text (filter (λ (a : Asked). goes_to callers k a.checkable) xs) ≡ filter (λ (a : Asked). goes_to callers k a.checkable) (map asked_text xs)
            → map asked_text (cond t (x ∷ filter (λ (a : Asked). goes_to callers k a.checkable) xs) (filter (λ (a : Asked). goes_to callers k a.checkable) xs))
            ≡ cond t (asked_text x ∷ filter (λ (a : Asked). goes_to callers k a.checkable) (map asked_text xs)) (filter (λ (a : Asked). goes_to callers k a.checkable) (map asked_text xs))
        by true ih = ap (λ ys. asked_text x ∷ ys) ih
        by false ih = ih

    one_with : (k : ℕ) → map asked_text (dealt_to callers lines taken ends k) ≡ dealt_to callers (map asked_text lines) (map taken_text taken) (map asked_text ends) k
    one_with k =
        map-append asked_text (lines_to k lines) (map taken_event (filter (λ (u : Taken). goes_to callers k u.order) taken) ++ filter (λ (a : Asked). goes_to callers k a.checkable) ends)
        ∙ ap₂ (λ xs ys. xs ++ ys) (lines_with k)
        (map-append asked_text (map taken_event (filter (λ (u : Taken). goes_to callers k u.order) taken)) (filter (λ (a : Asked). goes_to callers k a.checkable) ends)
        ∙ ap₂ (λ xs ys. xs ++ ys) (taken_with k taken) (ends_with k ends))

    each_with : (ks : List ℕ) → map (map asked_text) (map (dealt_to callers lines taken ends) ks) ≡ map (dealt_to callers (map asked_text lines) (map taken_text taken) (map asked_text ends)) ks
    each_with [] = refl
    each_with (k ∷ ks) = ap₂ (λ xs xss. xs ∷ xss) (one_with k) (each_with ks)

    pub dealt_with : map (map asked_text) (dealt callers lines taken ends) ≡ dealt callers (map asked_text lines) (map taken_text taken) (map asked_text ends)
    dealt_with = each_with (from_on 0 callers)

  -- commands lose their texts, and ticks have none
  pub commands_with : (xs : List Asked) → AllByRecursion (λ a. is_report a.event ≡ false) xs → map asked_text xs ≡ map untold_asked xs
  commands_with [] h = refl
  commands_with (a ∷ xs) h = ap₂ (λ t (ys : List Asked). record a { event = keeping (t && lacks (get_or opens a.checkable None)) a.event } ∷ ys) h.0 (commands_with xs h.1)

  pub ticks_with : (xs : List Asked) → AllByRecursion (λ a. a.event ≡ event.Tick) xs → map asked_text xs ≡ xs
  ticks_with [] h = refl
  ticks_with (a ∷ xs) h = ap₂ (λ v (ys : List Asked). record a { event = v } ∷ ys) (ap (text a.checkable) h.0 ∙ sym h.0) (ticks_with xs h.1)

  module _ (s : PlainSite) (os left : List Outstanding) where
    -- results for which a macro is missing keep theirs
    pub lacking_with : (ts : List Taken) → AllByRecursion (IsResultOf s opens os left true) ts → map taken_text ts ≡ ts
    lacking_with [] h = refl
    lacking_with (u ∷ ts) h = ap₂ (λ v (us : List Taken). record u { asked = record u.asked { event = v } } ∷ us) same (lacking_with ts h.1)
      where
        same : text u.asked.checkable u.asked.event ≡ u.asked.event
        same = ap₂ (λ v o. keeping (is_report v && lacks o) u.asked.event) h.0.event h.0.opened

    abbrev untold_taken : Taken → Taken
    untold_taken u = record u { asked = untold_asked u.asked }

    -- and others lose them
    others_with : (ts : List Taken) → AllByRecursion (IsResultOf s opens os left false) ts → map taken_text ts ≡ map untold_taken ts
    others_with [] h = refl
    others_with (u ∷ ts) h = ap₂ (λ v (us : List Taken). record u { asked = record u.asked { event = v } } ∷ us) same (others_with ts h.1)
      where
        same : text u.asked.checkable u.asked.event ≡ without_texts u.asked.event
        same = ap₂ (λ v o. keeping (is_report v && lacks o) u.asked.event) h.0.event h.0.opened

    bare_reports : (ps : List Outstanding) (rs : List Reported) → map untold_taken (taken_reports ps rs) ≡ taken_reports ps (map untold_report rs)
    bare_reports ps [] = refl
    bare_reports ps (r ∷ rs) = by (checkable_of r.order ps) (bare_reports (without r.order ps) rs)
      where
        by : (c : Option ℕ) → map untold_taken (taken_reports (without r.order ps) rs) ≡ taken_reports (without r.order ps) (map untold_report rs)
            → map untold_taken (taking r c (taken_reports (without r.order ps) rs)) ≡ taking (untold_report r) c (taken_reports (without r.order ps) (map untold_report rs))
        by None ih = ih
        by (Some c) ih = ap₂ (λ (v : Event) (us : List Taken). record { order = r.order; asked = record { checkable = c; event = v } } ∷ us) (untold_result r.status r.output) ih

    pub reports_with : (rs : List Reported) → AllByRecursion (IsResultOf s opens os left false) (taken_reports left rs) → map taken_text (taken_reports left rs) ≡ taken_reports left (map untold_report rs)
    reports_with rs h = others_with (taken_reports left rs) h ∙ bare_reports left rs
