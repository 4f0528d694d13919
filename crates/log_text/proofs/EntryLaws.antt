-- Lines of entries, both ways.
use Rattle.std.proofs.Common.{◌≡◌, ℕ, ◌^◌, ◌<◌, Bool, true, false, cond, List, [], ◌∷◌, ◌++◌, length, map, codes, refl, sym, ap, ◌∙◌, subst, append_assoc, arith, Option, Some, None, Result, Ok, Err, IfOk, lit<}
use Rattle.std.proofs.lemmas.List.{length-map}
use Rattle.std.proofs.lemmas.List.Elements.{All-from_recursion, recursion_from_All}
use Rattle.std.proofs.lemmas.Slice.Eq.{bytes_eq-Decides}
use Rattle.std.specs.List.{AllByRecursion}
use Rattle.std.specs.Str.{bytes_eq}
use Rattle.site_base.specs.Quoted.{quoted}
use Rattle.site_model.specs.PlainSite.{PlainSite, full_names}
use Rattle.site_model.specs.declared.decision.Decision.{Decision}
use Rattle.site_model.specs.declared.entry.Entry.{Entry}
use Rattle.site_model.specs.declared.event.Event.{Event}
use Rattle.site_model.specs.declared.event.Event.TheVariants as event
use Rattle.site_model.specs.declared.outcome.Outcome.{Outcome}
use Rattle.site_model.specs.declared.outcome.Outcome.TheVariants as outcome
use Rattle.site_model.specs.declared.sight.Sight.{Sight}
use Rattle.site_text.proofs.DecimalLaws.{IsStop}
use Rattle.site_text.specs.Entries.{decision_text, status_text, void_text, effect_text, entry_line, event_text, list_text, lists_text, sight_text, start_text, user_names, IsDecisionOf, IsInForm, IsOutcomeOf, IsPrintable}
use Rattle.log_text.specs.EntryReading.{decision_at, effect_at, ended, entry_at, entry_of, entry_read, entry_two_read, head_at, sight_at, told_at, with_event}
use Rattle.log_text.specs.EntryTwo.{entry_line_two, told_text, untold, without_texts, AreTexts, FitsEntry, FitsEvent, FitsOutcome, IsEntryOf, IsLineOf, IsLineTwoOf}
use Rattle.log_text.specs.Fronts.{◌>>=◌, Gives, behind, list_at, text_at}
use Rattle.log_text.specs.SiteNames.{names_of, HasAllNames}
use Rattle.log_text.specs.declared.effects.Effect.{Effect}
use Rattle.log_text.specs.declared.entry_error.EntryError.{EntryError}
use Rattle.log_text.specs.declared.heads.Head.{Head}
use Rattle.log_text.proofs.EventLaws.{IsRead}
use Rattle.log_text.proofs.FieldLaws.{bind_some, bind_then, done, some_is, behind_sound, text_sound, text_complete}
use Rattle.log_text.proofs.FrontLaws.{IsSightOf, start_of, head_sound, head_complete, effect_of, effect_sound, effect_complete, sight_sound, sights_spelled}
use Rattle.log_text.proofs.OutcomeLaws.{apart, IsEnd, IsNamedDecision, IsNamedOutcome, decision_sound, decisions_spelled}
use Rattle.log_text.proofs.PartLaws.{list_sound, list_complete}

-- What is read is the site's.

all_map : {A : Type 0} (P Q : A → Type 0) → ((x : A) → P x → Q x) → (xs : List A) → AllByRecursion P xs → AllByRecursion Q xs
all_map P Q f [] h = tt
all_map P Q f (x ∷ xs) h = (f x h.0, all_map P Q f xs h.1)

all_both : {A : Type 0} (P Q R : A → Type 0) → ((x : A) → P x → Q x → R x) → (xs : List A) → AllByRecursion P xs → AllByRecursion Q xs → AllByRecursion R xs
all_both P Q R f [] h g = tt
all_both P Q R f (x ∷ xs) h g = (f x h.0 g.0, all_both P Q R f xs h.1 g.1)

below : {A : Type 0} (f : A → List ℕ) (xs : List A) (k : ℕ) → k < length (map f xs) → k < length xs
below f xs k h = omega (arith, length-map xs f)

above : {A : Type 0} (f : A → List ℕ) (xs : List A) (k : ℕ) → k < length xs → k < length (map f xs)
above f xs k h = omega (arith, length-map xs f)

outcome_is : (s : PlainSite) (v : Outcome) → IsNamedOutcome s v → IsOutcomeOf s v
outcome_is s (outcome.Sent users) h = All-from_recursion (λ u. u < length s.users) users (all_map (λ u. u < length (user_names s)) (λ u. u < length s.users) (λ u g. below (λ u. u.name) s.users u g) users h)
outcome_is s outcome.Disabled h = tt
outcome_is s (outcome.Dependency depend) h = below (λ d. d.name) s.depends depend h
outcome_is s (outcome.Host checkable) h = below (λ c. c.name) s.checkables checkable h
outcome_is s (outcome.Downtime number) h = tt
outcome_is s outcome.Flapping h = tt
outcome_is s outcome.Acknowledged h = tt
outcome_is s outcome.Period h = tt
outcome_is s outcome.Kind h = tt
outcome_is s outcome.State h = tt
outcome_is s outcome.TooEarly h = tt
outcome_is s outcome.TooLate h = tt
outcome_is s outcome.Repeat h = tt
outcome_is s outcome.NoUsers h = tt

outcome_named : (s : PlainSite) (v : Outcome) → IsOutcomeOf s v → FitsOutcome v → IsNamedOutcome s v
outcome_named s (outcome.Sent users) h fits = all_map (λ u. u < length s.users) (λ u. u < length (user_names s)) (λ u g. above (λ u. u.name) s.users u g) users (recursion_from_All (λ u. u < length s.users) users h)
outcome_named s outcome.Disabled h fits = tt
outcome_named s (outcome.Dependency depend) h fits = above (λ d. d.name) s.depends depend h
outcome_named s (outcome.Host checkable) h fits = above (λ c. c.name) s.checkables checkable h
outcome_named s (outcome.Downtime number) h fits = fits
outcome_named s outcome.Flapping h fits = tt
outcome_named s outcome.Acknowledged h fits = tt
outcome_named s outcome.Period h fits = tt
outcome_named s outcome.Kind h fits = tt
outcome_named s outcome.State h fits = tt
outcome_named s outcome.TooEarly h fits = tt
outcome_named s outcome.TooLate h fits = tt
outcome_named s outcome.Repeat h fits = tt
outcome_named s outcome.NoUsers h fits = tt

decision_is : (s : PlainSite) (d : Decision) → IsNamedDecision s d → IsDecisionOf s d
decision_is s d h = record { notification = below (λ n. n.name) s.notifies d.notification h.0; named = outcome_is s d.outcome h.1 }

decision_named : (s : PlainSite) (d : Decision) → IsDecisionOf s d → FitsOutcome d.outcome → IsNamedDecision s d
decision_named s d h fits = (above (λ n. n.name) s.notifies d.notification h.notification, outcome_named s d.outcome h.named fits)

sight_is : (s : PlainSite) (x : Sight) → IsSightOf s x → x.checkable < length s.checkables
sight_is s x h = below (λ c. c.name) s.checkables x.checkable h.0

sight_named : (s : PlainSite) (x : Sight) → x.checkable < length s.checkables → x.count < 2 ^ 64 → IsSightOf s x
sight_named s x h fits = (above (λ c. c.name) s.checkables x.checkable h, fits)

sights_sound : (s : PlainSite) (bs : List ℕ) (y : List Sight × List ℕ) → list_at (sight_at (names_of s)) bs ≡ Some y → (bs ≡ list_text (map (sight_text s) y.0) ++ y.1) × AllByRecursion (IsSightOf s) y.0
sights_sound s bs y e = list_sound (sight_text s) (sight_at (names_of s)) (IsSightOf s) (sight_sound s) bs y e

decisions_sound : (s : PlainSite) (bs : List ℕ) (y : List Decision × List ℕ) → list_at (decision_at (names_of s)) bs ≡ Some y → (bs ≡ list_text (map (decision_text s) y.0) ++ y.1) × AllByRecursion (IsNamedDecision s) y.0
decisions_sound s bs y e = list_sound (decision_text s) (decision_at (names_of s)) (IsNamedDecision s) (decision_sound s) bs y e

-- Up to the decisions.

abbrev entry_front : PlainSite → ℕ → Entry → List ℕ
entry_front s k e = start_text s k e ++ (effect_text e ++ lists_text s e)

front_split : (a b c d rest : List ℕ) → (a ++ (b ++ (codes " | " ++ (c ++ (codes " | " ++ d))))) ++ rest ≡ a ++ (b ++ (codes " | " ++ (c ++ (codes " | " ++ (d ++ rest)))))
front_split a b c d rest =
    append_assoc a (b ++ (codes " | " ++ (c ++ (codes " | " ++ d)))) rest ∙ ap (λ xs. a ++ xs) (append_assoc b (codes " | " ++ (c ++ (codes " | " ++ d))) rest ∙ ap (λ xs. b ++ xs) (append_assoc (codes " | ") (c ++ (codes " | " ++ d)) rest ∙ ap (λ xs. codes " | " ++ xs) (append_assoc c (codes " | " ++ d) rest ∙ ap (λ xs. c ++ xs) (append_assoc (codes " | ") d rest))))

abbrev IsFront : PlainSite → List ℕ → (ℕ × Entry) × List ℕ → Type 0
IsFront s bs y = (bs ≡ entry_front s y.0.0 y.0.1 ++ y.1) × IsPrintable s y.0.0 y.0.1 × (without_texts y.0.1.event ≡ y.0.1.event)

front_made : (s : PlainSite) (bs : List ℕ) (y : (ℕ × Entry) × List ℕ) (h : Head) (x : Effect) (sights : List Sight) (decisions : List Decision) (rest : List ℕ)
    → bs ≡ start_of (full_names s) h ++ (effect_of x ++ (codes " | " ++ (list_text (map (sight_text s) sights) ++ (codes " | " ++ (list_text (map (decision_text s) decisions) ++ rest)))))
    → h.checkable < length (full_names s) → IsRead x.event → AllByRecursion (IsSightOf s) sights → AllByRecursion (IsNamedDecision s) decisions → done ((h.checkable, entry_of h x sights decisions), rest) ≡ Some y → IsFront s bs y
unfolding start_text effect_text lists_text
front_made s bs y h x sights decisions rest whole own read seen ruled e =
    let made : Entry = entry_of h x sights decisions in
    let printable : IsPrintable s h.checkable made = record {
      own = below (λ c. c.name) s.checkables h.checkable own;
      in_form = read.in_form;
      seen = All-from_recursion (λ sight. sight.checkable < length s.checkables) sights (all_map (IsSightOf s) (λ sight. sight.checkable < length s.checkables) (sight_is s) sights seen);
      decided = All-from_recursion (IsDecisionOf s) decisions (all_map (IsNamedDecision s) (IsDecisionOf s) (decision_is s) decisions ruled);
    } in
    subst (IsFront s bs) (some_is ((h.checkable, made), rest) y e)
    (whole ∙ sym (front_split (start_of (full_names s) h) (effect_of x) (list_text (map (sight_text s) sights)) (list_text (map (decision_text s) decisions)) rest), printable, read.bare)

entry_at_sound : (s : PlainSite) (bs : List ℕ) (y : (ℕ × Entry) × List ℕ) → entry_at (names_of s) bs ≡ Some y → IsFront s bs y
unfolding entry_at
entry_at_sound s bs y e =
    bind_then (head_at (names_of s) bs) (λ h. effect_at h.1 >>= λ x. behind (codes " | ") x.1 >>= λ a. list_at (sight_at (names_of s)) a >>= λ sights. behind (codes " | ") sights.1 >>= λ b. list_at (decision_at (names_of s)) b >>= λ decisions. Some ((h.0.checkable, entry_of h.0 x.0 sights.0 decisions.0), decisions.1)) y
    (λ h h-h e-h.
    bind_then (effect_at h.1) (λ x. behind (codes " | ") x.1 >>= λ a. list_at (sight_at (names_of s)) a >>= λ sights. behind (codes " | ") sights.1 >>= λ b. list_at (decision_at (names_of s)) b >>= λ decisions. Some ((h.0.checkable, entry_of h.0 x.0 sights.0 decisions.0), decisions.1)) y
    (λ x h-x e-x.
    bind_then (behind (codes " | ") x.1) (λ a. list_at (sight_at (names_of s)) a >>= λ sights. behind (codes " | ") sights.1 >>= λ b. list_at (decision_at (names_of s)) b >>= λ decisions. Some ((h.0.checkable, entry_of h.0 x.0 sights.0 decisions.0), decisions.1)) y
    (λ a h-a e-a.
    bind_then (list_at (sight_at (names_of s)) a) (λ sights. behind (codes " | ") sights.1 >>= λ b. list_at (decision_at (names_of s)) b >>= λ decisions. Some ((h.0.checkable, entry_of h.0 x.0 sights.0 decisions.0), decisions.1)) y
    (λ sights h-sights e-sights.
    bind_then (behind (codes " | ") sights.1) (λ b. list_at (decision_at (names_of s)) b >>= λ decisions. Some ((h.0.checkable, entry_of h.0 x.0 sights.0 decisions.0), decisions.1)) y
    (λ b h-b e-b.
    bind_then (list_at (decision_at (names_of s)) b) (λ decisions. Some ((h.0.checkable, entry_of h.0 x.0 sights.0 decisions.0), decisions.1)) y
    (λ decisions h-decisions e-decisions.
    front_made s bs y h.0 x.0 sights.0 decisions.0 decisions.1 ((head_sound (names_of s) bs h h-h).0 ∙ ap (λ xs. start_of (full_names s) h.0 ++ xs) ((effect_sound h.1 x h-x).0 ∙ ap (λ xs. effect_of x.0 ++ xs) (behind_sound (codes " | ") x.1 a h-a ∙ ap (λ xs. codes " | " ++ xs) ((sights_sound s a sights h-sights).0 ∙ ap (λ xs. list_text (map (sight_text s) sights.0) ++ xs) (behind_sound (codes " | ") sights.1 b h-b ∙ ap (λ xs. codes " | " ++ xs) ((decisions_sound s b decisions h-decisions).0)))))) (head_sound (names_of s) bs h h-h).1 (effect_sound h.1 x h-x).1 (sights_sound s a sights h-sights).1 (decisions_sound s b decisions h-decisions).1 e-decisions) e-b) e-sights) e-a) e-x) e-h) e

entry_at_complete : (s : PlainSite) (k : ℕ) (e : Entry) (rest : List ℕ) → HasAllNames s → AreTexts (names_of s) → IsPrintable s k e → FitsEntry e → IsEnd rest → behind (codes ", ") rest ≡ None
    → entry_at (names_of s) (entry_front s k e ++ rest) ≡ Some ((k, untold e), rest)
unfolding entry_at start_text effect_text lists_text
entry_at_complete s k e rest has texts p fits end comma =
    let h : Head = record { checkable = k; number = e.number; caller = e.caller; moment = e.moment } in
    let sights : List ℕ = list_text (map (sight_text s) e.sights) in
    let decisions : List ℕ = list_text (map (decision_text s) e.decisions) in
    let x : Effect = record { event = e.event; taken = e.taken; state = e.state; hard = e.hard; attempt = e.attempt } in
    let r3 : List ℕ = codes " | " ++ (decisions ++ rest) in
    let r2 : List ℕ = codes " | " ++ (sights ++ r3) in
    let r1 : List ℕ = effect_of x ++ r2 in
    let spelled = sights_spelled s (apart s has) texts.checkables in
    let decided = decisions_spelled s has texts in
    let seen : AllByRecursion (IsSightOf s) e.sights =
    all_both (λ sight. sight.checkable < length s.checkables) (λ sight. sight.count < 2 ^ 64) (IsSightOf s) (sight_named s) e.sights (recursion_from_All (λ sight. sight.checkable < length s.checkables) e.sights p.seen) fits.sights in
    let ruled : AllByRecursion (IsNamedDecision s) e.decisions = all_both (IsDecisionOf s) (λ d. FitsOutcome d.outcome) (IsNamedDecision s) (decision_named s) e.decisions (recursion_from_All (IsDecisionOf s) e.decisions p.decided) fits.decisions in
    ap (entry_at (names_of s)) (front_split (start_of (full_names s) h) (effect_of x) sights decisions rest)
    ∙ rw (
      head_complete (names_of s) h r1 (apart s has) texts.checkables (above (λ c. c.name) s.checkables k p.own) fits.number (omega (arith, fits.caller)) fits.moment,
      effect_complete e.event e.taken e.state e.hard e.attempt r2 p.in_form fits.event (omega (arith, fits.attempt)) refl,
      list_complete (sight_text s) (sight_at (names_of s)) (IsSightOf s) IsStop spelled e.sights r3 seen (refl, refl),
      list_complete (decision_text s) (decision_at (names_of s)) (IsNamedDecision s) IsEnd decided e.decisions rest ruled (end, comma),
    ) refl

-- Lines of version one.

line_split : (a b c d : List ℕ) → a ++ (b ++ (c ++ d)) ≡ (a ++ (b ++ c)) ++ d
line_split a b c d = sym (append_assoc a (b ++ c) d ∙ ap (λ xs. a ++ xs) (append_assoc b c d))

ended_sound : {A : Type 0} (x : A × List ℕ) (y : A) → ended x ≡ Some y → (x.1 ≡ (10 ∷ [])) × (x.0 ≡ y)
ended_sound {A = A} x y e = by (bytes_eq x.1 (10 ∷ [])) refl e
  where
    by : (t : Bool) → bytes_eq x.1 (10 ∷ []) ≡ t → cond t (Some x.0) None ≡ Some y → (x.1 ≡ (10 ∷ [])) × (x.0 ≡ y)
    by true hit e = ((bytes_eq-Decides x.1 (10 ∷ [])).0 hit, some_is x.0 y e)
    by false miss e = absurd cc

newline_ends : IsEnd (10 ∷ [])
newline_ends = record { stop = refl; no_user = refl; some = lit< tt }

pub entry_sound : (s : PlainSite) (line : List ℕ) (y : ℕ × Entry) → entry_read (names_of s) line ≡ Some y → IsLineOf s line y.0 y.1
unfolding entry_read
entry_sound s line y e =
    let x = bind_some (entry_at (names_of s) line) ended y e in
    let front = entry_at_sound s line x.0 x.1 in
    let end = ended_sound x.0 y x.2 in
    let whole : line ≡ entry_line s x.0.0.0 x.0.0.1 =
    front.0 ∙ (ap (λ rest. entry_front s x.0.0.0 x.0.0.1 ++ rest) end.0 ∙ sym (line_split (start_text s x.0.0.0 x.0.0.1) (effect_text x.0.0.1) (lists_text s x.0.0.1) (10 ∷ []))) in
    subst (λ (z : ℕ × Entry). IsLineOf s line z.0 z.1) end.1 (record { printable = front.1; whole = whole; untold = front.2 })

pub entry_complete : (s : PlainSite) (k : ℕ) (e : Entry) → HasAllNames s → AreTexts (names_of s) → IsEntryOf s k e → entry_read (names_of s) (entry_line s k e) ≡ Some (k, untold e)
unfolding entry_read
entry_complete s k e has texts h =
    ap (λ line. entry_at (names_of s) line >>= ended) (line_split (start_text s k e) (effect_text e) (lists_text s e) (10 ∷ []))
    ∙ ap (λ r. r >>= ended) (entry_at_complete s k e (10 ∷ []) has texts h.printable h.fits newline_ends refl)

-- Lines of version two.

abbrev IsTold : Event → List ℕ → Event × List ℕ → Type 0
IsTold v bs y = (bs ≡ told_text y.0 ++ y.1) × (without_texts y.0 ≡ v)

dash_sound : (v : Event) (bs : List ℕ) (y : Event × List ℕ) → told_text v ≡ codes "-" → without_texts v ≡ v → (behind (codes "-") bs >>= λ rest. Some (v, rest)) ≡ Some y → IsTold v bs y
dash_sound v bs y dash bare e =
    let rest = bind_some (behind (codes "-") bs) (λ rest. Some (v, rest)) y e in
    subst (IsTold v bs) (some_is (v, rest.0) y rest.2) (behind_sound (codes "-") bs rest.0 rest.1 ∙ ap (λ t. t ++ rest.0) (sym dash), bare)

told_sound : (v : Event) (bs : List ℕ) (y : Event × List ℕ) → without_texts v ≡ v → told_at v bs ≡ Some y → IsTold v bs y
told_sound (event.Result status passive output perf) bs y bare e =
    let o = bind_some (text_at bs) (λ o. behind (codes " ") o.1 >>= λ a. text_at a >>= λ p. Some (event.Result status passive o.0 p.0, p.1)) y e in
    let a = bind_some (behind (codes " ") o.0.1) (λ a. text_at a >>= λ p. Some (event.Result status passive o.0.0 p.0, p.1)) y o.2 in
    let p = bind_some (text_at a.0) (λ p. Some (event.Result status passive o.0.0 p.0, p.1)) y a.2 in
    let whole : bs ≡ quoted o.0.0 ++ (codes " " ++ (quoted p.0.0 ++ p.0.1)) =
    (text_sound bs o.0 o.1).0 ∙ ap (λ xs. quoted o.0.0 ++ xs) (behind_sound (codes " ") o.0.1 a.0 a.1 ∙ ap (λ xs. codes " " ++ xs) (text_sound a.0 p.0 p.1).0) in
    subst (IsTold (event.Result status passive output perf) bs) (some_is (event.Result status passive o.0.0 p.0.0, p.0.1) y p.2) (whole ∙ sym (append_assoc (quoted o.0.0) (32 ∷ quoted p.0.0) p.0.1), bare)
told_sound event.Tick bs y bare e = dash_sound event.Tick bs y refl refl e
told_sound (event.Ack sticky notify) bs y bare e = dash_sound (event.Ack sticky notify) bs y refl refl e
told_sound event.Unack bs y bare e = dash_sound event.Unack bs y refl refl e
told_sound (event.Down start end fixed duration) bs y bare e = dash_sound (event.Down start end fixed duration) bs y refl refl e
told_sound (event.Undown number) bs y bare e = dash_sound (event.Undown number) bs y refl refl e
told_sound (event.Checks on) bs y bare e = dash_sound (event.Checks on) bs y refl refl e
told_sound (event.Notes on) bs y bare e = dash_sound (event.Notes on) bs y refl refl e
told_sound (event.Check moment forced) bs y bare e = dash_sound (event.Check moment forced) bs y refl refl e

told_complete : (v : Event) (rest : List ℕ) → FitsEvent v → told_at (without_texts v) (told_text v ++ rest) ≡ Some (v, rest)
told_complete (event.Result status passive output perf) rest fits =
    ap (told_at (event.Result status passive [] [])) (append_assoc (quoted output) (32 ∷ quoted perf) rest)
    ∙ rw (text_complete output (codes " " ++ (quoted perf ++ rest)) fits.0, text_complete perf rest fits.1) refl
told_complete event.Tick rest fits = refl
told_complete (event.Ack sticky notify) rest fits = refl
told_complete event.Unack rest fits = refl
told_complete (event.Down start end fixed duration) rest fits = refl
told_complete (event.Undown number) rest fits = refl
told_complete (event.Checks on) rest fits = refl
told_complete (event.Notes on) rest fits = refl
told_complete (event.Check moment forced) rest fits = refl

bare_text : (v : Event) → event_text (without_texts v) ≡ event_text v
bare_text (event.Result status passive output perf) = refl
bare_text event.Tick = refl
bare_text (event.Ack sticky notify) = refl
bare_text event.Unack = refl
bare_text (event.Down start end fixed duration) = refl
bare_text (event.Undown number) = refl
bare_text (event.Checks on) = refl
bare_text (event.Notes on) = refl
bare_text (event.Check moment forced) = refl

bare_form : (v : Event) → IsInForm (without_texts v) → IsInForm v
bare_form (event.Result status passive output perf) h = h
bare_form event.Tick h = h
bare_form (event.Ack sticky notify) h = h
bare_form event.Unack h = h
bare_form (event.Down start end fixed duration) h = h
bare_form (event.Undown number) h = h
bare_form (event.Checks on) h = h
bare_form (event.Notes on) h = h
bare_form (event.Check moment forced) h = h

-- an entry whose texts were left out, with its event again
again_front : (s : PlainSite) (k : ℕ) (e : Entry) (v : Event) → without_texts v ≡ e.event → entry_front s k e ≡ entry_front s k (record e { event = v })
unfolding start_text effect_text lists_text
again_front s k e v is =
    ap (λ t. start_text s k e ++ ((t ++ effect_tail e) ++ lists_text s e)) (ap event_text (sym is) ∙ bare_text v)
  where
    effect_tail : Entry → List ℕ
    effect_tail e = void_text e.taken ++ (codes " -> " ++ status_text e.state e.hard e.attempt)

two_split : (a b c d : List ℕ) → a ++ (b ++ (c ++ (codes " | " ++ (d ++ 10 ∷ [])))) ≡ (a ++ (b ++ c)) ++ (codes " | " ++ (d ++ (10 ∷ [])))
two_split a b c d = line_split a b c (codes " | " ++ (d ++ 10 ∷ []))

bar_ends : (rest : List ℕ) → IsEnd (codes " | " ++ rest)
bar_ends rest = record { stop = refl; no_user = refl; some = omega arith }

two_made : (s : PlainSite) (line : List ℕ) (y : ℕ × Entry) (k : ℕ) (bare : Entry) (mid after : List ℕ) (t : Event × List ℕ) → IsFront s line ((k, bare), mid) → mid ≡ codes " | " ++ after → IsTold bare.event after t
    → ended ((k, record bare { event = t.0 }), t.1) ≡ Some y → IsLineTwoOf s line y.0 y.1
two_made s line y k bare mid after t front bar told e =
    let made : Entry = record bare { event = t.0 } in
    let end = ended_sound ((k, made), t.1) y e in
    let whole : line ≡ entry_line_two s k made =
    front.0
    ∙ (ap (λ xs. entry_front s k bare ++ xs) (bar ∙ ap (λ xs. codes " | " ++ xs) (told.0 ∙ ap (λ rest. told_text t.0 ++ rest) end.0))
    ∙ (ap (λ f. f ++ (codes " | " ++ (told_text t.0 ++ (10 ∷ [])))) (again_front s k bare t.0 told.1)
    ∙ sym (two_split (start_text s k made) (effect_text made) (lists_text s made) (told_text t.0)))) in
    let printable : IsPrintable s k made = record { own = front.1.own; in_form = bare_form t.0 (subst IsInForm (sym told.1) front.1.in_form); seen = front.1.seen; decided = front.1.decided } in
    subst (λ (z : ℕ × Entry). IsLineTwoOf s line z.0 z.1) end.1 (record { printable = printable; whole = whole })

pub entry_two_sound : (s : PlainSite) (line : List ℕ) (y : ℕ × Entry) → entry_two_read (names_of s) line ≡ Some y → IsLineTwoOf s line y.0 y.1
unfolding entry_two_read
entry_two_sound s line y e =
    bind_then (entry_at (names_of s) line) (λ x. behind (codes " | ") x.1 >>= λ a. told_at x.0.1.event a >>= λ t. with_event x.0 t >>= λ w. ended w) y
    (λ x h-x e-x.
    bind_then (behind (codes " | ") x.1) (λ a. told_at x.0.1.event a >>= λ t. with_event x.0 t >>= λ w. ended w) y
    (λ a h-a e-a.
    bind_then (told_at x.0.1.event a) (λ t. with_event x.0 t >>= λ w. ended w) y
    (λ t h-t e-t. two_made s line y x.0.0 x.0.1 x.1 a t (entry_at_sound s line x h-x) (behind_sound (codes " | ") x.1 a h-a) (told_sound x.0.1.event a t (entry_at_sound s line x h-x).2 h-t) e-t) e-a) e-x) e

pub entry_two_complete : (s : PlainSite) (k : ℕ) (e : Entry) → HasAllNames s → AreTexts (names_of s) → IsEntryOf s k e → entry_two_read (names_of s) (entry_line_two s k e) ≡ Some (k, e)
unfolding entry_two_read
entry_two_complete s k e has texts h =
    let told : List ℕ = told_text e.event ++ (10 ∷ []) in
    ap (entry_two_read (names_of s)) (two_split (start_text s k e) (effect_text e) (lists_text s e) (told_text e.event))
    ∙ rw (entry_at_complete s k e (codes " | " ++ told) has texts h.printable h.fits (bar_ends told) refl, told_complete e.event (10 ∷ []) h.fits.event) refl

-- What a call gave.

pub found : (P : ℕ → Entry → Type 0) (r : Result (ℕ × Entry) EntryError) (read : Option (ℕ × Entry)) → Gives (λ x. (x.0, x.1)) r read → ((y : ℕ × Entry) → read ≡ Some y → P y.0 y.1) → IfOk r (λ x. P x.0 x.1)
found P (Ok x) read g h = h x g
found P (Err e) read g h = tt
