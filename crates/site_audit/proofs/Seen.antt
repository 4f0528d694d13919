-- What the line of an entry tells of its checkable, its caller and its sights, as it is read and as it is written.
use Rattle.std.proofs.Common.{◌≡◌, ℕ, ◌^◌, ◌<◌, ◌==◌, ◌&&◌, not, Bool, true, false, cond, List, [], ◌∷◌, ◌++◌, length, map, codes, Some, None, refl, sym, ap, ◌∙◌, subst, append_assoc, arith}
use Rattle.std.proofs.lemmas.Bool.Decides.{nat_tests}
use Rattle.std.specs.Fmt.{decimal}
use Rattle.std.specs.List.{AllByRecursion, list_all}
use Rattle.std.specs.Str.{bytes_eq}
use Rattle.site_model.specs.PlainSite.{PlainSite, full_names}
use Rattle.site_model.specs.Sound.{AreDistinct}
use Rattle.site_model.specs.declared.decision.Decision.{Decision}
use Rattle.site_model.specs.declared.entry.Entry.{Entry}
use Rattle.site_model.specs.declared.event.Event.{Event}
use Rattle.site_model.specs.declared.event.Event.TheVariants as event
use Rattle.site_model.specs.declared.sight.Sight.{Sight}
use Rattle.site_model.specs.declared.state.State.{State}
use Rattle.site_model.specs.declared.state.State.TheVariants as state
use Rattle.site_text.specs.Entries.{decision_text, effect_text, event_text, head_text, length_text, list_text, lists_text, name_text, sight_text, start_text, state_text, status_text, type_text, void_text}
use Rattle.log_text.specs.EntryReading.{decision_at, effect_at, ended, entry_at, entry_of, entry_read, entry_two_read, head_at, sight_at, told_at, with_event}
use Rattle.log_text.specs.EntryTwo.{told_text}
use Rattle.log_text.specs.Fronts.{◌>>=◌, behind, list_at}
use Rattle.log_text.specs.SiteNames.{names_of}
use Rattle.log_text.proofs.FieldLaws.{bind_then, some_is, behind_sound}
use Rattle.log_text.proofs.FrontLaws.{IsSightOf, effect_of, effect_sound, head_sound, sight_sound, start_of}
use Rattle.log_text.proofs.PartLaws.{list_sound}
use Rattle.run_text.specs.LogText.{styled_entry}
use Rattle.run_text.specs.declared.style.Style.{Style}
use Rattle.run_text.specs.declared.style.Style.TheVariants.{One, Two}
use Rattle.site_audit.specs.LineReading.{styled_read}
use Rattle.site_audit.proofs.Bytes.{append_so, decimal_digits, first_so, is_digit, lacks, rest_so, weaker_so}
use Rattle.site_audit.proofs.Spelling.{AreSame, IsInside, IsLow, line_as, same_line}

-- Bytes that end neither a field nor a line.

abbrev pub is_plain : ℕ → Bool
is_plain b = not (b == 10) && not (b == 124)

abbrev pub plain : List ℕ → Bool
plain bs = list_all is_plain bs

pub no_newline : (bs : List ℕ) → plain bs ≡ true → lacks 10 bs ≡ true
no_newline bs h = weaker_so is_plain (λ b. not (b == 10)) (λ b p. first_so (not (b == 10)) (not (b == 124)) p) bs h

pub no_bar : (bs : List ℕ) → plain bs ≡ true → lacks 124 bs ≡ true
no_bar bs h = weaker_so is_plain (λ b. not (b == 124)) (λ b p. rest_so (not (b == 10)) (not (b == 124)) p) bs h

digit_plain : (b : ℕ) → is_digit b ≡ true → is_plain b ≡ true
digit_plain b h = grind (arith, nat_tests)

pub plain_append : (xs ys : List ℕ) → plain xs ≡ true → plain ys ≡ true → plain (xs ++ ys) ≡ true
plain_append xs ys h g = append_so is_plain xs ys h g

pub decimal_plain : (n : ℕ) → plain (decimal n) ≡ true
decimal_plain n = weaker_so is_digit is_plain digit_plain (decimal n) (decimal_digits n)

length_plain : (fixed : Bool) (duration : ℕ) → plain (length_text fixed duration) ≡ true
length_plain true duration = refl
length_plain false duration = plain_append (codes " flexible ") (decimal duration) refl (decimal_plain duration)

event_plain : (v : Event) → plain (event_text v) ≡ true
event_plain (event.Result status true output perf) = plain_append (codes "passive ") (decimal status) refl (decimal_plain status)
event_plain (event.Result status false output perf) = plain_append (codes "result ") (decimal status) refl (decimal_plain status)
event_plain event.Tick = refl
event_plain (event.Ack true true) = refl
event_plain (event.Ack true false) = refl
event_plain (event.Ack false true) = refl
event_plain (event.Ack false false) = refl
event_plain event.Unack = refl
event_plain (event.Down start end fixed duration) =
    plain_append (codes "down ") (decimal start ++ 32 ∷ (decimal end ++ length_text fixed duration)) refl
    (plain_append (decimal start) (32 ∷ (decimal end ++ length_text fixed duration)) (decimal_plain start) (plain_append (32 ∷ []) (decimal end ++ length_text fixed duration) refl (plain_append (decimal end) (length_text fixed duration) (decimal_plain end) (length_plain fixed duration))))
event_plain (event.Undown number) = plain_append (codes "undown ") (decimal number) refl (decimal_plain number)
event_plain (event.Checks true) = refl
event_plain (event.Checks false) = refl
event_plain (event.Notes true) = refl
event_plain (event.Notes false) = refl
event_plain (event.Check moment true) = plain_append (codes "forced ") (decimal moment) refl (decimal_plain moment)
event_plain (event.Check moment false) = plain_append (codes "check ") (decimal moment) refl (decimal_plain moment)

void_plain : (taken : Bool) → plain (void_text taken) ≡ true
void_plain true = refl
void_plain false = refl

state_plain : (v : State) → plain (state_text v) ≡ true
state_plain state.Okay = refl
state_plain state.Warning = refl
state_plain state.Critical = refl
state_plain state.Unknown = refl
state_plain state.Up = refl
state_plain state.Down = refl

type_plain : (hard : Bool) → plain (type_text hard) ≡ true
type_plain true = refl
type_plain false = refl

status_plain : (v : State) (hard : Bool) (attempt : ℕ) → plain (status_text v hard attempt) ≡ true
status_plain v hard attempt =
    plain_append (state_text v) (32 ∷ (type_text hard ++ 32 ∷ decimal attempt)) (state_plain v)
    (plain_append (32 ∷ []) (type_text hard ++ 32 ∷ decimal attempt) refl (plain_append (type_text hard) (32 ∷ decimal attempt) (type_plain hard) (plain_append (32 ∷ []) (decimal attempt) refl (decimal_plain attempt))))

pub effect_plain : (v : Event) (taken : Bool) (w : State) (hard : Bool) (attempt : ℕ) → plain (event_text v ++ (void_text taken ++ (codes " -> " ++ status_text w hard attempt))) ≡ true
effect_plain v taken w hard attempt =
    plain_append (event_text v) (void_text taken ++ (codes " -> " ++ status_text w hard attempt)) (event_plain v)
    (plain_append (void_text taken) (codes " -> " ++ status_text w hard attempt) (void_plain taken) (plain_append (codes " -> ") (status_text w hard attempt) refl (status_plain w hard attempt)))

-- The parts of a line.

-- what stands between the caller and the first bar
abbrev middle_of : ℕ → List ℕ → List ℕ
middle_of moment effect = codes "at " ++ (decimal moment ++ (codes ": " ++ (effect ++ 32 ∷ [])))

middle_plain : (moment : ℕ) (effect : List ℕ) → plain effect ≡ true → plain (middle_of moment effect) ≡ true
middle_plain moment effect h =
    plain_append (codes "at ") (decimal moment ++ (codes ": " ++ (effect ++ 32 ∷ []))) refl
    (plain_append (decimal moment) (codes ": " ++ (effect ++ 32 ∷ [])) (decimal_plain moment) (plain_append (codes ": ") (effect ++ 32 ∷ []) refl (plain_append effect (32 ∷ []) h refl)))

middle_split : (moment : ℕ) (effect rest : List ℕ) → middle_of moment effect ++ rest ≡ codes "at " ++ (decimal moment ++ (codes ": " ++ (effect ++ 32 ∷ rest)))
middle_split moment effect rest =
    ap (λ xs. codes "at " ++ xs) (append_assoc (decimal moment) (codes ": " ++ (effect ++ 32 ∷ [])) rest ∙ ap (λ xs. decimal moment ++ (codes ": " ++ xs)) (append_assoc effect (32 ∷ []) rest))

start_split : (names : List (List ℕ)) (k number caller moment : ℕ) (rest : List ℕ)
    → (codes "entry " ++ (name_text names k ++ 32 ∷ head_text number caller moment)) ++ rest ≡ codes "entry " ++ (name_text names k ++ 32 ∷ (decimal number ++ 32 ∷ (codes "by " ++ (decimal caller ++ 32 ∷ (codes "at " ++ (decimal moment ++ (codes ": " ++ rest)))))))
start_split names k number caller moment rest =
    let at : List ℕ = codes " at " ++ (decimal moment ++ codes ": ") in
    let by : List ℕ = codes " by " ++ (decimal caller ++ at) in
    ap (λ xs. codes "entry " ++ xs)
    (append_assoc (name_text names k) (32 ∷ (decimal number ++ by)) rest
    ∙ ap (λ xs. name_text names k ++ 32 ∷ xs)
    (append_assoc (decimal number) by rest
    ∙ ap (λ xs. decimal number ++ (codes " by " ++ xs)) (append_assoc (decimal caller) at rest ∙ ap (λ xs. decimal caller ++ (codes " at " ++ xs)) (append_assoc (decimal moment) (codes ": ") rest))))

module _ (s : PlainSite) where
  abbrev sights_of : List Sight → List ℕ
  sights_of xs = list_text (map (sight_text s) xs)

  parts_are : (apart : AreDistinct (full_names s)) (k number caller moment : ℕ) (effect : List ℕ) (sights : List Sight) (more : List ℕ)
      → (codes "entry " ++ (name_text (full_names s) k ++ 32 ∷ head_text number caller moment)) ++ (effect ++ (codes " | " ++ (sights_of sights ++ (codes " | " ++ more)))) ≡ line_as s apart k number caller (middle_of moment effect) sights (32 ∷ more)
  parts_are apart k number caller moment effect sights more =
      start_split (full_names s) k number caller moment (effect ++ (codes " | " ++ (sights_of sights ++ (codes " | " ++ more))))
      ∙ ap (λ xs. codes "entry " ++ (name_text (full_names s) k ++ 32 ∷ (decimal number ++ 32 ∷ (codes "by " ++ (decimal caller ++ 32 ∷ xs))))) (sym (middle_split moment effect (124 ∷ 32 ∷ (sights_of sights ++ (codes " | " ++ more)))))

  -- As it is read.

  -- the line of an entry of this checkable, by this caller and with these sights
  pub record IsSeen (apart : AreDistinct (full_names s)) (bs : List ℕ) (k caller : ℕ) (sights : List Sight) : Type 0 where
    pub number : ℕ
    pub middle : List ℕ
    pub more : List ℕ
    pub whole : bs ≡ line_as s apart k number caller middle sights more
    pub lacking : lacks 124 middle ≡ true
    pub inside : k < length (full_names s)
    pub low : AllByRecursion (IsLow s) sights

  module _ (apart : AreDistinct (full_names s)) where
    abbrev Seen : List ℕ → ℕ × Entry → Type 0
    Seen bs y = IsSeen apart bs y.0 y.1.caller y.1.sights

    seen_at : (bs : List ℕ) (y : (ℕ × Entry) × List ℕ) → entry_at (names_of s) bs ≡ Some y → Seen bs y.0
    unfolding entry_at
    seen_at bs y e =
        bind_then (head_at (names_of s) bs) (λ h. effect_at h.1 >>= λ x. behind (codes " | ") x.1 >>= λ a. list_at (sight_at (names_of s)) a >>= λ sights. behind (codes " | ") sights.1 >>= λ b. list_at (decision_at (names_of s)) b >>= λ decisions. Some ((h.0.checkable, entry_of h.0 x.0 sights.0 decisions.0), decisions.1)) y
        (λ h h-h e-h.
        bind_then (effect_at h.1) (λ x. behind (codes " | ") x.1 >>= λ a. list_at (sight_at (names_of s)) a >>= λ sights. behind (codes " | ") sights.1 >>= λ b. list_at (decision_at (names_of s)) b >>= λ decisions. Some ((h.0.checkable, entry_of h.0 x.0 sights.0 decisions.0), decisions.1)) y
        (λ x h-x e-x.
        bind_then (behind (codes " | ") x.1) (λ a. list_at (sight_at (names_of s)) a >>= λ sights. behind (codes " | ") sights.1 >>= λ b. list_at (decision_at (names_of s)) b >>= λ decisions. Some ((h.0.checkable, entry_of h.0 x.0 sights.0 decisions.0), decisions.1)) y
        (λ a h-a e-a.
        bind_then (list_at (sight_at (names_of s)) a) (λ sights. behind (codes " | ") sights.1 >>= λ b. list_at (decision_at (names_of s)) b >>= λ decisions. Some ((h.0.checkable, entry_of h.0 x.0 sights.0 decisions.0), decisions.1)) y
        (λ sights h-sights e-sights.
        bind_then (behind (codes " | ") sights.1) (λ b. list_at (decision_at (names_of s)) b >>= λ decisions. Some ((h.0.checkable, entry_of h.0 x.0 sights.0 decisions.0), decisions.1)) y
        (λ b h-b e-b.
        bind_then (list_at (decision_at (names_of s)) b) (λ decisions. Some ((h.0.checkable, entry_of h.0 x.0 sights.0 decisions.0), decisions.1)) y
        (λ decisions h-decisions e-decisions.
        let seen = list_sound (sight_text s) (sight_at (names_of s)) (IsSightOf s) (sight_sound s) a sights h-sights in
        let begun = head_sound (names_of s) bs h h-h in
        let effect = effect_of x.0 in
        let one : Seen bs (h.0.checkable, entry_of h.0 x.0 sights.0 decisions.0) = record {
          number = h.0.number;
          middle = middle_of h.0.moment effect;
          more = 32 ∷ b;
          whole =
              begun.0
              ∙ (ap (λ xs. start_of (full_names s) h.0 ++ xs) ((effect_sound h.1 x h-x).0 ∙ ap (λ xs. effect_of x.0 ++ xs) (behind_sound (codes " | ") x.1 a h-a ∙ ap (λ xs. codes " | " ++ xs) (seen.0 ∙ ap (λ xs. sights_of sights.0 ++ xs) (behind_sound (codes " | ") sights.1 b h-b))))
              ∙ parts_are apart h.0.checkable h.0.number h.0.caller h.0.moment effect sights.0 b);
          lacking = no_bar (middle_of h.0.moment effect) (middle_plain h.0.moment effect (effect_plain x.0.event x.0.taken x.0.state x.0.hard x.0.attempt));
          inside = begun.1;
          low = seen.1;
        } in
        subst (λ (z : (ℕ × Entry) × List ℕ). Seen bs z.0) (some_is ((h.0.checkable, entry_of h.0 x.0 sights.0 decisions.0), decisions.1) y e-decisions) one) e-b) e-sights) e-a) e-x) e-h) e

    ended_is : {A : Type 0} (x : A × List ℕ) (y : A) → ended x ≡ Some y → x.0 ≡ y
    ended_is {A = A} x y e = by (bytes_eq x.1 (10 ∷ [])) e
      where
        by : (t : Bool) → cond t (Some x.0) None ≡ Some y → x.0 ≡ y
        by true e = some_is x.0 y e
        by false e = absurd cc

    pub seen_line : (style : Style) (bs : List ℕ) (y : ℕ × Entry) → styled_read style (names_of s) bs ≡ Some y → Seen bs y
    unfolding entry_read entry_two_read
    seen_line One bs y e =
        bind_then (entry_at (names_of s) bs) ended y
        (λ x h-x e-x. subst (Seen bs) (ended_is x y e-x) (seen_at bs x h-x)) e
    seen_line Two bs y e =
        bind_then (entry_at (names_of s) bs) (λ x. behind (codes " | ") x.1 >>= λ a. told_at x.0.1.event a >>= λ t. with_event x.0 t >>= λ w. ended w) y
        (λ x h-x e-x.
        bind_then (behind (codes " | ") x.1) (λ a. told_at x.0.1.event a >>= λ t. with_event x.0 t >>= λ w. ended w) y
        (λ a h-a e-a.
        bind_then (told_at x.0.1.event a) (λ t. with_event x.0 t >>= λ w. ended w) y
        (λ t h-t e-t. subst (Seen bs) (ended_is ((x.0.0, record x.0.1 { event = t.0 }), t.1) y e-t) (seen_at bs x h-x)) e-a) e-x) e

    -- As it is written.

    abbrev effect_as : Entry → List ℕ
    effect_as e = event_text e.event ++ (void_text e.taken ++ (codes " -> " ++ status_text e.state e.hard e.attempt))

    abbrev middle_as : Entry → List ℕ
    middle_as e = middle_of e.moment (effect_as e)

    abbrev decisions_of : List Decision → List ℕ
    decisions_of ds = list_text (map (decision_text s) ds)

    front_as : (k : ℕ) (e : Entry) (end : List ℕ) → start_text s k e ++ (effect_text e ++ (lists_text s e ++ end)) ≡ line_as s apart k e.number e.caller (middle_as e) e.sights (32 ∷ (decisions_of e.decisions ++ end))
    unfolding start_text effect_text lists_text
    front_as k e end =
        ap (λ xs. start_text s k e ++ (effect_text e ++ (codes " | " ++ xs))) (append_assoc (sights_of e.sights) (codes " | " ++ decisions_of e.decisions) end)
        ∙ parts_are apart k e.number e.caller e.moment (effect_as e) e.sights (decisions_of e.decisions ++ end)

    abbrev end_of : Style → Entry → List ℕ
    end_of One e = 10 ∷ []
    end_of Two e = codes " | " ++ (told_text e.event ++ 10 ∷ [])

    written_as : (style : Style) (k : ℕ) (e : Entry) → styled_entry style s k e ≡ line_as s apart k e.number e.caller (middle_as e) e.sights (32 ∷ (decisions_of e.decisions ++ end_of style e))
    written_as One k e = front_as k e (end_of One e)
    written_as Two k e = front_as k e (end_of Two e)

    -- what is read of the line of an entry is its checkable, its caller and its sights
    pub read_back : (style : Style) (k : ℕ) (e : Entry) (y : ℕ × Entry) → k < length (full_names s) → e.caller < 2 ^ 64 → AllByRecursion (IsInside s) e.sights → styled_read style (names_of s) (styled_entry style s k e) ≡ Some y
        → AreSame s apart k y.0 e.caller y.1.caller e.sights y.1.sights
    read_back style k e y inside few own is =
        let seen = seen_line style (styled_entry style s k e) y is in
        same_line s apart k y.0 e.number seen.number e.caller y.1.caller (middle_as e) seen.middle e.sights y.1.sights (32 ∷ (decisions_of e.decisions ++ end_of style e)) seen.more inside seen.inside few
        (no_bar (middle_as e) (middle_plain e.moment (effect_as e) (effect_plain e.event e.taken e.state e.hard e.attempt))) seen.lacking own seen.low (sym (written_as style k e) ∙ seen.whole)
