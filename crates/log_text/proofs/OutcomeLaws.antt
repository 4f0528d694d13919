-- Outcomes and decisions, both ways.
use Rattle.std.proofs.Common.{◌≡◌, ℕ, zero, suc, ◌^◌, ◌<◌, cond, List, [], ◌∷◌, ◌++◌, length, drop, codes, refl, sym, ap, ◌∙◌, subst, append_assoc, arith, Option, Some, None}
use Rattle.std.proofs.lemmas.List.{length-append}
use Rattle.std.specs.List.{AllByRecursion, flat_map}
use Rattle.std.specs.Str.{IsUtf8}
use Rattle.site_model.specs.PlainSite.{PlainSite, full_names}
use Rattle.site_model.specs.Sound.{AreDistinct}
use Rattle.site_model.specs.declared.decision.Decision.{Decision}
use Rattle.site_model.specs.declared.note_kind.NoteKind.{NoteKind}
use Rattle.site_model.specs.declared.note_kind.NoteKind.TheVariants as kind
use Rattle.site_model.specs.declared.outcome.Outcome.{Outcome}
use Rattle.site_model.specs.declared.outcome.Outcome.TheVariants as outcome
use Rattle.site_text.proofs.DecimalLaws.{IsStop}
use Rattle.site_text.specs.Entries.{decision_text, depend_names, name_text, note_text, notify_names, outcome_text, user_names}
use Rattle.site_text.specs.ScriptReading.{begins}
use Rattle.log_text.specs.EntryReading.{decision_at, depend_at, downtime_at, host_at, kind_at, outcome_at, plain_outcome_at, sent_at, users_step, users_within}
use Rattle.log_text.specs.EntryTwo.{AreTexts}
use Rattle.log_text.specs.Fronts.{◌>>=◌, behind, name_at, number_at, with_first}
use Rattle.log_text.specs.SiteNames.{names_of, HasAllNames}
use Rattle.log_text.proofs.FieldLaws.{bind_some, bind_then, done, some_is, word_or, behind_sound, spelled_sound, number_sound, number_complete, name_sound, name_complete}
use Rattle.log_text.proofs.PartLaws.{Spells}

-- the checkables differ in their names
pub apart : (s : PlainSite) → HasAllNames s → AreDistinct (full_names s)
apart s has = subst AreDistinct has.checkables.named has.checkables.distinct

-- Receivers.

abbrev receivers : List (List ℕ) → List ℕ → List ℕ
receivers names us = flat_map (λ u. 32 ∷ name_text names u) us

abbrev AreUsers : List (List ℕ) → List ℕ → List ℕ × List ℕ → Type 0
AreUsers names bs y = (bs ≡ receivers names y.0 ++ y.1) × AllByRecursion (λ u. u < length names) y.0

users_sound : (most : ℕ) (names : List (List ℕ)) (bs : List ℕ) (y : List ℕ × List ℕ) → users_within most names bs ≡ Some y → AreUsers names bs y
users_sound zero names bs y e = absurd cc
users_sound (suc most) names bs y e = by (λ rest z g. users_sound most names rest z g) (behind (32 ∷ 34 ∷ []) bs) refl e
  where
    by : ((rest : List ℕ) (z : List ℕ × List ℕ) → users_within most names rest ≡ Some z → AreUsers names rest z) → (r : Option (List ℕ)) → behind (32 ∷ 34 ∷ []) bs ≡ r
        → users_step (users_within most names) names bs r ≡ Some y → AreUsers names bs y
    by again None none h = subst (AreUsers names bs) (some_is ([], bs) y h) (refl, tt)
    by again (Some more) front h =
        let user = bind_some (name_at names (drop 1 bs)) (λ user. users_within most names user.1 >>= with_first user.0) y h in
        let others = bind_some (users_within most names user.0.1) (with_first user.0.0) y user.2 in
        let named = name_sound names (drop 1 bs) user.0 user.1 in
        let rest = again user.0.1 others.0 others.1 in
        let spelled : bs ≡ (32 ∷ 34 ∷ []) ++ more = behind_sound (32 ∷ 34 ∷ []) bs more front in
        let blank : bs ≡ 32 ∷ drop 1 bs = spelled ∙ ap (λ xs. 32 ∷ xs) (sym (ap (drop 1) spelled)) in
        let whole : bs ≡ receivers names (user.0.0 ∷ others.0.0) ++ others.0.1 =
        blank ∙ (ap (λ xs. 32 ∷ xs) (named.0 ∙ ap (λ xs. name_text names user.0.0 ++ xs) rest.0) ∙ sym (append_assoc (32 ∷ name_text names user.0.0) (receivers names others.0.0) others.0.1)) in
        subst (AreUsers names bs) (some_is (user.0.0 ∷ others.0.0, others.0.1) y others.2) (whole, (named.1, rest.1))

users_complete : (most : ℕ) (names : List (List ℕ)) (us rest : List ℕ) → AreDistinct names → AllByRecursion IsUtf8 names → length us < most → AllByRecursion (λ u. u < length names) us → behind (32 ∷ 34 ∷ []) rest ≡ None
    → users_within most names (receivers names us ++ rest) ≡ Some (us, rest)
users_complete zero names us rest apart texts few valid stop = absurd (omega arith)
users_complete (suc most) names [] rest apart texts few valid stop = ap (users_step (users_within most names) names rest) stop
users_complete (suc most) names (u ∷ us) rest apart texts few valid stop =
    let more : List ℕ = receivers names us ++ rest in
    ap (users_within (suc most) names) (append_assoc (32 ∷ name_text names u) (receivers names us) rest)
    ∙ (ap (λ r. r >>= λ user. users_within most names user.1 >>= with_first user.0) (name_complete names u more apart texts valid.0)
    ∙ ap (λ r. r >>= with_first u) (users_complete most names us rest apart texts (omega arith) valid.1 stop))

users_enough : (names : List (List ℕ)) (us rest : List ℕ) → 0 < length rest → length us < length (receivers names us ++ rest)
users_enough names [] rest some = omega arith
users_enough names (u ∷ us) rest some =
    omega (arith, users_enough names us rest some, ap length (append_assoc (32 ∷ name_text names u) (receivers names us) rest), length-append (32 ∷ name_text names u) (receivers names us ++ rest))

-- Outcomes.

abbrev pub IsNamedOutcome : PlainSite → Outcome → Type 0
IsNamedOutcome s (outcome.Sent users) = AllByRecursion (λ u. u < length (user_names s)) users
IsNamedOutcome s (outcome.Dependency depend) = depend < length (depend_names s)
IsNamedOutcome s (outcome.Host checkable) = checkable < length (full_names s)
IsNamedOutcome s (outcome.Downtime number) = number < 2 ^ 64
IsNamedOutcome s _ = Unit {0}

abbrev Spelled : PlainSite → List ℕ → Outcome × List ℕ → Type 0
Spelled s bs y = (bs ≡ outcome_text s y.0 ++ y.1) × IsNamedOutcome s y.0

abbrev After : PlainSite → List ℕ → List ℕ → Outcome × List ℕ → Type 0
After s word bs y = Spelled s (word ++ bs) y

sent_sound : (s : PlainSite) (bs : List ℕ) (y : Outcome × List ℕ) → sent_at (names_of s) bs ≡ Some y → After s (codes "Sent") bs y
unfolding sent_at
sent_sound s bs y e =
    let x = bind_some (users_within (length bs) (user_names s) bs) (λ x. Some (outcome.Sent x.0, x.1)) y e in
    let spelled = users_sound (length bs) (user_names s) bs x.0 x.1 in
    subst (After s (codes "Sent") bs) (some_is (outcome.Sent x.0.0, x.0.1) y x.2) (ap (λ xs. codes "Sent" ++ xs) spelled.0, spelled.1)

depend_sound : (s : PlainSite) (bs : List ℕ) (y : Outcome × List ℕ) → depend_at (names_of s) bs ≡ Some y → After s (codes "Dependency ") bs y
unfolding depend_at
depend_sound s bs y e =
    let x = bind_some (name_at (depend_names s) bs) (λ x. Some (outcome.Dependency x.0, x.1)) y e in
    let spelled = name_sound (depend_names s) bs x.0 x.1 in
    subst (After s (codes "Dependency ") bs) (some_is (outcome.Dependency x.0.0, x.0.1) y x.2) (ap (λ xs. codes "Dependency " ++ xs) spelled.0, spelled.1)

host_sound : (s : PlainSite) (bs : List ℕ) (y : Outcome × List ℕ) → host_at (names_of s) bs ≡ Some y → After s (codes "Host ") bs y
unfolding host_at
host_sound s bs y e =
    let x = bind_some (name_at (full_names s) bs) (λ x. Some (outcome.Host x.0, x.1)) y e in
    let spelled = name_sound (full_names s) bs x.0 x.1 in
    subst (After s (codes "Host ") bs) (some_is (outcome.Host x.0.0, x.0.1) y x.2) (ap (λ xs. codes "Host " ++ xs) spelled.0, spelled.1)

downtime_sound : (s : PlainSite) (bs : List ℕ) (y : Outcome × List ℕ) → downtime_at bs ≡ Some y → After s (codes "Downtime ") bs y
unfolding downtime_at
downtime_sound s bs y e =
    let x = bind_some (number_at bs) (λ x. Some (outcome.Downtime x.0, x.1)) y e in
    let spelled = number_sound bs x.0 x.1 in
    subst (After s (codes "Downtime ") bs) (some_is (outcome.Downtime x.0.0, x.0.1) y x.2) (ap (λ xs. codes "Downtime " ++ xs) spelled.0, spelled.1)

at_front : (s : PlainSite) (word bs rest : List ℕ) (y : Outcome × List ℕ) → bs ≡ word ++ rest → After s word rest y → Spelled s bs y
at_front s word bs rest y front h = (front ∙ h.0, h.1)

-- an outcome that is a word alone
bare : (s : PlainSite) (word : List ℕ) (v : Outcome) (rest : List ℕ) (y : Outcome × List ℕ) → outcome_text s v ≡ word → IsNamedOutcome s v → done (v, rest) ≡ Some y → After s word rest y
bare s word v rest y is valid e = subst (After s word rest) (some_is (v, rest) y e) (ap (λ w. w ++ rest) (sym is), valid)

plain9 : (s : PlainSite) (bs : List ℕ) (y : Outcome × List ℕ) → cond (begins (codes "NoUsers") bs) (Some (outcome.NoUsers, drop 7 bs)) (None) ≡ Some y → Spelled s bs y
plain9 s bs y e = word_or (codes "NoUsers") bs (Some (outcome.NoUsers, drop 7 bs)) (None) y (λ front h. at_front s (codes "NoUsers") bs (drop 7 bs) y front (bare s (codes "NoUsers") outcome.NoUsers (drop 7 bs) y refl tt h)) (λ h. absurd cc) e

plain8 : (s : PlainSite) (bs : List ℕ) (y : Outcome × List ℕ) → cond (begins (codes "Repeat") bs) (Some (outcome.Repeat, drop 6 bs)) (cond (begins (codes "NoUsers") bs) (Some (outcome.NoUsers, drop 7 bs)) (None)) ≡ Some y → Spelled s bs y
plain8 s bs y e = word_or (codes "Repeat") bs (Some (outcome.Repeat, drop 6 bs)) (cond (begins (codes "NoUsers") bs) (Some (outcome.NoUsers, drop 7 bs)) (None)) y (λ front h. at_front s (codes "Repeat") bs (drop 6 bs) y front (bare s (codes "Repeat") outcome.Repeat (drop 6 bs) y refl tt h)) (λ h. plain9 s bs y h) e

plain7 : (s : PlainSite) (bs : List ℕ) (y : Outcome × List ℕ) → cond (begins (codes "TooLate") bs) (Some (outcome.TooLate, drop 7 bs)) (cond (begins (codes "Repeat") bs) (Some (outcome.Repeat, drop 6 bs)) (cond (begins (codes "NoUsers") bs) (Some (outcome.NoUsers, drop 7 bs)) (None))) ≡ Some y → Spelled s bs y
plain7 s bs y e = word_or (codes "TooLate") bs (Some (outcome.TooLate, drop 7 bs)) (cond (begins (codes "Repeat") bs) (Some (outcome.Repeat, drop 6 bs)) (cond (begins (codes "NoUsers") bs) (Some (outcome.NoUsers, drop 7 bs)) (None))) y (λ front h. at_front s (codes "TooLate") bs (drop 7 bs) y front (bare s (codes "TooLate") outcome.TooLate (drop 7 bs) y refl tt h)) (λ h. plain8 s bs y h) e

plain6 : (s : PlainSite) (bs : List ℕ) (y : Outcome × List ℕ) → cond (begins (codes "TooEarly") bs) (Some (outcome.TooEarly, drop 8 bs)) (cond (begins (codes "TooLate") bs) (Some (outcome.TooLate, drop 7 bs)) (cond (begins (codes "Repeat") bs) (Some (outcome.Repeat, drop 6 bs)) (cond (begins (codes "NoUsers") bs) (Some (outcome.NoUsers, drop 7 bs)) (None)))) ≡ Some y → Spelled s bs y
plain6 s bs y e = word_or (codes "TooEarly") bs (Some (outcome.TooEarly, drop 8 bs)) (cond (begins (codes "TooLate") bs) (Some (outcome.TooLate, drop 7 bs)) (cond (begins (codes "Repeat") bs) (Some (outcome.Repeat, drop 6 bs)) (cond (begins (codes "NoUsers") bs) (Some (outcome.NoUsers, drop 7 bs)) (None)))) y (λ front h. at_front s (codes "TooEarly") bs (drop 8 bs) y front (bare s (codes "TooEarly") outcome.TooEarly (drop 8 bs) y refl tt h)) (λ h. plain7 s bs y h) e

plain5 : (s : PlainSite) (bs : List ℕ) (y : Outcome × List ℕ) → cond (begins (codes "State") bs) (Some (outcome.State, drop 5 bs)) (cond (begins (codes "TooEarly") bs) (Some (outcome.TooEarly, drop 8 bs)) (cond (begins (codes "TooLate") bs) (Some (outcome.TooLate, drop 7 bs)) (cond (begins (codes "Repeat") bs) (Some (outcome.Repeat, drop 6 bs)) (cond (begins (codes "NoUsers") bs) (Some (outcome.NoUsers, drop 7 bs)) (None))))) ≡ Some y → Spelled s bs y
plain5 s bs y e = word_or (codes "State") bs (Some (outcome.State, drop 5 bs)) (cond (begins (codes "TooEarly") bs) (Some (outcome.TooEarly, drop 8 bs)) (cond (begins (codes "TooLate") bs) (Some (outcome.TooLate, drop 7 bs)) (cond (begins (codes "Repeat") bs) (Some (outcome.Repeat, drop 6 bs)) (cond (begins (codes "NoUsers") bs) (Some (outcome.NoUsers, drop 7 bs)) (None))))) y (λ front h. at_front s (codes "State") bs (drop 5 bs) y front (bare s (codes "State") outcome.State (drop 5 bs) y refl tt h)) (λ h. plain6 s bs y h) e

plain4 : (s : PlainSite) (bs : List ℕ) (y : Outcome × List ℕ) → cond (begins (codes "Type") bs) (Some (outcome.Kind, drop 4 bs)) (cond (begins (codes "State") bs) (Some (outcome.State, drop 5 bs)) (cond (begins (codes "TooEarly") bs) (Some (outcome.TooEarly, drop 8 bs)) (cond (begins (codes "TooLate") bs) (Some (outcome.TooLate, drop 7 bs)) (cond (begins (codes "Repeat") bs) (Some (outcome.Repeat, drop 6 bs)) (cond (begins (codes "NoUsers") bs) (Some (outcome.NoUsers, drop 7 bs)) (None)))))) ≡ Some y → Spelled s bs y
plain4 s bs y e = word_or (codes "Type") bs (Some (outcome.Kind, drop 4 bs)) (cond (begins (codes "State") bs) (Some (outcome.State, drop 5 bs)) (cond (begins (codes "TooEarly") bs) (Some (outcome.TooEarly, drop 8 bs)) (cond (begins (codes "TooLate") bs) (Some (outcome.TooLate, drop 7 bs)) (cond (begins (codes "Repeat") bs) (Some (outcome.Repeat, drop 6 bs)) (cond (begins (codes "NoUsers") bs) (Some (outcome.NoUsers, drop 7 bs)) (None)))))) y (λ front h. at_front s (codes "Type") bs (drop 4 bs) y front (bare s (codes "Type") outcome.Kind (drop 4 bs) y refl tt h)) (λ h. plain5 s bs y h) e

plain3 : (s : PlainSite) (bs : List ℕ) (y : Outcome × List ℕ) → cond (begins (codes "Period") bs) (Some (outcome.Period, drop 6 bs)) (cond (begins (codes "Type") bs) (Some (outcome.Kind, drop 4 bs)) (cond (begins (codes "State") bs) (Some (outcome.State, drop 5 bs)) (cond (begins (codes "TooEarly") bs) (Some (outcome.TooEarly, drop 8 bs)) (cond (begins (codes "TooLate") bs) (Some (outcome.TooLate, drop 7 bs)) (cond (begins (codes "Repeat") bs) (Some (outcome.Repeat, drop 6 bs)) (cond (begins (codes "NoUsers") bs) (Some (outcome.NoUsers, drop 7 bs)) (None))))))) ≡ Some y → Spelled s bs y
plain3 s bs y e = word_or (codes "Period") bs (Some (outcome.Period, drop 6 bs)) (cond (begins (codes "Type") bs) (Some (outcome.Kind, drop 4 bs)) (cond (begins (codes "State") bs) (Some (outcome.State, drop 5 bs)) (cond (begins (codes "TooEarly") bs) (Some (outcome.TooEarly, drop 8 bs)) (cond (begins (codes "TooLate") bs) (Some (outcome.TooLate, drop 7 bs)) (cond (begins (codes "Repeat") bs) (Some (outcome.Repeat, drop 6 bs)) (cond (begins (codes "NoUsers") bs) (Some (outcome.NoUsers, drop 7 bs)) (None))))))) y (λ front h. at_front s (codes "Period") bs (drop 6 bs) y front (bare s (codes "Period") outcome.Period (drop 6 bs) y refl tt h)) (λ h. plain4 s bs y h) e

plain2 : (s : PlainSite) (bs : List ℕ) (y : Outcome × List ℕ) → cond (begins (codes "Acknowledged") bs) (Some (outcome.Acknowledged, drop 12 bs)) (cond (begins (codes "Period") bs) (Some (outcome.Period, drop 6 bs)) (cond (begins (codes "Type") bs) (Some (outcome.Kind, drop 4 bs)) (cond (begins (codes "State") bs) (Some (outcome.State, drop 5 bs)) (cond (begins (codes "TooEarly") bs) (Some (outcome.TooEarly, drop 8 bs)) (cond (begins (codes "TooLate") bs) (Some (outcome.TooLate, drop 7 bs)) (cond (begins (codes "Repeat") bs) (Some (outcome.Repeat, drop 6 bs)) (cond (begins (codes "NoUsers") bs) (Some (outcome.NoUsers, drop 7 bs)) (None)))))))) ≡ Some y → Spelled s bs y
plain2 s bs y e = word_or (codes "Acknowledged") bs (Some (outcome.Acknowledged, drop 12 bs)) (cond (begins (codes "Period") bs) (Some (outcome.Period, drop 6 bs)) (cond (begins (codes "Type") bs) (Some (outcome.Kind, drop 4 bs)) (cond (begins (codes "State") bs) (Some (outcome.State, drop 5 bs)) (cond (begins (codes "TooEarly") bs) (Some (outcome.TooEarly, drop 8 bs)) (cond (begins (codes "TooLate") bs) (Some (outcome.TooLate, drop 7 bs)) (cond (begins (codes "Repeat") bs) (Some (outcome.Repeat, drop 6 bs)) (cond (begins (codes "NoUsers") bs) (Some (outcome.NoUsers, drop 7 bs)) (None)))))))) y (λ front h. at_front s (codes "Acknowledged") bs (drop 12 bs) y front (bare s (codes "Acknowledged") outcome.Acknowledged (drop 12 bs) y refl tt h)) (λ h. plain3 s bs y h) e

plain1 : (s : PlainSite) (bs : List ℕ) (y : Outcome × List ℕ) → cond (begins (codes "Flapping") bs) (Some (outcome.Flapping, drop 8 bs)) (cond (begins (codes "Acknowledged") bs) (Some (outcome.Acknowledged, drop 12 bs)) (cond (begins (codes "Period") bs) (Some (outcome.Period, drop 6 bs)) (cond (begins (codes "Type") bs) (Some (outcome.Kind, drop 4 bs)) (cond (begins (codes "State") bs) (Some (outcome.State, drop 5 bs)) (cond (begins (codes "TooEarly") bs) (Some (outcome.TooEarly, drop 8 bs)) (cond (begins (codes "TooLate") bs) (Some (outcome.TooLate, drop 7 bs)) (cond (begins (codes "Repeat") bs) (Some (outcome.Repeat, drop 6 bs)) (cond (begins (codes "NoUsers") bs) (Some (outcome.NoUsers, drop 7 bs)) (None))))))))) ≡ Some y → Spelled s bs y
plain1 s bs y e = word_or (codes "Flapping") bs (Some (outcome.Flapping, drop 8 bs)) (cond (begins (codes "Acknowledged") bs) (Some (outcome.Acknowledged, drop 12 bs)) (cond (begins (codes "Period") bs) (Some (outcome.Period, drop 6 bs)) (cond (begins (codes "Type") bs) (Some (outcome.Kind, drop 4 bs)) (cond (begins (codes "State") bs) (Some (outcome.State, drop 5 bs)) (cond (begins (codes "TooEarly") bs) (Some (outcome.TooEarly, drop 8 bs)) (cond (begins (codes "TooLate") bs) (Some (outcome.TooLate, drop 7 bs)) (cond (begins (codes "Repeat") bs) (Some (outcome.Repeat, drop 6 bs)) (cond (begins (codes "NoUsers") bs) (Some (outcome.NoUsers, drop 7 bs)) (None))))))))) y (λ front h. at_front s (codes "Flapping") bs (drop 8 bs) y front (bare s (codes "Flapping") outcome.Flapping (drop 8 bs) y refl tt h)) (λ h. plain2 s bs y h) e

plain0 : (s : PlainSite) (bs : List ℕ) (y : Outcome × List ℕ) → cond (begins (codes "Disabled") bs) (Some (outcome.Disabled, drop 8 bs)) (cond (begins (codes "Flapping") bs) (Some (outcome.Flapping, drop 8 bs)) (cond (begins (codes "Acknowledged") bs) (Some (outcome.Acknowledged, drop 12 bs)) (cond (begins (codes "Period") bs) (Some (outcome.Period, drop 6 bs)) (cond (begins (codes "Type") bs) (Some (outcome.Kind, drop 4 bs)) (cond (begins (codes "State") bs) (Some (outcome.State, drop 5 bs)) (cond (begins (codes "TooEarly") bs) (Some (outcome.TooEarly, drop 8 bs)) (cond (begins (codes "TooLate") bs) (Some (outcome.TooLate, drop 7 bs)) (cond (begins (codes "Repeat") bs) (Some (outcome.Repeat, drop 6 bs)) (cond (begins (codes "NoUsers") bs) (Some (outcome.NoUsers, drop 7 bs)) (None)))))))))) ≡ Some y → Spelled s bs y
plain0 s bs y e = word_or (codes "Disabled") bs (Some (outcome.Disabled, drop 8 bs)) (cond (begins (codes "Flapping") bs) (Some (outcome.Flapping, drop 8 bs)) (cond (begins (codes "Acknowledged") bs) (Some (outcome.Acknowledged, drop 12 bs)) (cond (begins (codes "Period") bs) (Some (outcome.Period, drop 6 bs)) (cond (begins (codes "Type") bs) (Some (outcome.Kind, drop 4 bs)) (cond (begins (codes "State") bs) (Some (outcome.State, drop 5 bs)) (cond (begins (codes "TooEarly") bs) (Some (outcome.TooEarly, drop 8 bs)) (cond (begins (codes "TooLate") bs) (Some (outcome.TooLate, drop 7 bs)) (cond (begins (codes "Repeat") bs) (Some (outcome.Repeat, drop 6 bs)) (cond (begins (codes "NoUsers") bs) (Some (outcome.NoUsers, drop 7 bs)) (None)))))))))) y (λ front h. at_front s (codes "Disabled") bs (drop 8 bs) y front (bare s (codes "Disabled") outcome.Disabled (drop 8 bs) y refl tt h)) (λ h. plain1 s bs y h) e

plain_outcome_sound : (s : PlainSite) (bs : List ℕ) (y : Outcome × List ℕ) → plain_outcome_at bs ≡ Some y → Spelled s bs y
unfolding plain_outcome_at
plain_outcome_sound s bs y e = plain0 s bs y e

others3 : (s : PlainSite) (bs : List ℕ) (y : Outcome × List ℕ) → cond (begins (codes "Downtime ") bs) (downtime_at (drop 9 bs)) (plain_outcome_at bs) ≡ Some y → Spelled s bs y
others3 s bs y e = word_or (codes "Downtime ") bs (downtime_at (drop 9 bs)) (plain_outcome_at bs) y (λ front h. at_front s (codes "Downtime ") bs (drop 9 bs) y front (downtime_sound s (drop 9 bs) y h)) (λ h. plain_outcome_sound s bs y h) e

others2 : (s : PlainSite) (bs : List ℕ) (y : Outcome × List ℕ) → cond (begins (codes "Host ") bs) (host_at (names_of s) (drop 5 bs)) (cond (begins (codes "Downtime ") bs) (downtime_at (drop 9 bs)) (plain_outcome_at bs)) ≡ Some y → Spelled s bs y
others2 s bs y e = word_or (codes "Host ") bs (host_at (names_of s) (drop 5 bs)) (cond (begins (codes "Downtime ") bs) (downtime_at (drop 9 bs)) (plain_outcome_at bs)) y (λ front h. at_front s (codes "Host ") bs (drop 5 bs) y front (host_sound s (drop 5 bs) y h)) (λ h. others3 s bs y h) e

others1 : (s : PlainSite) (bs : List ℕ) (y : Outcome × List ℕ) → cond (begins (codes "Dependency ") bs) (depend_at (names_of s) (drop 11 bs)) (cond (begins (codes "Host ") bs) (host_at (names_of s) (drop 5 bs)) (cond (begins (codes "Downtime ") bs) (downtime_at (drop 9 bs)) (plain_outcome_at bs))) ≡ Some y → Spelled s bs y
others1 s bs y e = word_or (codes "Dependency ") bs (depend_at (names_of s) (drop 11 bs)) (cond (begins (codes "Host ") bs) (host_at (names_of s) (drop 5 bs)) (cond (begins (codes "Downtime ") bs) (downtime_at (drop 9 bs)) (plain_outcome_at bs))) y (λ front h. at_front s (codes "Dependency ") bs (drop 11 bs) y front (depend_sound s (drop 11 bs) y h)) (λ h. others2 s bs y h) e

others0 : (s : PlainSite) (bs : List ℕ) (y : Outcome × List ℕ) → cond (begins (codes "Sent") bs) (sent_at (names_of s) (drop 4 bs)) (cond (begins (codes "Dependency ") bs) (depend_at (names_of s) (drop 11 bs)) (cond (begins (codes "Host ") bs) (host_at (names_of s) (drop 5 bs)) (cond (begins (codes "Downtime ") bs) (downtime_at (drop 9 bs)) (plain_outcome_at bs)))) ≡ Some y → Spelled s bs y
others0 s bs y e = word_or (codes "Sent") bs (sent_at (names_of s) (drop 4 bs)) (cond (begins (codes "Dependency ") bs) (depend_at (names_of s) (drop 11 bs)) (cond (begins (codes "Host ") bs) (host_at (names_of s) (drop 5 bs)) (cond (begins (codes "Downtime ") bs) (downtime_at (drop 9 bs)) (plain_outcome_at bs)))) y (λ front h. at_front s (codes "Sent") bs (drop 4 bs) y front (sent_sound s (drop 4 bs) y h)) (λ h. others1 s bs y h) e

pub outcome_sound : (s : PlainSite) (bs : List ℕ) (y : Outcome × List ℕ) → outcome_at (names_of s) bs ≡ Some y → Spelled s bs y
unfolding outcome_at
outcome_sound s bs y e = others0 s bs y e

-- what may stand behind an outcome
pub record IsEnd (rest : List ℕ) : Type 0 where
  pub stop : IsStop rest
  pub no_user : behind (32 ∷ 34 ∷ []) rest ≡ None
  pub some : 0 < length rest

outcome_complete : (s : PlainSite) (v : Outcome) (rest : List ℕ) → HasAllNames s → AreTexts (names_of s) → IsNamedOutcome s v → IsEnd rest → outcome_at (names_of s) (outcome_text s v ++ rest) ≡ Some (v, rest)
unfolding outcome_at plain_outcome_at sent_at depend_at host_at downtime_at
outcome_complete s (outcome.Sent users) rest has texts valid end =
    rw (users_complete (length (receivers (user_names s) users ++ rest)) (user_names s) users rest has.users texts.users (users_enough (user_names s) users rest end.some) valid end.no_user) refl
outcome_complete s outcome.Disabled rest has texts valid end = refl
outcome_complete s (outcome.Dependency depend) rest has texts valid end = rw (name_complete (depend_names s) depend rest has.depends texts.depends valid) refl
outcome_complete s (outcome.Host checkable) rest has texts valid end = rw (name_complete (full_names s) checkable rest (apart s has) texts.checkables valid) refl
outcome_complete s (outcome.Downtime number) rest has texts valid end = rw (number_complete number rest valid end.stop) refl
outcome_complete s outcome.Flapping rest has texts valid end = refl
outcome_complete s outcome.Acknowledged rest has texts valid end = refl
outcome_complete s outcome.Period rest has texts valid end = refl
outcome_complete s outcome.Kind rest has texts valid end = refl
outcome_complete s outcome.State rest has texts valid end = refl
outcome_complete s outcome.TooEarly rest has texts valid end = refl
outcome_complete s outcome.TooLate rest has texts valid end = refl
outcome_complete s outcome.Repeat rest has texts valid end = refl
outcome_complete s outcome.NoUsers rest has texts valid end = refl

-- Decisions.

kinds : List NoteKind
kinds = kind.Problem ∷ kind.Recovery ∷ kind.Acknowledgement ∷ kind.Custom ∷ kind.DowntimeStart ∷ kind.DowntimeEnd ∷ kind.DowntimeRemoved ∷ kind.FlappingStart ∷ kind.FlappingEnd ∷ []

kind_sound : (bs : List ℕ) (y : NoteKind × List ℕ) → kind_at bs ≡ Some y → bs ≡ note_text y.0 ++ y.1
unfolding kind_at kinds
kind_sound bs y e = spelled_sound note_text kinds bs y e

kind_complete : (k : NoteKind) (rest : List ℕ) → kind_at (note_text k ++ rest) ≡ Some (k, rest)
unfolding kind_at
kind_complete kind.Problem rest = refl
kind_complete kind.Recovery rest = refl
kind_complete kind.Acknowledgement rest = refl
kind_complete kind.Custom rest = refl
kind_complete kind.DowntimeStart rest = refl
kind_complete kind.DowntimeEnd rest = refl
kind_complete kind.DowntimeRemoved rest = refl
kind_complete kind.FlappingStart rest = refl
kind_complete kind.FlappingEnd rest = refl

abbrev pub IsNamedDecision : PlainSite → Decision → Type 0
IsNamedDecision s d = (d.notification < length (notify_names s)) × IsNamedOutcome s d.outcome

decision_split : (s : PlainSite) (n : ℕ) (k : NoteKind) (v : Outcome) (rest : List ℕ) → (name_text (notify_names s) n ++ 32 ∷ (note_text k ++ 32 ∷ outcome_text s v)) ++ rest ≡ name_text (notify_names s) n ++ (codes " " ++ (note_text k ++ (codes " " ++ (outcome_text s v ++ rest))))
decision_split s n k v rest =
    append_assoc (name_text (notify_names s) n) (codes " " ++ (note_text k ++ (codes " " ++ outcome_text s v))) rest ∙ ap (λ xs. name_text (notify_names s) n ++ xs) (append_assoc (codes " ") (note_text k ++ (codes " " ++ outcome_text s v)) rest ∙ ap (λ xs. codes " " ++ xs) (append_assoc (note_text k) (codes " " ++ outcome_text s v) rest ∙ ap (λ xs. note_text k ++ xs) (append_assoc (codes " ") (outcome_text s v) rest)))

pub decision_sound : (s : PlainSite) (bs : List ℕ) (y : Decision × List ℕ) → decision_at (names_of s) bs ≡ Some y → (bs ≡ decision_text s y.0 ++ y.1) × IsNamedDecision s y.0
unfolding decision_at
decision_sound s bs y e =
    bind_then (name_at (notify_names s) bs) (λ n. behind (codes " ") n.1 >>= λ a. kind_at a >>= λ k. behind (codes " ") k.1 >>= λ b. outcome_at (names_of s) b >>= λ o. Some (made n.0 k.0 o.0, o.1)) y
    (λ n h-n e-n.
    bind_then (behind (codes " ") n.1) (λ a. kind_at a >>= λ k. behind (codes " ") k.1 >>= λ b. outcome_at (names_of s) b >>= λ o. Some (made n.0 k.0 o.0, o.1)) y
    (λ a h-a e-a.
    bind_then (kind_at a) (λ k. behind (codes " ") k.1 >>= λ b. outcome_at (names_of s) b >>= λ o. Some (made n.0 k.0 o.0, o.1)) y
    (λ k h-k e-k.
    bind_then (behind (codes " ") k.1) (λ b. outcome_at (names_of s) b >>= λ o. Some (made n.0 k.0 o.0, o.1)) y
    (λ b h-b e-b.
    bind_then (outcome_at (names_of s) b) (λ o. Some (made n.0 k.0 o.0, o.1)) y
    (λ o h-o e-o.
    subst (λ (z : Decision × List ℕ). (bs ≡ decision_text s z.0 ++ z.1) × IsNamedDecision s z.0) (some_is (made n.0 k.0 o.0, o.1) y e-o)
    (((name_sound (notify_names s) bs n h-n).0 ∙ ap (λ xs. name_text (notify_names s) n.0 ++ xs) (behind_sound (codes " ") n.1 a h-a ∙ ap (λ xs. codes " " ++ xs) (kind_sound a k h-k ∙ ap (λ xs. note_text k.0 ++ xs) (behind_sound (codes " ") k.1 b h-b ∙ ap (λ xs. codes " " ++ xs) ((outcome_sound s b o h-o).0))))) ∙ sym (decision_split s n.0 k.0 o.0 o.1), ((name_sound (notify_names s) bs n h-n).1, (outcome_sound s b o h-o).1))) e-b) e-k) e-a) e-n) e
  where
    made : ℕ → NoteKind → Outcome → Decision
    made n k v = record { notification = n; kind = k; outcome = v }

pub decisions_spelled : (s : PlainSite) → HasAllNames s → AreTexts (names_of s) → Spells (decision_text s) (decision_at (names_of s)) (IsNamedDecision s) IsEnd
unfolding decision_at
decisions_spelled s has texts = record {
  sound = decision_sound s;
  complete = λ d rest valid end.
      let r2 : List ℕ = outcome_text s d.outcome ++ rest in
      let r1 : List ℕ = codes " " ++ (note_text d.kind ++ (codes " " ++ r2)) in
      ap (decision_at (names_of s)) (decision_split s d.notification d.kind d.outcome rest)
      ∙ rw (name_complete (notify_names s) d.notification r1 has.notifies texts.notifies valid.0, kind_complete d.kind (codes " " ++ r2), outcome_complete s d.outcome rest has texts valid.1 end) refl;
  some = λ d. omega (arith, length-append (name_text (notify_names s) d.notification) (32 ∷ (note_text d.kind ++ 32 ∷ outcome_text s d.outcome)));
  no_dash = λ d rest. refl;
  before_comma = λ rest. record { stop = refl; no_user = refl; some = omega arith };
}
