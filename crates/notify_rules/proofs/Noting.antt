-- What is kept of notifications, as one decision after another is noted.
use Rattle.std.proofs.Common.{◌≡◌, ◌≢◌, ◌||◌, ◌&&◌, ℕ, nat_eq, Bool, true, false, cond, List, [], ◌∷◌, map, get_or, set, Option, Some, None, refl, sym, ap, ◌∙◌, eqb-true, eq-eqb, subst}
use Rattle.std.specs.Prelude.{is_some, if◌then◌else◌}
use Rattle.std.specs.List.{list_any}
use Rattle.std.proofs.lemmas.List.Folds.{list_any-append}
use Rattle.std.proofs.lemmas.List.Elements.{All-map, All-weaker}
use Rattle.site_model.specs.Sound.{AreDistinct}
use Rattle.site_model.specs.declared.decision.Decision.{Decision}
use Rattle.run_meaning.specs.Decisions.{is_among, is_for_problem, problem_sent, sent_by_both, users_sent}
use Rattle.notify_rules.specs.Sent.{user_of, number_of, told_by, taken, noted, noted_so, is_note, IsAt, HaveDistinct}
use Rattle.notify_rules.specs.declared.listeners.Listener.{Listener}
use Rattle.notify_rules.specs.declared.sent_note.SentNote.{SentNote}
use Rattle.notify_rules.proofs.Lists.{one_changed, none_changed, at_within, at_passes}
use Rattle.notify_rules.proofs.Telling.{told_nobody, users_kept}

abbrev note : ℕ → Option ℕ → List Listener → SentNote
note n p ls = record { notification = n; problem = p; listeners = ls }

-- By two decisions.

or_assoc : (a b c : Bool) → ((a || b) || c) ≡ (a || (b || c))
or_assoc true b c = refl
or_assoc false b c = refl

pub among_both : (u : ℕ) (a b : Option (List ℕ)) → is_among u (sent_by_both a b) ≡ (is_among u a || is_among u b)
among_both u None b = refl
among_both u (Some us) None = sym (or_none (list_any (nat_eq u) us))
  where
    or_none : (b : Bool) → (b || false) ≡ b
    or_none true = refl
    or_none false = refl
among_both u (Some us) (Some more) = list_any-append (nat_eq u) us more

both_told : (a b : Option (List ℕ)) (ls : List Listener) → map (told_by b) (map (told_by a) ls) ≡ map (told_by (sent_by_both a b)) ls
both_told a b [] = refl
both_told a b (l ∷ ls) =
    let one : told_by b (told_by a l) ≡ told_by (sent_by_both a b) l =
    ap (λ (t : Bool). record { user = l.user; told = t }) (or_assoc l.told (is_among l.user a) (is_among l.user b) ∙ ap (λ t. l.told || t) (sym (among_both l.user a b))) in
    rw (one, both_told a b ls) refl

both_sent : (a b : Option (List ℕ)) (m : ℕ) (p : Option ℕ) → (if is_some b then Some m else (if is_some a then Some m else p)) ≡ (if is_some (sent_by_both a b) then Some m else p)
both_sent None None m p = refl
both_sent None (Some us) m p = refl
both_sent (Some us) None m p = refl
both_sent (Some us) (Some more) m p = refl

both_noted : (m : ℕ) (a b : Option (List ℕ)) (r : SentNote) → noted_so m b (noted_so m a r) ≡ noted_so m (sent_by_both a b) r
both_noted m a b r = rw (both_sent a b m r.problem, both_told a b r.listeners) refl

all_nobody : (ls : List Listener) → map (told_by None) ls ≡ ls
all_nobody [] = refl
all_nobody (l ∷ ls) = rw (told_nobody l, all_nobody ls) refl

pub noted_none : (m : ℕ) (r : SentNote) → noted_so m None r ≡ r
noted_none m r = ap (note r.notification r.problem) (all_nobody r.listeners)

abbrev sent_in : ℕ → Decision → Option (List ℕ)
sent_in n d = if nat_eq d.notification n && is_for_problem d.kind then users_sent d.outcome else None

both_none : (a : Option (List ℕ)) → sent_by_both a None ≡ a
both_none None = refl
both_none (Some us) = refl

noted_more : (m : ℕ) (d : Decision) (ds : List Decision) (r : SentNote) → noted m ds (noted m (d ∷ []) r) ≡ noted m (d ∷ ds) r
noted_more m d ds r =
    ap (λ a. noted_so m (problem_sent r.notification ds) (noted_so m a r)) (both_none (sent_in r.notification d))
    ∙ both_noted m (sent_in r.notification d) (problem_sent r.notification ds) r

pub all_noted_more : (m : ℕ) (d : Decision) (ds : List Decision) (rs : List SentNote) → map (noted m ds) (map (noted m (d ∷ [])) rs) ≡ map (noted m (d ∷ ds)) rs
all_noted_more m d ds [] = refl
all_noted_more m d ds (r ∷ rs) = rw (noted_more m d ds r, all_noted_more m d ds rs) refl

pub all_noted_none : (m : ℕ) (rs : List SentNote) → map (noted m []) rs ≡ rs
all_noted_none m [] = refl
all_noted_none m (r ∷ rs) = rw (noted_none m r, all_noted_none m rs) refl

-- What stays.

pub numbers_kept : (m : ℕ) (ds : List Decision) (rs : List SentNote) → map number_of (map (noted m ds) rs) ≡ map number_of rs
numbers_kept m ds [] = refl
numbers_kept m ds (r ∷ rs) = ap (λ ns. r.notification ∷ ns) (numbers_kept m ds rs)

pub distinct_kept : (m : ℕ) (ds : List Decision) (rs : List SentNote) → HaveDistinct rs → HaveDistinct (map (noted m ds) rs)
distinct_kept m ds rs h =
    All-map (λ r. AreDistinct (map user_of r.listeners)) (noted m ds) rs
    (All-weaker _ _ (λ r once. subst AreDistinct (sym (users_kept (problem_sent r.notification ds) r.listeners)) once) rs h)

-- One decision.

not_eq : (a b : ℕ) → nat_eq a b ≡ false → b ≢ a
not_eq a b fails same = let holds : nat_eq a b ≡ true = eq-eqb a b (sym same) in absurd cc

module _ (m : ℕ) (d : Decision) where
  other_note : (r : SentNote) → r.notification ≢ d.notification → noted m (d ∷ []) r ≡ r
  other_note r h = by (nat_eq d.notification r.notification) refl
    where
      by : (b : Bool) → nat_eq d.notification r.notification ≡ b → noted_so m (sent_by_both (cond (b && is_for_problem d.kind) (users_sent d.outcome) None) None) r ≡ r
      by true e = absurd (h (sym (eqb-true d.notification r.notification e)))
      by false e = noted_none m r

  pub noted_at : (rs : List SentNote) (p n : ℕ) (e v : SentNote) (us : List ℕ) → d.notification ≡ n → AreDistinct (map number_of rs) → IsAt (is_note n) rs (Some p) →
      Some us ≡ (if is_for_problem d.kind then users_sent d.outcome else None) → v ≡ taken m us (get_or rs p e) → set rs p v ≡ map (noted m (d ∷ [])) rs
  noted_at rs p n e v us named once found sent is =
      let r = get_or rs p e in
      let at : IsAt (is_note d.notification) rs (Some p) = subst (λ (k : ℕ). IsAt (is_note k) rs (Some p)) (sym named) found in
      let same : nat_eq d.notification r.notification ≡ true = at_passes (is_note d.notification) rs p e at in
      let here : problem_sent r.notification (d ∷ []) ≡ Some us =
      both_none (sent_in r.notification d) ∙ ap (λ b. cond (b && is_for_problem d.kind) (users_sent d.outcome) None) same ∙ sym sent in
      let made : v ≡ noted m (d ∷ []) r = is ∙ sym (ap (λ a. noted_so m a r) here) in
      one_changed number_of (noted m (d ∷ [])) d.notification other_note rs p e v once (at_within (is_note d.notification) rs p at) (sym (eqb-true d.notification r.notification same)) made

  pub noted_nowhere : (rs : List SentNote) (n : ℕ) → d.notification ≡ n → IsAt (is_note n) rs None → map (noted m (d ∷ [])) rs ≡ rs
  noted_nowhere rs n named h =
      none_changed number_of (noted m (d ∷ [])) d.notification other_note rs (is_note d.notification) (λ r fails. not_eq d.notification r.notification fails)
      (subst (λ (k : ℕ). IsAt (is_note k) rs None) (sym named) h)

  pub noted_nothing : (rs : List SentNote) → None ≡ (if is_for_problem d.kind then users_sent d.outcome else None) → map (noted m (d ∷ [])) rs ≡ rs
  noted_nothing [] none = refl
  noted_nothing (r ∷ rs) none =
      let sent : sent_in r.notification d ≡ None =
      elim (nat_eq d.notification r.notification) as (λ b. cond (b && is_for_problem d.kind) (users_sent d.outcome) None ≡ None) [ true ↦ sym none | false ↦ refl ] in
      let one : noted m (d ∷ []) r ≡ r = ap (λ a. noted_so m (sent_by_both a None) r) sent ∙ noted_none m r in
      ap (λ x. x ∷ map (noted m (d ∷ [])) rs) one ∙ ap (λ xs. r ∷ xs) (noted_nothing rs none)
