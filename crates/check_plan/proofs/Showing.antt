-- The entries of a round tell what their checkable shows.
use Rattle.std.proofs.Common.{◌≡◌, ℕ, ◌+◌, List, [], ◌∷◌, ◌++◌, length, take, slice_get, Some, refl, sym, ap, ◌∙◌, subst, append_assoc, take_at}
use Rattle.std.proofs.lemmas.List.{append-nil}
use Rattle.checkable_core.specs.Contents.{check_at, check_or}
use Rattle.checkable_core.proofs.Kept.{shown_more}
use Rattle.run_meaning.specs.Acts.{Act, Rules, Seen, entry_of, is_taken, noted}
use Rattle.run_meaning.specs.Rounds.{IsRound, all_seen, behind}
use Rattle.run_meaning.specs.Turns.{Asked, Histories, of_index}
use Rattle.run_meaning.specs.View.{view_of}
use Rattle.run_meaning.proofs.Lists.{get_at}
use Rattle.site_model.specs.PlainSite.{PlainCheck}
use Rattle.site_model.specs.declared.entry.Entry.{Entry}
use Rattle.site_model.specs.declared.view.View.{View}
use Rattle.check_plan.specs.Shown.{AreAllShown, AreShown}

module _ (b : Rules) (k : ℕ) (c : PlainCheck) (h : List Entry) (seen : List Seen) (a : Act) where
  abbrev made : Entry
  made = entry_of b k c h seen a

  abbrev told : Entry
  told = noted c (length h + 1) (is_taken b.is_live c h a.moment a.event) a

  same_view : view_of c (h ++ made ∷ []) ≡ view_of c (h ++ told ∷ [])
  same_view = shown_more c h made ∙ sym (shown_more c h told)

  pub shows_state : (e : Entry) → e ≡ made → (view_of c (h ++ e ∷ [])).state ≡ e.state
  shows_state e is = subst (λ (x : Entry). (view_of c (h ++ x ∷ [])).state ≡ x.state) (sym is) (ap (λ (v : View). v.state) same_view)

  pub shows_hard : (e : Entry) → e ≡ made → (view_of c (h ++ e ∷ [])).hard ≡ e.hard
  shows_hard e is = subst (λ (x : Entry). (view_of c (h ++ x ∷ [])).hard ≡ x.hard) (sym is) (ap (λ (v : View). v.hard) same_view)

module _ (b : Rules) (moment : ℕ) (before round : Histories) (events : List (List Asked)) (is : IsRound b moment before events round) (k : ℕ) where
  shown_from : (done es : List Entry) → of_index k round ≡ done ++ es → AreShown (check_at b.site k) (of_index k before ++ done) es
  shown_from done [] all = tt
  shown_from done (e ∷ es) all =
      let h = of_index k before ++ done in
      let at : slice_get (of_index k round) (length done) ≡ Some e = ap (λ xs. slice_get xs (length done)) all ∙ get_at done es e in
      let m = is.made k (length done) e at in
      let front : of_index k before ++ take (length done) (of_index k round) ≡ h = ap (λ xs. of_index k before ++ take (length done) xs) all ∙ ap (λ xs. of_index k before ++ xs) (take_at done (e ∷ es) (length done) refl) in
      let own : m.check ≡ check_at b.site k = sym (ap check_or m.is) in
      let seen = seen_of e in
      let act = act_of e in
      let made : e ≡ entry_of b k (check_at b.site k) h seen act = m.made ∙ ap (λ c. entry_of b k c (of_index k before ++ take (length done) (of_index k round)) seen act) own ∙ ap (λ hs. entry_of b k (check_at b.site k) hs seen act) front in (
        shows_state b k (check_at b.site k) h seen act e made,
        shows_hard b k (check_at b.site k) h seen act e made,
        subst (λ hs. AreShown (check_at b.site k) hs es) (sym (append_assoc (of_index k before) done (e ∷ [])))
            (shown_from (done ++ e ∷ []) es (all ∙ sym (append_assoc done (e ∷ []) es))),
      )
    where
      seen_of : Entry → List Seen
      seen_of e = all_seen b.site (behind before round) e.sights

      act_of : Entry → Act
      act_of e = record { caller = e.caller; moment = moment; event = e.event; sights = e.sights }

  shown_here : AreShown (check_at b.site k) (of_index k before) (of_index k round)
  shown_here = subst (λ h. AreShown (check_at b.site k) h (of_index k round)) (append-nil (of_index k before)) (shown_from [] (of_index k round) refl)

pub all_shown : (b : Rules) (moment : ℕ) (before round : Histories) (events : List (List Asked)) → IsRound b moment before events round → AreAllShown b.site before round
all_shown b moment before round events is k = shown_here b moment before round events is k
