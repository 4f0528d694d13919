-- Whether a read finds the same in a world.
use Rattle.std.proofs.Common.{◌≡◌, List, [], ◌∷◌, Bool, true, false, Some, None, Result, Ok, Err, map, refl, sym, ap, ◌∙◌, subst}
use Rattle.std.specs.Prelude.{IfOk}
use Rattle.std.specs.Bool.{Decides}
use Rattle.site_base.specs.Data.{Data}
use Rattle.eval_meaning.specs.Views.{View, shown, absent, sight, sight_by, object_in, is_absent}
use Rattle.eval_meaning.specs.declared.read.Read.{Read}
use Rattle.task_reads.specs.Looks.{AreSeenIn, IsSeenIn, plain_look}
use Rattle.task_reads.specs.declared.look.Look.{Look}
use Rattle.task_reads.proofs.Telling.{sight_absent, sight_shown}

same_shown : (d e : Data) → shown d ≡ shown e → d ≡ e
same_shown d e h = cc

by_none : (b : Bool) → sight_by None b ≡ absent → b ≡ true
by_none true h = refl
by_none false h = absurd cc

unshown : (b : Bool) (d : Data) → sight_by None b ≡ shown d → ⊥
unshown true d h = absurd cc
unshown false d h = absurd cc

module _ (world : View) (r : Read) where
  lost : object_in r world.objects ≡ None → sight world r ≡ absent → is_absent world r ≡ true
  unfolding sight
  lost h p = by_none (is_absent world r) (sym (ap (λ o. sight_by o (is_absent world r)) h) ∙ p)

  not_shown : (d : Data) → object_in r world.objects ≡ None → sight world r ≡ shown d → ⊥
  unfolding sight
  not_shown d h p = unshown (is_absent world r) d (sym (ap (λ o. sight_by o (is_absent world r)) h) ∙ p)

  both : (d : Data) → shown d ≡ absent → ⊥
  both d h = absurd cc

  pub shown_decides : {E : Type 0} (d e : Data) (res : Result Bool E) → object_in r world.objects ≡ Some d → IfOk res (λ b. Decides b (d ≡ e)) → IfOk res (λ b. Decides b (IsSeenIn world (record { read = r; tree = Some e })))
  shown_decides d e (Ok b) h k = ((λ t. sight_shown world r d h ∙ ap shown (k.0 t)), λ p. k.1 (same_shown d e (sym (sight_shown world r d h) ∙ p)))
  shown_decides d e (Err x) h k = tt

  pub absent_decides : (b : Bool) → object_in r world.objects ≡ None → b ≡ is_absent world r → Decides b (IsSeenIn world (record { read = r; tree = None }))
  absent_decides b h k = ((λ t. sight_absent world r h (sym k ∙ t)), λ p. k ∙ lost h p)

  pub never_absent : (d : Data) → object_in r world.objects ≡ Some d → Decides false (IsSeenIn world (record { read = r; tree = None }))
  never_absent d h = ((λ t. absurd cc), λ p. let never : ⊥ = both d (sym (sight_shown world r d h) ∙ p) in absurd never)

  pub never_shown : (e : Data) → object_in r world.objects ≡ None → Decides false (IsSeenIn world (record { read = r; tree = Some e }))
  never_shown e h = ((λ t. absurd cc), λ p. let never : ⊥ = not_shown e h p in absurd never)

-- ---- one read after another

module _ (world : View) (all : List Look) where
  -- what is left tells of all
  pub record LeftTells (left : List Look) : Type 0 where
    pub there : AreSeenIn world (map plain_look left) → AreSeenIn world (map plain_look all)
    pub back : AreSeenIn world (map plain_look all) → AreSeenIn world (map plain_look left)

  -- at the beginning all are left
  pub all_left : (left : List Look) → left ≡ all → LeftTells left
  all_left left e = record { there = λ h. subst (λ ls. AreSeenIn world (map plain_look ls)) e h; back = λ h. subst (λ ls. AreSeenIn world (map plain_look ls)) (sym e) h }

  -- the first of those that are left is seen, so the others tell
  pub others_left : (left : List Look) (l : Look) (rest : List Look) → left ≡ l ∷ rest → IsSeenIn world (plain_look l) → LeftTells left → LeftTells rest
  others_left left l rest e seen h = record {
    there = λ k. h.there (subst (λ ls. AreSeenIn world (map plain_look ls)) (sym e) (seen, k));
    back = λ k. (subst (λ ls. AreSeenIn world (map plain_look ls)) e (h.back k)).1;
  }

  -- the first isn't seen, so not all are
  pub one_unseen : (left : List Look) (l : Look) (rest : List Look) → left ≡ l ∷ rest → (IsSeenIn world (plain_look l) → ⊥) → LeftTells left → Decides false (AreSeenIn world (map plain_look all))
  one_unseen left l rest e unseen h = ((λ t. absurd cc), λ k. let never : ⊥ = unseen (subst (λ ls. AreSeenIn world (map plain_look ls)) e (h.back k)).0 in absurd never)

  -- none is left
  pub all_seen : (left : List Look) → left ≡ [] → LeftTells left → Decides true (AreSeenIn world (map plain_look all))
  all_seen left e h = ((λ t. h.there (subst (λ ls. AreSeenIn world (map plain_look ls)) (sym e) tt)), λ k. refl)
