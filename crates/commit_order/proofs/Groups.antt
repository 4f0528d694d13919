-- The same groups take an object whatever its number and theirs.
use Rattle.std.proofs.Common.{◌≡◌, ℕ, List, [], ◌∷◌, ◌++◌, map, Bool, true, false, cond, Option, Some, None, refl, sym, ap, ◌∙◌}
use Rattle.std.proofs.lemmas.List.{map-append}
use Rattle.site_base.specs.declared.diag.Diag.{Diag}
use Rattle.site_base.specs.declared.item_no.ItemNo.{ItemNo}
use Rattle.site_model.specs.PlainSite.{PlainObject}
use Rattle.object_types.specs.Names.{type_named}
use Rattle.eval_meaning.specs.Registered.{PlainItem}
use Rattle.eval_meaning.specs.Views.{View}
use Rattle.eval_meaning.specs.States.{State, Outcome, gives, faults, blocked, rule}
use Rattle.commit_meaning.specs.Answers as answer
use Rattle.commit_meaning.specs.Answers.{Answer, diag, answered}
use Rattle.commit_meaning.specs.Starts.{fresh, Trees}
use Rattle.commit_meaning.specs.Conditions.{Verdict, is_taken}
use Rattle.commit_meaning.specs.Groups.{member_names, Taken, none_taken, taken_by, group_run, caught, groups_run, groups_by, member_run, unless_diags, settled, group_members}
use Rattle.commit_order.specs.Unordered.{unordered_number, unordered_item, unordered_object, unordered_diag, unordered_answer}
use Rattle.commit_order.proofs.Numbers.{given, next, then_given, answers_given}

abbrev unordered_taken : Taken → Taken
unordered_taken t = record t { diags = map unordered_diag t.diags }

taken_unordered : (n : List ℕ) (v : Verdict) (t : Taken) → taken_by n v (unordered_taken t) ≡ unordered_taken (taken_by n v t)
taken_unordered n v t = by (is_taken v)
  where
    by : (b : Bool) → cond b (record (unordered_taken t) { names = t.names ++ n ∷ [] }) (unordered_taken t) ≡ unordered_taken (cond b (record t { names = t.names ++ n ∷ [] }) t)
    by true = refl
    by false = refl

module _ (view : View) where
  catches : (k : ItemNo) (g : PlainItem) (t : Taken) (x : Outcome Verdict) → caught view (unordered_number k) (unordered_item g) (unordered_taken t) x ≡ given unordered_taken (caught view k g t x)
  catches k g t (gives v s) = ap (λ u. gives u (fresh view.store rule s.reads)) (taken_unordered g.name v t)
  catches k g t (faults l j x rs) = ap (λ ds. gives (record t { diags = ds }) (fresh view.store rule rs)) (sym (map-append unordered_diag t.diags (diag k l j x ∷ [])))
  catches k g t (blocked r rs) = refl

  groups : (k : ItemNo) (ts : Trees) (gs : List PlainItem) (t : Taken) (s : State) → groups_run view (unordered_number k) ts (map unordered_item gs) (unordered_taken t) s ≡ given unordered_taken (groups_run view k ts gs t s)
  groups k ts [] t s = refl
  groups k ts (g ∷ gs) t s =
      next unordered_taken unordered_taken (caught view k g t (group_run view ts g s)) (caught view (unordered_number k) (unordered_item g) (unordered_taken t) (group_run view ts (unordered_item g) s)) _ _ (catches k g t (group_run view ts g s))
      (λ t1 s1. groups k ts gs t1 s1)

  by_names : (k : ItemNo) (gs : List PlainItem) (o : Option Trees) (s : State) → groups_by view (unordered_number k) (map unordered_item gs) o s ≡ given unordered_taken (groups_by view k gs o s)
  by_names k gs (Some ts) s = groups k ts gs none_taken s
  by_names k gs None s = refl

  runs : (gs : List PlainItem) (o : PlainObject) → member_run view (map unordered_item gs) (unordered_object o) ≡ given unordered_taken (member_run view gs o)
  unfolding member_run
  runs gs o = then_given unordered_taken (member_names view (type_named o.kind) o.tree (fresh view.store rule [])) _ _ (λ ts s. by_names o.number gs ts s)

  -- ---- what comes of it

  unless_unordered : (t : Taken) (ds : List Diag) → unless_diags (unordered_taken t) (map unordered_diag ds) ≡ unordered_answer (λ ns. ns) (unless_diags t ds)
  unless_unordered t [] = refl
  unless_unordered t (d ∷ ds) = refl

  settles : (a : Answer Taken) → settled (unordered_answer unordered_taken a) ≡ unordered_answer (λ ns. ns) (settled a)
  settles (answer.made t) = unless_unordered t t.diags
  settles (answer.diagnosed ds) = refl
  settles (answer.blocked r) = refl

  pub groups_unordered : (gs : List PlainItem) (o : PlainObject) → group_members view (map unordered_item gs) (unordered_object o) ≡ unordered_answer (λ ns. ns) (group_members view gs o)
  unfolding group_members
  groups_unordered gs o =
      ap (λ x. settled (answered (unordered_number o.number) x)) (runs gs o)
      ∙ ap settled (answers_given unordered_taken o.number (member_run view gs o))
      ∙ settles (answered o.number (member_run view gs o))
