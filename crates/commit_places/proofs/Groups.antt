-- Which groups take an object, at other places.
use Rattle.std.proofs.Common.{◌≡◌, ℕ, List, [], ◌∷◌, ◌++◌, map, Bool, true, false, cond, Option, Some, None, refl, sym, ap, ◌∙◌}
use Rattle.std.proofs.lemmas.List.{map-append}
use Rattle.site_base.specs.Data.{Data}
use Rattle.site_base.specs.declared.diag.Diag.{Diag}
use Rattle.site_base.specs.declared.item_no.ItemNo.{ItemNo}
use Rattle.site_base.specs.declared.place.Place.{Place}
use Rattle.site_model.specs.PlainSite.{PlainObject}
use Rattle.object_types.specs.Names.{type_named}
use Rattle.object_types.specs.declared.attribute.Attribute.TheVariants as attribute
use Rattle.object_types.specs.declared.object_type.ObjectType.{ObjectType}
use Rattle.object_types.specs.declared.object_type.ObjectType.TheVariants as object
use Rattle.eval_meaning.specs.Registered.{PlainItem}
use Rattle.eval_meaning.specs.Views.{View, Sight, shown, absent, undecided, sight, host}
use Rattle.eval_meaning.specs.States.{State, Outcome, gives, faults, blocked, rule}
use Rattle.eval_meaning.specs.Objects.{with_read}
use Rattle.eval_meaning.specs.declared.read.Read.{Read}
use Rattle.commit_meaning.specs.Answers as answer
use Rattle.commit_meaning.specs.Answers.{Answer, diag, answered}
use Rattle.commit_meaning.specs.Starts.{Trees, fresh, values_of}
use Rattle.commit_meaning.specs.Names.{text_of}
use Rattle.commit_meaning.specs.Conditions.{Verdict, no_verdict, is_taken}
use Rattle.commit_meaning.specs.Rules.{in_rule}
use Rattle.commit_meaning.specs.Groups.{host_seen, service_names, service_seen, member_names, Taken, none_taken, taken_by, group_run, caught, groups_run, groups_by, member_run, unless_diags, settled, group_members}
use Rattle.place_laws.specs.MovedStates.{moved_item, moved_store, moved_view}
use Rattle.place_laws.proofs.Moving.{Moving, Comes, P, same, moved, here, binds, steps, gives_after, comes}
use Rattle.place_laws.proofs.Moved.{same_text}
use Rattle.commit_places.specs.MovedAnswers.{moved_diag, moved_object, moved_answer}
use Rattle.commit_places.proofs.Starts.{m, world, answers, values_made, judges}

module _ (move : Place → Place) (view : View) where
  abbrev c : Moving
  c = m move view

  -- ---- what stands for an object

  hosts : (r : Read) (o : Sight) (s : State) → P c same s (host_seen r o s) (host_seen r o (moved c s))
  unfolding P
  hosts r (shown d) s = gives_after c same (Some d) s (with_read r s) refl
  hosts r absent s = gives_after c same None s (with_read r s) refl
  hosts r undecided s = λ h. refl

  services : (d : Data) (r : Read) (s : State) → P c same s (service_seen view d r s) (service_seen (world move view) d r (moved c s))
  unfolding sight
  services d r s = binds c same same s (host_seen r (sight view r) s) (host_seen r (sight view r) (moved c s)) _ _ (hosts r (sight view r) s) (λ o s1. here c same (service_names d o) s1)

  names : (o : Option ObjectType) (d : Data) (s : State) → P c same s (member_names view o d s) (member_names (world move view) o d (moved c s))
  names (Some object.Host) d s = here c same _ s
  names (Some object.User) d s = here c same _ s
  names (Some object.Service) d s = services d (host (text_of d attribute.HostName)) s
  names o d s = here c same None s

  -- ---- one group after another

  abbrev moved_taken : Taken → Taken
  moved_taken t = record t { diags = map (moved_diag move) t.diags }

  judges_group : (ts : Trees) (g : PlainItem) (s : State) → P c same s (group_run view ts g s) (group_run (world move view) ts (moved_item move g) (moved c s))
  judges_group ts g s =
      binds c same same s (values_of ts [] s) (values_of ts [] (moved c s)) _ _ (values_made move view ts [] s)
      (λ bound s1. let u : State = in_rule g.captured bound s1 in steps c same s1 u _ _ refl (judges move view g.body no_verdict u))

  taken_moved : (n : List ℕ) (v : Verdict) (t : Taken) → taken_by n v (moved_taken t) ≡ moved_taken (taken_by n v t)
  taken_moved n v t = by (is_taken v)
    where
      by : (b : Bool) → cond b (record (moved_taken t) { names = t.names ++ n ∷ [] }) (moved_taken t) ≡ moved_taken (cond b (record t { names = t.names ++ n ∷ [] }) t)
      by true = refl
      by false = refl

  catches_one : (k : ItemNo) (g : PlainItem) (t : Taken) (x y : Outcome Verdict) → Comes c same x y → Comes c moved_taken (caught view k g t x) (caught (world move view) k (moved_item move g) (moved_taken t) y)
  catches_one k g t (gives v s) y h =
      (ap (caught (world move view) k (moved_item move g) (moved_taken t)) h.0 ∙ ap (λ u. gives u (fresh (moved_store move view.store) rule s.reads)) (taken_moved g.name v t), refl)
  catches_one k g t (faults l j x rs) y h = (
    ap (caught (world move view) k (moved_item move g) (moved_taken t)) h.1
        ∙ ap (λ u. gives (record (moved_taken t) { diags = map (moved_diag move) t.diags ++ diag k (move l) j u ∷ [] }) (fresh (moved_store move view.store) rule rs)) (same_text move view j x h.0 h.2)
        ∙ ap (λ ds. gives (record (moved_taken t) { diags = ds }) (fresh (moved_store move view.store) rule rs)) (sym (map-append (moved_diag move) t.diags (diag k l j x ∷ []))),
    refl,
  )
  catches_one k g t (blocked r rs) y h = ap (caught (world move view) k (moved_item move g) (moved_taken t)) h

  catches : (k : ItemNo) (ts : Trees) (g : PlainItem) (t : Taken) (s : State) → P c moved_taken s (caught view k g t (group_run view ts g s)) (caught (world move view) k (moved_item move g) (moved_taken t) (group_run (world move view) ts (moved_item move g) (moved c s)))
  unfolding P
  catches k ts g t s = λ h. catches_one k g t (group_run view ts g s) (group_run (world move view) ts (moved_item move g) (moved c s)) (judges_group ts g s h)

  groups : (k : ItemNo) (ts : Trees) (gs : List PlainItem) (t : Taken) (s : State) → P c moved_taken s (groups_run view k ts gs t s) (groups_run (world move view) k ts (map (moved_item move) gs) (moved_taken t) (moved c s))
  groups k ts [] t s = here c moved_taken t s
  groups k ts (g ∷ gs) t s =
      binds c moved_taken moved_taken s (caught view k g t (group_run view ts g s)) (caught (world move view) k (moved_item move g) (moved_taken t) (group_run (world move view) ts (moved_item move g) (moved c s))) _ _ (catches k ts g t s)
      (λ t1 s1. groups k ts gs t1 s1)

  by_names : (k : ItemNo) (gs : List PlainItem) (o : Option Trees) (s : State) → P c moved_taken s (groups_by view k gs o s) (groups_by (world move view) k (map (moved_item move) gs) o (moved c s))
  by_names k gs (Some ts) s = groups k ts gs none_taken s
  by_names k gs None s = here c moved_taken none_taken s

  start : State
  start = fresh view.store rule []

  runs : (gs : List PlainItem) (o : PlainObject) → P c moved_taken start (member_run view gs o) (member_run (world move view) (map (moved_item move) gs) (moved_object move o))
  unfolding member_run start
  runs gs o = binds c same moved_taken start (member_names view (type_named o.kind) o.tree start) (member_names (world move view) (type_named o.kind) o.tree (moved c start)) _ _ (names (type_named o.kind) o.tree start) (λ ts s. by_names o.number gs ts s)

  -- ---- what comes of it

  unless_moved : (t : Taken) (ds : List Diag) → unless_diags (moved_taken t) (map (moved_diag move) ds) ≡ moved_answer move (λ ns. ns) (unless_diags t ds)
  unless_moved t [] = refl
  unless_moved t (d ∷ ds) = refl

  settles : (a : Answer Taken) → settled (moved_answer move moved_taken a) ≡ moved_answer move (λ ns. ns) (settled a)
  settles (answer.made t) = unless_moved t t.diags
  settles (answer.diagnosed ds) = refl
  settles (answer.blocked r) = refl

  pub groups_moved : (gs : List PlainItem) (o : PlainObject) → group_members (moved_view move view) (map (moved_item move) gs) (moved_object move o) ≡ moved_answer move (λ ns. ns) (group_members view gs o)
  unfolding group_members start
  groups_moved gs o =
      ap settled (answers move view moved_taken o.number (member_run view gs o) (member_run (world move view) (map (moved_item move) gs) (moved_object move o)) (comes c moved_taken start _ _ refl (runs gs o)))
      ∙ settles (answered o.number (member_run view gs o))
