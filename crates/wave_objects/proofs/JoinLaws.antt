-- The groups of lists are those of all groups, and each of them was named.
use Rattle.std.proofs.Common.{◌≡◌, ◌==◌, ℕ, List, [], ◌∷◌, ◌++◌, length, map, true, Option, Some, None, refl, sym, ap, ap₂, ◌∙◌, subst}
use Rattle.std.specs.List.{AllZip, flat_map}
use Rattle.std.proofs.Math.Dec.{eqb-suc-zero}
use Rattle.std.proofs.lemmas.Bool.{false≢true}
use Rattle.site_base.specs.declared.diag.Diag.{Diag}
use Rattle.site_model.specs.PlainSite.{PlainObject, object_view}
use Rattle.site_model.specs.declared.object.Object.{Object}
use Rattle.object_types.specs.Names.{type_named}
use Rattle.object_types.specs.declared.object_type.ObjectType.{ObjectType}
use Rattle.object_types.specs.declared.object_type.ObjectType.TheVariants as object
use Rattle.eval_meaning.specs.Registered.{PlainItem}
use Rattle.eval_meaning.specs.Views.{View}
use Rattle.eval_work.specs.declared.item.Item.{Item}
use Rattle.std.specs.Borrow.{Bor}
use Rattle.commit_meaning.specs.Answers.{Answer, diags_in, made}
use Rattle.commit_meaning.specs.Groups.{group_members, grown}
use Rattle.commit_meaning.specs.Waves.{group_type, groups_of}
use Rattle.group_rules.specs.Plain.{group_answer, plain_group}
use Rattle.group_rules.specs.declared.group_answer.GroupAnswer.{GroupAnswer}
use Rattle.wave_objects.specs.Members.{AreLists, IsMemberAnswer, grown_by, list_for, members_at, members_in}
use Rattle.wave_objects.specs.declared.joining.GroupLists.{GroupLists}
use Rattle.wave_objects.proofs.NoGroups.{IsAsBefore, no_groups, same_tree}

pub empty : {A : Type 0} (xs : List A) → (length xs == 0) ≡ true → xs ≡ []
empty [] e = refl
empty (x ∷ xs) e = absurd (false≢true (sym (eqb-suc-zero (length xs)) ∙ e))

-- where there are none, the object stays as it is
pub none_joined : (view : View) (l : GroupLists) (o : PlainObject) → list_for l (type_named o.kind) ≡ [] → IsAsBefore o (members_in view l o)
none_joined view l o e = subst (λ (gs : List (Bor Item)). IsAsBefore o (group_members view (map plain_group gs) o)) (sym e) (no_groups view o)

pub no_names : (view : View) (l : GroupLists) (o : PlainObject) (ns : List (List ℕ)) → ns ≡ [] → list_for l (type_named o.kind) ≡ [] → IsMemberAnswer view l o (made ns)
no_names view l o ns none e =
    let before = none_joined view l o e in
    record { object = ap (λ xs. grown o (made xs)) none ∙ (same_tree o ∙ sym before.same); faults = sym before.quiet }

pub by_members : (view : View) (l : GroupLists) (o : PlainObject) (a : Answer (List (List ℕ))) → a ≡ members_in view l o → IsMemberAnswer view l o a
by_members view l o a e = record { object = ap (grown o) e; faults = ap diags_in e }

-- ---- all objects

module _ (gs : List PlainItem) (l : GroupLists) (are : AreLists gs l) where
  same_groups : (k : Option ObjectType) → map plain_group (list_for l k) ≡ groups_of (group_type k) gs
  same_groups (Some object.Host) = are.hosts
  same_groups (Some object.Service) = are.services
  same_groups (Some object.User) = are.users
  same_groups (Some object.HostGroup) = ap (map plain_group) are.none
  same_groups (Some object.ServiceGroup) = ap (map plain_group) are.none
  same_groups (Some object.UserGroup) = ap (map plain_group) are.none
  same_groups (Some object.CheckCommand) = ap (map plain_group) are.none
  same_groups (Some object.NotificationCommand) = ap (map plain_group) are.none
  same_groups (Some object.EventCommand) = ap (map plain_group) are.none
  same_groups (Some object.Notification) = ap (map plain_group) are.none
  same_groups (Some object.Dependency) = ap (map plain_group) are.none
  same_groups (Some object.ScheduledDowntime) = ap (map plain_group) are.none
  same_groups (Some object.TimePeriod) = ap (map plain_group) are.none
  same_groups (Some object.Endpoint) = ap (map plain_group) are.none
  same_groups (Some object.Zone) = ap (map plain_group) are.none
  same_groups (Some object.CheckerComponent) = ap (map plain_group) are.none
  same_groups (Some object.NotificationComponent) = ap (map plain_group) are.none
  same_groups (Some object.FileLogger) = ap (map plain_group) are.none
  same_groups (Some object.SyslogLogger) = ap (map plain_group) are.none
  same_groups (Some object.ApiListener) = ap (map plain_group) are.none
  same_groups (Some object.ApiUser) = ap (map plain_group) are.none
  same_groups (Some object.IcingaApplication) = ap (map plain_group) are.none
  same_groups None = ap (map plain_group) are.none

  module _ (view : View) where
    same_members : (o : PlainObject) → members_in view l o ≡ members_at view gs o
    same_members o = ap (λ xs. group_members view xs o) (same_groups (type_named o.kind))

    abbrev AreMembers : List Object → List GroupAnswer → Type 0
    AreMembers os answers = AllZip (λ o a. IsMemberAnswer view l (object_view o) (group_answer a)) os answers

    pub all_grown : (os : List Object) (answers : List GroupAnswer) → AreMembers os answers → grown_by (map group_answer answers) (map object_view os) ≡ map (λ o. grown o (members_at view gs o)) (map object_view os)
    all_grown [] [] h = refl
    all_grown [] (a ∷ answers) h = absurd h
    all_grown (o ∷ os) [] h = absurd h
    all_grown (o ∷ os) (a ∷ answers) h =
        ap₂ (λ (x : PlainObject) xs. x ∷ xs) (h.0.object ∙ ap (grown (object_view o)) (same_members (object_view o))) (all_grown os answers h.1)

    pub all_told : (os : List Object) (answers : List GroupAnswer) → AreMembers os answers → flat_map diags_in (map group_answer answers) ≡ flat_map (λ o. diags_in (members_at view gs o)) (map object_view os)
    all_told [] [] h = refl
    all_told [] (a ∷ answers) h = absurd h
    all_told (o ∷ os) [] h = absurd h
    all_told (o ∷ os) (a ∷ answers) h = ap₂ (λ (xs ys : List Diag). xs ++ ys) (h.0.faults ∙ ap diags_in (same_members (object_view o))) (all_told os answers h.1)
