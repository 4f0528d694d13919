-- A member that is kept is taken by the groups that took it.
use Rattle.std.proofs.Common.{◌≡◌, ℕ, List, [], ◌∷◌, map, sym, ap, ◌∙◌, subst}
use Rattle.site_base.specs.declared.diag.Diag.{Diag}
use Rattle.site_base.specs.declared.item_no.ItemNo.{ItemNo}
use Rattle.site_model.specs.PlainSite.{PlainObject}
use Rattle.eval_meaning.specs.Load.{Loaded}
use Rattle.eval_meaning.specs.Registered.{PlainItem}
use Rattle.eval_meaning.specs.States.{Outcome, gives, faults, blocked}
use Rattle.eval_meaning.specs.Views.{View}
use Rattle.eval_meaning.specs.declared.read.Read.{Read}
use Rattle.commit_meaning.specs.Answers as answer
use Rattle.commit_meaning.specs.Answers.{Answer, answered, made, diagnosed}
use Rattle.commit_meaning.specs.Groups.{Taken, group_members, member_run, settled, unless_diags}
use Rattle.commit_meaning.specs.Staying.{Stays}
use Rattle.commit_meaning.specs.Worlds.{world_view}
use Rattle.commit_meaning.proofs.ViewAnswers.{answers_stay}
use Rattle.commit_order.proofs.Answers.{answers_alike}
use Rattle.commit_places.specs.MovedAnswers.{moved_answer, moved_object}
use Rattle.commit_places.proofs.Groups.{groups_moved}
use Rattle.place_laws.specs.Alike.{nowhere, AlikeViews}
use Rattle.place_laws.specs.MovedStates.{moved_view}
use Rattle.kept_tasks.specs.Bare.{Agree, Member, bare_group, bare_member}
use Rattle.kept_tasks.specs.Kept.{IsKeptMember, groups_for, standing, standing_view}
use Rattle.kept_tasks.specs.Reads.{AreReadsOf, IsAnswered, SeenAlike, view_of_reads}
use Rattle.kept_tasks.proofs.Carried.{carried, moved_read, read_in}
use Rattle.kept_tasks.proofs.Groups.{group_of, groups_alone, members_alike, members_read}
use Rattle.kept_tasks.proofs.Items.{made_of}
use Rattle.kept_tasks.proofs.Numbers.{Speaks}
use Rattle.kept_tasks.proofs.Reading.{answered_by_reads, made_before, made_behind, unblocked}
use Rattle.kept_tasks.proofs.Seen.{is_part, unruled, unruled_looks, views_alike}
use Rattle.kept_tasks.proofs.Told.{member_right}

module _ (load : Loaded) (os : List PlainObject) (rs : List Read) where
  abbrev part : View
  part = view_of_reads load (world_view load os) rs

  pub member_stays : (gs : List PlainItem) (o : PlainObject) → Stays (group_members part gs o) (group_members (world_view load os) gs o)
  member_stays gs o =
      subst (Stays (group_members part gs o)) ((answers_alike (unruled (world_view load os)) (world_view load os) (unruled_looks (world_view load os))).members gs o)
      ((answers_stay part (unruled (world_view load os)) (is_part load os rs)).members gs o)

-- ---- what is told isn't empty

unless_speaks : (t : Taken) (ds : List Diag) → Speaks (unless_diags t ds)
unless_speaks t [] = tt
unless_speaks t (d ∷ ds) = tt

settled_speaks : (n : ItemNo) (x : Outcome Taken) → Speaks (settled (answered n x))
settled_speaks n (gives t s) = unless_speaks t t.diags
settled_speaks n (faults l k x rs) = tt
settled_speaks n (blocked r rs) = tt

member_speaks : (view : View) (gs : List PlainItem) (o : PlainObject) → Speaks (group_members view gs o)
unfolding group_members
member_speaks view gs o = settled_speaks o.number (member_run view gs o)

-- ---- groups that are alike

back : (ns : List (List ℕ)) (a : Answer (List (List ℕ))) → moved_answer nowhere (λ xs. xs) a ≡ made ns → a ≡ made ns
back ns (made xs) h = h
back ns (diagnosed ds) h = absurd cc
back ns (answer.blocked r) h = absurd cc

alike_made : (view other : View) (gs hs : List PlainItem) (o p : PlainObject) (ns : List (List ℕ)) → AlikeViews view other → map bare_group gs ≡ map bare_group hs → bare_member o ≡ bare_member p
    → group_members view gs o ≡ made ns → group_members other hs p ≡ made ns
alike_made view other gs hs o p ns views groups members h =
    let there : group_members (moved_view nowhere view) (map group_of (map bare_group gs)) (moved_object nowhere o) ≡ made ns =
    sym (groups_alone (moved_view nowhere view) gs (moved_object nowhere o)) ∙ groups_moved nowhere view gs o ∙ ap (moved_answer nowhere (λ xs. xs)) h in
    let here : group_members (moved_view nowhere other) (map group_of (map bare_group hs)) (moved_object nowhere o) ≡ made ns =
    ap (λ v. group_members v (map group_of (map bare_group hs)) (moved_object nowhere o)) (sym views) ∙ ap (λ ks. group_members (moved_view nowhere view) (map group_of ks) (moved_object nowhere o)) (sym groups) ∙ there in
    let new : group_members (moved_view nowhere other) (map group_of (map bare_group hs)) (moved_object nowhere p) ≡ made ns =
    members_alike (moved_view nowhere other) (map group_of (map bare_group hs)) (moved_object nowhere o) (moved_object nowhere p) ns (ap (λ (x : Member). x.kind) members) (ap (λ (x : Member). x.tree) members) here in
    back ns (group_members other hs p) (sym (groups_moved nowhere other hs p) ∙ groups_alone (moved_view nowhere other) hs (moved_object nowhere p) ∙ new)

alike_read : (view other : View) (gs hs : List PlainItem) (o p : PlainObject) → AlikeViews view other → map bare_group gs ≡ map bare_group hs → bare_member o ≡ bare_member p
    → read_in (group_members view gs o) ≡ read_in (group_members other hs p)
alike_read view other gs hs o p views groups members =
    let there : read_in (group_members (moved_view nowhere view) (map group_of (map bare_group gs)) (moved_object nowhere o)) ≡ read_in (group_members view gs o) =
    ap read_in (sym (groups_alone (moved_view nowhere view) gs (moved_object nowhere o)) ∙ groups_moved nowhere view gs o) ∙ moved_read (λ xs. xs) (group_members view gs o) in
    let across : read_in (group_members (moved_view nowhere other) (map group_of (map bare_group hs)) (moved_object nowhere o)) ≡ read_in (group_members (moved_view nowhere view) (map group_of (map bare_group gs)) (moved_object nowhere o)) =
    ap (λ v. read_in (group_members v (map group_of (map bare_group hs)) (moved_object nowhere o))) (sym views) ∙ ap (λ ks. read_in (group_members (moved_view nowhere view) (map group_of ks) (moved_object nowhere o))) (sym groups) in
    let here : read_in (group_members (moved_view nowhere other) (map group_of (map bare_group hs)) (moved_object nowhere p)) ≡ read_in (group_members (moved_view nowhere other) (map group_of (map bare_group hs)) (moved_object nowhere o)) =
    members_read (moved_view nowhere other) (map group_of (map bare_group hs)) (moved_object nowhere o) (moved_object nowhere p) (ap (λ (x : Member). x.kind) members) (ap (λ (x : Member). x.tree) members) in
    let new : read_in (group_members (moved_view nowhere other) (map group_of (map bare_group hs)) (moved_object nowhere p)) ≡ read_in (group_members other hs p) =
    ap read_in (sym (groups_alone (moved_view nowhere other) hs (moved_object nowhere p)) ∙ groups_moved nowhere other hs p) ∙ moved_read (λ xs. xs) (group_members other hs p) in
    sym there ∙ sym across ∙ sym here ∙ new

-- ---- members that are kept

module _ (old new : Loaded) (os ps : List PlainObject) (agree : Agree old new) (gs hs : List PlainItem) (o p : PlainObject) (same_groups : map bare_group gs ≡ map bare_group hs) (same : bare_member o ≡ bare_member p) where
  abbrev world : View
  world = world_view old os

  abbrev other : View
  other = world_view new ps

  same_read : (rs : List Read) → SeenAlike world other rs → read_in (group_members (view_of_reads old world rs) gs o) ≡ read_in (group_members (view_of_reads new other rs) hs p)
  same_read rs seen = alike_read (view_of_reads old world rs) (view_of_reads new other rs) gs hs o p (views_alike old new world other rs agree seen) same_groups same

  -- the groups of members that are alike have the same reads, where these find the same
  pub member_reads : (rs : List Read) → AreReadsOf (λ view. group_members view gs o) old os rs → SeenAlike world other rs → AreReadsOf (λ view. group_members view hs p) new ps rs
  member_reads rs are seen = carried world other (λ qs. group_members (view_of_reads old world qs) gs o) (λ qs. group_members (view_of_reads new other qs) hs p) same_read rs seen are

  -- and those that took the one take the other
  pub member_follows : (rs : List Read) (ns : List (List ℕ)) → AreReadsOf (λ view. group_members view gs o) old os rs → SeenAlike world other rs → group_members world gs o ≡ made ns → group_members other hs p ≡ made ns
  member_follows rs ns are seen e =
      let old_part = view_of_reads old world rs in
      let new_part = view_of_reads new other rs in
      let by_reads : IsAnswered (group_members old_part gs o) = answered_by_reads (λ view. group_members view gs o) old os rs are in
      let before : group_members old_part gs o ≡ made ns = made_before (group_members old_part gs o) (group_members world gs o) ns by_reads (member_stays old os rs gs o) e in
      made_behind (group_members new_part hs p) (group_members other hs p) ns (member_stays new ps rs hs p)
      (alike_made old_part new_part gs hs o p ns (views_alike old new world other rs agree seen) same_groups same before)

module _ (phases : List PlainObject → List (List Diag)) (old new : Loaded) (w : ℕ) (p : PlainObject) (kept : IsKeptMember phases old new w p) where
  abbrev reads : List Read
  reads = kept.reads.reads

  abbrev old_part : View
  old_part = view_of_reads old (standing_view old w) reads

  abbrev groups : List PlainItem
  groups = groups_for old w kept.member

  made_old : (ns : List (List ℕ)) × (group_members (standing_view old w) groups kept.member ≡ made ns)
  made_old =
      made_of (group_members (standing_view old w) groups kept.member) (member_speaks (standing_view old w) groups kept.member)
      (unblocked (group_members old_part groups kept.member) (group_members (standing_view old w) groups kept.member) (answered_by_reads (λ view. group_members view groups kept.member) old (standing old w) reads kept.reads.are) (member_stays old (standing old w) reads groups kept.member))
      (member_right phases old w kept.wave kept.gave kept.member kept.had)

  -- the groups that take it are those that took it
  pub member_kept : (ns : List (List ℕ)) × (group_members (standing_view old w) groups kept.member ≡ made ns) × (group_members (standing_view new w) (groups_for new w p) p ≡ made ns)
  member_kept =
      (made_old.0, made_old.1, member_follows old new (standing old w) (standing new w) kept.agree groups (groups_for new w p) kept.member p kept.groups kept.same reads made_old.0 kept.reads.are kept.reads.alike made_old.1)
