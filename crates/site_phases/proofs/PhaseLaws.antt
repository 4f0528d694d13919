-- Phases one after another.
use Rattle.std.proofs.Common.{◌≡◌, ℕ, ◌==◌, ◌<◌, ◌^◌, ◌-◌, Bool, true, false, List, [], ◌∷◌, length, map, refl, sym, ap, ◌∙◌, subst, arith}
use Rattle.std.proofs.Math.Dec.{eqb-suc-zero}
use Rattle.std.specs.Ordering.{nat_cmp, ordering_then}
use Rattle.std.specs.declared.cmp.Ordering.{Ordering}
use Rattle.std.specs.declared.cmp.Ordering.TheVariants.{Less, Equal, Greater}
use Rattle.std.specs.List.Sorted.{IsSortedByKey, IsStableByKey}
use Rattle.site_base.specs.Order.{by_fields}
use Rattle.site_base.specs.declared.diag.Diag.{Diag}
use Rattle.site_base.specs.declared.item_no.ItemNo.{ItemNo}
use Rattle.conf_check.specs.Ordering.{IsByNumber, number_cmp}
use Rattle.commit_meaning.specs.Commits.{Committed, first_told, refused, unless_told}
use Rattle.commit_meaning.specs.Orders.{by_number}
use Rattle.commit_meaning.specs.Waves.{diag_number}
use Rattle.commit_meaning.proofs.OneOrder.{only_by_number}
use Rattle.std.specs.Bool.{Decides}
use Rattle.site_model.specs.PlainSite.{PlainObject, PlainSite, object_view}
use Rattle.site_model.specs.declared.object.Object.{Object}
use Rattle.site_model.specs.Sound.{IsSound}
use Rattle.conf_check.specs.Duplicates.{duplicate_faults}
use Rattle.conf_check.specs.References.{reference_faults}
use Rattle.typed_site.specs.TypedSite.{typed_site}
use Rattle.site_phases.specs.Constants.{AreBadBytes, PlainGlobals, constant_faults, settings_of}
use Rattle.site_phases.specs.CycleFaults.{cycle_faults, turning}
use Rattle.site_phases.specs.Phases.{IfSite, IsGiven, IsReady, last_part, site_made}
use Rattle.site_phases.specs.declared.answer.Answer.{Answer}
use Rattle.site_phases.specs.declared.answer.Answer.TheVariants as answer
use Rattle.site_phases.proofs.ZoneLaws.{bad_is_told}

then_last : (c : Ordering) → ordering_then c Equal ≡ c
then_last Less = refl
then_last Equal = refl
then_last Greater = refl

then_three : (a b c : Ordering) → ordering_then (ordering_then a b) c ≡ ordering_then a (ordering_then b c)
then_three Less b c = refl
then_three Equal b c = refl
then_three Greater b c = refl

same_cmp : (a b : ItemNo) → number_cmp a b ≡ by_fields a b
same_cmp a b =
    let c1 = nat_cmp a.item b.item in
    let c2 = nat_cmp a.target.item b.target.item in
    let c3 = nat_cmp a.target.host b.target.host in
    let c4 = nat_cmp a.target.key b.target.key in
    let c5 = nat_cmp a.key b.key in
    ap (ordering_then c1)
    (then_three c2 (ordering_then c3 c4) c5
    ∙ ap (ordering_then c2) (then_three c3 c4 c5 ∙ ap (λ o. ordering_then c3 (ordering_then c4 o)) (sym (then_last c5))))

one_cmp : number_cmp ≡ by_fields
one_cmp = λ i a b. same_cmp a b i

-- diagnostics by their numbers
pub sorted : (given ds : List Diag) → IsByNumber given ds → ds ≡ by_number diag_number given
sorted given ds h =
    only_by_number diag_number given ds
    (subst (λ cmp. IsSortedByKey diag_number cmp ds) one_cmp h.rising)
    (subst (λ cmp. IsStableByKey diag_number cmp given ds) one_cmp h.stable)

-- the first phase that tells something
pub told_first : {S : Type 0} (s : S) (ds given : List Diag) (more : List (List Diag)) → ds ≡ given → (length ds == 0) ≡ false → refused ds ≡ unless_told s (first_told (given ∷ more))
told_first s ds given more is some = by ds some ∙ ap (λ xs. unless_told s (first_told (xs ∷ more))) is
  where
    by : (xs : List Diag) → (length xs == 0) ≡ false → refused xs ≡ unless_told s (first_told (xs ∷ more))
    by [] e = absurd (cc)
    by (x ∷ xs) e = refl

-- a phase that tells nothing
pub passed : (ds given : List Diag) (more : List (List Diag)) → ds ≡ given → (length ds == 0) ≡ true → first_told (given ∷ more) ≡ first_told more
passed ds given more is none = sym (ap (λ xs. first_told (xs ∷ more)) is) ∙ by ds none
  where
    by : (xs : List Diag) → (length xs == 0) ≡ true → first_told (xs ∷ more) ≡ first_told more
    by [] e = refl
    by (x ∷ xs) e = let other = eqb-suc-zero (length xs) in absurd (cc)

pub nothing : (ds : List Diag) → (length ds == 0) ≡ true → ds ≡ []
nothing [] e = refl
nothing (d ∷ ds) e = let other = eqb-suc-zero (length ds) in absurd (cc)

-- ---- the whole, where a phase was asked of objects that are lent

abbrev TellsTwice : List (List ℕ) → List Object → List Diag → Type 0
TellsTwice files objects ds = IsByNumber (duplicate_faults files (map object_view objects)) ds

abbrev TellsMissing : List Object → List Diag → Type 0
TellsMissing objects ds = IsByNumber (reference_faults (map object_view objects)) ds

twice_of : (files : List (List ℕ)) (lent objects : List Object) (ds : List Diag) → lent ≡ objects → TellsTwice files lent ds → ds ≡ by_number diag_number (duplicate_faults files (map object_view objects))
twice_of files lent objects ds same is = sorted (duplicate_faults files (map object_view objects)) ds (subst (λ xs. TellsTwice files xs ds) same is)

missing_of : (lent objects : List Object) (ds : List Diag) → lent ≡ objects → TellsMissing lent ds → ds ≡ by_number diag_number (reference_faults (map object_view objects))
missing_of lent objects ds same is = sorted (reference_faults (map object_view objects)) ds (subst (λ xs. TellsMissing xs ds) same is)

pub first_phase : (files : List (List ℕ)) (g : PlainGlobals) (lent objects : List Object) (bad : Bool) (ds : List Diag) → lent ≡ objects → TellsTwice files lent ds → (length ds == 0) ≡ false
    → refused ds ≡ last_part files g (map object_view objects) bad
first_phase files g lent objects bad ds same is some =
    told_first (site_made files g (map object_view objects)) ds (by_number diag_number (duplicate_faults files (map object_view objects))) _ (twice_of files lent objects ds same is) some

pub second_phase : (files : List (List ℕ)) (g : PlainGlobals) (lent again objects : List Object) (bad : Bool) (ds rs : List Diag) → lent ≡ objects → TellsTwice files lent ds → (length ds == 0) ≡ true
    → again ≡ objects → TellsMissing again rs → (length rs == 0) ≡ false → refused rs ≡ last_part files g (map object_view objects) bad
second_phase files g lent again objects bad ds rs same is none once are some =
    let s = site_made files g (map object_view objects) in
    told_first s rs (by_number diag_number (reference_faults (map object_view objects))) _ (missing_of again objects rs once are) some
    ∙ sym (ap (unless_told s) (passed ds (by_number diag_number (duplicate_faults files (map object_view objects))) _ (twice_of files lent objects ds same is) none))

-- what the globals have wrong, whether the zone's file is one or not
abbrev pub AreFaults : PlainGlobals → List Diag → Type 0
AreFaults g faults = (b : Bool) → Decides b (AreBadBytes (settings_of g).zone) → faults ≡ constant_faults g b

pub third_phase : (files : List (List ℕ)) (g : PlainGlobals) (lent again objects : List Object) (bad : Bool) (ds rs faults : List Diag) (s : PlainSite) (a : Committed PlainSite)
    → lent ≡ objects → TellsTwice files lent ds → (length ds == 0) ≡ true → again ≡ objects → TellsMissing again rs → (length rs == 0) ≡ true → s ≡ site_made files g (map object_view objects) → AreFaults g faults
    → a ≡ unless_told s (first_told (cycle_faults s (turning s) ∷ faults ∷ [])) → Decides bad (AreBadBytes (settings_of g).zone) → a ≡ last_part files g (map object_view objects) bad
third_phase files g lent again objects bad ds rs faults s a same is none once are empty made told given known =
    let os = map object_view objects in
    given
    ∙ ap (λ x. unless_told x (first_told (cycle_faults x (turning x) ∷ faults ∷ []))) made
    ∙ ap (λ fs. unless_told (site_made files g os) (first_told (cycle_faults (site_made files g os) (turning (site_made files g os)) ∷ fs ∷ []))) (told bad known)
    ∙ sym (ap (unless_told (site_made files g os)) (passed ds (by_number diag_number (duplicate_faults files os)) _ (twice_of files lent objects ds same is) none
    ∙ passed rs (by_number diag_number (reference_faults os)) _ (missing_of again objects rs once are) empty))

zone_of : (files : List (List ℕ)) (g : PlainGlobals) (os : List PlainObject) (s : PlainSite) → s ≡ site_made files g os → s.zone ≡ (settings_of g).zone
unfolding typed_site
zone_of files g os s same = ap (λ (x : PlainSite). x.zone) same

pub files_of : (files : List (List ℕ)) (g : PlainGlobals) (os : List PlainObject) (s : PlainSite) → s ≡ site_made files g os → s.files ≡ files
unfolding typed_site
files_of files g os s same = ap (λ (x : PlainSite). x.files) same

-- a run may begin with a site that is given
pub is_ready : (files : List (List ℕ)) (g : PlainGlobals) (os : List PlainObject) (faults : List Diag) (s : PlainSite) (a : Answer) → s ≡ site_made files g os → IsSound s → length s.checkables < 2 ^ 32 - 1 → AreFaults g faults
    → IfSite a (IsGiven s faults) → IfSite a IsReady
is_ready files g os faults s (answer.Diags fs list) same sound few told given = tt
is_ready files g os faults s (answer.Site x) same sound few told given = record {
  sound = subst IsSound (sym given.same) sound;
  free = given.free;
  few = subst (λ (z : PlainSite). length z.checkables < 2 ^ 32 - 1) (sym given.same) few;
  zone = λ bad.
      let here : AreBadBytes (settings_of g).zone = subst AreBadBytes (ap (λ (z : PlainSite). z.zone) given.same ∙ zone_of files g os s same) bad in
      bad_is_told g (sym (told true (λ _. here, λ _. refl)) ∙ given.none) here;
}
