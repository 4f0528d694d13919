-- Places that stay are those in the first files.
use Rattle.std.proofs.Common.{◌≡◌, ◌<◌, ◌≤◌, ℕ, zero, suc, Bool, true, false, cond, List, [], ◌∷◌, length, map, get_or, nat_lt, All, slice_get, refl, sym, ap, ◌∙◌, subst, arith}
use Rattle.std.proofs.lemmas.Bool.{ltb-true}
use Rattle.std.proofs.lemmas.Bool.Decides.{nat_tests}
use Rattle.std.proofs.lemmas.Option.{slice_get_past}
use Rattle.site_base.specs.declared.place.Place.{Place}
use Rattle.site_model.specs.PlainSite.{PlainObject}
use Rattle.dsl_value.specs.declared.value.Value.{Value}
use Rattle.eval_meaning.specs.Load.{load_run, loaded}
use Rattle.eval_meaning.specs.Registered.{PlainFile}
use Rattle.eval_meaning.specs.Registration.{is_of_library}
use Rattle.eval_meaning.specs.States.{State, gives}
use Rattle.place_laws.specs.MovedOutcomes.{IsMoved, KeepsLibrary}
use Rattle.place_laws.specs.MovedStates.{moved_file, moved_loaded, moved_state}
use Rattle.place_laws.proofs.Moved.{load_moved, loaded_moved}
use Rattle.commit_meaning.specs.Commits.{committed}
use Rattle.commit_places.specs.MovedAnswers.{moved_object}
use Rattle.commit_places.proofs.Commits.{committed_moved}
use Rattle.file_laws.specs.Standing.{StandAmong, beyond}

stays : (n : ℕ) (l : Place) → beyond n l ≡ l → l.file < n
stays n l e = by (nat_lt l.file n) refl e
  where
    by : (b : Bool) → nat_lt l.file n ≡ b → cond b l (record l { file = suc l.file }) ≡ l → l.file < n
    by true is h = ltb-true l.file n is
    by false is h = let next : suc l.file ≡ l.file = ap (λ (p : Place). p.file) h in absurd (omega (arith, next))

keeps : (files : List PlainFile) → KeepsLibrary (beyond (length files)) files
keeps files l = by (nat_lt l.file (length files)) refl
  where
    by : (b : Bool) → nat_lt l.file (length files) ≡ b → is_of_library (slice_get files (cond b l (record l { file = suc l.file })).file) ≡ is_of_library (slice_get files l.file)
    by true is = refl
    by false is =
        let past : length files ≤ l.file = grind (arith, nat_tests) in
        ap is_of_library (slice_get_past files (suc l.file) (omega (arith, past)) ∙ sym (slice_get_past files l.file past))

-- a load of files in which no place is another one registers no other places
same_load : (move : Place → Place) (files : List PlainFile) (order : List ℕ) (v : Value) (s : State) → KeepsLibrary move files → map (moved_file move) files ≡ files → load_run files order ≡ gives v s
    → moved_loaded move (loaded s) ≡ loaded s
same_load move files order v s kept same e =
    let moved : IsMoved move (load_run files order) (load_run files order) = subst (λ fs. IsMoved move (load_run files order) (load_run fs order)) same (load_moved move files kept order) in
    let both : gives v s ≡ gives v (moved_state move s) = subst (λ o. IsMoved move o o) e moved in
    let one : s ≡ moved_state move s = cc in
    sym (ap loaded one ∙ loaded_moved move s)

all_same : {A : Type 0} (f : A → A) (xs : List A) → map f xs ≡ xs → All (λ x. f x ≡ x) xs
all_same f [] e k d low = absurd (omega (arith, low))
all_same f (x ∷ xs) e zero d low = cc
all_same f (x ∷ xs) e (suc k) d low = let rest : map f xs ≡ xs = cc in all_same f xs rest k d (omega (arith, low))

pub objects_among : (files : List PlainFile) (order : List ℕ) (v : Value) (s : State) → StandAmong files → load_run files order ≡ gives v s → All (λ (o : PlainObject). o.place.file < length files) (committed (loaded s))
objects_among files order v s among e k d low =
    let move = beyond (length files) in
    let load = same_load move files order v s (keeps files) among e in
    let objects : map (moved_object move) (committed (loaded s)) ≡ committed (loaded s) = sym (committed_moved move (loaded s)) ∙ ap committed load in
    stays (length files) (get_or (committed (loaded s)) k d).place (ap (λ (o : PlainObject). o.place) (all_same (moved_object move) (committed (loaded s)) objects k d low))
