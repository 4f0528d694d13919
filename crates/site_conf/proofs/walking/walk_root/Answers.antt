use Rattle.std.proofs.Common.{◌≡◌, List, ℕ, Some, None, Result, Ok, Err, OnOk, refl, sym, ap, subst, ◌∙◌}
use Rattle.dsl_lexer.specs.Places.{start_of}
use Rattle.site_conf.specs.Sound.{IsFound, a_part, IsWalked, IsOver}
use Rattle.site_conf.specs.Views.{state_view}
use Rattle.conf_sources.specs.Sources.{Told}
use Rattle.site_conf.specs.Walks.{WalkState, Entered, follows, part, met, onward_by, empty_state, walked}
use Rattle.conf_sources.specs.declared.source.Source.TheVariants.{File}
use Rattle.site_conf.proofs.OrderLaws.{root_walked, no_root}
use Rattle.site_conf.proofs.SoundLaws.{begins_sound, may_begin}
use Rattle.site_conf.proofs.walking.walk_root.Goals as goal

ok_so : {A E : Type 0} (r : Result A E) (P Q : Type 0) → (P → Q) → OnOk r P → OnOk r Q
ok_so (Ok x) P Q f h = f h
ok_so (Err x) P Q f h = tt

-- the walk, by what was met first
walk_is : (all : Told) (name root : List ℕ) (s : WalkState) (e : Entered) → name ≡ root → s ≡ empty_state → met all (start_of 0) (File name) s ≡ e → onward_by (part all 50) e ≡ walked all root
walk_is all name root s e en es ee =
    ap (onward_by (part all 50)) (sym ee ∙ ap (λ x. met all (start_of 0) (File x) s) en ∙ ap (met all (start_of 0) (File root)) es)

pub returns-in-Some-clause-value : goal.returns-in-Some-clause-value
returns-in-Some-clause-value g c = λ all e.
    let after = state_view c.meet.new.progress in
    let v = (c.in_ok-index.ensures {u = tt}).value all e in
    let found : met all (start_of 0) (File c.in_ok-copy_of.field-0) (state_view c.args.progress.now) ≡ follows c.in-Some.index after = rw c.in-Some.is at v in
    let P : WalkState → Type 0 = λ s. OnOk c.walk_part.result (state_view c.walk_part.new.progress ≡ s) in
    subst P (walk_is all c.in_ok-copy_of.field-0 c.args.root.now (state_view c.args.progress.now) (follows c.in-Some.index after) (c.in_ok-copy_of.ensures {u = tt}) c.requires found) (c.walk_part.ensures.value all (c.meet.ensures.same ∙ e))

pub returns-in-Some-clause-over : goal.returns-in-Some-clause-over
returns-in-Some-clause-over g c =
    let s = state_view c.args.progress.now in
    let after = state_view c.meet.new.progress in
    let f = (c.in_ok-index.ensures {u = tt}).sound (begins_sound s c.requires) (may_begin (start_of 0) (File c.in_ok-copy_of.field-0) s c.requires refl) in
    let found : IsFound s after (Some c.in-Some.index) = rw c.in-Some.is at f in
    let new = state_view c.walk_part.new.progress in
    ok_so c.walk_part.result (IsWalked (a_part 50 c.in-Some.index) after new) (IsOver new) (λ h. root_walked c.in-Some.index s after new c.requires found h) (c.walk_part.ensures.sound found.later.sound found.met)

pub returns-clause-over : goal.returns-clause-over
returns-clause-over g c =
    let s = state_view c.args.progress.now in
    let after = state_view c.meet.new.progress in
    let f = (c.in_ok-index.ensures {u = tt}).sound (begins_sound s c.requires) (may_begin (start_of 0) (File c.in_ok-copy_of.field-0) s c.requires refl) in
    let found : IsFound s after None = rw c.in-None.is at f in
    no_root s after found
