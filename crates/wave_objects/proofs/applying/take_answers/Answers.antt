-- One answer after another, until none is left.
use Rattle.std.proofs.Common.{◌≡◌, ◌<◌, [], ◌∷◌, ◌++◌, length, map, slice_set, rules, sym, ap, ◌∙◌, subst, append_assoc}
use Rattle.std.specs.Vec.Iter.{into_iter_items}
use Rattle.std.proofs.lemmas.List.{map-append}
use Rattle.std.proofs.lemmas.List.Elements.{All-get_or, All-set}
use Rattle.apply_rules.specs.Plain.{rule_answer}
use Rattle.apply_rules.specs.Sharing.{AreSharedIn}
use Rattle.wave_objects.specs.Applying.{AreWithin, HasTaken, HaveTaken}
use Rattle.wave_objects.specs.AtTargets.{AreAnswersShared, plain_placed}
use Rattle.wave_objects.specs.declared.applying.Applied.{Applied}
use Rattle.wave_objects.proofs.TakeLaws.{as_many, none_left, taken_here, taken_more, taken_none, takes_one}
use Rattle.wave_objects.proofs.applying.take_answers.Goals as goal

pub loop-placed-init : goal.loop-placed-init
loop-placed-init c =
    let items : into_iter_items c.into_iter-placed-iterator.result ≡ c.args.answers.items = search (rules) in
    record {
      whole = items;
      taken = taken_none 0 c.args.rules.now.items;
      within = subst (λ answers. AreWithin (length c.args.rules.now.items) (map plain_placed answers)) (sym items) c.requires;
      shared = λ s h k. (h, subst (AreAnswersShared s) (sym items) k);
    }

pub index_mut-requires : goal.index_mut-requires
index_mut-requires c =
    let so_far = c.loop-placed.invariant in
    let left : AreWithin (length c.args.rules.now.items) (map plain_placed (c.in-Some.placed ∷ into_iter_items c.next.new.self)) =
    subst (λ answers. AreWithin (length c.args.rules.now.items) (map plain_placed answers)) c.in-Some.ensures.steps.0 so_far.within in
    let within : c.in-Some.placed.place < length c.loop-placed.rules.items = subst (λ n. c.in-Some.placed.place < n) (sym (as_many 0 _ c.args.rules.now.items c.loop-placed.rules.items so_far.taken)) left.0 in
    search (rules, within)

pub loop-placed-preserved : goal.loop-placed-preserved
loop-placed-preserved c =
    let so_far = c.loop-placed.invariant in
    let x = c.in-Some.placed in
    let rest = into_iter_items c.next.new.self in
    let step = c.in-Some.ensures.steps.0 in
    let first = c.args.rules.now.items in
    let before = c.loop-placed.rules.items in
    let d = c.index_mut.result.now in
    let z = c.take.new.self in
    let left : AreWithin (length first) (map plain_placed (x ∷ rest)) = subst (λ answers. AreWithin (length first) (map plain_placed answers)) step so_far.within in
    let within : x.place < length before = subst (λ n. x.place < n) (sym (as_many 0 _ first before so_far.taken)) left.0 in
    let ensures = c.in_ok-take.ensures in
    let one = takes_one (rule_answer x.answer) d z ensures.rule ensures.made ensures.faults in
    let here = taken_here (plain_placed x) before d z within (subst (λ (y : Applied). HasTaken (rule_answer x.answer ∷ []) y z) c.index_mut.ensures.value one) in
    let after = c.loop-placed.yielded in
    record {
      whole = append_assoc after (x ∷ []) rest ∙ (ap (λ xs. after ++ xs) (sym step) ∙ so_far.whole);
      taken = subst (λ answers. HaveTaken 0 answers first (slice_set before x.place z)) (sym (map-append plain_placed after (x ∷ []))) (taken_more 0 (map plain_placed after) (plain_placed x ∷ []) first before (slice_set before x.place z) so_far.taken here);
      within = left.1;
      shared = λ s h k.
          let both = so_far.shared s h k in
          let these : AreAnswersShared s (x ∷ rest) = subst (AreAnswersShared s) step both.1 in
          let mine : AreSharedIn s d.made.items = subst (λ (y : Applied). AreSharedIn s y.made.items) (sym c.index_mut.ensures.value) (All-get_or (λ (y : Applied). AreSharedIn s y.made.items) before x.place d within both.0) in
          (All-set (λ (y : Applied). AreSharedIn s y.made.items) before x.place z (ensures.shared s mine these.0) both.0, these.1);
    }

pub returns-clause-taken : goal.returns-clause-taken
returns-clause-taken c =
    let l = c.loop-placed in
    let none : length (into_iter_items l.placed-iterator) ≡ 0 = search (rules, c.in-None.ensures.steps) in
    subst (λ answers. HaveTaken 0 (map plain_placed answers) c.args.rules.now.items l.rules.items) (none_left l.yielded (into_iter_items l.placed-iterator) c.args.answers.items l.invariant.whole none) l.invariant.taken

pub returns-clause-shared : goal.returns-clause-shared
returns-clause-shared c = λ s h k. (c.loop-placed.invariant.shared s h k).0
