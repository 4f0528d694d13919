-- The answers at one object after another, until none is left.
use Rattle.std.proofs.Common.{◌≡◌, [], ◌∷◌, ◌++◌, Vec, Global, length, map, rules, sym, ap, ◌∙◌, subst, append-nil, append_assoc}
use Rattle.std.specs.List.{AllByRecursion}
use Rattle.std.specs.Vec.Iter.{into_iter_items}
use Rattle.std.proofs.lemmas.List.Concat.{flat_map-append}
use Rattle.wave_objects.specs.Applying.{AreWithin, HaveTaken}
use Rattle.wave_objects.specs.AtTargets.{AreAnswersShared, plain_placed}
use Rattle.wave_objects.specs.Tasks.{all_placed}
use Rattle.wave_objects.specs.declared.at_targets.PlacedAnswer.{PlacedAnswer}
use Rattle.wave_objects.proofs.TakeLaws.{as_many, none_left, taken_more, taken_none}
use Rattle.wave_objects.proofs.applying_many.take_all.Goals as goal

pub loop-at_object-init : goal.loop-at_object-init
loop-at_object-init c =
    let items : into_iter_items c.into_iter-at_object-iterator.result ≡ c.args.answers.items = search (rules) in
    record {
      whole = items;
      taken = taken_none 0 c.args.rules.now.items;
      within = subst (AllByRecursion (λ answers. AreWithin (length c.args.rules.now.items) (map plain_placed answers.items))) (sym items) c.requires;
      shared = λ s h k. (h, subst (AllByRecursion (λ answers. AreAnswersShared s answers.items)) (sym items) k);
    }

pub take_answers-requires : goal.take_answers-requires
take_answers-requires c =
    let so_far = c.loop-at_object.invariant in
    let n = length c.args.rules.now.items in
    let left : AllByRecursion (λ (answers : Vec PlacedAnswer Global). AreWithin n (map plain_placed answers.items)) (c.in-Some.at_object ∷ into_iter_items c.next.new.self) =
    subst (AllByRecursion (λ answers. AreWithin n (map plain_placed answers.items))) c.in-Some.ensures.steps.0 so_far.within in
    subst (λ m. AreWithin m (map plain_placed c.in-Some.at_object.items)) (sym (as_many 0 _ c.args.rules.now.items c.loop-at_object.rules.items so_far.taken)) left.0

pub loop-at_object-preserved : goal.loop-at_object-preserved
loop-at_object-preserved c =
    let so_far = c.loop-at_object.invariant in
    let x = c.in-Some.at_object in
    let rest = into_iter_items c.next.new.self in
    let step = c.in-Some.ensures.steps.0 in
    let first = c.args.rules.now.items in
    let n = length first in
    let done = c.loop-at_object.yielded in
    let more : all_placed (done ++ x ∷ []) ≡ all_placed done ++ map plain_placed x.items =
    flat_map-append (λ answers. map plain_placed answers.items) done (x ∷ []) ∙ ap (λ answers. all_placed done ++ answers) (append-nil (map plain_placed x.items)) in
    let left : AllByRecursion (λ (answers : Vec PlacedAnswer Global). AreWithin n (map plain_placed answers.items)) (x ∷ rest) =
    subst (AllByRecursion (λ answers. AreWithin n (map plain_placed answers.items))) step so_far.within in
    record {
      whole = append_assoc done (x ∷ []) rest ∙ (ap (λ xs. done ++ xs) (sym step) ∙ so_far.whole);
      taken = subst (λ answers. HaveTaken 0 answers first c.take_answers.new.rules.items) (sym more)
          (taken_more 0 (all_placed done) (map plain_placed x.items) first c.loop-at_object.rules.items c.take_answers.new.rules.items so_far.taken c.in_ok-take_answers.ensures.taken);
      within = left.1;
      shared = λ s h k.
          let both = so_far.shared s h k in
          let these : AllByRecursion (λ (answers : Vec PlacedAnswer Global). AreAnswersShared s answers.items) (x ∷ rest) = subst (AllByRecursion (λ answers. AreAnswersShared s answers.items)) step both.1 in
          (c.in_ok-take_answers.ensures.shared s both.0 these.0, these.1);
    }

pub returns-clause-taken : goal.returns-clause-taken
returns-clause-taken c =
    let l = c.loop-at_object in
    let none : length (into_iter_items l.at_object-iterator) ≡ 0 = search (rules, c.in-None.ensures.steps) in
    subst (λ lists. HaveTaken 0 (all_placed lists) c.args.rules.now.items l.rules.items) (none_left l.yielded (into_iter_items l.at_object-iterator) c.args.answers.items l.invariant.whole none) l.invariant.taken

pub returns-clause-shared : goal.returns-clause-shared
returns-clause-shared c = λ s h k. (c.loop-at_object.invariant.shared s h k).0
