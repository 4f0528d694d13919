-- Post after post ends, from the last one on.
use Rattle.std.proofs.Common.{rules, ◌≡◌, length, sym, ◌∙◌, subst}
use Rattle.post_turn.specs.Passes.{callers_of}
use Rattle.post_rounds.specs.Ends.{AreEnds, GrewByOthers}
use Rattle.post_rounds.specs.Hands.{seen_by}
use Rattle.post_rounds.specs.Rounds.{histories_of}
use Rattle.post_rounds.proofs.Endings.{Ending, all_ended, all_grown, are_its, are_many, emptied, last_is, none_empty, none_ended, one_ended}
use Rattle.post_rounds.proofs.Places.{all_at}
use Rattle.post_rounds.proofs.closing.close_all.Goals as goal

pub loop-post-init : goal.loop-post-init
loop-post-init g c =
    subst (Ending g.M.Machine.fit g.M.Machine.after g.M.Machine.caller_of c.args.posts.items c.args.hands.items c.args.posts.items c.args.hands.items) (sym c.in_ok-ended.ensures.items)
    (none_ended g.M.Machine.fit g.M.Machine.after g.M.Machine.caller_of c.args.posts.items c.args.hands.items c.requires.hands)

pub last_of_each-requires-after_bounds : goal.last_of_each-requires-after_bounds
last_of_each-requires-after_bounds g c κs within =
    let ending = Ending g.M.Machine.fit g.M.Machine.after g.M.Machine.caller_of c.args.posts.items c.args.hands.items in
    let so = subst (λ ps. ending ps c.loop-post.hands.items c.loop-post.ended.items) c.in-Some.ensures.items c.loop-post.invariant in
    none_empty g.M.Machine.fit g.M.Machine.after g.M.Machine.caller_of c.args.posts.items c.args.hands.items c.requires.hands c.pop.new.self.items c.in-Some.post c.loop-post.hands.items c.loop-post.ended.items so

pub close-requires-after_bounds : goal.close-requires-after_bounds
close-requires-after_bounds g c κs within =
    let ending = Ending g.M.Machine.fit g.M.Machine.after g.M.Machine.caller_of c.args.posts.items c.args.hands.items in
    let so = subst (λ ps. ending ps c.loop-post.hands.items c.loop-post.ended.items) c.in-Some.ensures.items c.loop-post.invariant in
    let last = last_is g.M.Machine.fit g.M.Machine.after g.M.Machine.caller_of c.args.posts.items c.args.hands.items c.requires.hands c.pop.new.self.items c.in-Some.post c.loop-post.hands.items c.loop-post.ended.items so in
    let callers = all_at (λ post. callers_of post ≡ length c.args.hands.items) c.args.posts.items c.requires.callers (length c.pop.new.self.items) c.in-Some.post last.1 in (
      are_many g.M.Machine.fit g.M.Machine.after g.M.Machine.caller_of c.args.posts.items c.args.hands.items c.requires.hands c.pop.new.self.items c.in-Some.post c.loop-post.hands.items c.loop-post.ended.items so c.in_ok-passes.passes.items c.last_of_each.new.hands.items c.in_ok-passes.ensures ∙ sym callers,
      are_its g.M.Machine.fit g.M.Machine.after g.M.Machine.caller_of c.args.posts.items c.args.hands.items c.requires.hands c.pop.new.self.items c.in-Some.post c.loop-post.hands.items c.loop-post.ended.items so c.in_ok-passes.passes.items c.last_of_each.new.hands.items c.in_ok-passes.ensures,
    )

pub loop-post-preserved : goal.loop-post-preserved
loop-post-preserved g c =
    let ending = Ending g.M.Machine.fit g.M.Machine.after g.M.Machine.caller_of c.args.posts.items c.args.hands.items in
    let so = subst (λ ps. ending ps c.loop-post.hands.items c.loop-post.ended.items) c.in-Some.ensures.items c.loop-post.invariant in
    let last = last_is g.M.Machine.fit g.M.Machine.after g.M.Machine.caller_of c.args.posts.items c.args.hands.items c.requires.hands c.pop.new.self.items c.in-Some.post c.loop-post.hands.items c.loop-post.ended.items so in
    let callers = all_at (λ post. callers_of post ≡ length c.args.hands.items) c.args.posts.items c.requires.callers (length c.pop.new.self.items) c.in-Some.post last.1 in
    subst (ending c.pop.new.self.items c.last_of_each.new.hands.items) (sym c.in_ok-push.ensures.items)
    (one_ended g.M.Machine.fit g.M.Machine.after g.M.Machine.caller_of c.args.posts.items c.args.hands.items c.requires.hands c.pop.new.self.items c.in-Some.post c.loop-post.hands.items c.loop-post.ended.items so c.in_ok-passes.passes.items c.last_of_each.new.hands.items c.in_ok-passes.ensures callers c.in_ok-close.field-0 c.in_ok-close.ensures)

pub returns-clause-ends : goal.returns-clause-ends
returns-clause-ends g c =
    let none : length c.loop-post.posts.items ≡ 0 = search (rules, c.in_default.ensures.cases, c.in_default.is) in
    let so = emptied g.M.Machine.fit g.M.Machine.after g.M.Machine.caller_of c.args.posts.items c.args.hands.items c.loop-post.posts.items c.loop-post.hands.items c.loop-post.ended.items c.loop-post.invariant none in
    subst (AreEnds g.M.Machine.fit g.M.Machine.after g.M.Machine.caller_of (length c.args.hands.items) c.args.posts.items) (sym c.reverse.ensures.items)
    (all_ended g.M.Machine.fit g.M.Machine.after g.M.Machine.caller_of c.args.posts.items c.args.hands.items c.loop-post.hands.items c.loop-post.ended.items so)

pub returns-clause-grown : goal.returns-clause-grown
returns-clause-grown g c = λ j k hand at is.
    let none : length c.loop-post.posts.items ≡ 0 = search (rules, c.in_default.ensures.cases, c.in_default.is) in
    let so = emptied g.M.Machine.fit g.M.Machine.after g.M.Machine.caller_of c.args.posts.items c.args.hands.items c.loop-post.posts.items c.loop-post.hands.items c.loop-post.ended.items c.loop-post.invariant none in
    subst (λ es. GrewByOthers g.M.Machine.caller_of k (seen_by hand.items) (histories_of es)) (sym c.reverse.ensures.items)
    (all_grown g.M.Machine.fit g.M.Machine.after g.M.Machine.caller_of c.args.posts.items c.args.hands.items c.loop-post.hands.items c.loop-post.ended.items so j k hand at is)
