-- One post more is made, and each caller has its pass of it.
use Rattle.std.proofs.Common.{rules, ◌≡◌, [], ◌∷◌, ◌++◌, length, map, sym, ap, ◌∙◌, subst, append_assoc}
use Rattle.std.specs.Prelude.{All}
use Rattle.std.specs.Vec.Iter.{into_iter_items}
use Rattle.std.proofs.lemmas.List.{map-append}
use Rattle.std.proofs.lemmas.List.Elements.{All-append, All-cons, All-nil, All-tail}
use Rattle.post_turn.specs.Passes.{callers_of}
use Rattle.post_rounds.specs.Hands.{AreCallers, base_of}
use Rattle.post_rounds.proofs.Dealing.{callers_dealt}
use Rattle.post_rounds.proofs.Places.{none_left}
use Rattle.post_rounds.proofs.opening.open_all.Goals as goal

pub loop-base-preserved : goal.loop-base-preserved
loop-base-preserved g c =
    let before = c.loop-base.invariant in
    let posts = c.loop-base.posts.items in
    let post = c.in_ok-post.post in
    let rest = into_iter_items c.next.new.self in
    let made = c.in_ok-post.ensures.post in
    let pushed = c.in_ok-push.ensures.items in
    let step = c.in-Some.ensures.steps.0 in
    let same : base_of post ≡ c.in-Some.base = (λ i. record { machine = made.0 i; start = made.1 i; number = made.3 i }) in
    record {
      bases =
          ap (λ ps. map base_of ps ++ rest) pushed
          ∙ ap (λ bs. bs ++ rest) (map-append base_of posts (post ∷ []))
          ∙ append_assoc (map base_of posts) (base_of post ∷ []) rest
          ∙ ap (λ b. map base_of posts ++ b ∷ rest) same
          ∙ ap (λ bs. map base_of posts ++ bs) (sym step)
          ∙ before.bases;
      starts = All-tail (λ base. g.M.Machine.fit base.machine base.start) c.in-Some.base rest (subst (All (λ base. g.M.Machine.fit base.machine base.start)) step before.starts);
      count = before.count;
      counts = subst (All (λ p. callers_of p ≡ length c.args.lists.items)) (sym pushed)
          (All-append (λ p. callers_of p ≡ length c.args.lists.items) posts (post ∷ []) before.counts
          (All-cons (λ p. callers_of p ≡ length c.args.lists.items) post [] (made.2 ∙ before.count) (All-nil (λ p. callers_of p ≡ length c.args.lists.items))));
      callers = subst (λ ps. AreCallers ps c.args.lists.items c.deal.new.callers.items) (sym pushed)
          (callers_dealt posts c.args.lists.items c.loop-base.callers.items c.deal.new.callers.items post c.in_ok-post.passes before.callers
          (c.in_ok-post.ensures.passes.0 ∙ before.count ∙ sym before.callers.whole) c.in_ok-deal.ensures c.in_ok-post.ensures.passes.1);
    }

pub returns-clause-posts : goal.returns-clause-posts
returns-clause-posts g c =
    let before = c.loop-base.invariant in
    let none : length (into_iter_items c.loop-base.base-iterator) ≡ 0 = search (rules, c.in-None.ensures.steps) in
    (none_left (map base_of c.loop-base.posts.items) (into_iter_items c.loop-base.base-iterator) c.args.bases.items before.bases none, before.counts)
