use Rattle.std.proofs.Common.{◌≡◌, length, sym, ap, ◌∙◌, subst}
use Rattle.std.specs.Prelude.{All}
use Rattle.post_turn.specs.History.{IsFront, entries_of}
use Rattle.post_turn.specs.Turns.{Each, Knows}
use Rattle.post_turn.specs.Passes.{KnowsOwn, callers_on, seen_of, mine_of}
use Rattle.post_turn.proofs.Together.{is_resting, callers_count, all_know}
use Rattle.post_turn.proofs.post.Post.close.Goals as goal

pub end-body-requires-clause-all : goal.end-body-requires-clause-all
end-body-requires-clause-all g c κs within =
    let me = c.gather-place.ensures.1 in
    (ap (λ m. m.0) (is_resting (callers_on c.args.passes) c.gather-place.result.me me), ap (λ m. length m.0.callers) me ∙ callers_count c.args.self c.args.passes c.requires.1 ∙ c.requires.0)

pub returns-clause-passes : goal.returns-clause-passes
returns-clause-passes g c =
    let post = c.args.self in
    let about = post.lock.shared.key.value in
    let history = c.end-body.result.history.items in
    let known = subst (λ m. Each (Knows g.M.Machine.fit g.M.Machine.after g.M.Machine.caller_of about.machine about.start about.callers history) m.0.callers) c.gather-place.ensures.1 c.end-body.ensures.known in
    let all = all_know g.M.Machine.fit g.M.Machine.after g.M.Machine.caller_of about.machine about.start about.callers history post c.args.passes c.requires.1 known in
    subst (λ h. All (λ p. IsFront (seen_of p) h × (entries_of g.M.Machine.caller_of p.caller h ≡ mine_of p) × KnowsOwn g.M.Machine.caller_of p) c.args.passes) (sym c.from.ensures) all
