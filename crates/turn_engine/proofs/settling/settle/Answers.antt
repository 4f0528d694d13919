-- What follows a round is what its turn tells and leaves.
use Rattle.std.proofs.Common.{◌≡◌, ◌<◌, All, length, map, refl, sym, ap, ◌∙◌, subst, arith}
use Rattle.check_plan.specs.Plans.{IsPlan, plans_of}
use Rattle.check_plan.specs.Walks.{ordered_as}
use Rattle.lasting_problems.specs.Lasting.{lasting}
use Rattle.lasting_problems.specs.Noted.{noted}
use Rattle.run_meaning.specs.Runs.{due_of}
use Rattle.run_text.specs.TurnReading.{report_read}
use Rattle.site_model.specs.PlainSite.{site_view}
use Rattle.site_posts.specs.Books.{AreBooks, histories_of}
use Rattle.turn_engine.specs.Midst.{begun_with}
use Rattle.turn_engine.specs.Orders.{command_of}
use Rattle.turn_engine.proofs.Turning.{AreOrdered, begins, few_given, many, round, round_of_turn, still_plan, takes}
use Rattle.turn_engine.proofs.settling.settle.Goals as goal

pub follow-requires : goal.follow-requires
follow-requires c =
    let s = site_view c.args.state.now.site in
    let whole : length s.checkables ≡ length c.as_slice-3.result.now = sym (ap length c.as_slice-3.ensures.value ∙ c.requires.books.whole) in
    subst (λ n. All (λ x. x.checkable < n) c.as_slice-4.result.now) whole (subst (All (λ x. x.checkable < length s.checkables)) (sym c.as_slice-4.ensures) c.requires.within)

pub returns-clause-takes : goal.returns-clause-takes
returns-clause-takes c = λ plan books callers turn begun h.
    let w = c.args.state.now in
    let command = command_of (site_view w.site) in
    let made = round h in
    let before = histories_of books.items in
    let starts = begins h in
    let rounded = round_of_turn h c.as_slice.result.now c.as_slice-2.result.now c.as_slice.ensures.value c.as_slice-2.ensures in
    let after = c.in_ok-ordered.ensures in
    let are : AreOrdered (begun_with plan books w) c.args.moment made w.plan c.after_round.new.self c.in_ok-ordered.ordered.items =
    record {
      orders = after.orders command (plans_of plan) before made starts rounded;
      slots = after.slots command (plans_of plan) before made starts rounded;
      given = after.given;
      outstanding = after.outstanding;
    } in
    takes h are begun _ (map report_read c.in_ok-started.started.not_started.items) refl refl refl refl
    (c.in_ok-started.ensures.orders ∙ ap (map (ordered_as command)) c.as_slice-5.ensures.value)
    (c.in_ok-started.ensures.not_started ∙ ap (λ xs. due_of (map (ordered_as command) xs)) c.as_slice-5.ensures.value)

pub returns-clause-ready : goal.returns-clause-ready
returns-clause-ready c = λ plan books callers turn h.
    let w = c.args.state.now in
    let s = site_view w.site in
    let command = command_of s in
    let made = round h in
    let before = histories_of books.items in
    let starts = begins h in
    let rounded = round_of_turn h c.as_slice.result.now c.as_slice-2.result.now c.as_slice.ensures.value c.as_slice-2.ensures in
    let after = c.in_ok-ordered.ensures in
    let are : AreOrdered (begun_with plan books w) c.args.moment made w.plan c.after_round.new.self c.in_ok-ordered.ordered.items =
    record {
      orders = after.orders command (plans_of plan) before made starts rounded;
      slots = after.slots command (plans_of plan) before made starts rounded;
      given = after.given;
      outstanding = after.outstanding;
    } in
    let plans : IsPlan s c.after_round.new.self = after.plan before made rounded (still_plan h) in
    record {
      graph = h.ready.graph;
      books = h.made.books;
      plan = plans;
      problems =
          c.in_ok-follow.ensures s c.args.moment before made (subst (AreBooks s c.args.moment) (sym c.as_slice-3.ensures.value) h.made.books) (many h) (ap histories_of c.as_slice-3.ensures.value ∙ h.made.behind) (c.as_slice-4.ensures ∙ h.made.told) h.ready.problems
          ∙ ap (λ hs. noted (lasting s hs)) (sym h.made.behind);
      given = few_given h are plans;
      most = h.ready.most;
      turns = (let few = c.requires.turns in omega (arith, few));
    }
