-- A step is one of the walk.
use Rattle.std.proofs.Common.{◌≡◌, ◌<◌, length, sym, ap, ◌∙◌, arith}
use Rattle.checkable_core.specs.Contents.{check_at}
use Rattle.checkable_core.proofs.Listed.{check_is, length_map}
use Rattle.run_meaning.proofs.Lists.{one_at, within}
use Rattle.run_meaning.specs.Schedule.{later_by}
use Rattle.site_model.specs.PlainSite.{PlainCheck, check_view, site_view}
use Rattle.site_posts.specs.Books.{histories_of}
use Rattle.check_slots.specs.Watches.{watch_as}
use Rattle.check_plan.specs.Walks.{outlook_now, standing}
use Rattle.check_plan.proofs.Holding.{spec_at}
use Rattle.check_plan.proofs.Stepping.{gives_so, on_given, on_passed}
use Rattle.check_plan.proofs.walk.step.Goals as goal

pub bounds-as_slice-checkable : goal.bounds-as_slice-checkable
bounds-as_slice-checkable c =
    let site = c.args.setting.now.site.now in
    let n = within c.args.watches.now c.args.checkable c.requires.first.watch c.requires.first.at in
    let w = c.requires.whole in
    let m = length_map check_view site.checkables in
    let l = ap length c.as_slice.ensures in
    omega (arith, n, w, m, l)

pub pass_over-requires : goal.pass_over-requires
pass_over-requires c = record { checkable = within c.args.watches.now c.args.checkable c.requires.first.watch c.requires.first.at }

pub returns-then-branch-clause-way : goal.returns-then-branch-clause-way
returns-then-branch-clause-way c =
    let s = site_view c.args.setting.now.site.now in
    let o = outlook_now s c.args.setting.now.zone.now c.args.setting.now.moment (histories_of c.args.books.now) in
    let k = c.args.checkable in
    let ws = c.args.watches.now in
    let x = standing ws c.args.orders.now c.args.walk.now in
    let first = c.requires.first in
    let n = within ws k first.watch first.at in
    let whole = c.requires.whole in
    let is = check_is s.checkables k (omega (arith, n, whole)) in
    let same : watch_as c.at-watch.result ≡ first.watch = one_at ws k (watch_as c.at-watch.result) first.watch c.at-watch.ensures first.at in
    let gets = gives_so o x k first c.requires.room (check_at s k) is (watch_as c.at-watch.result) same (sym c.in_ok-gets_order.ensures ∙ c.if-branch.true) in
    on_given o x k first c.requires.room (check_at s k) is c.give.new.watches c.give.new.orders c.give.new.walk (watch_as c.at-watch.result) same gets c.give.result c.give.ensures.watches c.give.ensures.book c.give.ensures.orders c.give.ensures.passed c.give.ensures.outstanding

pub returns-else-branch-clause-way : goal.returns-else-branch-clause-way
returns-else-branch-clause-way c =
    let site = c.args.setting.now.site.now in
    let s = site_view site in
    let o = outlook_now s c.args.setting.now.zone.now c.args.setting.now.moment (histories_of c.args.books.now) in
    let k = c.args.checkable in
    let ws = c.args.watches.now in
    let x = standing ws c.args.orders.now c.args.walk.now in
    let first = c.requires.first in
    let n = within ws k first.watch first.at in
    let whole = c.requires.whole in
    let inside : k < length s.checkables = omega (arith, n, whole) in
    let is = check_is s.checkables k inside in
    let same : watch_as c.at-watch.result ≡ first.watch = one_at ws k (watch_as c.at-watch.result) first.watch c.at-watch.ensures first.at in
    let held = gives_so o x k first c.requires.room (check_at s k) is (watch_as c.at-watch.result) same (sym c.in_ok-gets_order.ensures ∙ c.if-branch.false) in
    let spec = spec_at site c.as_slice.result.now k c.index-as_slice-checkable.result c.as_slice.ensures inside c.index-as_slice-checkable.is in
    on_passed o x k first c.requires.room (check_at s k) is c.pass_over.new.watches c.pass_over.new.walk c.later.result (c.later.ensures ∙ ap (λ (d : PlainCheck). later_by c.args.setting.now.moment d.check_secs) spec) held c.pass_over.result c.pass_over.ensures.watches c.pass_over.ensures.orders c.pass_over.ensures.passed c.pass_over.ensures.outstanding
