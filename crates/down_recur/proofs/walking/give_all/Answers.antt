-- The next one is as it was, and gives its lines; those before it rest, and those behind it up to the one after it.
use Rattle.std.proofs.Common.{◌≡◌, ◌≤◌, ◌<◌, ◌+◌, ◌-◌, ◌++◌, map, take, drop, length, get_or, set, set-set, length-set, refl, sym, ap, ◌∙◌, subst, append_assoc, append-nil, arith}
use Rattle.std.specs.List.{flat_map}
use Rattle.site_posts.specs.Books.{histories_of}
use Rattle.down_recur.proofs.Resting.{rest_between, resting_many, resting_set, rests_until}
use Rattle.down_recur.proofs.Steps.{AreChanged, all_of_map, all_set, changed_more, next_is, none_behind}
use Rattle.down_recur.specs.Giving.{lead}
use Rattle.down_recur.specs.Turns.{after_in, lines_in, site_of}
use Rattle.down_recur.specs.Waiting.{AreResting, AreWaiting, IsWaiting, recurring_in}
use Rattle.down_recur.proofs.walking.give_all.Goals as goal

pub loop-place-init : goal.loop-place-init
loop-place-init c =
    let t = c.args.turn.now in
    let list = c.args.list.now.items in
    let within : c.first-place.result ≤ length list = omega (arith, c.first-place.ensures.within, resting_many t.moment c.args.rests.now list c.requires.resting) in
    let rest = rest_between (site_of t) t.zone.now (histories_of t.books.now) t.moment 0 c.first-place.result c.args.rests.now list (map recurring_in list) c.requires.waiting c.requires.resting c.first-place.ensures.rest (omega arith) within refl in
    record {
      within = within;
      many = refl;
      lines = ap (λ l. c.args.out.now.items ++ l) (sym rest.0);
      changed = rest.1;
      waiting = c.requires.waiting;
      resting = c.requires.resting;
    }

pub set-requires : goal.set-requires
set-requires c = omega (arith, resting_many c.args.turn.now.moment c.loop-place.rests c.loop-place.list.items c.loop-place.invariant.resting, c.len.ensures)

pub returns-in_err-give-clause-resting : goal.returns-in_err-give-clause-resting
returns-in_err-give-clause-resting c =
    let m = c.args.turn.now.moment in
    let after = set c.loop-place.list.items c.loop-place.place c.give.new.self in
    subst (λ seconds. AreResting m seconds after) (sym c.set.ensures)
    (resting_set m c.loop-place.place 0 c.loop-place.rests c.loop-place.list.items c.give.new.self c.loop-place.invariant.resting (λ h. absurd (omega arith)))

pub set-requires-in-loop-place : goal.set-requires-in-loop-place
set-requires-in-loop-place c =
    omega (arith, resting_many c.args.turn.now.moment c.loop-place.rests c.loop-place.list.items c.loop-place.invariant.resting, c.len.ensures, ap length c.set.ensures, length-set c.loop-place.rests c.loop-place.place 0)

pub first-place-requires-in-loop-place : goal.first-place-requires-in-loop-place
first-place-requires-in-loop-place c =
    omega (arith, resting_many c.args.turn.now.moment c.loop-place.rests c.loop-place.list.items c.loop-place.invariant.resting, c.len.ensures, ap length c.set.ensures, length-set c.loop-place.rests c.loop-place.place 0, ap length c.set-in-loop-place.ensures, length-set c.set.new.self c.loop-place.place c.rests_until.result)

pub loop-place-preserved : goal.loop-place-preserved
loop-place-preserved c =
    let t = c.args.turn.now in
    let m = t.moment in
    let i = c.loop-place.place in
    let ws = c.loop-place.list.items in
    let seconds = c.loop-place.rests in
    let w = c.index_mut-waiting.result.now in
    let v = c.give.new.self in
    let before = map recurring_in c.args.list.now.items in
    let k = c.first-place-in-loop-place.result in
    let until = v.next - lead v.recurring.trigger in
    let inside : i < length ws = omega (arith, c.len.ensures) in
    let here : w ≡ get_or ws i w = c.index_mut-waiting.ensures.value in
    let noted : c.set-in-loop-place.new.self ≡ set seconds i until =
    c.set-in-loop-place.ensures ∙ ap (λ l. set l i c.rests_until.result) c.set.ensures ∙ set-set seconds i 0 c.rests_until.result ∙ ap (set seconds i) c.rests_until.ensures in
    let resting : AreResting m c.set-in-loop-place.new.self (set ws i v) =
    subst (λ l. AreResting m l (set ws i v)) (sym noted) (resting_set m i until seconds ws v c.loop-place.invariant.resting (rests_until m v c.in_ok-give.ensures.seen)) in
    let waiting : AreWaiting t.zone.now (set ws i v) = all_set (IsWaiting t.zone.now) i ws v c.loop-place.invariant.waiting c.give.ensures.waiting in
    let changed : AreChanged recurring_in (after_in t) (i + 1) (set ws i v) before =
    changed_more recurring_in (after_in t) i ws before w v c.loop-place.invariant.changed inside (c.in_ok-give.ensures.after ∙ ap (λ x. after_in t x.recurring) here) in
    let next = next_is recurring_in (after_in t) i ws before w c.loop-place.invariant.changed inside in
    let own = lines_in t (get_or ws i w).recurring in
    let left = flat_map (lines_in t) (drop (i + 1) before) in
    let lines : c.give.new.out.items ++ left ≡ c.args.out.now.items ++ flat_map (lines_in t) before =
    ap (λ l. l ++ left) (c.in_ok-give.ensures.lines ∙ ap (λ x. c.loop-place.out.items ++ lines_in t x.recurring) here) ∙ append_assoc c.loop-place.out.items own left
    ∙ ap (λ l. c.loop-place.out.items ++ flat_map (lines_in t) l) (sym next) ∙ c.loop-place.invariant.lines in
    let within : k ≤ length (set ws i v) = omega (arith, c.first-place-in-loop-place.ensures.within, resting_many m c.set-in-loop-place.new.self (set ws i v) resting) in
    let rest = rest_between (site_of t) t.zone.now (histories_of t.books.now) m (i + 1) k c.set-in-loop-place.new.self (set ws i v) before waiting resting c.first-place-in-loop-place.ensures.rest c.first-place-in-loop-place.ensures.from within changed in
    record {
      within = within;
      many = length-set ws i v ∙ c.loop-place.invariant.many;
      lines = ap (λ l. c.give.new.out.items ++ l) (sym rest.0) ∙ lines;
      changed = rest.1;
      waiting = waiting;
      resting = resting;
    }

pub returns-clause-lines : goal.returns-clause-lines
returns-clause-lines c =
    let t = c.args.turn.now in
    let out = c.loop-place.out.items in
    let past : length c.args.list.now.items ≤ c.loop-place.place = omega (arith, c.loop-place.invariant.many, c.len.ensures) in
    let none = none_behind recurring_in c.loop-place.place c.args.list.now.items past in
    sym (append-nil out) ∙ ap (λ l. out ++ flat_map (lines_in t) l) (sym none) ∙ c.loop-place.invariant.lines

pub returns-clause-after : goal.returns-clause-after
returns-clause-after c =
    let t = c.args.turn.now in
    let i = c.loop-place.place in
    let before = map recurring_in c.args.list.now.items in
    let past : length c.args.list.now.items ≤ i = omega (arith, c.loop-place.invariant.many, c.len.ensures) in
    let none = none_behind recurring_in i c.args.list.now.items past in
    let all = all_of_map recurring_in i c.args.list.now.items past in
    c.loop-place.invariant.changed ∙ ap (λ l. map (after_in t) (take i before) ++ l) none ∙ append-nil (map (after_in t) (take i before)) ∙ ap (map (after_in t)) all
