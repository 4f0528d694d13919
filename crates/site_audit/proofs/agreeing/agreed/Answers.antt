-- One block more agrees, or none does.
use Rattle.std.proofs.Common.{◌≡◌, List, length, map, refl, sym, ap, ◌∙◌, subst, arith, rules}
use Rattle.std.proofs.lemmas.Bool.Decides.{nat_tests}
use Rattle.std.proofs.lemmas.List.{nil_from_length}
use Rattle.std.specs.Vec.Iter.{into_iter_items}
use Rattle.log_text.specs.SiteNames.{names_of}
use Rattle.run_meaning.specs.Runs.{begun_by}
use Rattle.run_text.specs.TurnReading.{turn_read}
use Rattle.site_model.specs.PlainSite.{site_view}
use Rattle.site_model.specs.Sound.{IsSound}
use Rattle.site_model.specs.declared.site.Site.{Site}
use Rattle.turn_engine.specs.Stages.{basis_of_site, stage_of}
use Rattle.site_audit.specs.Blocks.{blocks_of, lines_of}
use Rattle.site_audit.specs.ByCallers.{AreToldIn, IsToldIn, round_of, turn_of}
use Rattle.site_audit.specs.declared.rounds.ToldTurn.{ToldTurn}
use Rattle.site_audit.proofs.AgreeLaws.{begins_so, goes_on_so, if_same, no_block_more, no_turn_more, on_here, rounds_left, so_false, so_true, stops_so}
use Rattle.site_audit.proofs.agreeing.agreed.Goals as goal

pub loop-told-init : goal.loop-told-init
loop-told-init c =
    let r = c.args.engine.now.run in
    let s = site_view r.site in
    let items : into_iter_items c.into_iter-told-iterator.result ≡ c.args.turns.items = search rules in
    let many = ap length items in
    record {
      fresh = c.requires.fresh;
      site = refl;
      zone = refl;
      count = omega (arith, many);
      rounds = λ several. subst (λ (xs : List ToldTurn). AreToldIn c.args.style (names_of s) (map round_of xs) (blocks_of (lines_of c.args.log.now))) (sym items) (c.requires.rounds several);
      agree = λ begun. (begun, begins_so c.args.style (basis_of_site s r.zone) c.args.callers (stage_of r begun) _ _ (blocks_of (lines_of c.args.log.now)) (ap (λ (xs : List ToldTurn). map (turn_read s) (map turn_of xs)) items));
    }

pub returns-then-is_empty : goal.returns-then-is_empty
returns-then-is_empty c = λ begun.
    let r = c.args.engine.now.run in
    let s = site_view r.site in
    let inv = c.loop-told.invariant.agree begun in
    let none : length c.loop-told.rest.now ≡ 0 = grind (arith, nat_tests, c.is_empty.ensures, c.if-is_empty.true) in
    no_block_more c.args.style (basis_of_site s r.zone) c.args.callers (stage_of c.loop-told.engine.run inv.0) (stage_of r begun) (map (turn_read s) (map turn_of (into_iter_items c.loop-told.told-iterator))) _
    (blocks_of (lines_of c.loop-told.rest.now)) _ c.loop-told.count (ap (λ bs. blocks_of (lines_of bs)) (nil_from_length c.loop-told.rest.now none)) inv.1

pub returns : goal.returns
returns c = λ begun.
    let r = c.args.engine.now.run in
    let s = site_view r.site in
    let inv = c.loop-told.invariant.agree begun in
    let left = into_iter_items c.loop-told.told-iterator in
    let many : length left ≡ 0 = search (rules, c.in-None.ensures.steps) in
    no_turn_more c.args.style (basis_of_site s r.zone) c.args.callers (stage_of c.loop-told.engine.run inv.0) (stage_of r begun) (map (turn_read s) (map turn_of left)) _ (blocks_of (lines_of c.loop-told.rest.now)) _ c.loop-told.count
    (ap (λ (xs : List ToldTurn). map (turn_read s) (map turn_of xs)) (nil_from_length left many)) inv.1

pub agrees-requires-clause-sound : goal.agrees-requires-clause-sound
agrees-requires-clause-sound c = subst (λ (x : Site). IsSound (site_view x)) (sym c.loop-told.invariant.site) c.requires.sound

pub agrees-requires-clause-round : goal.agrees-requires-clause-round
agrees-requires-clause-round c = λ several.
    let s = site_view c.args.engine.now.run.site in
    subst (λ (x : Site). IsToldIn c.args.style (names_of (site_view x)) (lines_of c.cut_block.result.0.now) c.in-Some.told.round.items) (sym c.loop-told.invariant.site)
    (rounds_left c.args.style (names_of s) _ (round_of c.in-Some.told) (map round_of (into_iter_items c.next.new.self)) _ (blocks_of (lines_of c.cut_block.result.1.now)) (lines_of c.cut_block.result.0.now)
    (ap (map round_of) c.in-Some.ensures.steps.0) c.cut_block.ensures.blocks (c.loop-told.invariant.rounds several)).0

pub returns-then-not-branch : goal.returns-then-not-branch
returns-then-not-branch c = λ begun.
    let r = c.args.engine.now.run in
    let s = site_view r.site in
    let inv = c.loop-told.invariant.agree begun in
    let b = basis_of_site s r.zone in
    let now = stage_of c.loop-told.engine.run inv.0 in
    let q = c.agrees.new.engine.run in
    let next = stage_of q (begun_by now q.moment) in
    let t = turn_read s c.in-Some.told.turn in
    let lines = lines_of c.cut_block.result.0.now in
    let so = on_here c.args.style c.args.callers c.loop-told.engine.run.site r.site c.loop-told.engine.run.zone r.zone now c.in-Some.told.turn lines next c.in_ok-agrees.field-0 c.loop-told.invariant.site c.loop-told.invariant.zone (c.in_ok-agrees.ensures.agrees inv.0) in
    stops_so c.args.style b c.args.callers now next (stage_of r begun) t (map (turn_read s) (map turn_of (into_iter_items c.next.new.self))) _ _ lines (blocks_of (lines_of c.cut_block.result.1.now)) _ _ c.loop-told.count
    (ap (λ (xs : List ToldTurn). map (turn_read s) (map turn_of xs)) c.in-Some.ensures.steps.0) c.cut_block.ensures.blocks (so_false c.args.style b c.args.callers now t lines next c.in_ok-agrees.field-0 c.if-not-branch.true so) inv.1

pub loop-told-preserved : goal.loop-told-preserved
loop-told-preserved c =
    let r = c.args.engine.now.run in
    let s = site_view r.site in
    let b = basis_of_site s r.zone in
    let before = c.loop-told.invariant in
    let q = c.agrees.new.engine.run in
    let left = into_iter_items c.next.new.self in
    let step = c.in-Some.ensures.steps.0 in
    let many = ap length step in
    let counts = before.count in
    let lines = lines_of c.cut_block.result.0.now in
    let yes = c.if-not-branch.false in
    record {
      fresh = if_same c.in_ok-agrees.field-0 yes c.in_ok-agrees.ensures.fresh;
      site = c.in_ok-agrees.ensures.site ∙ before.site;
      zone = c.in_ok-agrees.ensures.zone ∙ before.zone;
      count = omega (arith, many, counts);
      rounds = λ several. (rounds_left c.args.style (names_of s) _ (round_of c.in-Some.told) (map round_of left) _ (blocks_of (lines_of c.cut_block.result.1.now)) lines (ap (map round_of) step) c.cut_block.ensures.blocks (before.rounds several)).1;
      agree = λ begun.
          let inv = before.agree begun in
          let now = stage_of c.loop-told.engine.run inv.0 in
          let next = stage_of q (begun_by now q.moment) in
          let so = on_here c.args.style c.args.callers c.loop-told.engine.run.site r.site c.loop-told.engine.run.zone r.zone now c.in-Some.told.turn lines next c.in_ok-agrees.field-0 before.site before.zone (c.in_ok-agrees.ensures.agrees inv.0) in (
            begun_by now q.moment,
            goes_on_so c.args.style b c.args.callers now next (stage_of r begun) (turn_read s c.in-Some.told.turn) (map (turn_read s) (map turn_of left)) _ _ lines (blocks_of (lines_of c.cut_block.result.1.now)) _ _ c.loop-told.count _
                (ap (λ (xs : List ToldTurn). map (turn_read s) (map turn_of xs)) step) c.cut_block.ensures.blocks (so_true c.args.style b c.args.callers now (turn_read s c.in-Some.told.turn) lines next c.in_ok-agrees.field-0 yes so) refl inv.1,
          );
    }
