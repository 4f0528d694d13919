use Rattle.std.proofs.Common.{◌≡◌, ◌++◌, List, [], length, map, ap, sym, ◌∙◌, subst, arith, rules}
use Rattle.std.proofs.lemmas.Bool.Decides.{nat_tests}
use Rattle.std.proofs.lemmas.List.{nil_from_length}
use Rattle.log_text.specs.SiteNames.{names_of}
use Rattle.site_model.specs.PlainSite.{site_view}
use Rattle.site_audit.specs.Blocks.{blocks_of, lines_of}
use Rattle.site_audit.specs.ByCallers.{turn_of}
use Rattle.site_audit.specs.Told.{turns_from}
use Rattle.site_audit.specs.declared.rounds.ToldTurn.{ToldTurn}
use Rattle.site_audit.proofs.HearLaws.{of_some}
use Rattle.site_audit.proofs.TurnLaws.{TellAll, rounds_end, rounds_next, rounds_none, turn_end, turn_next, turn_none}
use Rattle.site_audit.proofs.turns.tell_blocks.Goals as goal

pub returns-clause-turns : goal.returns-clause-turns
returns-clause-turns c =
    let none : length c.loop-rest.rest.now ≡ 0 = grind (arith, nat_tests, c.is_empty.ensures, c.loop-rest-test.false) in
    turn_end c.args.callers (site_view c.args.site.now) c.args.style c.loop-rest.orders.items (blocks_of (lines_of c.loop-rest.rest.now)) c.loop-rest.turns.items _ c.loop-rest.invariant.0
    (ap (λ bs. blocks_of (lines_of bs)) (nil_from_length c.loop-rest.rest.now none))

pub returns-clause-rounds : goal.returns-clause-rounds
returns-clause-rounds c = λ many. rounds_end c.args.style (names_of (site_view c.args.site.now)) c.loop-rest.turns.items (blocks_of (lines_of c.loop-rest.rest.now)) (blocks_of (lines_of c.args.log.now)) (c.loop-rest.invariant.1 many)

pub loop-rest-init : goal.loop-rest-init
loop-rest-init c =
    let s = site_view c.args.site.now in
    let blocks = blocks_of (lines_of c.args.log.now) in
    let empty : c.new-turns.result.items ≡ [] = search rules in (
      ap (λ (ts : List ToldTurn). map turn_of ts ++ turns_from c.args.callers s c.args.style c.args.orders.now.items blocks) empty,
      λ several. subst (λ (ts : List ToldTurn). TellAll c.args.style (names_of s) ts blocks blocks) (sym empty) (rounds_none c.args.style (names_of s) blocks),
    )

pub returns-in_default-clause-turns : goal.returns-in_default-clause-turns
returns-in_default-clause-turns c =
    turn_none c.args.callers (site_view c.args.site.now) c.args.style c.loop-rest.orders.items (blocks_of (lines_of c.loop-rest.rest.now)) c.loop-rest.turns.items _ c.loop-rest.invariant.0
    (lines_of c.cut_block.result.0.now) (blocks_of (lines_of c.cut_block.result.1.now)) c.cut_block.ensures.blocks c.in_ok-told.told c.in_default.is c.in_ok-told.ensures.turn

pub returns-in_default-clause-rounds : goal.returns-in_default-clause-rounds
returns-in_default-clause-rounds c = λ several. rounds_end c.args.style (names_of (site_view c.args.site.now)) c.loop-rest.turns.items (blocks_of (lines_of c.loop-rest.rest.now)) (blocks_of (lines_of c.args.log.now)) (c.loop-rest.invariant.1 several)

pub loop-rest-preserved : goal.loop-rest-preserved
loop-rest-preserved c =
    let s = site_view c.args.site.now in
    let os = c.loop-rest.orders.items in
    let done = c.loop-rest.turns.items in
    let t = c.in-Some.turn in
    let lines = lines_of c.cut_block.result.0.now in
    let rest = blocks_of (lines_of c.loop-rest.rest.now) in
    let more = blocks_of (lines_of c.cut_block.result.1.now) in
    let all = blocks_of (lines_of c.args.log.now) in
    let pushed = c.in_ok-push.ensures.items in (
      ap (λ (ts : List ToldTurn). map turn_of ts ++ turns_from c.args.callers s c.args.style c.tell_block.new.orders.items more) pushed
          ∙ turn_next c.args.callers s c.args.style os rest done (turns_from c.args.callers s c.args.style c.args.orders.now.items all) c.loop-rest.invariant.0 lines more c.cut_block.ensures.blocks c.in_ok-told.told t c.tell_block.new.orders.items c.in-Some.is c.in_ok-told.ensures.turn
          (of_some _ _ _ c.in-Some.is c.in_ok-told.ensures.orders),
      λ several.
          subst (λ (ts : List ToldTurn). TellAll c.args.style (names_of s) ts more all) (sym pushed)
          (rounds_next c.args.style (names_of s) done t rest more all lines c.cut_block.ensures.blocks (of_some _ _ _ c.in-Some.is (c.in_ok-told.ensures.round several)) (c.loop-rest.invariant.1 several)),
    )
