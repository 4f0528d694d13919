-- One part more was added, and all parts are the whole.
use Rattle.std.proofs.Common.{◌≡◌, [], ◌∷◌, ◌*◌, ◌++◌, length, map, take, sym, ap, ◌∙◌, subst, append_assoc, arith}
use Rattle.std.specs.Prelude.{Ok}
use Rattle.std.proofs.lemmas.List.{map-append}
use Rattle.std.specs.Vec.Iter.{into_iter_items}
use Rattle.site_model.specs.PlainSite.{site_view}
use Rattle.run_meaning.specs.Dealing.{line_events, line_refusals}
use Rattle.run_text.specs.TurnReading.{lines_read}
use Rattle.site_posts.specs.Made.{asked_of}
use Rattle.turn_deal.specs.Dealt.{refusal_of}
use Rattle.turn_deal.proofs.Parting.{none_left}
use Rattle.turn_deal.proofs.PartByPart.{all_lines, events_more, refusals_more}
use Rattle.turn_deal.proofs.parts.joined.Goals as goal

pub loop-part-preserved : goal.loop-part-preserved
loop-part-preserved c =
    let s = site_view c.args._site.now in
    let size = c.args._size in
    let lines = c.args.lines.now in
    let parts = c.args.parts.items in
    let l = c.loop-part in
    let rest = into_iter_items c.next.new.self in
    let d = c.in_ok-dealt.dealt in
    let part = c.in-Some.part in
    let is : part ≡ Ok d = c.in_ok-dealt.was in
    let whole : l.yielded ++ part ∷ rest ≡ parts = ap (λ ps. l.yielded ++ ps) (sym c.in-Some.ensures.steps.0) ∙ l.invariant.whole in
    let told : l.yielded ++ Ok d ∷ rest ≡ parts = ap (λ p. l.yielded ++ p ∷ rest) (sym is) ∙ whole in
    record {
      whole = append_assoc l.yielded (part ∷ []) rest ∙ whole;
      events =
          subst (λ p. map asked_of c.append.new.self.items ≡ line_events (lines_read s (take (length (l.yielded ++ p ∷ []) * size) lines))) (sym is)
          (events_more s size lines parts c.requires.size c.requires.parts l.yielded rest d told _ _
          (ap (map asked_of) c.in_ok-append.ensures.items ∙ map-append asked_of l.acts.items d.acts.items) l.invariant.events);
      refusals =
          subst (λ p. map refusal_of c.append-in-loop-part.new.self.items ≡ line_refusals 1 (lines_read s (take (length (l.yielded ++ p ∷ []) * size) lines))) (sym is)
          (refusals_more s size lines parts c.requires.size c.requires.parts l.yielded rest d told _ _
          (ap (map refusal_of) c.in_ok-append-2.ensures.items ∙ map-append refusal_of l.refusals.items d.refusals.items) l.invariant.refusals);
    }

pub returns : goal.returns
returns c =
    let s = site_view c.args._site.now in
    let l = c.loop-part in
    let none : length (into_iter_items l.part-iterator) ≡ 0 = omega (arith, c.in-None.ensures.steps.0, l.part-iterator.rest.ok.0) in
    let all = none_left l.yielded (into_iter_items l.part-iterator) c.args.parts.items none l.invariant.whole in
    let whole = ap (λ ps. take (length ps * c.args._size) c.args.lines.now) all ∙ all_lines s c.args._size c.args.lines.now c.args.parts.items c.requires.size c.requires.parts in
    record {
      events = l.invariant.events ∙ ap (λ ls. line_events (lines_read s ls)) whole;
      refusals = l.invariant.refusals ∙ ap (λ ls. line_refusals 1 (lines_read s ls)) whole;
    }
