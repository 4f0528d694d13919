-- One part more was added, and all parts are the whole.
use Rattle.std.proofs.Common.{◌≡◌, [], ◌∷◌, ◌*◌, ◌++◌, length, take, sym, ap, ◌∙◌, subst, append_assoc, arith}
use Rattle.std.specs.Prelude.{Ok}
use Rattle.std.specs.List.{flat_map}
use Rattle.std.specs.Vec.Iter.{into_iter_items}
use Rattle.site_model.specs.PlainSite.{site_view}
use Rattle.engine_log.specs.TurnLines.{segment_lines}
use Rattle.engine_log.proofs.PartByPart.{all_segments, lines_more}
use Rattle.turn_deal.proofs.Parting.{none_left}
use Rattle.engine_log.proofs.parts.add_parts.Goals as goal

pub loop-part-preserved : goal.loop-part-preserved
loop-part-preserved c =
    let style = c.args._style in
    let s = site_view c.args._site.now in
    let size = c.args._size in
    let xs = c.args._segments.now in
    let parts = c.args.parts.items in
    let l = c.loop-part in
    let rest = into_iter_items c.next.new.self in
    let lines = c.in_ok-part.field-0 in
    let part = c.in-Some.part in
    let is : part ≡ Ok lines = c.in_ok-part.was in
    let whole : l.yielded ++ part ∷ rest ≡ parts = ap (λ ps. l.yielded ++ ps) (sym c.in-Some.ensures.steps.0) ∙ l.invariant.whole in
    let told : l.yielded ++ Ok lines ∷ rest ≡ parts = ap (λ p. l.yielded ++ p ∷ rest) (sym is) ∙ whole in
    record {
      whole = append_assoc l.yielded (part ∷ []) rest ∙ whole;
      lines =
          subst (λ p. c.add_part.new.lines ≡ c.args.lines.now ++ flat_map (segment_lines style s) (take (length (l.yielded ++ p ∷ []) * size) xs)) (sym is)
          (lines_more style s size xs parts c.requires.size c.requires.parts l.yielded rest lines told c.args.lines.now l.lines _ c.in_ok-add_part.ensures l.invariant.lines);
    }

pub returns : goal.returns
returns c =
    let style = c.args._style in
    let s = site_view c.args._site.now in
    let l = c.loop-part in
    let none : length (into_iter_items l.part-iterator) ≡ 0 = omega (arith, c.in-None.ensures.steps.0, l.part-iterator.rest.ok.0) in
    let all = none_left l.yielded (into_iter_items l.part-iterator) c.args.parts.items none l.invariant.whole in
    let whole = ap (λ ps. take (length ps * c.args._size) c.args._segments.now) all ∙ all_segments style s c.args._size c.args._segments.now c.args.parts.items c.requires.size c.requires.parts in
    l.invariant.lines ∙ ap (λ xs. c.args.lines.now ++ flat_map (segment_lines style s) xs) whole
