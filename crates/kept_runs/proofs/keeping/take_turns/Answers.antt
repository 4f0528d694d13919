-- One turn after the other.
use Rattle.std.proofs.Common.{◌≡◌, ◌∙◌, List, ap, arith, length, refl, rules, subst, sym}
use Rattle.std.proofs.lemmas.List.{nil_from_length}
use Rattle.std.specs.Vec.Iter.{into_iter_items}
use Rattle.run_meaning.specs.Runs.{no_entries}
use Rattle.site_edge.specs.declared.turn.Turn.{Turn}
use Rattle.site_keep.specs.StateFile.{lines_of}
use Rattle.site_model.specs.PlainSite.{site_view}
use Rattle.site_model.specs.declared.site.Site.{Site}
use Rattle.kept_runs.specs.Keeping.{Keeps}
use Rattle.kept_runs.proofs.Gathered.{lines_many}
use Rattle.kept_runs.proofs.Kept.{begun, fewer, sound_as}
use Rattle.kept_runs.proofs.keeping.take_turns.Goals as goal

pub loop-turn-init : goal.loop-turn-init
loop-turn-init g c =
    begun (g.C.Workers.callers c.args.workers.now) c.args.engine.now.run c.requires.begin c.args.turns (into_iter_items c.into_iter-turn-iterator.result) c.args.engine.now c.in_ok-lines.lines.items (search rules) refl c.requires.fresh
    (c.in_ok-lines.ensures ∙ ap (λ (x : Site). lines_of (site_view x) (no_entries (site_view x))) c.site.ensures)

pub take-requires-clause-fresh : goal.take-requires-clause-fresh
take-requires-clause-fresh g c = c.loop-turn.invariant.fresh

pub take-requires-clause-few : goal.take-requires-clause-few
take-requires-clause-few g c =
    let l = c.loop-turn in
    let callers = g.C.Workers.callers c.args.workers.now in
    let r = c.args.engine.now.run in
    let left = into_iter_items c.next.new.self in
    let k = subst (λ (ts : List Turn). Keeps callers r c.args.turns ts l.engine l.lines.items) c.in-Some.ensures.steps.0 l.invariant in
    fewer callers r c.args.turns left c.in-Some.turn l.engine l.lines.items k _ c.requires.few

pub take-requires-clause-sound : goal.take-requires-clause-sound
take-requires-clause-sound g c = sound_as (sym c.loop-turn.invariant.site) c.requires.sound

pub take-requires-clause-whole : goal.take-requires-clause-whole
take-requires-clause-whole g c = let k = c.loop-turn.invariant in
    ap length k.lines ∙ lines_many (site_view c.args.engine.now.run.site) c.loop-turn.engine.run.histories ∙ k.whole ∙ ap (λ (x : Site). length (site_view x).checkables) (sym k.site)

pub loop-turn-preserved : goal.loop-turn-preserved
loop-turn-preserved g c =
    let l = c.loop-turn in
    let callers = g.C.Workers.callers c.args.workers.now in
    let r = c.args.engine.now.run in
    let left = into_iter_items c.next.new.self in
    let k = subst (λ (ts : List Turn). Keeps callers r c.args.turns ts l.engine l.lines.items) c.in-Some.ensures.steps.0 l.invariant in
    c.in_ok-take.ensures r c.args.turns left k

pub returns : goal.returns
returns g c =
    let l = c.loop-turn in
    let none : length (into_iter_items l.turn-iterator) ≡ 0 = omega (arith, c.in-None.ensures.steps.0, l.turn-iterator.rest.ok.0) in
    subst (λ (ts : List Turn). Keeps (g.C.Workers.callers c.args.workers.now) c.args.engine.now.run c.args.turns ts l.engine l.lines.items) (nil_from_length (into_iter_items l.turn-iterator) none) l.invariant
