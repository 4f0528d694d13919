-- The lines of all turns are those of the entries that the run leaves.
use Rattle.std.proofs.Common.{◌≡◌, ◌<◌, ◌^◌, ◌∙◌, [], ap, length, refl, sym, subst, arith}
use Rattle.run_meaning.proofs.Lists.{length_map}
use Rattle.site_keep.specs.StateFile.{lines_of, state_file}
use Rattle.site_model.specs.PlainSite.{check_view, site_view}
use Rattle.site_model.specs.declared.site.Site.{Site}
use Rattle.kept_runs.proofs.Gathered.{lines_many}
use Rattle.kept_runs.proofs.Kept.{kept}
use Rattle.kept_runs.proofs.keeping.keep_by.Goals as goal

pub save-requires-clause-whole : goal.save-requires-clause-whole
save-requires-clause-whole g c =
    let k = c.in_ok-lines.ensures in
    ap length (c.as_slice.ensures.value ∙ k.lines)
    ∙ lines_many (site_view c.args.engine.now.run.site) c.take_turns.new.engine.run.histories
    ∙ k.whole
    ∙ length_map check_view c.args.engine.now.run.site.checkables
    ∙ ap (λ (x : Site). length x.checkables) (sym (c.site.ensures ∙ k.site))

pub save-requires-clause-few : goal.save-requires-clause-few
save-requires-clause-few g c =
    let few = c.requires.few in
    subst (λ (x : Site). length x.checkables < 2 ^ 32) (sym (c.site.ensures ∙ c.in_ok-lines.ensures.site)) (let n = length_map check_view c.args.engine.now.run.site.checkables in omega (arith, few, n))

pub returns : goal.returns
returns g c =
    let callers = g.C.Workers.callers c.args.workers.now in
    let r = c.args.engine.now.run in
    let k = c.in_ok-lines.ensures in
    let engine = c.take_turns.new.engine in
    let same : c.site.result.now ≡ r.site = c.site.ensures ∙ k.site in
    let lines = c.as_slice.ensures.value ∙ k.lines ∙ ap (λ (x : Site). lines_of (site_view x) engine.run.histories) (sym same) in
    let text = c.in_ok-text.ensures engine.run.histories lines ∙ ap (λ (x : Site). state_file (site_view x) engine.run.histories) same in
    (omega arith, kept callers r c.requires.begin c.requires.callers.0 c.requires.zone c.requires.sound.names c.args.turns [] engine c.in_ok-lines.lines.items c.in_ok-text.text refl k text)
