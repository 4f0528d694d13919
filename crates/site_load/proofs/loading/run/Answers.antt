use Rattle.std.proofs.Common.{◌≡◌, IfOk, map, ap, ◌∙◌, subst}
use Rattle.dsl_syntax.specs.SyntaxView.{file_view}
use Rattle.eval_work.specs.Works.{plain_file}
use Rattle.site_load.specs.Loads.{load_view, plain_files}
use Rattle.site_load.proofs.LoadLaws.{run_ends}
use Rattle.site_load.proofs.loading.run.Goals as goal

pub returns-in-Ok-clause-value : goal.returns-in-Ok-clause-value
returns-in-Ok-clause-value g c = λ all h.
    let w = c.args.walk in
    let given = plain_files w.names w.library.items (map file_view w.trees.items) in
    let same : map plain_file c.deref-2.result.now ≡ given =
    ap (map plain_file) c.deref-2.ensures.value ∙ c.in_ok-sources.ensures ∙ ap (λ bs. plain_files w.names bs (map file_view w.trees.items)) c.deref.ensures.value in
    subst (λ o. IfOk c.with_zone.result (λ a. load_view a ≡ o))
    (run_ends all w.names (map plain_file c.deref-2.result.now) given c.deref-3.result.now w.order.items same c.deref-3.ensures.value c.in-Ok.parts c.in-Ok.ensures.loads)
    (c.with_zone.ensures.value all h)
