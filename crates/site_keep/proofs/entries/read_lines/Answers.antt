-- One line after the other.
use Rattle.std.proofs.Common.{◌≡◌, ◌+◌, ◌∷◌, drop, sym, ap, ◌∙◌}
use Rattle.std.proofs.lemmas.List.{drop_more}
use Rattle.serde_json.specs.View.{items_view, view}
use Rattle.log_text.specs.Fronts.{◌>>=◌}
use Rattle.log_text.specs.SiteNames.{names_view}
use Rattle.site_keep.specs.Reading.{entries_among}
use Rattle.site_keep.proofs.SlotLaws.{entry_more, joined}
use Rattle.site_keep.proofs.entries.read_lines.Goals as goal

pub loop-line-preserved : goal.loop-line-preserved
loop-line-preserved c =
    let names = names_view c.args.names.now in
    let k = c.args.checkable in
    let i = c.loop-line.line-index in
    let vs = c.args.lines.now in
    let v = c.line-item.result in
    let front : drop i vs ≡ v ∷ drop (i + 1) vs = drop_more vs i v c.loop-line-test.true ∙ ap (λ x. x ∷ drop (i + 1) vs) (sym c.line-item.is) in
    rw c.in_ok-push.ensures.items
    (entry_more names k c.loop-line.entries.items (view v) (items_view (drop (i + 1) vs)) c.in_ok-read_line.field-0 (entries_among names k (items_view vs)) c.in_ok-read_line.ensures
    (sym (ap (λ xs. entries_among names k (items_view xs) >>= joined c.loop-line.entries.items) front) ∙ c.loop-line.invariant))
