-- One entry after the other.
use Rattle.std.proofs.Common.{◌≡◌, ◌++◌, ◌-◌, ◌∷◌, [], List, ℕ, length, take, ◌∙◌, ap}
use Rattle.site_model.specs.PlainSite.{site_view}
use Rattle.site_keep.specs.StateFile.{saved_line}
use Rattle.site_keep.proofs.SaveLaws.{ends_in_newline}
use Rattle.site_keep.proofs.WriteLaws.{entry_more}
use Rattle.site_keep.proofs.saved_lines.SavedLines.add.Goals as goal

pub without_newline-requires : goal.without_newline-requires
without_newline-requires c =
    let l = ends_in_newline (site_view c.args.site.now) c.args.checkable c.entry-item.result in
    (l.0, c.as_str.ensures ∙ c.in_ok-line.ensures ∙ l.1)

pub loop-entry-preserved : goal.loop-entry-preserved
unfolding saved_line
loop-entry-preserved c =
    let l = c.loop-entry in
    let s = site_view c.args.site.now in
    let line : c.without_newline.result.now ≡ saved_line s c.args.checkable c.entry-item.result =
    c.without_newline.ensures ∙ ap (λ (t : List ℕ). take (length t - 1) t) (c.as_str.ensures ∙ c.in_ok-line.ensures) in
    entry_more (saved_line s c.args.checkable) l.entry-index c.args.entries.now c.entry-item.result l.self c.push.new.self _ c.loop-entry-test.true c.entry-item.is (c.in_ok-push.ensures ∙ ap (λ t. l.self ++ t ∷ []) line)
    l.invariant
