-- The tokens are those of the bytes.
use Rattle.std.proofs.Common.{◌≡◌, IsUtf8, Some, ap, ◌∙◌, subst}
use Rattle.std.proofs.lemmas.Result.{IfOk-weaker}
use Rattle.json.specs.Lex.{tokens}
use Rattle.site_model.specs.PlainSite.{site_view}
use Rattle.site_keep.specs.Passing.{PassesFile}
use Rattle.site_keep.specs.Reading.{told_read}
use Rattle.site_keep.specs.Slots.{told_of}
use Rattle.site_keep.proofs.PassLaws.{file_told}
use Rattle.site_keep.proofs.in_order.read_in_order.Goals as goal

pub returns-clause-told : goal.returns-clause-told
returns-clause-told c =
    let s = site_view c.args.site.now in
    let bytes = c.args.bytes.now in
    let same = c.in_ok-reader.ensures.ok ∙ ap tokens c.in-Ok.ensures.cases.0 in
    IfOk-weaker c.take_file.result _ _ (λ slots file. file_told s bytes (told_of slots.items) c.in-Ok.ensures.cases.1 (subst (PassesFile s (told_of slots.items)) same file)) c.take_file.ensures.told
