use Rattle.std.proofs.Common.{sym, ◌∙◌, true≢false}
use Rattle.site_keep.proofs.ShapeLaws.{no_value, value_found}
use Rattle.site_keep.proofs.shape.read_value.Goals as goal

pub returns-in-Ok : goal.returns-in-Ok
returns-in-Ok c = value_found c.args.bytes.now _ c.in-Ok.ensures.ok.0 c.in-Ok.ensures.ok.1

pub returns-in-Err-2 : goal.returns-in-Err-2
returns-in-Err-2 c = no_value c.args.bytes.now (c.in-Err.ensures.err (λ h. true≢false (sym (c.is_memory.ensures.1 h) ∙ c.if-is_memory.false)))
