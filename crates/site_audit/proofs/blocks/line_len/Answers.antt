use Rattle.std.proofs.Common.{◌+◌, ◌<◌, ◌≤◌, length, sym, ◌∙◌, ap, subst}
use Rattle.site_audit.proofs.Cutting.{len_within, len_whole}
use Rattle.site_audit.proofs.blocks.line_len.Goals as goal

pub returns-then-inner-bytes : goal.returns-then-inner-bytes
returns-then-inner-bytes c = ap (λ n. n + 1) c.inner_len-inner.ensures ∙ sym (len_within c.args.bytes.now (subst (λ n. n < length c.args.bytes.now) c.inner_len-inner.ensures c.if-inner-bytes.true))

pub returns-else-inner-bytes : goal.returns-else-inner-bytes
returns-else-inner-bytes c = c.inner_len-inner.ensures ∙ sym (len_whole c.args.bytes.now (subst (λ n. length c.args.bytes.now ≤ n) c.inner_len-inner.ensures c.if-inner-bytes.false))
