use Rattle.std.proofs.Common.{take, drop, sym, ap, ◌∙◌, ◌∷◌, arith}
use Rattle.site_audit.specs.Blocks.{lines_of}
use Rattle.site_audit.proofs.Cutting.{line_cut, line_some, line_within}
use Rattle.site_audit.proofs.blocks.cut_line.Goals as goal

pub split_at-requires : goal.split_at-requires
split_at-requires c = let w = line_within c.args.bytes.now in let e = c.line_len.ensures in omega (arith, w, e)

pub returns-clause-lines : goal.returns-clause-lines
returns-clause-lines c =
    line_cut c.args.bytes.now c.requires
    ∙ (ap (λ n. take n c.args.bytes.now ∷ lines_of (drop n c.args.bytes.now)) (sym c.line_len.ensures)
    ∙ (ap (λ xs. xs ∷ lines_of (drop c.line_len.result c.args.bytes.now)) (sym c.split_at.ensures.front)
    ∙ ap (λ xs. c.split_at.result.0.now ∷ lines_of xs) (sym c.split_at.ensures.back)))

pub returns-clause-shorter : goal.returns-clause-shorter
returns-clause-shorter c = let s = line_some c.args.bytes.now c.requires in let e = c.line_len.ensures in let b = c.split_at.ensures.back_len in omega (arith, s, e, b)
