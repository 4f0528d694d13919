use Rattle.std.proofs.Common.{◌≡◌, ◌+◌, ◌-◌, ◌∷◌, length, drop, sym, ap, ◌∙◌, arith}
use Rattle.site_audit.specs.Blocks.{blocks_of, lines_of}
use Rattle.site_audit.proofs.Cutting.{block_cut}
use Rattle.site_audit.proofs.blocks.cut_block.Goals as goal

pub returns-clause-blocks : goal.returns-clause-blocks
returns-clause-blocks c =
    let shorter = c.cut_line.ensures.shorter in
    let within = c.from_turn-behind.ensures.within in
    let n = length c.args.log.now - length c.from_turn-behind.result.now in
    let e : n + length c.from_turn-behind.result.now ≡ length c.args.log.now = omega (arith, shorter, within) in
    block_cut c.args.log.now c.cut_line.result.0.now c.cut_line.result.1.now c.from_turn-behind.result.now n c.cut_line.ensures.lines c.from_turn-behind.ensures.lines e
    ∙ (ap (λ xs. lines_of xs ∷ blocks_of (lines_of (drop n c.args.log.now))) (sym c.split_at.ensures.front)
    ∙ ap (λ xs. lines_of c.split_at.result.0.now ∷ blocks_of (lines_of xs)) (sym c.split_at.ensures.back))
