use Rattle.std.proofs.Common.{rules, sym, ap, ◌∙◌}
use Rattle.site_base.specs.View.{pairs_view}
use Rattle.command_macros.specs.Lookups.{value_along, parts, pairs_of}
use Rattle.command_macros.proofs.LookupLaws.{along_cut, along_end}
use Rattle.command_macros.proofs.lookups.value_along.Goals as goal

pub loop-key-preserved : goal.loop-key-preserved
loop-key-preserved c = (
  search rules,
  ap (value_along (parts c.in-Some.rest.now)) (c.pairs_of-pairs.ensures ∙ ap pairs_of c.value_at.ensures)
      ∙ (sym (along_cut c.loop-key.path.now c.in-Some.key.now c.in-Some.rest.now (pairs_view c.loop-key.pairs.now) c.in-Some.ensures.0 c.in-Some.ensures.1) ∙ c.loop-key.invariant.1),
)

pub returns : goal.returns
returns c = c.value_at-2.ensures ∙ (sym (along_end c.loop-key.path.now (pairs_view c.loop-key.pairs.now) c.in_default.ensures) ∙ c.loop-key.invariant.1)
