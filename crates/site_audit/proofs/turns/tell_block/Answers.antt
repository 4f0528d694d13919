use Rattle.std.proofs.Common.{ap, sym, ◌∙◌}
use Rattle.site_model.specs.PlainSite.{site_view}
use Rattle.site_audit.specs.BlockReading.{block_read}
use Rattle.site_audit.specs.Blocks.{lines_of}
use Rattle.site_audit.specs.ByCallers.{round_of}
use Rattle.site_audit.proofs.TurnLaws.{told_in_block}
use Rattle.site_audit.proofs.turns.tell_block.Goals as goal

pub returns-in-Some-clause-round : goal.returns-in-Some-clause-round
returns-in-Some-clause-round c = λ several.
    told_in_block c.args.style (site_view c.args.site.now) (lines_of c.args.bytes.now) c.in-Some.block round_of c.tell_turn.result (sym c.in-Some.is ∙ (c.in_ok-block.ensures ∙ ap (λ n. block_read c.args.style n (lines_of c.args.bytes.now)) c.requires.names)) (c.tell_turn.ensures.round several)
