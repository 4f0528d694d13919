-- What lines give may go to any thread.
use denote.Param.Send.{IsSend, sendable}
use Rattle.std.proofs.Crossing.{crosses}
use Rattle.site_posts.proofs.Crossing.{text_send}
use Rattle.turn_deal.specs.contracts.lines.LinesDealt.{the_row as dealt_row}

pub dealt_send : IsSend dealt_row
dealt_send = search (sendable, crosses, text_send) depth 60 fits 20000
