-- One host after the other is written.
use Rattle.site_gen.specs.Root.{commands_text, host_line}
use Rattle.site_gen.proofs.Texts.{written_on}
use Rattle.site_gen.proofs.root.root_text.Goals as goal

pub loop-host-preserved : goal.loop-host-preserved
loop-host-preserved c = written_on host_line commands_text c.loop-host.text c.push_host.new.text c.loop-host.host c.loop-host.invariant c.in_ok-push_host.ensures
