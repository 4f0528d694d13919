-- One rule after the other.
use Rattle.site_gen.specs.Root.{dependencies_text, notifications_text, services_text}
use Rattle.site_gen.proofs.Texts.{three_behind}
use Rattle.site_gen.proofs.root.push_rules.Goals as goal

pub returns : goal.returns
returns c =
    three_behind c.args.text.now services_text dependencies_text notifications_text c.push_str.new.self c.push_str-2.new.self c.push_str-3.new.self
    c.in_ok-push_str.ensures.ok c.in_ok-push_str-2.ensures.ok c.in_ok-push_str-3.ensures.ok
