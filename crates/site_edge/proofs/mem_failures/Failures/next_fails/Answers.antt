use Rattle.std.proofs.Common.{◌≡◌, ap, rules}
use Rattle.site_edge.specs.declared.mem_failures.Failures.{Failures}
use Rattle.site_edge.specs.Fakes.{counted}
use Rattle.site_edge.proofs.Calm.{calm_on, calm_spares}
use Rattle.site_edge.proofs.mem_failures.Failures.next_fails.Goals as goal

abbrev new : goal.After-contains → Failures
new c = record { calls = c.saturating_add-self.result; listed = c.args.self.now.listed }

is_counted : (c : goal.After-contains) → new c ≡ counted c.args.self.now
is_counted c = ap (λ n. record { calls = n; listed = c.args.self.now.listed }) c.saturating_add-self.ensures

pub returns-clause-calm : goal.returns-clause-calm
returns-clause-calm c = calm_on c.args.self.now (new c) (is_counted c)

pub returns-clause-spared : goal.returns-clause-spared
returns-clause-spared c = calm_spares c.args.self.now (new c) c.contains.result (is_counted c) (search rules)
