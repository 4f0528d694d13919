use Rattle.caller_examples.proofs.HostAndService.{host_is, service_is, only}
use Rattle.caller_examples.proofs.laws.a_host_and_its_service_in_either_order.Goals as goal

pub returns-clause-host : goal.returns-clause-host
returns-clause-host c = host_is

pub returns-clause-service : goal.returns-clause-service
returns-clause-service c = service_is

pub returns-clause-only : goal.returns-clause-only
returns-clause-only c = only
