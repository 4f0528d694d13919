use Rattle.object_types.proofs.LawfulLaws.{lawful_none, lawful_only}
use Rattle.object_types.proofs.laws.objects_without_faults_are_lawful.Goals as goal

pub returns-clause-none : goal.returns-clause-none
returns-clause-none c = lawful_none

pub returns-clause-only : goal.returns-clause-only
returns-clause-only c = lawful_only
