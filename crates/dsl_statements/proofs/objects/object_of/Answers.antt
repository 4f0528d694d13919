use Rattle.dsl_syntax.proofs.SyntaxKinds.{kind_object}
use Rattle.dsl_statements.proofs.objects.object_of.Goals as goal

pub returns : goal.returns
returns c = kind_object c.args.named.kind c.args.named.name c.args.named.bodied.uses c.args.named.bodied.body
