use Rattle.dsl_syntax.proofs.SyntaxKinds.{kind_template}
use Rattle.dsl_statements.proofs.objects.template_of.Goals as goal

pub returns : goal.returns
returns c = kind_template c.args.named.kind c.args.named.name c.args.named.bodied.uses c.args.named.bodied.body
