use Rattle.dsl_syntax.proofs.SyntaxKinds.{kind_apply}
use Rattle.dsl_statements.proofs.applies.apply_of.Goals as goal

pub returns : goal.returns
returns c = kind_apply c.args.kind c.args.name c.args.headed.heads.to c.args.headed.heads.each c.args.headed.bodied.uses c.args.headed.bodied.body
