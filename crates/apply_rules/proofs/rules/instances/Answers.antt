use Rattle.std.proofs.Common.{[], ◌∷◌, Err, List, Vec, Global, sym, ap, ◌∙◌, subst}
use Rattle.eval_meaning.specs.Registered.{PlainItem}
use Rattle.eval_work.specs.Works.{view_of, plain_rule}
use Rattle.apply_rules.specs.declared.instance.Instance.{Instance}
use Rattle.commit_meaning.specs.Answers.{made, diagnosed, diag, answered}
use Rattle.commit_meaning.specs.Rules.{rule_run, pair_number}
use Rattle.item_start.specs.Answers.{Answers}
use Rattle.apply_rules.specs.Plain.{plain_items, plain_target}
use Rattle.apply_rules.proofs.Lasting.{rule_lasts}
use Rattle.apply_rules.proofs.rules.instances.Goals as goal

pub returns-in-Ok-clause-stays : goal.returns-in-Ok-clause-stays
returns-in-Ok-clause-stays c = λ world part.
    rule_lasts (view_of c.args.view.now) world (plain_rule c.args.rule.now) (plain_target c.args.target.now.target) (made (plain_items c.in-Ok.made)) part c.in-Ok.ensures.answer

pub returns-in-Err-Fault-clause-stays : goal.returns-in-Err-Fault-clause-stays
returns-in-Err-Fault-clause-stays c = λ world part.
    let v = view_of c.args.view.now in
    let r = plain_rule c.args.rule.now in
    let t = plain_target c.args.target.now.target in
    let n = pair_number r t in
    let f = c.in-Err-Fault in
    let told = subst (λ s. Answers {X = Vec Instance Global} {Y = List PlainItem} plain_items n (Err s) (answered n (rule_run v r t))) f.field-0-is f.ensures.answer in
    rule_lasts v world r t (diagnosed (diag c.pair_number-number.result f.place f.kind f.text ∷ [])) part (told ∙ ap (λ m. diagnosed (diag m f.place f.kind f.text ∷ [])) (sym c.pair_number-number.ensures))
