-- The plain value of what an item comes to.
use Rattle.site_model.specs.PlainSite.{PlainObject, object_view}
use Rattle.commit_meaning.specs.Answers as answer
use Rattle.commit_meaning.specs.Answers.{Answer}
use Rattle.item_body.specs.declared.item_answer.ItemAnswer.{ItemAnswer}
use Rattle.item_body.specs.declared.item_answer.ItemAnswer.TheVariants as items

abbrev pub plain_answer : ItemAnswer → Answer PlainObject
plain_answer (items.Made o) = answer.made (object_view o)
plain_answer (items.Diags ds) = answer.diagnosed ds
plain_answer (items.Blocked r) = answer.blocked r
