-- What is left of items, rules and objects without the numbers of their statements.
use Rattle.std.specs.Prelude.{map}
use Rattle.site_base.specs.declared.diag.Diag.{Diag}
use Rattle.site_base.specs.declared.item_no.ItemNo.{ItemNo}
use Rattle.site_model.specs.PlainSite.{PlainObject}
use Rattle.eval_meaning.specs.Registered.{PlainItem, PlainRule}
use Rattle.commit_meaning.specs.Answers.{Answer, made, diagnosed, blocked}
use Rattle.commit_meaning.specs.Names.{Target, host, service}

-- A number without those of statements: it still tells which elements of a `for` an instance and its target are.
abbrev pub unordered_number : ItemNo → ItemNo
unordered_number n = record { item = 0; target = record { item = 0; host = 0; key = n.target.key }; key = n.key }

abbrev pub unordered_item : PlainItem → PlainItem
unordered_item i = record i { number = unordered_number i.number }

abbrev pub unordered_rule : PlainRule → PlainRule
unordered_rule r = record r { number = unordered_number r.number }

abbrev pub unordered_object : PlainObject → PlainObject
unordered_object o = record o { number = unordered_number o.number }

abbrev pub unordered_diag : Diag → Diag
unordered_diag d = record d { number = unordered_number d.number }

abbrev pub unordered_target : Target → Target
unordered_target (host h) = host (unordered_object h)
unordered_target (service h s) = service (unordered_object h) (unordered_object s)

-- what is made is changed by `f`, and diagnostics are told without the numbers of statements
abbrev pub unordered_answer : {A : Type 0} → (A → A) → Answer A → Answer A
unordered_answer f (made a) = made (f a)
unordered_answer f (diagnosed ds) = diagnosed (map unordered_diag ds)
unordered_answer f (blocked r) = blocked r
