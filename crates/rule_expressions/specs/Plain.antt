-- The plain values of what conditions and the elements of a `for` come to.
use Rattle.std.specs.Prelude.{List, map, Vec}
use Rattle.std.specs.declared.alloc.Global.{Global}
use Rattle.commit_meaning.specs.Conditions as conditions
use Rattle.commit_meaning.specs.Rules as rules
use Rattle.rule_expressions.specs.declared.conditions.Verdict.{Verdict}
use Rattle.rule_expressions.specs.declared.loops.Element.{Element}

abbrev pub plain_verdict : Verdict → conditions.Verdict
plain_verdict v = record { assigned = v.assigned; ignored = v.ignored }

abbrev pub plain_element : Element → rules.Element
plain_element e = record { key = e.key; bound = e.bound.items }

abbrev pub plain_elements : Vec Element Global → List rules.Element
plain_elements es = map plain_element es.items
