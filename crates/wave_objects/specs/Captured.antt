-- What items captured.
use Rattle.std.specs.Prelude.{List}
use Rattle.std.specs.List.{AllByRecursion}
use Rattle.dsl_value.specs.Contents.{Contents}
use Rattle.eval_meaning.specs.Registered.{PlainItem}
use Rattle.eval_work.specs.Kept.{PairsNamed}

-- what each of these items captured names cells and functions of a store
abbrev pub AreNamed : Contents → List PlainItem → Type 0
AreNamed c is = AllByRecursion (λ i. PairsNamed c i.captured) is
