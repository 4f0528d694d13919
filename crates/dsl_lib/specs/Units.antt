-- What calls of the library cost.
use Rattle.std.specs.Prelude.{ℕ}
use Rattle.dsl_value.specs.Outcomes.{made_units, texts_units}
use Rattle.dsl_lib.specs.Answers.{Answer}
use Rattle.dsl_lib.specs.declared.plain.Plain.{Plain}
use Rattle.dsl_lib.specs.declared.plain.Plain.TheVariants as plain

-- keys and pieces are texts that are made with their array, what an array or a dictionary has was there before, and taking a
-- pair out costs nothing; all else costs what is made
abbrev pub units : Plain → Answer → ℕ
units plain.Keys a = texts_units a
units plain.DictKeys a = texts_units a
units plain.TextSplit a = texts_units a
units plain.ArrayGet a = 0
units plain.DictGet a = 0
units plain.DictRemove a = 0
units p a = made_units a
