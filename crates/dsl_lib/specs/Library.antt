-- The library: what each of its calls answers.
use Rattle.std.specs.Prelude.{List}
use Rattle.dsl_value.specs.Contents.{Contents}
use Rattle.dsl_value.specs.declared.value.Value.{Value}
use Rattle.dsl_value.specs.declared.value.Value.TheVariants as value
use Rattle.dsl_lib.specs.Answers.{Answer, gives}
use Rattle.dsl_lib.specs.Arrays as arrays
use Rattle.dsl_lib.specs.Dicts as dicts
use Rattle.dsl_lib.specs.Matching.{match_answer}
use Rattle.dsl_lib.specs.Scalars as scalars
use Rattle.dsl_lib.specs.Sets.{union, intersection, range}
use Rattle.dsl_lib.specs.Texts as texts
use Rattle.dsl_lib.specs.declared.plain.Plain.{Plain}
use Rattle.dsl_lib.specs.declared.plain.Plain.TheVariants as plain

-- `log` takes any arguments and gives null
abbrev pub log : Answer
log = gives value.Null

abbrev pub answer : Plain → Contents → List Value → Answer
answer plain.Match s args = match_answer s args
answer plain.Len s args = scalars.len s args
answer plain.String s args = scalars.string args
answer plain.Number s args = scalars.number args
answer plain.Bool s args = scalars.bool s args
answer plain.Range s args = range args
answer plain.Union s args = union s args
answer plain.Intersection s args = intersection s args
answer plain.Keys s args = dicts.keys s args
answer plain.Log s args = log
answer plain.TextLen s args = texts.len args
answer plain.TextContains s args = texts.contains args
answer plain.TextLower s args = texts.lower args
answer plain.TextUpper s args = texts.upper args
answer plain.TextTrim s args = texts.trim args
answer plain.TextReplace s args = texts.replace args
answer plain.TextSplit s args = texts.split args
answer plain.TextSubstr s args = texts.substr args
answer plain.ArrayLen s args = arrays.len s args
answer plain.ArrayContains s args = arrays.contains s args
answer plain.ArrayGet s args = arrays.get s args
answer plain.ArrayAdd s args = arrays.add s args
answer plain.ArrayJoin s args = arrays.join s args
answer plain.ArraySort s args = arrays.sort s args
answer plain.DictLen s args = dicts.len s args
answer plain.DictContains s args = dicts.contains s args
answer plain.DictGet s args = dicts.get s args
answer plain.DictSet s args = dicts.set s args
answer plain.DictRemove s args = dicts.remove s args
answer plain.DictKeys s args = dicts.keys s args
answer plain.DictValues s args = dicts.values s args
