-- The names of the library's calls.
use Rattle.std.specs.Prelude.{ℕ, List, [], ◌∷◌, codes, Option, Some, None, if◌then◌else◌}
use Rattle.std.specs.Str.{bytes_eq}
use Rattle.dsl_ops.specs.Operands.{PlainOperand, string, array, dictionary}
use Rattle.dsl_lib.specs.declared.plain.Plain.{Plain}
use Rattle.dsl_lib.specs.declared.plain.Plain.TheVariants as plain
use Rattle.dsl_lib.specs.declared.names.LibraryCall.{LibraryCall}
use Rattle.dsl_lib.specs.declared.names.LibraryCall.TheVariants as call

abbrev pub plain_spelling : Plain → List ℕ
plain_spelling plain.Match = codes "match"
plain_spelling plain.Len = codes "len"
plain_spelling plain.String = codes "string"
plain_spelling plain.Number = codes "number"
plain_spelling plain.Bool = codes "bool"
plain_spelling plain.Range = codes "range"
plain_spelling plain.Union = codes "union"
plain_spelling plain.Intersection = codes "intersection"
plain_spelling plain.Keys = codes "keys"
plain_spelling plain.Log = codes "log"
plain_spelling plain.TextLen = codes "len"
plain_spelling plain.TextContains = codes "contains"
plain_spelling plain.TextLower = codes "lower"
plain_spelling plain.TextUpper = codes "upper"
plain_spelling plain.TextTrim = codes "trim"
plain_spelling plain.TextReplace = codes "replace"
plain_spelling plain.TextSplit = codes "split"
plain_spelling plain.TextSubstr = codes "substr"
plain_spelling plain.ArrayLen = codes "len"
plain_spelling plain.ArrayContains = codes "contains"
plain_spelling plain.ArrayGet = codes "get"
plain_spelling plain.ArrayAdd = codes "add"
plain_spelling plain.ArrayJoin = codes "join"
plain_spelling plain.ArraySort = codes "sort"
plain_spelling plain.DictLen = codes "len"
plain_spelling plain.DictContains = codes "contains"
plain_spelling plain.DictGet = codes "get"
plain_spelling plain.DictSet = codes "set"
plain_spelling plain.DictRemove = codes "remove"
plain_spelling plain.DictKeys = codes "keys"
plain_spelling plain.DictValues = codes "values"

abbrev pub spelling : LibraryCall → List ℕ
spelling (call.Plain p) = plain_spelling p
spelling call.GetHost = codes "get_host"
spelling call.GetService = codes "get_service"
spelling call.Map = codes "map"
spelling call.Filter = codes "filter"
spelling call.Any = codes "any"
spelling call.All = codes "all"

abbrev pub functions : List LibraryCall
functions =
    (call.Plain plain.Match) ∷ (call.Plain plain.Len) ∷ (call.Plain plain.String) ∷
    (call.Plain plain.Number) ∷ (call.Plain plain.Bool) ∷ (call.Plain plain.Range) ∷
    (call.Plain plain.Union) ∷ (call.Plain plain.Intersection) ∷ (call.Plain plain.Keys) ∷
    call.GetHost ∷ call.GetService ∷ (call.Plain plain.Log) ∷ []

-- the methods of texts, of arrays and of dictionaries
abbrev pub text_methods : List LibraryCall
text_methods =
    (call.Plain plain.TextLen) ∷ (call.Plain plain.TextContains) ∷ (call.Plain plain.TextLower) ∷
    (call.Plain plain.TextUpper) ∷ (call.Plain plain.TextTrim) ∷ (call.Plain plain.TextReplace) ∷
    (call.Plain plain.TextSplit) ∷ (call.Plain plain.TextSubstr) ∷ []

abbrev pub array_methods : List LibraryCall
array_methods =
    (call.Plain plain.ArrayLen) ∷ (call.Plain plain.ArrayContains) ∷ (call.Plain plain.ArrayGet) ∷
    (call.Plain plain.ArrayAdd) ∷ (call.Plain plain.ArrayJoin) ∷ (call.Plain plain.ArraySort) ∷
    call.Map ∷ call.Filter ∷ call.Any ∷ call.All ∷ []

abbrev pub dict_methods : List LibraryCall
dict_methods =
    (call.Plain plain.DictLen) ∷ (call.Plain plain.DictContains) ∷ (call.Plain plain.DictGet) ∷
    (call.Plain plain.DictSet) ∷ (call.Plain plain.DictRemove) ∷ (call.Plain plain.DictKeys) ∷
    (call.Plain plain.DictValues) ∷ []

-- nothing else has any
abbrev pub methods_of : PlainOperand → List LibraryCall
methods_of (string t) = text_methods
methods_of (array vs) = array_methods
methods_of (dictionary ps) = dict_methods
methods_of o = []

-- the first of these calls that is written so
abbrev pub call_among : List LibraryCall → List ℕ → Option LibraryCall
call_among [] name = None
call_among (c ∷ cs) name = if bytes_eq name (spelling c) then Some c else call_among cs name

unfoldable pub function_named : List ℕ → Option LibraryCall
function_named name = call_among functions name

unfoldable pub method_named : PlainOperand → List ℕ → Option LibraryCall
method_named o name = call_among (methods_of o) name
