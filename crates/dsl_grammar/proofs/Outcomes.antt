-- What `parse` gives, from the outcome of reading.
use Rattle.std.proofs.Common.{List, Result, Ok, Err, sym, subst, ◌∙◌}
use Rattle.dsl_syntax.specs.declared.file.File.{File}
use Rattle.dsl_lexer.specs.declared.token.Token.{Token}
use Rattle.dsl_lexer.specs.Lists.{IsWhole}
use Rattle.dsl_grammar.specs.declared.parse_error.ParseError.{ParseError}
use Rattle.dsl_grammar.specs.declared.parse_error.ParseError.TheVariants as errors
use Rattle.dsl_grammar.specs.Files.{Outcome, tree_found, fault_at, deep_at_place, Parses, IsSyntaxFault, IsDeepFault, Holds, file_outcome}
use Rattle.dsl_grammar.specs.Parsing.{Answers, GivesTree, IsShallow, GivesOnly, GivesFault}
use Rattle.dsl_grammar.proofs.Place.{file_holds, fault_no_tree}

tree_of : (ts : List Token) (o : Outcome) (r : Result File ParseError) → Holds ts o → Answers o r → GivesTree ts r
tree_of ts (tree_found t) (Ok file) h a = subst (Parses ts) (sym a) h.0
tree_of ts (fault_at p) (Ok file) h a = absurd a
tree_of ts (deep_at_place p) (Ok file) h a = absurd a
tree_of ts o (Err e) h a = tt

shallow_of : (ts : List Token) (o : Outcome) (r : Result File ParseError) → Holds ts o → Answers o r → IsShallow ts r
shallow_of ts (tree_found t) (Ok file) h a = h.2
shallow_of ts (fault_at p) (Ok file) h a = absurd a
shallow_of ts (deep_at_place p) (Ok file) h a = absurd a
shallow_of ts o (Err e) h a = tt

only_of : (ts : List Token) (o : Outcome) (r : Result File ParseError) → Holds ts o → Answers o r → GivesOnly ts r
only_of ts (tree_found t) (Ok file) h a = λ tree p. a ∙ h.1 tree p
only_of ts (fault_at p) (Ok file) h a = absurd a
only_of ts (deep_at_place p) (Ok file) h a = absurd a
only_of ts (tree_found t) (Err (errors.SyntaxFault p)) h a = absurd a
only_of ts (fault_at q) (Err (errors.SyntaxFault p)) h a = λ tree t. fault_no_tree ts q h tree t
only_of ts (deep_at_place q) (Err (errors.SyntaxFault p)) h a = absurd a
only_of ts (tree_found t) (Err (errors.TooDeep p)) h a = absurd a
only_of ts (fault_at q) (Err (errors.TooDeep p)) h a = absurd a
only_of ts (deep_at_place q) (Err (errors.TooDeep p)) h a = λ tree t. subst (IsDeepFault ts) (sym a) h
only_of ts o (Err errors.OutOfMemory) h a = λ tree t. tt

fault_of : (ts : List Token) (o : Outcome) (r : Result File ParseError) → Holds ts o → Answers o r → GivesFault ts r
fault_of ts o (Ok file) h a = tt
fault_of ts (tree_found t) (Err (errors.SyntaxFault p)) h a = absurd a
fault_of ts (fault_at q) (Err (errors.SyntaxFault p)) h a = subst (IsSyntaxFault ts) (sym a) h
fault_of ts (deep_at_place q) (Err (errors.SyntaxFault p)) h a = absurd a
fault_of ts (tree_found t) (Err (errors.TooDeep p)) h a = absurd a
fault_of ts (fault_at q) (Err (errors.TooDeep p)) h a = absurd a
fault_of ts (deep_at_place q) (Err (errors.TooDeep p)) h a = subst (IsDeepFault ts) (sym a) h
fault_of ts o (Err errors.OutOfMemory) h a = tt

-- with the outcome of the file

pub tree_given : (ts : List Token) (r : Result File ParseError) → IsWhole ts → Answers (file_outcome ts) r → GivesTree ts r
tree_given ts r w a = tree_of ts (file_outcome ts) r (file_holds ts w) a

pub shallow_given : (ts : List Token) (r : Result File ParseError) → IsWhole ts → Answers (file_outcome ts) r → IsShallow ts r
shallow_given ts r w a = shallow_of ts (file_outcome ts) r (file_holds ts w) a

pub only_given : (ts : List Token) (r : Result File ParseError) → IsWhole ts → Answers (file_outcome ts) r → GivesOnly ts r
only_given ts r w a = only_of ts (file_outcome ts) r (file_holds ts w) a

pub fault_given : (ts : List Token) (r : Result File ParseError) → IsWhole ts → Answers (file_outcome ts) r → GivesFault ts r
fault_given ts r w a = fault_of ts (file_outcome ts) r (file_holds ts w) a
