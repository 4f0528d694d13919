use Rattle.std.proofs.Common.{Ok, Err, subst}
use Rattle.dsl_lexer.specs.Lexing.{lexed, Gives}
use Rattle.dsl_lexer.specs.Places.{start_of}
use Rattle.dsl_lexer.specs.declared.lex_error.LexError.TheVariants as error
use Rattle.dsl_lexer.proofs.ListLaws.{found_tokens, only, fault, only_fault, found_whole}
use Rattle.dsl_lexer.proofs.lexing.lex.Goals as goal

pub returns-in-Ok-clause-tokens : goal.returns-in-Ok-clause-tokens
returns-in-Ok-clause-tokens c =
    let told = c.in-Ok.ensures {u = tt} in
    found_tokens c.args.file c.args.bytes.now (Ok c.in-Ok.tokens) told.text (told.found told.text)

pub returns-in-Ok-clause-only : goal.returns-in-Ok-clause-only
returns-in-Ok-clause-only c = λ ts h. let told = c.in-Ok.ensures {u = tt} in only c.args.file c.args.bytes.now (Ok c.in-Ok.tokens) ts (told.found told.text) h

pub returns-in-Ok-clause-fault : goal.returns-in-Ok-clause-fault
returns-in-Ok-clause-fault c = tt

pub returns-in-Ok-clause-only_fault : goal.returns-in-Ok-clause-only_fault
returns-in-Ok-clause-only_fault c = λ q h. let told = c.in-Ok.ensures {u = tt} in only_fault c.args.file c.args.bytes.now (Ok c.in-Ok.tokens) q told.text (told.found told.text) h

pub returns-in-Ok-clause-whole : goal.returns-in-Ok-clause-whole
returns-in-Ok-clause-whole c = let told = c.in-Ok.ensures {u = tt} in found_whole c.args.file c.args.bytes.now (Ok c.in-Ok.tokens) (told.found told.text)

found : (c : goal.In-Ok-from_utf8) → Gives (Err (error.Fault c.in-Err-Fault.found)) (lexed (start_of c.args.file) c.args.bytes.now)
found c = subst (λ e. Gives (Err e) (lexed (start_of c.args.file) c.args.bytes.now)) c.in-Err-Fault.field-0-is ((c.in-Err-Fault.ensures {u = tt}).found (c.in-Ok-from_utf8.ensures {u = tt}).cases.1)

pub returns-in-Ok-from_utf8-clause-only : goal.returns-in-Ok-from_utf8-clause-only
returns-in-Ok-from_utf8-clause-only c = λ ts h. only c.args.file c.args.bytes.now (Err (error.Fault c.in-Err-Fault.found)) ts (found c) h

pub returns-in-Ok-from_utf8-clause-fault : goal.returns-in-Ok-from_utf8-clause-fault
returns-in-Ok-from_utf8-clause-fault c = fault c.args.file c.args.bytes.now (Err (error.Fault c.in-Err-Fault.found)) (c.in-Ok-from_utf8.ensures {u = tt}).cases.1 (found c)

pub returns-in-Ok-from_utf8-clause-only_fault : goal.returns-in-Ok-from_utf8-clause-only_fault
returns-in-Ok-from_utf8-clause-only_fault c = λ q h. only_fault c.args.file c.args.bytes.now (Err (error.Fault c.in-Err-Fault.found)) q (c.in-Ok-from_utf8.ensures {u = tt}).cases.1 (found c) h
