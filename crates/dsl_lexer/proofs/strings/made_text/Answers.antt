use Rattle.std.proofs.Common.{◌≡◌, cond, sym, ap, subst, ◌∙◌, string_bytes}
use Rattle.std.specs.Str.{IsUtf8}
use Rattle.std.proofs.lemmas.Str.{is_utf8-from_IsUtf8, IsUtf8-string_bytes}
use Rattle.dsl_lexer.specs.declared.token_kind.TokenKind.TheVariants as kind
use Rattle.dsl_lexer.specs.declared.stepping.Step.TheVariants as step
use Rattle.std.proofs.lemmas.Bool.{false≢true}
use Rattle.dsl_lexer.proofs.Texts.{not_utf8}
use Rattle.dsl_lexer.proofs.strings.made_text.Goals as goal

pub returns-in_default : goal.returns-in_default
returns-in_default c =
    let bytes = c.args.bytes.items in
    sym (ap (λ t. cond t (step.Taken c.args.len (kind.Str bytes)) step.Fault) (not_utf8 bytes (λ u. false≢true ((c.in_default.ensures {u = tt}).succeeds u))))

pub returns : goal.returns
returns c =
    let bytes = c.args.bytes.items in
    let same : string_bytes c.in-Ok.string ≡ bytes = ap (λ v. v.items) (c.in-Ok.ensures {u = tt}).ok in
    let good : IsUtf8 bytes = subst IsUtf8 same (IsUtf8-string_bytes c.in-Ok.string) in
    ap (λ x. step.Taken c.args.len (kind.Str x)) (c.in_ok-text.ensures {u = tt} ∙ same)
    ∙ sym (ap (λ t. cond t (step.Taken c.args.len (kind.Str bytes)) step.Fault) (is_utf8-from_IsUtf8 bytes good))
