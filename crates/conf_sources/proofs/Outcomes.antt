-- What reading a file's tokens came to, by what was answered.
use Rattle.std.proofs.Common.{◌≡◌, Err, sym, ap, subst}
use Rattle.site_base.specs.declared.place.Place.{Place}
use Rattle.dsl_grammar.specs.Files.{Outcome, tree_found, fault_at, deep_at_place}
use Rattle.dsl_grammar.specs.Parsing.{Answers}
use Rattle.dsl_grammar.specs.declared.parse_error.ParseError.{ParseError}
use Rattle.dsl_grammar.specs.declared.parse_error.ParseError.TheVariants as errors

deep_is : (o : Outcome) (place : Place) → Answers o (Err (errors.TooDeep place)) → o ≡ deep_at_place place
deep_is (tree_found tree) place h = absurd h
deep_is (fault_at p) place h = absurd h
deep_is (deep_at_place p) place h = ap deep_at_place (sym h)

-- a token stands too deep
pub deep_was : (o : Outcome) (e : ParseError) (place : Place) → e ≡ errors.TooDeep place → Answers o (Err e) → o ≡ deep_at_place place
deep_was o e place is h = deep_is o place (subst (λ x. Answers o (Err x)) is h)
