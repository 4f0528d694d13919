use Rattle.std.proofs.Common.{sym, ◌∙◌, ◌++◌, ap}
use Rattle.std.specs.Prelude.{encode_utf8}
use Rattle.std.proofs.lemmas.Str.{chars_past_char}
use Rattle.site_base.proofs.characters.first_character.Goals as goal

pub returns : goal.returns
returns c = chars_past_char _ _ _ c.utf8.text (sym c.chars-characters.ensures.rest ∙ c.in_ok-c.ensures.steps.0 ∙ ap (λ r. encode_utf8 c.in_ok-c.c ++ r) (sym c.as_str.ensures))
