-- The text is a key then, and it was new where no key had it.
use Rattle.std.proofs.Common.{◌≡◌, not, string_bytes, ap, ◌∙◌}
use Rattle.std.specs.Prelude.{◌||◌}
use Rattle.std.specs.List.{list_any}
use Rattle.std.specs.Str.{bytes_eq}
use Rattle.site_model.proofs.Places.{keys_with}
use Rattle.group_growth.specs.Strings.{texts_in}
use Rattle.group_growth.proofs.StringLaws.{any_text, one_string}
use Rattle.group_growth.proofs.listing.is_new.Goals as goal

pub returns-clause-new : goal.returns-clause-new
returns-clause-new c =
    c.in_ok-insert.ensures.added ∙ ap not (any_text c.args.text.now c.in_ok-key.key c.args.strings.now.keys (c.in_ok-key.ensures.ok ∙ c.as_str.ensures))

pub returns-clause-strings : goal.returns-clause-strings
returns-clause-strings c = λ n.
    let key = c.in_ok-key.key in
    let was = c.args.strings.now.keys in
    let same : string_bytes key ≡ c.args.text.now = c.in_ok-key.ensures.ok ∙ c.as_str.ensures in
    ap (λ ks. list_any (bytes_eq n) (texts_in ks)) c.in_ok-insert.ensures.keys
    ∙ (ap (list_any (bytes_eq n)) (keys_with key was)
    ∙ (one_string n (string_bytes key) (texts_in was)
    ∙ ap (λ t. list_any (bytes_eq n) (texts_in was) || bytes_eq t n) same))
