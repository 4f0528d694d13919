use Rattle.std.proofs.Common.{◌≡◌, ◌<◌, ◌+◌, ◌++◌, length, option_map}
use denote.Shadow.{shadow}
use denote.Text.{Utf8}
use Rattle.event_text.specs.Fields.{fields_in}
use Rattle.event_text.specs.Lent.{texts_view}
use Rattle.event_text.proofs.fields.split.Given as goal

-- the fields so far, with those of the rest, are all of them
abbrev pub invariant-loop-left : goal.invariant-loop-left
invariant-loop-left l =
    shadow (Utf8 l.rest) × (0 < l.left) × (length l.fields.items + l.left ≡ l.count)
    × (option_map (λ fs. texts_view l.fields.items ++ fs) (fields_in l.ends_in_text l.left l.rest) ≡ fields_in l.ends_in_text l.count l.text)

abbrev pub decreases-loop-left : goal.decreases-loop-left
decreases-loop-left l = l.left
