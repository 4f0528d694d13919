use Rattle.std.proofs.Common.{◌≡◌, ◌++◌, length, option_map}
use denote.Shadow.{shadow}
use denote.Text.{Utf8}
use Rattle.site_query.specs.Reading.{columns_in, words_of}
use Rattle.site_query.proofs.lines.read_columns.Given as goal

-- the columns so far, with those of the rest, are all of them
abbrev pub invariant-loop-name : goal.invariant-loop-name
invariant-loop-name l = shadow (Utf8 l.rest) × (option_map (λ cs. l.columns ++ cs) (columns_in (words_of l.rest)) ≡ columns_in (words_of l.names))

abbrev pub decreases-loop-name : goal.decreases-loop-name
decreases-loop-name l = length l.rest
