-- What a plugin tells by its output.
use Rattle.std.specs.Prelude.{ℕ, Bool, ◌==◌, ◌||◌, ◌-◌, List, length, map, take, drop, min, nat_lt, if◌then◌else◌}
use Rattle.std.specs.List.{before_first, after_first, prefix_len, suffix_len}
use Rattle.std.specs.Str.Lossy.{utf8_valid_len}
use Rattle.plugin_line.specs.declared.plugin_result.PluginResult.{PluginResult}

-- a space, a tab or a carriage return
abbrev pub is_blank : ℕ → Bool
is_blank b = b == 32 || b == 9 || b == 13

-- without the blanks at the start and then at the end
abbrev pub trimmed : List ℕ → List ℕ
trimmed bs = let rest = drop (prefix_len is_blank bs) bs in take (length rest - suffix_len is_blank rest) rest

-- the first line, without its newline
abbrev pub first_line : List ℕ → List ℕ
first_line bs = before_first (λ b. b == 10) bs

-- what a text tells: the first line before its first bar, and the rest of that line
abbrev pub result_of : List ℕ → ℕ → PluginResult
result_of text status = record {
  status = min status 3;
  output = trimmed (before_first (λ b. b == 124) (first_line text));
  perf = trimmed (after_first (λ b. b == 124) (first_line text));
}

-- a byte that isn't ASCII is read as a question mark
abbrev pub in_ascii : ℕ → ℕ
in_ascii b = if nat_lt b 128 then b else 63

-- bytes as a text: themselves where they are UTF-8 to the end, and else in ASCII
abbrev pub text_of : List ℕ → List ℕ
text_of bs = if utf8_valid_len bs == length bs then bs else map in_ascii bs

-- what a plugin tells by its output, of which the first 65,536 bytes are looked at
abbrev pub plugin_result : List ℕ → ℕ → PluginResult
plugin_result bytes status = result_of (text_of (take 65536 bytes)) status
