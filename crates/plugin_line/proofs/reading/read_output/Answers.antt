use Rattle.std.proofs.Common.{◌≡◌, ℕ, List, IfOk, map, take, ◌∙◌, ap, subst, sym}
use Rattle.std.specs.Str.{IsUtf8, IsValidUpTo}
use Rattle.std.specs.Str.Lossy.{utf8_valid_len}
use Rattle.plugin_line.specs.Output.{in_ascii, result_of, text_of}
use Rattle.plugin_line.proofs.WholeText.{text_of_text, text_of_others}
use Rattle.plugin_line.proofs.reading.read_output.Goals as goal

pub returns-in-Ok : goal.returns-in-Ok
returns-in-Ok c =
    let front : List ℕ = take 65536 c.args.bytes.now in
    let whole : IsUtf8 front = subst IsUtf8 c.front_of-front.ensures c.in-Ok.ensures.cases.1 in
    let text : c.in-Ok.text.now ≡ text_of front = c.in-Ok.ensures.cases.0 ∙ c.front_of-front.ensures ∙ sym (text_of_text front whole) in
    let P : List ℕ → Type 0 = λ t. IfOk c.read_text.result (λ r. r ≡ result_of t c.args.status) in
    subst P text c.read_text.ensures

pub returns-in_ok-text-in-Err : goal.returns-in_ok-text-in-Err
returns-in_ok-text-in-Err c =
    let front : List ℕ = take 65536 c.args.bytes.now in
    let at : ℕ = c.in-Err.field-0.valid_up_to in
    let valid : utf8_valid_len front ≡ at = ap utf8_valid_len (sym c.front_of-front.ensures) ∙ sym c.in-Err.ensures.valid_len in
    let upto : IsValidUpTo front at = subst (λ (bs : List ℕ). IsValidUpTo bs at) c.front_of-front.ensures c.in-Err.ensures.cases.1 in
    let text : c.as_str.result.now ≡ text_of front =
    c.as_str.ensures ∙ c.in_ok-text-in-Err.ensures ∙ ap (map in_ascii) c.front_of-front.ensures ∙ sym (text_of_others front at valid upto.short) in
    let P : List ℕ → Type 0 = λ t. IfOk c.read_text-in-Err.result (λ r. r ≡ result_of t c.args.status) in
    subst P text c.read_text-in-Err.ensures
