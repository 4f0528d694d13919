use Rattle.std.proofs.Common.{◌∙◌, ap, sym, subst, take}
use Rattle.std.specs.Str.Parse.{AllDigits}
use Rattle.site_text.proofs.DecimalLaws.{digits_front}
use Rattle.site_text.proofs.decimals.read_whole.Goals as goal

pub whole_value-requires : goal.whole_value-requires
whole_value-requires c = subst (AllDigits 10) (sym (c.split_at.ensures.front ∙ ap (λ n. take n c.args.bytes.now) c.digits_len.ensures.value)) (digits_front c.args.bytes.now)
