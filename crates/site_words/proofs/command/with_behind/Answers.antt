-- One option is read, and the rest is read behind it.
use Rattle.std.proofs.Common.{◌≡◌, ◌∙◌, false, true, refl, rules, sym}
use Rattle.site_words.specs.Commands.{is_recur}
use Rattle.site_words.proofs.Reading.{recur_behind, value_behind}
use Rattle.site_words.proofs.command.with_behind.Goals as goal

pub loop-rest-preserved-then-is_recur : goal.loop-rest-preserved-then-is_recur
loop-rest-preserved-then-is_recur c =
    let is : is_recur c.option-item.result ≡ true = search rules in
    record {
      all = recur_behind c.args.own.now c.loop-rest.options c.loop-rest.rest.now c.option-item.result c.in_ok-options.options c.in-len1-up.len_at_least c.option-item.is is (sym c.with_recur.ensures.value ∙ c.in_ok-options.was) ∙ c.loop-rest.invariant.all;
      few = c.in_ok-options.ensures.few c.loop-rest.invariant.few;
    }

pub loop-rest-preserved : goal.loop-rest-preserved
loop-rest-preserved c =
    let plain : is_recur c.option-item.result ≡ false = search rules in
    record {
      all = value_behind c.args.own.now c.loop-rest.options c.loop-rest.rest.now _ c.option-item.result c.value-item.result c.in_ok-options-2.options c.in-len1-up.len_at_least refl c.option-item.is c.in-len1-up-behind.len_at_least c.value-item.is plain (sym c.with.ensures.value ∙ c.in_ok-options-2.was) ∙ c.loop-rest.invariant.all;
      few = c.in_ok-options-2.ensures.few c.loop-rest.invariant.few;
    }
