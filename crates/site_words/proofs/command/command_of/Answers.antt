-- One option is read, and the rest is read behind it.
use Rattle.std.proofs.Common.{◌≡◌, ◌∙◌, false, true, length, refl, rules, sym, arith}
use Rattle.site_words.specs.Commands.{is_option, is_recur}
use Rattle.site_words.proofs.Reading.{none_read, own_read, recur_read, value_read}
use Rattle.site_words.proofs.command.command_of.Goals as goal
use Rattle.site_words.proofs.command.command_of.Goals.{in_default, in-len1-up+else-is_recur+else-is_option}

pub loop-rest-preserved-then-is_recur : goal.loop-rest-preserved-then-is_recur
loop-rest-preserved-then-is_recur c =
    let is : is_recur c.option-item.result ≡ true = search rules in
    record {
      all = recur_read c.loop-rest.options c.loop-rest.rest.now c.option-item.result c.in_ok-options.options c.in-len1-up.len_at_least c.option-item.is is (sym c.with_recur.ensures.value ∙ c.in_ok-options.was) ∙ c.loop-rest.invariant.all;
      few = c.in_ok-options.ensures.few c.loop-rest.invariant.few;
    }

pub loop-rest-preserved : goal.loop-rest-preserved
loop-rest-preserved c =
    let plain : is_recur c.option-item.result ≡ false = search rules in
    let is : is_option c.option-item.result ≡ true = search rules in
    record {
      all = value_read c.loop-rest.options c.loop-rest.rest.now _ c.option-item.result c.value-item.result c.in_ok-options-2.options c.in-len1-up.len_at_least refl c.option-item.is c.in-len1-up-behind.len_at_least c.value-item.is plain is (sym c.with.ensures.value ∙ c.in_ok-options-2.was) ∙ c.loop-rest.invariant.all;
      few = c.in_ok-options-2.ensures.few c.loop-rest.invariant.few;
    }

pub returns-clause-value : goal.returns-clause-value
returns-clause-value c =
    elim c.if-rest-lt1.branch [
      | in_default w ↦ c.own_words.ensures.value ∙ none_read c.loop-rest.options c.loop-rest.rest.now (omega (arith, w.in_default)) ∙ c.loop-rest.invariant.all
      | in-len1-up+else-is_recur+else-is_option w ↦
          c.own_words.ensures.value ∙ own_read c.loop-rest.options c.loop-rest.rest.now w.option-item.result w.in-len1-up.len_at_least w.option-item.is (sym w.is_recur.ensures ∙ w.if-is_recur.false) (sym w.is_option.ensures ∙ w.if-is_option.false) ∙ c.loop-rest.invariant.all
    ]
