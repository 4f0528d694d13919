use Rattle.site_conf.proofs.AnsweredLaws.{answered}
use Rattle.site_conf.proofs.laws.each_file_has_its_tree_or_its_fault.Goals as goal

pub returns : goal.returns
returns c = answered (λ file bytes ts e. (c.what_is_read_are_the_tokens.ensures.read file bytes ts e, c.what_is_read_are_the_tokens.ensures.whole file bytes ts e)) c.what_is_read_are_the_tokens.ensures.stopped c.files_have_one_outcome.ensures
