use Rattle.site_conf.proofs.TreeLaws.{trees_are, names_are, flags_are}
use Rattle.site_conf.proofs.laws.trees_are_those_of_their_files.Goals as goal

pub returns-clause-names : goal.returns-clause-names
returns-clause-names c = names_are

pub returns-clause-library : goal.returns-clause-library
returns-clause-library c = flags_are

pub returns-clause-trees : goal.returns-clause-trees
returns-clause-trees c = trees_are (λ file bytes ts e. (c.what_is_read_are_the_tokens.ensures.read file bytes ts e, c.what_is_read_are_the_tokens.ensures.whole file bytes ts e)) c.files_have_one_outcome.ensures
