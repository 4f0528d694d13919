use Rattle.dsl_lib.proofs.sets.without_repeats.Goals as goal

pub take_all-requires-clause-finds : goal.take_all-requires-clause-finds
take_all-requires-clause-finds c = c.new-taken.ensures.finds c.args.store.now
