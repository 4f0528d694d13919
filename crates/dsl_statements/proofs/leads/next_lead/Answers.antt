use Rattle.std.proofs.Common.{◌≤◌, ◌∙◌, sym, subst}
use Rattle.dsl_statements.specs.Leads.{first_sorts, rank, room}
use Rattle.dsl_statements.proofs.Leading.{leads_none, leads_some, some_there, rank_within}
use Rattle.dsl_statements.proofs.leads.next_lead.Goals as goal

pub returns-then-not-begins-clause-reads : goal.returns-then-not-begins-clause-reads
returns-then-not-begins-clause-reads c = leads_none c.args.within c.args.tokens.now (sym c.begins.ensures ∙ c.if-not-begins.true)

pub place_of-requires : goal.place_of-requires
place_of-requires c = some_there (first_sorts c.args.within) c.args.tokens.now (sym c.begins.ensures ∙ c.if-not-begins.false)

pub returns-clause-reads : goal.returns-clause-reads
returns-clause-reads c =
    leads_some c.args.within c.args.tokens.now c.place_of.result c.lead_in.result (sym c.begins.ensures ∙ c.if-not-begins.false) c.place_of.ensures c.lead_in.ensures

pub returns-clause-low : goal.returns-clause-low
returns-clause-low c = subst (λ l. rank l ≤ room c.args.within) (sym c.lead_in.ensures) (rank_within c.args.within c.args.tokens.now)
