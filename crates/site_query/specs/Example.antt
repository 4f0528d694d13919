-- A query over a host and a service of it, which has a problem.
use Rattle.std.specs.Prelude.{ℕ, true, false, List, [], ◌∷◌, codes, Some, None}
use Rattle.run_meaning.specs.Turns.{Histories}
use Rattle.site_model.specs.PlainSite.{PlainSite, plain_check, plain_site}
use Rattle.site_model.specs.declared.entry.Entry.{Entry}
use Rattle.site_model.specs.declared.event.Event.TheVariants as event
use Rattle.site_model.specs.declared.state.State.TheVariants as state
use Rattle.site_query.specs.declared.column.Column.TheVariants as column
use Rattle.site_query.specs.declared.filter.Filter.{Filter}
use Rattle.site_query.specs.declared.filter.FilterValue.TheVariants as value
use Rattle.site_query.specs.declared.op.Op.TheVariants as op
use Rattle.site_query.specs.declared.query.Query.{Query}

-- the services that aren't OK
abbrev pub lines : List (List ℕ)
lines = codes "GET services" ∷ codes "Columns: name state" ∷ codes "Filter: state != 00" ∷ []

-- and of these none
abbrev pub limit : List (List ℕ)
limit = codes "Limit: 0" ∷ []

abbrev pub unequal : Filter
unequal = record { column = column.State; op = op.Unequal; value = value.Count 0 }

abbrev pub query : Query
query = record { hosts = false; columns = column.Name ∷ column.State ∷ []; filters = unequal ∷ []; limit = None }

-- one problem is enough for a HARD one
abbrev pub site : PlainSite
site = plain_site (plain_check (codes "h") None ∷ record (plain_check (codes "h!s") (Some 0)) { max = 1 } ∷ []) (codes "h" ∷ codes "h!s" ∷ [])

abbrev pub entry : Entry
entry = record {
  caller = 0;
  number = 1;
  moment = 100;
  event = event.Result 2 true (codes "x") [];
  taken = true;
  state = state.Critical;
  hard = true;
  attempt = 1;
  sights = [];
  decisions = [];
}

abbrev pub histories : Histories
histories = [] ∷ (entry ∷ []) ∷ []
