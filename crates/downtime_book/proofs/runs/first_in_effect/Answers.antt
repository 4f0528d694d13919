-- The first of the firsts of all runs is that of all downtimes.
use Rattle.std.proofs.Common.{List, Option, filter, ◌∙◌, ap, rules, tests, arith}
use Rattle.std.proofs.lemmas.Bool.Decides.{nat_tests}
use Rattle.std.proofs.lemmas.Iterator.{YieldsList-from_slice}
use Rattle.std.proofs.lemmas.Iterator.Consumers.{YieldsList-from_filter_map, reduce_from_yields_List}
use Rattle.downtime_book.specs.declared.downtime.Downtime.{Downtime}
use Rattle.downtime_book.specs.declared.rank.Rank.{Rank}
use Rattle.downtime_book.specs.Downtime.{is_live}
use Rattle.downtime_book.specs.Firsts.{first_of, starts}
use Rattle.downtime_book.specs.Naming.{number_of}
use Rattle.downtime_book.proofs.NamingLemmas.{reduce-found, number_given}
use Rattle.downtime_book.proofs.runs.first_in_effect.Goals as goal

pub returns : goal.returns
returns c =
    let m = c.args.moment in
    let p = c.args.problem in
    let of_run : List Downtime → Option Rank = λ run. first_of (starts m p) (filter (is_live m) run) in
    let first = reduce_from_yields_List _ _ c.min.result c.min.ensures.ran (YieldsList-from_filter_map _ of_run (YieldsList-from_slice c.args.runs.now (search rules)) c.filter_map.ensures.closure (λ x r q k. search (rules, tests))) in
    let found = first ∙ reduce-found _ (λ a b. grind (arith, nat_tests)) (starts m p) (is_live m) c.args.runs.now in
    number_given c.min.result c.map.result _ c.map.ensures.cases (λ x n q. search (rules, tests)) ∙ ap number_of found
