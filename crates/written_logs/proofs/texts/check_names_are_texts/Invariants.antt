use Rattle.std.proofs.Common.{IsUtf8, drop, map}
use Rattle.std.specs.List.{AllByRecursion}
use Rattle.site_model.specs.PlainSite.{check_view}
use Rattle.written_logs.proofs.texts.check_names_are_texts.Given as goal

-- if those of the rest are, all are
abbrev pub invariant-loop-check : goal.invariant-loop-check
invariant-loop-check l =
    AllByRecursion IsUtf8 (map (λ c. c.name) (map check_view (drop l.check-index l.checks))) → AllByRecursion IsUtf8 (map (λ c. c.name) (map check_view l.checks))
