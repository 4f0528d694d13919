use Rattle.std.proofs.Common.{◌≡◌, ◌<◌, ℕ, suc, List, [], ◌∷◌, length, true, false, refl, sym, ap, ◌∙◌, eqb, eqb-true, eq-eqb}
use Rattle.site_model.specs.PlainSite.{site_view}
use Rattle.run_meaning.specs.Turns.{of_index}
use Rattle.depend_graph.proofs.Building.{ancs_are, ordered}
use Rattle.depend_graph.proofs.BuildSteps.{parents_below}
use Rattle.depend_graph.proofs.graph.Graph.build.Goals as goal

not_none : (ds : List ℕ) → eqb (length ds) 0 ≡ false → ds ≡ [] → ⊥
not_none ds h e = let f : true ≡ false = sym (eq-eqb (length ds) 0 (ap length e)) ∙ h in absurd cc

none : (ds : List ℕ) → eqb (length ds) 0 ≡ true → ds ≡ []
none [] h = refl
none (d ∷ ds) h = let e : suc (length ds) ≡ 0 = eqb-true (suc (length ds)) 0 h in absurd cc

pub all_above-requires-clause-below : goal.all_above-requires-clause-below
all_above-requires-clause-below c =
    parents_below (site_view c.args.site.now) c.requires c.in_ok-parents.parents c.in_ok-parents.ensures

pub returns-then-not-is_empty-clause-cycle : goal.returns-then-not-is_empty-clause-cycle
returns-then-not-is_empty-clause-cycle c = c.in_ok-depends.ensures.some (not_none c.in_ok-depends.depends (sym c.is_empty.ensures ∙ c.if-not-is_empty.true))

pub returns-clause-graph : goal.returns-clause-graph
returns-clause-graph c =
    let s = site_view c.args.site.now in
    let ancs = c.in_ok-ancestors.ancestors in
    let above = c.in_ok-ancestors.ensures.above s c.in_ok-parents.ensures in
    let rising = c.in_ok-ancestors.ensures.rising in
    let free = c.in_ok-depends.ensures.none (none c.in_ok-depends.depends (sym c.is_empty.ensures ∙ c.if-not-is_empty.false)) in
    record {
      count = ap length c.in_ok-with_teams.ensures.ancestors ∙ c.in_ok-ancestors.ensures.length ∙ c.in_ok-parents.ensures.many;
      ancestors = λ k l. ap (of_index k) c.in_ok-with_teams.ensures.ancestors ∙ ancs_are s c.requires ancs above rising free k l;
      teams = c.in_ok-with_teams.ensures.teams;
      has_order = ordered s c.requires ancs above rising free;
    }

pub returns-clause-free : goal.returns-clause-free
returns-clause-free c = c.in_ok-depends.ensures.none (none c.in_ok-depends.depends (sym c.is_empty.ensures ∙ c.if-not-is_empty.false))
