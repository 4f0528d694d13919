-- What the graph of a site is.
use Rattle.std.specs.Prelude.{◌≡◌, ◌<◌, ◌≤◌, ℕ, List, length, AllPairs, Result, Ok, Err, true}
use Rattle.site_model.specs.PlainSite.{PlainSite}
use Rattle.run_meaning.specs.Turns.{of_index}
use Rattle.run_meaning.specs.Reachability.{ancestors, parents_of}
use Rattle.depend_graph.specs.declared.graph.Graph.{Graph}
use Rattle.depend_graph.specs.declared.graph_fault.GraphFault.{GraphFault}
use Rattle.depend_graph.specs.declared.graph_fault.GraphFault.TheVariants.{Cycle, OutOfMemory}
use Rattle.depend_graph.specs.Parents.{has}
use Rattle.depend_graph.specs.Teams.{AreTeams}

-- the ancestors of one, those that have fewer themselves first
pub record AreParentsFirst (s : PlainSite) (c : ℕ) (order : List ℕ) : Type 0 where
  pub same : (p : ℕ) → has p order ≡ has p (ancestors s c)
  pub rising : AllPairs (λ p q. length (ancestors s p) ≤ length (ancestors s q)) order

-- ancestors are the parents and their ancestors, and a parent has fewer than its child
pub record HasOrder (s : PlainSite) : Type 0 where
  pub parents : (c q : ℕ) → c < length s.checkables → has q (parents_of s c) ≡ true → has q (ancestors s c) ≡ true
  pub further : (c p q : ℕ) → c < length s.checkables → has p (ancestors s c) ≡ true → has q (parents_of s p) ≡ true → has q (ancestors s c) ≡ true
  pub fewer : (c q : ℕ) → c < length s.checkables → has q (parents_of s c) ≡ true → length (ancestors s q) < length (ancestors s c)
  pub few : (c : ℕ) → c < length s.checkables → length (ancestors s c) < length s.checkables

-- a graph has the ancestors of a site's checkables, and the dependencies that stand together
pub record IsGraphOf (s : PlainSite) (g : Graph) : Type 0 where
  pub count : length g.ancestors ≡ length s.checkables
  pub ancestors : (c : ℕ) → c < length s.checkables → of_index c g.ancestors ≡ ancestors s c
  pub teams : AreTeams s g.leaders g.followers
  pub has_order : HasOrder s

-- what is said of the dependencies that an answer names
abbrev pub OnCycle : Result Graph GraphFault → (List ℕ → Type 0) → Type 0
OnCycle (Ok g) P = Unit {0}
OnCycle (Err (Cycle depends)) P = P depends
OnCycle (Err OutOfMemory) P = Unit {0}
