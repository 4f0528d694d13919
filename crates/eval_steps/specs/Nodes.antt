-- How nodes are entered.
use Rattle.std.specs.Prelude.{ℕ, zero, suc}
use Rattle.site_base.specs.declared.place.Place.{Place}
use Rattle.site_base.specs.declared.diag_kind.DiagKind.TheVariants.{DepthLimit}
use Rattle.eval_meaning.specs.States.{State, Outcome, gives, ◌>>=◌, fault, step}

-- a node takes one of those that may still be open, and so many are left to its parts
abbrev pub opened : ℕ → Place → State → Outcome ℕ
opened zero l s = fault l DepthLimit s
opened (suc d) l s = gives d s

-- a node is entered: its step is counted first
abbrev pub node : ℕ → Place → State → Outcome ℕ
node d l s = step l s >>= λ _ s1. opened d l s1
