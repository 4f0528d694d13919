-- What keys lead to in a container where a null becomes a new dictionary.
use Rattle.std.specs.Prelude.{List, [], ◌∷◌}
use Rattle.site_base.specs.declared.place.Place.{Place}
use Rattle.dsl_value.specs.declared.value.Value.{Value}
use Rattle.eval_meaning.specs.States.{State, Outcome, gives, ◌>>=◌}
use Rattle.eval_meaning.specs.Targets.{inside}

abbrev pub reached : Place → Value → List Value → State → Outcome Value
reached l container [] s = gives container s
reached l container (k ∷ ks) s = inside l container k s >>= λ d s1. reached l d ks s1
