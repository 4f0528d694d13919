-- The targets of rules, object by object.
use Rattle.std.specs.Prelude.{ℕ, List, [], ◌∷◌, ◌++◌, codes, if◌then◌else◌}
use Rattle.std.specs.Str.{bytes_eq}
use Rattle.site_model.specs.PlainSite.{PlainObject}
use Rattle.commit_meaning.specs.Names.{Target, host}
use Rattle.commit_meaning.specs.Worlds.{service_targets}

-- the targets that one object of a type is, among all objects
abbrev pub targets_of_one : List PlainObject → PlainObject → List Target
targets_of_one all o = if bytes_eq o.kind (codes "Service") then service_targets all o else host o ∷ []

-- the targets of a type that some of all objects are, one object after another
abbrev pub targets_in : List ℕ → List PlainObject → List PlainObject → List Target
targets_in kind all [] = []
targets_in kind all (o ∷ os) = if bytes_eq o.kind kind then targets_of_one all o ++ targets_in kind all os else targets_in kind all os
