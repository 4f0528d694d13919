-- What is made of items, rules and groups where all places are others.
use Rattle.std.specs.Prelude.{map}
use Rattle.site_base.specs.declared.diag.Diag.{Diag}
use Rattle.site_base.specs.declared.place.Place.{Place}
use Rattle.site_model.specs.PlainSite.{PlainObject}
use Rattle.commit_meaning.specs.Answers.{Answer, made, diagnosed, blocked}
use Rattle.commit_meaning.specs.Names.{Target, host, service}

abbrev pub moved_diag : (Place → Place) → Diag → Diag
moved_diag move d = record d { place = move d.place }

abbrev pub moved_object : (Place → Place) → PlainObject → PlainObject
moved_object move o = record o { place = move o.place }

abbrev pub moved_target : (Place → Place) → Target → Target
moved_target move (host h) = host (moved_object move h)
moved_target move (service h s) = service (moved_object move h) (moved_object move s)

-- what is made is moved by `f`; diagnostics stand at other places, and the same read isn't decided
abbrev pub moved_answer : {A : Type 0} → (Place → Place) → (A → A) → Answer A → Answer A
moved_answer move f (made a) = made (f a)
moved_answer move f (diagnosed ds) = diagnosed (map (moved_diag move) ds)
moved_answer move f (blocked r) = blocked r
