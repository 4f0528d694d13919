-- What expressions see, as names with trees.
use Rattle.std.specs.Prelude.{[], ◌∷◌, codes}
use Rattle.site_base.specs.View.{view}
use Rattle.commit_meaning.specs.Starts.{Trees}
use Rattle.rule_expressions.specs.declared.subject.Subject.{Subject}
use Rattle.rule_expressions.specs.declared.subject.Subject.TheVariants as subject

abbrev pub names_of : Subject → Trees
names_of (subject.Host h) = (codes "host", view h.now) ∷ []
names_of (subject.Service h s) = (codes "host", view h.now) ∷ (codes "service", view s.now) ∷ []
names_of (subject.User u) = (codes "user", view u.now) ∷ []
