-- The walk over what is live names what the look back with one more result names.
use Rattle.std.proofs.Common.{[], ◌∷◌, ◌++◌, ◌∙◌, ◌≡◌, List, filter, ap, rules, sym, subst}
use Rattle.downtime_book.specs.declared.downtime.Downtime.{Downtime}
use Rattle.downtime_book.specs.Contents.{together}
use Rattle.downtime_book.specs.Downtime.{is_live}
use Rattle.downtime_book.specs.Calls.{downtimes, resulted}
use Rattle.downtime_book.specs.Firsts.{first_of, starts}
use Rattle.downtime_book.specs.Naming.{Names, number_of}
use Rattle.downtime_book.proofs.NamingLemmas.{Names-named}
use Rattle.downtime_book.proofs.Steps.{named-after}
use Rattle.downtime_book.proofs.book.Book.in_effect_after.Goals as goal

pub returns-clause-value : goal.returns-clause-value
returns-clause-value c = λ calls s.
    let was : together c.deref.result.now ≡ c.args.self.now.downtimes = search (rules, c.self.view_is) in
    let given : c.first_in_effect.result ≡ number_of (first_of (starts c.args.moment c.args.problem) (filter (is_live c.args.moment) (together c.deref.result.now))) = search (rules, c.first_in_effect.ensures) in
    given ∙ ap (λ (l : List Downtime). number_of (first_of (starts c.args.moment c.args.problem) (filter (is_live c.args.moment) l))) was ∙ named-after c.args.self.now calls c.args.moment s c.requires c.args.problem

pub returns-clause-first : goal.returns-clause-first
returns-clause-first c = λ calls s.
    subst (Names c.args.moment (downtimes (calls ++ resulted c.args.moment c.args.problem ∷ []))) (sym (returns-clause-value c calls s)) (Names-named c.args.moment (downtimes (calls ++ resulted c.args.moment c.args.problem ∷ [])))
