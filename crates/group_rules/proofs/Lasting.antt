-- What is answered stays over each view that shows more.
use Rattle.std.proofs.Common.{◌≡◌, ℕ, List, subst}
use Rattle.site_model.specs.PlainSite.{PlainObject}
use Rattle.commit_meaning.specs.Groups.{group_members, member_run, settled}
use Rattle.eval_meaning.specs.Registered.{PlainItem}
use Rattle.eval_meaning.specs.Views.{View, IsPart}
use Rattle.commit_meaning.specs.Answers.{Answer, answered}
use Rattle.commit_meaning.specs.Staying.{Stays}
use Rattle.commit_meaning.proofs.ViewAnswers.{answers_stay}

pub groups_last : (v world : View) (gs : List PlainItem) (o : PlainObject) (x : Answer (List (List ℕ))) → IsPart v world → settled (answered o.number (member_run v gs o)) ≡ x → Stays x (group_members world gs o)
unfolding group_members
groups_last v world gs o x part e = subst (λ y. Stays y (group_members world gs o)) e ((answers_stay v world part).members gs o)
