-- What is shown names the ancestors.
use Rattle.std.proofs.Common.{◌≡◌, length, map, sym, ap, ◌∙◌, rules}
use Rattle.std.proofs.lemmas.List.{length-map}
use Rattle.post_rounds.specs.declared.sight.Sight.{Sight}
use Rattle.site_model.specs.declared.view.View.{View}
use Rattle.site_posts.proofs.Shown.{shown_names}
use Rattle.site_posts.specs.Outlooks.{ahead_of, shown_with}
use Rattle.site_posts.proofs.hall.DeedsMakerSiteMachine.event.Goals as goal

pub returns-clause-lawful : goal.returns-clause-lawful
returns-clause-lawful c = λ m wanted.
    let ahead = ahead_of c.args.self.now c.args.want in
    let shown : c.in_ok-sights.sights ≡ shown_with ahead c.args.sights = search rules in
    record {
      moment = wanted.moment;
      sights = ap (map (λ x. x.0)) shown
          ∙ shown_names ahead c.args.sights (sym (length-map c.args.sights (λ (t : Sight View). t.post)) ∙ wanted.sights)
          ∙ wanted.names;
    }
