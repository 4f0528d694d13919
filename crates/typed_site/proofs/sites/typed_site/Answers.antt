use Rattle.std.proofs.Common.{map, ap, ◌∙◌}
use Rattle.site_model.specs.PlainSite.{check_view, object_view}
use Rattle.object_lists.specs.Periods.{periods}
use Rattle.object_lists.specs.Users.{users}
use Rattle.typed_site.specs.Checks.{check_name, checkables, commands}
use Rattle.typed_site.specs.Depends.{depends}
use Rattle.typed_site.specs.Notifies.{notifies}
use Rattle.typed_site.specs.TypedSite.{settings_view}
use Rattle.typed_site.proofs.SiteLaws.{are_few, is_sound, same_site}
use Rattle.typed_site.proofs.sites.typed_site.Goals as goal

pub returns-clause-value : goal.returns-clause-value
returns-clause-value c =
    same_site c.args.files (settings_view c.args.settings) (map object_view c.args.objects) _ _ _ _ _ _ _
    (ap (map check_view) c.from.ensures ∙ c.in_ok-checks.ensures.specs ∙ ap (λ xs. checkables (map object_view xs)) c.as_slice-2.ensures)
    (c.in_ok-around.ensures.depends ∙ ap (λ xs. depends (map object_view xs)) c.as_slice-3.ensures)
    (c.in_ok-around.ensures.notifies ∙ ap (λ xs. notifies (map object_view xs)) c.as_slice-3.ensures)
    (c.in_ok-around.ensures.users ∙ ap (λ xs. users (map object_view xs)) c.as_slice-3.ensures)
    (c.in_ok-bases.ensures.commands ∙ ap (λ xs. commands (map object_view xs)) c.as_slice.ensures)
    (c.in_ok-bases.ensures.periods ∙ ap (λ xs. periods (map object_view xs)) c.as_slice.ensures)
    (c.in_ok-checks.ensures.names ∙ ap (λ xs. map check_name (checkables (map object_view xs))) c.as_slice-2.ensures)

pub returns-clause-sound : goal.returns-clause-sound
returns-clause-sound c =
    is_sound c.args.files (settings_view c.args.settings) c.args.objects _ c.requires.placed c.requires.few c.requires.some_order c.requires.most_orders (returns-clause-value c)

pub returns-clause-few : goal.returns-clause-few
returns-clause-few c = are_few c.args.files (settings_view c.args.settings) c.args.objects _ c.requires.few (returns-clause-value c)
