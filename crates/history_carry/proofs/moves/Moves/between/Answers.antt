-- The places of all four lists.
use Rattle.std.proofs.Common.{rules, arith, ◌≡◌, ℕ, List, Option, map, ap, ◌∙◌}
use Rattle.std.proofs.lemmas.Grind.{common_steps}
use Rattle.site_model.specs.PlainSite.{full_names, site_view}
use Rattle.site_model.specs.declared.check_spec.CheckSpec.{CheckSpec}
use Rattle.site_text.specs.Entries.{depend_names, notify_names, user_names}
use Rattle.history_carry.specs.Moves.{moves_between, places_among}
use Rattle.history_carry.specs.declared.moves.Moves.{Moves}
use Rattle.history_carry.proofs.Filtered.{checks_named}
use Rattle.history_carry.proofs.moves.Moves.between.Goals as goal

pub returns : goal.returns
returns c =
    let s = site_view c.args.site.now in
    let t = site_view c.args.other.now in
    let all : List (Option ℕ) → List (Option ℕ) → List (Option ℕ) → List (Option ℕ) → Moves = λ a b d e. record { checkables = a; depends = b; notifies = d; users = e } in
    let found : c.in_ok-places.field-0 ≡ places_among (map (λ (x : CheckSpec). x.name) c.args.site.now.checkables) c.args.other.now.names = first_of (cc (c.in_ok-places.ensures), search rules, grind (arith, common_steps)) in
    let depends : c.in_ok-found.field-0 ≡ places_among (depend_names s) (depend_names t) = first_of (cc (c.in_ok-found.ensures), search rules, grind (arith, common_steps)) in
    let notifies : c.in_ok-found-2.field-0 ≡ places_among (notify_names s) (notify_names t) = first_of (cc (c.in_ok-found-2.ensures), search rules, grind (arith, common_steps)) in
    let users : c.in_ok-found-3.field-0 ≡ places_among (user_names s) (user_names t) = first_of (cc (c.in_ok-found-3.ensures), search rules, grind (arith, common_steps)) in
    let checkables : c.in_ok-places.field-0 ≡ places_among (full_names s) (full_names t) =
    found ∙ ap (λ ns. places_among ns c.args.other.now.names) (checks_named c.args.site.now.checkables) ∙ ap (places_among (full_names s)) c.requires.names.named in
    let m = moves_between s t in
    ap (λ x. all x c.in_ok-found.field-0 c.in_ok-found-2.field-0 c.in_ok-found-3.field-0) checkables
    ∙ ap (λ x. all m.checkables x c.in_ok-found-2.field-0 c.in_ok-found-3.field-0) depends
    ∙ ap (λ x. all m.checkables m.depends x c.in_ok-found-3.field-0) notifies
    ∙ ap (all m.checkables m.depends m.notifies) users
