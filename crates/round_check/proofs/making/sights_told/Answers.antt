-- What was seen at the sights, one after another.
use Rattle.std.proofs.Common.{◌≡◌, ◌&&◌, Bool, true, false, List, get_or, map, slice_get, cond, None, Some, sym, ap, ◌∙◌}
use Rattle.std.proofs.lemmas.Option.{slice_get-get_or}
use Rattle.std.specs.List.{list_all}
use Rattle.std.specs.Str.{bytes_eq}
use Rattle.run_meaning.specs.Reachability.{ancestors}
use Rattle.site_model.specs.PlainSite.{site_view}
use Rattle.site_model.specs.declared.sight.Sight.{Sight}
use Rattle.round_check.specs.Kept.{seen_told}
use Rattle.round_check.specs.Making.{is_sight}
use Rattle.round_check.proofs.LoopLaws.{all_names, name_more, sight_more, sight_none}
use Rattle.round_check.proofs.Taken.{sight_within}
use Rattle.round_check.proofs.making.sights_told.Goals as goal

and_false : (a b : Bool) → b ≡ false → (a && b) ≡ false
and_false true b h = h
and_false false b h = refl_false
  where
    refl_false : false ≡ false
    refl_false = λ _. false

pub view_told-requires : goal.view_told-requires
view_told-requires c =
    let s = site_view c.args.setting.now.site.now in
    let i = c.loop-sight.sight-index in
    let xs = c.as_slice-sights.result.now in
    let none : Sight = record { checkable = 0; count = 0 } in
    sight_within s c.args.setting.now.moment c.args.books.now c.requires.books c.args.told.now.checkable i xs (get_or xs i none) c.ancestors-ancestors.result.now (c.ancestors-ancestors.ensures s c.requires.graph)
    (sym c.are_of.ensures ∙ c.if-not-are_of.false) (slice_get-get_or xs i none c.loop-sight-test.true)

pub returns-in_default-clause-told : goal.returns-in_default-clause-told
returns-in_default-clause-told c = λ before round views stand.
    let s = site_view c.args.setting.now.site.now in
    let i = c.loop-sight.sight-index in
    let xs = c.as_slice-sights.result.now in
    let none : Sight = record { checkable = 0; count = 0 } in
    let fails = sight_none s before round i xs (get_or xs i none) (slice_get-get_or xs i none c.loop-sight-test.true) (c.in_default.ensures s c.args.setting.now.moment before round c.requires.books views stand) in
    let told = c.args.told.now.sights in
    let all : list_all (is_sight before round) told ≡ false = ap (list_all (is_sight before round)) (sym c.as_slice-sights.ensures) ∙ fails in
    ap (λ b. cond b (Some (seen_told s before round told)) None) (sym (and_false (bytes_eq (map (λ (x : Sight). x.checkable) told) (ancestors s c.args.told.now.checkable)) (list_all (is_sight before round) told) all))

pub loop-sight-preserved : goal.loop-sight-preserved
loop-sight-preserved c =
    let s = site_view c.args.setting.now.site.now in
    let i = c.loop-sight.sight-index in
    let xs = c.as_slice-sights.result.now in
    let none : Sight = record { checkable = 0; count = 0 } in
    let at = slice_get-get_or xs i none c.loop-sight-test.true in (
      name_more i xs (get_or xs i none) c.in-Some.view c.loop-sight.seen.items c.push.new.self.items at c.loop-sight.invariant.0 c.in_ok-push.ensures.items,
      λ before round views stand. sight_more s before round i xs (get_or xs i none) c.in-Some.view c.loop-sight.seen.items c.push.new.self.items at
          (c.in-Some.ensures s c.args.setting.now.moment before round c.requires.books views stand) (c.loop-sight.invariant.1 before round views stand) c.in_ok-push.ensures.items,
    )

pub returns-clause-names : goal.returns-clause-names
returns-clause-names c =
    let s = site_view c.args.setting.now.site.now in
    all_names c.loop-sight.sight-index c.as_slice-sights.result.now c.ancestors-ancestors.result.now (ancestors s c.args.told.now.checkable) _ c.loop-sight-test.false c.loop-sight.invariant.0
    (sym c.are_of.ensures ∙ c.if-not-are_of.false) (c.ancestors-ancestors.ensures s c.requires.graph)
