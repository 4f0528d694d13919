-- The entries at the place of the name.
use Rattle.std.proofs.Common.{◌<◌, length, sym, ap, ◌∙◌, arith}
use Rattle.run_meaning.proofs.Lists.{within}
use Rattle.site_model.specs.Names.{place_of}
use Rattle.site_model.specs.PlainSite.{full_names, site_view}
use Rattle.history_carry.specs.Carried.{history_at}
use Rattle.history_carry.proofs.Making.{as_many, index_is}
use Rattle.history_carry.proofs.carrying.entries_of.Goals as goal

pub returns-in-Some : goal.returns-in-Some
returns-in-Some c =
    let s = site_view c.args.site.now in
    let hs = c.args.histories.now in
    let k = c.in-Some.place in
    let named : k < length (full_names s) = within (full_names s) k c.args.name.now (c.in-Some.ensures.checkable c.requires.names) in
    let inside : k < length hs = omega (arith, named, c.requires.whole, as_many c.args.site.now.checkables) in
    c.as_slice.ensures
    ∙ c.index-histories-place.is
    ∙ sym (index_is hs k c.index-histories-place.result inside)
    ∙ ap (history_at hs) (c.in-Some.ensures.value ∙ ap (place_of c.args.name.now) c.requires.names.named)
