-- The name is that of the checkable which was found.
use Rattle.std.proofs.Common.{◌≡◌, ◌<◌, ◌∷◌, Some, codes, length, sym, ap, ◌∙◌, arith}
use Rattle.std.proofs.lemmas.Option.{slice_get_within}
use Rattle.json.specs.Token as token
use Rattle.site_model.specs.Names.{place_of}
use Rattle.site_keep.proofs.PlaceLaws.{place_at}
use Rattle.site_keep.proofs.in_order.take_name.Goals as goal

pub returns-in-Some : goal.returns-in-Some
returns-in-Some c =
    let name = c.in_ok-name.name.now in
    let names = c.args.site.now.names in
    let place = c.in-Some.place in
    let found : place_of name names ≡ Some place = grind arith in
    record {
      name = name;
      tokens = c.in_ok-take_key.ensures ∙ ap (λ ts. token.key (codes "name") ∷ ts) (c.in_ok-name.ensures ∙ ap (λ ts. token.string name ∷ ts) c.in_ok-close_object.ensures);
      found = found;
      within = slice_get_within names place name (place_at names name place found);
    }
