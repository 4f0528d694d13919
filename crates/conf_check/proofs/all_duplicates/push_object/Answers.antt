-- The first object stands in one of the files.
use Rattle.std.proofs.Common.{◌<◌, length, IfSome, sym, subst}
use Rattle.site_base.specs.declared.place.Place.{Place}
use Rattle.conf_check.specs.Keys.{key_of}
use Rattle.conf_check.proofs.FirstLaws.{under_inside}
use Rattle.conf_check.proofs.all_duplicates.push_object.Goals as goal

pub push_found-requires : goal.push_found-requires
push_found-requires c =
    subst (λ r. IfSome r (λ (p : Place). p.file < length c.args.files.now)) (sym c.in_ok-first-in-Some.ensures.first)
    (under_inside (λ (p : Place). p.file < length c.args.files.now) c.args.firsts.now.keys c.args.firsts.now.places.items (key_of c.in-Some.kind c.as_str.result.now) c.requires.inside)
