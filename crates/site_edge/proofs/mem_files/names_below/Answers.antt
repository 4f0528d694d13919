use Rattle.std.proofs.Common.{◌∙◌, subst, sym}
use Rattle.std.proofs.lemmas.List.Filters.{dedup_is}
use Rattle.site_edge.specs.Told.{IsListingOf}
use Rattle.site_edge.proofs.Listings.{listing_of}
use Rattle.site_edge.proofs.mem_files.names_below.Goals as goal

pub returns : goal.returns
returns c =
    let dir = c.args.dir.now in
    let files = c.args.files.now in
    subst (IsListingOf dir files) (sym (c.from.ensures ∙ dedup_is _ _ _ c.dedup.ensures.filtered)) (listing_of dir files _ _ c.in_ok-names.ensures c.in_ok-sort.ensures.permutation c.in_ok-sort.ensures.sorted)
