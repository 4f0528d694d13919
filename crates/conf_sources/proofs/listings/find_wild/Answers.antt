use Rattle.std.proofs.Common.{◌≡◌, List, ℕ, Some, sym, ◌∙◌}
use Rattle.site_edge.specs.Told.{IsListingOf}
use Rattle.conf_sources.specs.Listings.{listing}
use Rattle.conf_sources.proofs.ListingLaws.{listing_is}
use Rattle.conf_sources.proofs.NamingLaws.{found_wild}
use Rattle.conf_sources.proofs.Toldness.{told_at}
use Rattle.conf_sources.proofs.listings.find_wild.Goals as goal

pub returns-in-Some-clause-value : goal.returns-in-Some-clause-value
returns-in-Some-clause-value g c = λ all e.
    found_wild all c.args.name.now c.split_name.result.0.now c.split_name.result.1.now c.as_slice.result.now c.in_ok-in_folder.field-0 c.split_name.ensures.folder c.split_name.ensures.last
    (c.as_slice.ensures ∙ c.in-Some.ensures (λ d. listing d all) (c.requires.below all e)) (c.in_ok-in_folder.ensures {u = tt})

pub returns-clause-value : goal.returns-clause-value
returns-clause-value g c = λ all e.
    let folder = c.split_name.result.0.now in
    let listed : c.in_ok-names.names ≡ listing folder all = listing_is folder all c.in_ok-names.names (told_at (λ fs. IsListingOf folder fs c.in_ok-names.names) (g.F.Files.told c.args.files.now) all e (c.in_ok-names.ensures {u = tt}).names) in
    found_wild all c.args.name.now folder c.split_name.result.1.now c.as_slice-2.result.now c.in_ok-found.found c.split_name.ensures.folder c.split_name.ensures.last (c.as_slice-2.ensures ∙ listed) (c.in_ok-found.ensures {u = tt})

pub returns-clause-known : goal.returns-clause-known
returns-clause-known g c =
    let folder = c.split_name.result.0.now in
    record {
      below = λ all e.
          let before : g.F.Files.told c.args.files.now ≡ Some all = sym c.names.ensures.same ∙ e in
          let listed : c.in_ok-names.names ≡ listing folder all = listing_is folder all c.in_ok-names.names (told_at (λ fs. IsListingOf folder fs c.in_ok-names.names) (g.F.Files.told c.args.files.now) all before (c.in_ok-names.ensures {u = tt}).names) in
          c.in_ok-keep.ensures (λ d. listing d all) (c.requires.below all before) listed;
      described = λ all e. c.requires.described all (sym c.names.ensures.same ∙ e);
    }
