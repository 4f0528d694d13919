use Rattle.std.proofs.Common.{[], sym, subst}
use Rattle.conf_sources.specs.Known.{IsKnown}
use Rattle.conf_sources.proofs.KnownLaws.{nothing_known}
use Rattle.conf_sources.proofs.listings.Listings.new.Goals as goal

pub returns : goal.returns
returns c = λ told. subst (λ f. IsKnown told f c.new-2.result) (sym c.new.ensures) (subst (λ w. IsKnown told [] w) (sym c.new-2.ensures) (nothing_known told))
