-- A place below the number of places is that of a key that was there.
use Rattle.std.proofs.Common.{ap, ◌∙◌, arith, string_bytes}
use Rattle.conf_check.specs.Duplicates.{place_under, with_place}
use Rattle.conf_check.proofs.FirstLaws.{first_told, first_stays}
use Rattle.conf_check.proofs.firsts.Firsts.first.Goals as goal

pub returns-then-at-len-clause-first : goal.returns-then-at-len-clause-first
returns-then-at-len-clause-first c =
    first_told c.args.self.now.keys c.add.new.self c.args.self.now.places.items (string_bytes c.in_ok-key.key) c.in_ok-at.at c.index.result.now c.requires c.in_ok-at.ensures.keys c.in_ok-at.ensures.place (omega arith) c.index.ensures
    ∙ ap (place_under c.args.self.now.keys c.args.self.now.places.items) c.in_ok-key.ensures

pub returns-then-at-len-clause-places : goal.returns-then-at-len-clause-places
returns-then-at-len-clause-places c =
    first_stays c.args.self.now.keys c.add.new.self c.args.self.now.places.items (string_bytes c.in_ok-key.key) c.in_ok-at.at c.args.place c.requires c.in_ok-at.ensures.keys c.in_ok-at.ensures.place (omega arith)
    ∙ ap (λ key. with_place c.args.self.now.keys c.args.self.now.places.items key c.args.place) c.in_ok-key.ensures
