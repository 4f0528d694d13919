use Rattle.std.proofs.Common.{◌≡◌, ◌++◌, ◌∷◌, [], map, length, slice_get, sym, subst, rules}
use Rattle.site_base.specs.View.{view, pair_view}
use Rattle.dsl_value.specs.Contents.{plain, pairs_of}
use Rattle.dsl_value.specs.Paths.{keyed}
use Rattle.dsl_value.proofs.Keyed.{keyed_some, keyed_none}
use Rattle.dsl_value.proofs.frames.add_pair.Goals as goal

pub returns-in_ok-push : goal.returns-in_ok-push
returns-in_ok-push c =
    let count : c.len.result ≡ length c.args.made.now.items = search rules in
    let key : c.in_ok-key.key ≡ c.in-Some.pair.now.0 = search rules in
    let pushed : c.push.new.self.items ≡ c.args.made.now.items ++ (c.in_ok-key.key, c.args.tree) ∷ [] = search rules in
    subst (λ cell. map pair_view c.push.new.self.items ≡ keyed (slice_get (pairs_of (plain cell)) (length (map pair_view c.args.made.now.items))) (map pair_view c.args.made.now.items) (view c.args.tree)) (sym c.in-Dict.is)
    (keyed_some c.in-Dict.pairs c.args.made.now.items c.push.new.self.items c.in_ok-key.key c.args.tree c.in-Some.pair.now c.len.result count c.in-Some.ensures.found key pushed)

pub returns-in_default-at : goal.returns-in_default-at
returns-in_default-at c =
    let count : c.len.result ≡ length c.args.made.now.items = search rules in
    subst (λ cell. map pair_view c.args.made.now.items ≡ keyed (slice_get (pairs_of (plain cell)) (length (map pair_view c.args.made.now.items))) (map pair_view c.args.made.now.items) (view c.args.tree)) (sym c.in-Dict.is)
    (keyed_none c.in-Dict.pairs c.args.made.now.items (view c.args.tree) c.len.result count c.in_default-at.ensures.none)
