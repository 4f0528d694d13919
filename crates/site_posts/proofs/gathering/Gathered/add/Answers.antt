-- The entry comes to the place of its checkable.
use Rattle.std.proofs.Common.{Ok, Err, nat_cmp, set, refl, subst}
use Rattle.std.specs.List.Sorted.{IsBinarySearchResult}
use Rattle.std.proofs.lemmas.Result.{on_ok_weaker}
use Rattle.site_posts.proofs.Ascending.{found, is_missed}
use Rattle.site_posts.proofs.Keeping.{kept_more}
use Rattle.site_posts.proofs.gathering.Gathered.add.Goals as goal

pub unreachable-requires : goal.unreachable-requires
unreachable-requires c =
    let k = c.args.checkable in
    let at = c.in_default.field-0 in
    is_missed c.args.self.now.touched.items c.requires.ascends k at (subst (λ ks. IsBinarySearchResult (λ y. nat_cmp y k) ks (Err at)) c.deref.ensures.value c.in_default.ensures.position) c.requires.touched

pub returns-clause-kept : goal.returns-clause-kept
returns-clause-kept c = λ round within kept.
    let touched = c.args.self.now.touched.items in
    let rows = c.args.self.now.rows.items in
    let at = c.in-Ok.at in
    let k = c.args.checkable in
    let later = c.push.new.self in
    let position = subst (λ ks. IsBinarySearchResult (λ y. nat_cmp y k) ks (Ok at)) c.deref.ensures.value c.in-Ok.ensures.position in
    on_ok_weaker c.push.result
    (λ grown.
    kept_more touched rows round (set rows at later) at k c.args.entry c.index_mut-entries.result.now later c.requires.ascends (found touched c.requires.ascends k at position) c.index_mut-entries.ensures.value grown refl within kept)
    c.push.ensures.ok
