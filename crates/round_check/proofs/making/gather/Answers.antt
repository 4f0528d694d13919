-- An entry more is gathered.
use Rattle.std.proofs.Common.{◌≡◌, ◌+◌, ◌∷◌, [], map, None, sym, ap, ◌∙◌, arith, rules}
use Rattle.std.proofs.lemmas.Result.{on_ok_weaker}
use Rattle.std.specs.BTreeMap.{insert_entry, is_at}
use Rattle.std.specs.Map.{lookup, set_value}
use Rattle.std.specs.Ordering.{nat_cmp}
use Rattle.site_posts.specs.Segments.{segment_of}
use Rattle.site_posts.proofs.Segmenting.{one_of_none, one_of_some}
use Rattle.round_check.proofs.making.gather.Goals as goal

pub returns-in-Some : goal.returns-in-Some
returns-in-Some c = λ round within is.
    let k = c.args.checkable in
    let kept = c.args.gathered.now.entries in
    let place : k ≡ 0 + k = omega arith in
    on_ok_weaker c.push.result
    (λ pushed. ap (map segment_of) ((c.get_mut.follows.holds c.push.new.self).0 ∙ ap (set_value (is_at (nat_cmp k)) kept) pushed)
    ∙ one_of_some k 0 k c.args.entry c.in-Some.entries.now kept round place is (sym c.in-Some.ensures.value))
    c.push.ensures.ok

pub returns : goal.returns
returns c = λ round within is.
    let k = c.args.checkable in
    let kept = c.args.gathered.now.entries in
    let place : k ≡ 0 + k = omega arith in
    let none : lookup (is_at (nat_cmp k)) kept ≡ None = search rules in
    let put : c.insert.new.self.entries ≡ insert_entry nat_cmp kept k (c.args.entry ∷ []) = search rules in
    ap (map segment_of) put ∙ one_of_none k 0 k c.args.entry kept round place within is none
