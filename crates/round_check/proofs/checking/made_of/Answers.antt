-- What is told next is made, and so all that is told is.
use Rattle.std.proofs.Common.{◌≡◌, ◌<◌, ◌∷◌, [], List, length, map, refl, sym, ap, ◌∙◌, subst, rules}
use Rattle.std.proofs.lemmas.List.{nil_from_length}
use Rattle.std.specs.Vec.Iter.{into_iter_items}
use Rattle.checkable_core.specs.Entries.{rules_in}
use Rattle.run_meaning.specs.Runs.{no_entries}
use Rattle.run_meaning.specs.Turns.{Asked, Histories}
use Rattle.site_model.specs.PlainSite.{site_view}
use Rattle.site_posts.specs.Books.{histories_of}
use Rattle.round_check.specs.declared.told.Told.{Told}
use Rattle.round_check.specs.declared.ordering.Ranked.{Ranked}
use Rattle.round_check.specs.Kept.{AreWithin, IsBegun, IsMaking}
use Rattle.round_check.specs.Making.{made_from}
use Rattle.round_check.specs.Ordered.{told_by_rank}
use Rattle.round_check.proofs.Answering.{begun_is_kept}
use Rattle.round_check.proofs.MakingAll.{all_or_none, all_or_some, first_within, goes_on_made, rest_within, stops_here}
use Rattle.round_check.proofs.checking.made_of.Goals as goal

pub loop-ranked-init : goal.loop-ranked-init
loop-ranked-init c =
    let s = site_view c.args.setting.now.site.now in
    let zone = c.args.setting.now.zone.now in
    let now = c.args.setting.now.moment in
    let books = c.args.books.now.items in
    let m = c.in_ok-making.making in
    let items : into_iter_items c.into_iter-ranked-iterator.result ≡ c.args.order.items = search rules in
    record {
      within = subst (λ (xs : List Ranked). AreWithin s (map told_by_rank xs)) (sym items) c.requires.within;
      books = c.requires.books;
      many = c.in_ok-making.ensures.callers_are ∙ sym c.requires.callers;
      made = λ events w l. (
        no_entries s,
        subst (λ n. IsMaking s now (histories_of books) n (no_entries s) m books) l (begun_is_kept s zone now books events [] m c.requires.books (subst (λ n. IsBegun n m) (sym l) c.in_ok-making.ensures)),
        ap (λ (xs : List Ranked). made_from (rules_in s zone) now (histories_of books) events (map told_by_rank xs) (no_entries s)) items,
      );
    }

pub make-requires-clause-checkable : goal.make-requires-clause-checkable
make-requires-clause-checkable c =
    let s = site_view c.args.setting.now.site.now in
    first_within s c.in-Some.ranked.told (map told_by_rank (into_iter_items c.next.new.self)) _ (ap (map told_by_rank) c.in-Some.ensures.steps.0) c.loop-ranked.invariant.within

pub loop-ranked-preserved : goal.loop-ranked-preserved
loop-ranked-preserved c =
    let s = site_view c.args.setting.now.site.now in
    let r = rules_in s c.args.setting.now.zone.now in
    let now = c.args.setting.now.moment in
    let before = histories_of c.args.books.now.items in
    let t = c.in-Some.ranked.told in
    let left = map told_by_rank (into_iter_items c.next.new.self) in
    let step = ap (map told_by_rank) c.in-Some.ensures.steps.0 in
    let inv = c.loop-ranked.invariant in
    record {
      within = rest_within s t left _ step inv.within;
      books = c.in_ok-make.ensures.books;
      many = c.in_ok-make.ensures.callers ∙ inv.many;
      made = λ events w l.
          let (round, kept, all) = inv.made events w l in
          let x = subst (λ n. IsMaking s now before n round c.loop-ranked.making c.loop-ranked.books.items) (sym l) kept in
          let next = goes_on_made r now before events t left _ round (λ q. IsMaking s now before (length events) q c.make.new.making c.make.new.books.items) c.in_ok-make.field-0 c.if-not-branch.false (c.in_ok-make.ensures.made before round events w x)
          (sym (ap (λ ts. made_from r now before events ts round) step) ∙ all) in
          (next.0, subst (λ n. IsMaking s now before n next.0 c.make.new.making c.make.new.books.items) l next.1, next.2);
    }

pub returns-then-not-branch : goal.returns-then-not-branch
returns-then-not-branch c = λ events w l.
    let s = site_view c.args.setting.now.site.now in
    let r = rules_in s c.args.setting.now.zone.now in
    let now = c.args.setting.now.moment in
    let before = histories_of c.args.books.now.items in
    let t = c.in-Some.ranked.told in
    let left = map told_by_rank (into_iter_items c.next.new.self) in
    let step = ap (map told_by_rank) c.in-Some.ensures.steps.0 in
    let (round, kept, all) = c.loop-ranked.invariant.made events w l in
    let x = subst (λ n. IsMaking s now before n round c.loop-ranked.making c.loop-ranked.books.items) (sym l) kept in
    all_or_none s now before c.args.callers c.make.new.books.items _
    (stops_here r now before events t left _ round (λ q. IsMaking s now before (length events) q c.make.new.making c.make.new.books.items) c.in_ok-make.field-0 c.if-not-branch.true (c.in_ok-make.ensures.made before round events w x)
    (sym (ap (λ ts. made_from r now before events ts round) step) ∙ all))

pub returns : goal.returns
returns c = λ events w l.
    let s = site_view c.args.setting.now.site.now in
    let r = rules_in s c.args.setting.now.zone.now in
    let now = c.args.setting.now.moment in
    let before = histories_of c.args.books.now.items in
    let (round, kept, all) = c.loop-ranked.invariant.made events w l in
    let empty : length (into_iter_items c.loop-ranked.ranked-iterator) ≡ 0 = search (rules, c.in-None.ensures.steps) in
    let none : into_iter_items c.loop-ranked.ranked-iterator ≡ [] = nil_from_length (into_iter_items c.loop-ranked.ranked-iterator) empty in
    all_or_some s now before c.args.callers c.loop-ranked.books.items _ round c.loop-ranked.making (sym all ∙ ap (λ (xs : List Ranked). made_from r now before events (map told_by_rank xs) round) none) kept
