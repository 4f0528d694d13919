-- One ancestor more is seen.
use Rattle.std.proofs.Common.{◌≡◌, ◌<◌, ◌++◌, ◌∷◌, [], length, map, take, get_or, sym, ap, ◌∙◌, subst}
use Rattle.std.proofs.lemmas.Option.{slice_get-get_or}
use Rattle.site_model.specs.PlainSite.{site_view}
use Rattle.site_posts.proofs.Leading.{ahead_at, leads_on, names_more}
use Rattle.site_posts.proofs.Taking.{ancestor_within}
use Rattle.site_posts.specs.Books.{histories_of}
use Rattle.site_posts.specs.Outlooks.{Leads}
use Rattle.site_posts.specs.declared.ahead.Ahead.{Ahead}
use Rattle.site_posts.proofs.ahead.outlook_of.Goals as goal

pub still_of-requires-clause-within : goal.still_of-requires-clause-within
still_of-requires-clause-within c =
    let s = site_view c.args.setting.now.site.now in
    let ps = c.ancestors-ancestors.result.now in
    ancestor_within s c.args.setting.now.moment c.args.books.now c.requires.books c.args.checkable c.loop-ancestor.ancestor-index ps (c.ancestors-ancestors.ensures s c.requires.graph) c.loop-ancestor-test.true

pub loop-ancestor-preserved : goal.loop-ancestor-preserved
loop-ancestor-preserved c =
    let s = site_view c.args.setting.now.site.now in
    let before = histories_of c.args.books.now in
    let touched = c.args.touched.now in
    let ps = c.ancestors-ancestors.result.now in
    let i = c.loop-ancestor.ancestor-index in
    let p = get_or ps i 0 in
    let still = c.in_ok-still.still in
    let old = c.loop-ancestor.ahead.items in
    let grown : c.push.new.self.items ≡ old ++ ahead_at p still ∷ [] = c.in_ok-push.ensures.items in
    record {
      names = ap (map (λ (a : Ahead). a.ancestor)) grown ∙ names_more old p i still ps (slice_get-get_or ps i 0 c.loop-ancestor-test.true) c.loop-ancestor.invariant.names;
      leads = subst (λ as'. Leads s before touched as' c.still_of.new.posts.items) (sym grown)
          (leads_on s before touched old p still c.loop-ancestor.posts.items c.still_of.new.posts.items c.loop-ancestor.invariant.leads (c.in_ok-still.ensures s c.args.setting.now.moment c.requires.books));
    }
