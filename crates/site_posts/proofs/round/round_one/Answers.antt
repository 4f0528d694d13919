-- The acts are taken one after another, and what they make is the round.
use Rattle.std.proofs.Common.{[], ℕ, List, All, Contains, Vec, length, map, sym, ap, ◌∙◌, subst}
use Rattle.std.proofs.lemmas.List.Elements.{All-head}
use Rattle.std.specs.declared.alloc.Global.{Global}
use Rattle.checkable_core.specs.Contents.{Contents}
use Rattle.run_meaning.proofs.Lists.{length_map}
use Rattle.run_meaning.proofs.OneCaller.{is_alone}
use Rattle.site_model.specs.PlainSite.{site_view}
use Rattle.site_posts.specs.Books.{histories_of}
use Rattle.site_posts.specs.Made.{asked_of, round_made}
use Rattle.site_posts.specs.Progress.{AreKept}
use Rattle.checkable_core.specs.Entries.{rules_in}
use Rattle.site_posts.specs.declared.act.Act.{Act}
use Rattle.site_posts.proofs.SoFar.{none_come, none_partly, on_any, on_any_err, some_partly, whole_partly}
use Rattle.site_posts.proofs.round.round_one.Goals as goal

abbrev Acts : List ℕ → Vec Act Global → Type 0
Acts ks list = All (λ (act : Act). Contains ks act.checkable) list.items

pub take_in_order-requires-clause-touched : goal.take_in_order-requires-clause-touched
take_in_order-requires-clause-touched c =
    subst (λ (v : Vec ℕ Global). Acts v.items c.args.list) (sym c.in_ok-gathered.ensures.touched)
    (All-head (Acts c.in_ok-touched.touched.items) c.args.list [] (subst (All (Acts c.in_ok-touched.touched.items)) c.from_ref.ensures.value c.in_ok-touched.ensures.all))

-- Where it stops.

pub returns-in_err-touched-clause-partly : goal.returns-in_err-touched-clause-partly
returns-in_err-touched-clause-partly c =
    let books = c.args.books.now.items in
    on_any_err _ (none_partly (site_view c.args.site.now) c.args.zone.now c.args.moment (histories_of books) (map asked_of c.args.list.items) (length_map (λ (k : Contents). k.entries) books ∙ c.requires.books.whole)) c.from_residual.result

pub returns-in_err-gathered-clause-partly : goal.returns-in_err-gathered-clause-partly
returns-in_err-gathered-clause-partly c =
    let books = c.args.books.now.items in
    on_any_err _ (none_partly (site_view c.args.site.now) c.args.zone.now c.args.moment (histories_of books) (map asked_of c.args.list.items) (length_map (λ (k : Contents). k.entries) books ∙ c.requires.books.whole)) c.from_residual-in_err-gathered.result

pub returns-in_err-take_in_order-clause-partly : goal.returns-in_err-take_in_order-clause-partly
returns-in_err-take_in_order-clause-partly c =
    let s = site_view c.args.site.now in
    let zone = c.args.zone.now in
    let moment = c.args.moment in
    let books = c.args.books.now.items in
    let before = histories_of books in
    let acts = map asked_of c.args.list.items in
    let whole = length_map (λ (k : Contents). k.entries) books ∙ c.requires.books.whole in
    let gathered = c.in_ok-gathered.gathered in
    let few = c.in_ok-gathered.ensures.whole ∙ ap (λ (v : Vec ℕ Global). length v.items) (sym c.in_ok-gathered.ensures.touched) in
    let begun = none_come s zone moment before gathered.touched.items gathered.rows.items whole few c.in_ok-gathered.ensures.none in
    on_any_err _ (some_partly s zone moment before acts (histories_of c.take_in_order.new.books.items) (c.in_err-take_in_order.ensures.stopped before [] begun)) c.from_residual-in_err-take_in_order.result

-- At the end.

pub returns-clause-round : goal.returns-clause-round
returns-clause-round c =
    on_any _ (is_alone (rules_in (site_view c.args.site.now) c.args.zone.now) c.args.moment (histories_of c.args.books.now.items) (map asked_of c.args.list.items) c.requires.acts) c.segments.result

pub returns-clause-segments : goal.returns-clause-segments
returns-clause-segments c =
    let s = site_view c.args.site.now in
    let zone = c.args.zone.now in
    let moment = c.args.moment in
    let books = c.args.books.now.items in
    let before = histories_of books in
    let acts = map asked_of c.args.list.items in
    let whole = length_map (λ (k : Contents). k.entries) books ∙ c.requires.books.whole in
    let gathered = c.in_ok-gathered.gathered in
    let few = c.in_ok-gathered.ensures.whole ∙ ap (λ (v : Vec ℕ Global). length v.items) (sym c.in_ok-gathered.ensures.touched) in
    let begun = none_come s zone moment before gathered.touched.items gathered.rows.items whole few c.in_ok-gathered.ensures.none in
    let come = c.in_ok-take_in_order.ensures.come before [] begun in
    let round = round_made s zone moment before acts in
    c.segments.ensures round (subst (λ (v : Vec ℕ Global). AreKept v.items c.take_in_order.new.gathered.rows.items round) (sym c.take_in_order.ensures.same) come.kept)

pub returns-clause-behind : goal.returns-clause-behind
returns-clause-behind c =
    let s = site_view c.args.site.now in
    let zone = c.args.zone.now in
    let moment = c.args.moment in
    let books = c.args.books.now.items in
    let before = histories_of books in
    let acts = map asked_of c.args.list.items in
    let whole = length_map (λ (k : Contents). k.entries) books ∙ c.requires.books.whole in
    let gathered = c.in_ok-gathered.gathered in
    let few = c.in_ok-gathered.ensures.whole ∙ ap (λ (v : Vec ℕ Global). length v.items) (sym c.in_ok-gathered.ensures.touched) in
    let begun = none_come s zone moment before gathered.touched.items gathered.rows.items whole few c.in_ok-gathered.ensures.none in
    let come = c.in_ok-take_in_order.ensures.come before [] begun in
    on_any _ come.stand c.segments.result

pub returns-clause-partly : goal.returns-clause-partly
returns-clause-partly c =
    let s = site_view c.args.site.now in
    let zone = c.args.zone.now in
    let moment = c.args.moment in
    let books = c.args.books.now.items in
    let before = histories_of books in
    let acts = map asked_of c.args.list.items in
    let whole = length_map (λ (k : Contents). k.entries) books ∙ c.requires.books.whole in
    let gathered = c.in_ok-gathered.gathered in
    let few = c.in_ok-gathered.ensures.whole ∙ ap (λ (v : Vec ℕ Global). length v.items) (sym c.in_ok-gathered.ensures.touched) in
    let begun = none_come s zone moment before gathered.touched.items gathered.rows.items whole few c.in_ok-gathered.ensures.none in
    let come = c.in_ok-take_in_order.ensures.come before [] begun in
    on_any_err _ (whole_partly s zone moment before acts (histories_of c.take_in_order.new.books.items) come.stand) c.segments.result
