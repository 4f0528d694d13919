-- One act more is taken.
use Rattle.std.proofs.Common.{◌≡◌, ◌∷◌, ◌++◌, [], ℕ, List, All, Contains, Vec, length, map, refl, sym, ap, ◌∙◌, subst, rules, append_assoc}
use Rattle.std.proofs.lemmas.List.{append-nil}
use Rattle.std.proofs.lemmas.List.Elements.{All-head, All-tail}
use Rattle.std.specs.Vec.Iter.{into_iter_items}
use Rattle.std.specs.declared.alloc.Global.{Global}
use Rattle.checkable_core.specs.Entries.{rules_in}
use Rattle.run_meaning.specs.Alone.{AreOnSite, Move, moves_of, with_entry}
use Rattle.run_meaning.specs.Turns.{Asked}
use Rattle.site_model.specs.PlainSite.{site_view}
use Rattle.site_posts.specs.Books.{histories_of}
use Rattle.site_posts.specs.Made.{asked_of}
use Rattle.site_posts.specs.Outlooks.{Ascends}
use Rattle.site_posts.specs.Progress.{AreKept, HasCome, HasStopped}
use Rattle.site_posts.specs.declared.act.Act.{Act}
use Rattle.site_posts.proofs.SoFar.{all_done, on_any_err, on_site_first, on_site_rest, one_come, stopped, stopped_behind}
use Rattle.site_posts.proofs.in_order.take_in_order.Goals as goal

pub loop-act-init : goal.loop-act-init
loop-act-init c =
    let s = site_view c.args.setting.now.site.now in
    let touched = c.args.gathered.now.touched.items in
    let items : into_iter_items c.into_iter-act-iterator.result ≡ c.args.list.items = search rules in
    record {
      books = c.requires.books;
      acts = subst (λ (xs : List Act). AreOnSite s (map asked_of xs)) (sym items) c.requires.acts;
      among = subst (All (λ (act : Act). Contains touched act.checkable)) (sym items) c.requires.touched;
      same = refl;
      whole = refl;
      so_far = (
        [],
        ap (map asked_of) items,
        λ before done come. subst (λ (ms : List Move). HasCome s c.args.setting.now.zone.now c.args.setting.now.moment before touched ms (histories_of c.args.books.now.items) c.args.gathered.now.rows.items) (sym (append-nil done)) come,
      );
    }

pub look-requires-clause-checkable : goal.look-requires-clause-checkable
look-requires-clause-checkable c = on_site_first (site_view c.args.setting.now.site.now) (asked_of c.in-Some.act) _ _ (ap (map asked_of) c.in-Some.ensures.steps.0) c.loop-act.invariant.acts

pub take-requires-clause-checkable : goal.take-requires-clause-checkable
take-requires-clause-checkable c = on_site_first (site_view c.args.setting.now.site.now) (asked_of c.in-Some.act) _ _ (ap (map asked_of) c.in-Some.ensures.steps.0) c.loop-act.invariant.acts

pub loop-act-preserved : goal.loop-act-preserved
loop-act-preserved c =
    let setting = c.args.setting.now in
    let s = site_view setting.site.now in
    let touched = c.args.gathered.now.touched.items in
    let a = asked_of c.in-Some.act in
    let before = c.loop-act.invariant in
    let step = c.in-Some.ensures.steps.0 in
    let asked = ap (map asked_of) step in
    let old = c.loop-act.gathered.rows.items in
    let new = c.add.new.self.rows.items in
    let e = c.in_ok-entry.entry in
    record {
      books = c.take.ensures.books;
      acts = on_site_rest s a _ _ asked before.acts;
      among = All-tail (λ (act : Act). Contains touched act.checkable) c.in-Some.act _ (subst (All (λ (act : Act). Contains touched act.checkable)) step before.among);
      same = c.add.ensures.touched ∙ before.same;
      whole = c.add.ensures.whole ∙ before.whole;
      so_far = (
        before.so_far.0 ++ a ∷ [],
        append_assoc before.so_far.0 (a ∷ []) _ ∙ ap (λ (xs : List Asked). before.so_far.0 ++ xs) (sym asked) ∙ before.so_far.1,
        λ first done come.
            one_come s setting.zone.now setting.moment first touched done c.args.caller before.so_far.0 a e (histories_of c.loop-act.books.items) (histories_of c.take.new.books.items) old new
            (on_site_first s a _ _ asked before.acts) c.in_ok-entry.ensures.entry c.in_ok-entry.ensures.kept
            (λ round within. subst (λ (ks : List ℕ). AreKept ks old round → AreKept ks new (with_entry a.checkable e round)) (ap (λ (v : Vec ℕ Global). v.items) before.same) (c.in_ok-add.ensures.kept round within))
            (before.so_far.2 first done come),
      );
    }

pub add-requires-clause-touched : goal.add-requires-clause-touched
add-requires-clause-touched c =
    let before = c.loop-act.invariant in
    let among = λ (ks : List ℕ) (act : Act). Contains ks act.checkable in
    subst (λ (ks : List ℕ). among ks c.in-Some.act) (sym (ap (λ (v : Vec ℕ Global). v.items) before.same))
    (All-head (among c.args.gathered.now.touched.items) c.in-Some.act _ (subst (All (among c.args.gathered.now.touched.items)) c.in-Some.ensures.steps.0 before.among))

pub add-requires-clause-ascends : goal.add-requires-clause-ascends
add-requires-clause-ascends c = subst (λ (v : Vec ℕ Global). Ascends v.items) (sym c.loop-act.invariant.same) c.requires.ascends

pub add-requires-clause-whole : goal.add-requires-clause-whole
add-requires-clause-whole c = c.loop-act.invariant.whole ∙ c.requires.whole ∙ ap (λ (v : Vec ℕ Global). length v.items) (sym c.loop-act.invariant.same)

-- Where it stops.

pub returns-in_err-add-clause-same : goal.returns-in_err-add-clause-same
returns-in_err-add-clause-same c = c.add.ensures.touched ∙ c.loop-act.invariant.same

pub returns-in_err-look-clause-stopped : goal.returns-in_err-look-clause-stopped
returns-in_err-look-clause-stopped c = λ first done come.
    let setting = c.args.setting.now in
    let so_far = c.loop-act.invariant.so_far in
    on_any_err _
    (stopped (site_view setting.site.now) setting.zone.now setting.moment first c.args.gathered.now.touched.items done c.args.caller (map asked_of c.args.list.items) so_far.0 _ (histories_of c.loop-act.books.items) c.loop-act.gathered.rows.items so_far.1
    (so_far.2 first done come))
    c.from_residual.result

pub returns-in_err-entry-clause-stopped : goal.returns-in_err-entry-clause-stopped
returns-in_err-entry-clause-stopped c = λ first done come.
    let setting = c.args.setting.now in
    let s = site_view setting.site.now in
    let acts = map asked_of c.args.list.items in
    let so_far = c.loop-act.invariant.so_far in
    on_any_err _
    (subst (HasStopped (rules_in s setting.zone.now) setting.moment first done c.args.caller acts) (sym c.in_err-entry.ensures.err)
    (stopped s setting.zone.now setting.moment first c.args.gathered.now.touched.items done c.args.caller acts so_far.0 _ (histories_of c.loop-act.books.items) c.loop-act.gathered.rows.items so_far.1
    (so_far.2 first done come)))
    c.from_residual-in_err-entry.result

pub returns-in_err-add-clause-stopped : goal.returns-in_err-add-clause-stopped
returns-in_err-add-clause-stopped c = λ first done come.
    let setting = c.args.setting.now in
    let s = site_view setting.site.now in
    let a = asked_of c.in-Some.act in
    let acts = map asked_of c.args.list.items in
    let so_far = c.loop-act.invariant.so_far in
    let step = ap (map asked_of) c.in-Some.ensures.steps.0 in
    on_any_err _
    (stopped_behind s setting.zone.now setting.moment first c.args.gathered.now.touched.items done c.args.caller acts so_far.0 _ a c.in_ok-entry.entry (histories_of c.loop-act.books.items) (histories_of c.take.new.books.items)
    c.loop-act.gathered.rows.items (ap (λ (xs : List Asked). so_far.0 ++ xs) (sym step) ∙ so_far.1) (on_site_first s a _ _ step c.loop-act.invariant.acts) c.in_ok-entry.ensures.entry c.in_ok-entry.ensures.kept
    (so_far.2 first done come))
    c.from_residual-in_err-add.result

-- At the end.

pub returns-clause-come : goal.returns-clause-come
returns-clause-come c = λ first done come.
    let setting = c.args.setting.now in
    let s = site_view setting.site.now in
    let so_far = c.loop-act.invariant.so_far in
    let empty : length (into_iter_items c.loop-act.act-iterator) ≡ 0 = search (rules, c.in-None.ensures.steps) in
    let all = all_done asked_of so_far.0 (map asked_of c.args.list.items) (into_iter_items c.loop-act.act-iterator) so_far.1 empty in
    subst (λ (acts : List Asked). HasCome s setting.zone.now setting.moment first c.args.gathered.now.touched.items (done ++ moves_of c.args.caller acts) (histories_of c.loop-act.books.items) c.loop-act.gathered.rows.items) all (so_far.2 first done come)
