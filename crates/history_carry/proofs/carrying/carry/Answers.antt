-- What is carried over is what the site's checkables get, and histories of it.
use Rattle.std.proofs.Common.{◌≡◌, All, List, map, sym, ap, ◌∙◌, subst}
use Rattle.std.specs.Prelude.{IfOk}
use Rattle.std.proofs.lemmas.Result.{IfOk-weaker}
use Rattle.checkable_core.specs.Histories.{IsHistory}
use Rattle.site_model.specs.PlainSite.{full_names, site_view}
use Rattle.site_model.specs.declared.entry.Entry.{Entry}
use Rattle.site_posts.specs.Books.{histories_of}
use Rattle.history_carry.specs.Carried.{histories_named}
use Rattle.history_carry.specs.Entries.{carried_history}
use Rattle.history_carry.specs.Moves.{moves_between}
use Rattle.history_carry.proofs.Lawful.{histories_own, named_lawful}
use Rattle.history_carry.proofs.carrying.carry.Goals as goal

pub checkables_with-requires-clause-lawful : goal.checkables_with-requires-clause-lawful
checkables_with-requires-clause-lawful c =
    let s = site_view c.args.old.now in
    let t = site_view c.args.new.now in
    let hs = c.args.histories.items in
    let same : c.as_slice.result.now ≡ map (carried_history (moves_between s t)) hs =
    c.as_slice.ensures.value ∙ c.in_ok-carried.ensures ∙ ap (λ m. map (carried_history m) hs) c.in_ok-moves.ensures in
    subst (All (IsHistory t)) (sym same) (histories_own s t hs c.requires.lawful)

pub returns-clause-carried : goal.returns-clause-carried
returns-clause-carried c =
    let s = site_view c.args.old.now in
    let t = site_view c.args.new.now in
    let hs = c.args.histories.items in
    let same : c.as_slice.result.now ≡ map (carried_history (moves_between s t)) hs =
    c.as_slice.ensures.value ∙ c.in_ok-carried.ensures ∙ ap (λ m. map (carried_history m) hs) c.in_ok-moves.ensures in
    subst (λ (xs : List (List Entry)). IfOk c.checkables_with.result (λ books. histories_of books.items ≡ histories_named (full_names s) xs (full_names t))) same c.checkables_with.ensures.entries

pub returns-clause-lawful : goal.returns-clause-lawful
returns-clause-lawful c =
    let s = site_view c.args.old.now in
    let t = site_view c.args.new.now in
    let hs = c.args.histories.items in
    let same : c.as_slice.result.now ≡ map (carried_history (moves_between s t)) hs =
    c.as_slice.ensures.value ∙ c.in_ok-carried.ensures ∙ ap (λ m. map (carried_history m) hs) c.in_ok-moves.ensures in
    let own : All (IsHistory t) c.as_slice.result.now = subst (All (IsHistory t)) (sym same) (histories_own s t hs c.requires.lawful) in
    IfOk-weaker c.checkables_with.result (λ books. histories_of books.items ≡ histories_named (full_names s) c.as_slice.result.now (full_names t)) (λ books. All (IsHistory t) (histories_of books.items))
    (λ books e. named_lawful t (full_names s) c.as_slice.result.now (full_names t) (histories_of books.items) own e) c.checkables_with.ensures.entries
