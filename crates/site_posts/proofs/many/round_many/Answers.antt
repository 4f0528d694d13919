-- What callers bring is a round.
use denote.Param.Send.{sendable}
use Rattle.std.proofs.Common.{◌≡◌, ◌<◌, ◌≤◌, ℕ, List, [], length, map, refl, sym, ap, ◌∙◌, subst, rules, arith}
use Rattle.std.proofs.lemmas.List.{length-map}
use Rattle.std.specs.Prelude.{All, Contains, IfOk, OnOk, Vec}
use Rattle.std.specs.declared.alloc.Global.{Global}
use Rattle.checkable_core.specs.Machines.{IsFit}
use Rattle.post_rounds.specs.Hands.{base_of}
use Rattle.site_model.specs.PlainSite.{site_view}
use Rattle.site_posts.proofs.Crossing.{machine_send, machine_sync}
use Rattle.site_posts.proofs.Readying.{all_ready, are_fit, jobs_length, on_site, taken_length}
use Rattle.site_posts.proofs.Rounding.{if_both, is_round_of}
use Rattle.site_posts.proofs.Telling.{sense_of}
use Rattle.site_posts.proofs.Whole.{count, hands_held}
use Rattle.site_posts.specs.Books.{histories_of}
use Rattle.site_posts.specs.Lent.{AreTaken, round_with, with_books}
use Rattle.site_posts.specs.Many.{IsRoundOf, asked_in}
use Rattle.site_posts.specs.Outlooks.{AreBases, AreJobs, AreOutlooks, Ascends}
use Rattle.site_posts.specs.Segments.{segments_of}
use Rattle.site_posts.specs.declared.act.Act.{Act}
use Rattle.site_posts.specs.declared.hall.Deeds.{Deeds}
use Rattle.site_posts.proofs.many.round_many.Goals as goal

abbrev Below : ℕ → Vec Act Global → Type 0
Below n list = All (λ (act : Act). act.checkable < n) list.items

abbrev Acts : List ℕ → Vec Act Global → Type 0
Acts touched list = All (λ (act : Act). Contains touched act.checkable) list.items

pub outlooks_of-requires-clause-within : goal.outlooks_of-requires-clause-within
outlooks_of-requires-clause-within g c =
    let s = site_view c.args.site.now in
    let n = length s.checkables in
    subst (All (λ k. k < n)) (sym c.as_slice-3.ensures.value)
    (c.in_ok-touched.ensures.no_others n (subst (All (Below n)) (sym c.as_slice.ensures.value) (on_site s c.args.lists.items c.requires.acts)))

pub jobs_of-requires-clause-outlooks : goal.jobs_of-requires-clause-outlooks
jobs_of-requires-clause-outlooks g c =
    ap length c.as_slice-5.ensures.value ∙ c.in_ok-outlooks.ensures.whole ∙ ap length c.as_slice-3.ensures.value ∙ sym (ap length c.as_slice-4.ensures.value)

pub jobs_of-requires-clause-acts : goal.jobs_of-requires-clause-acts
jobs_of-requires-clause-acts g c =
    subst (λ ks. All (Acts ks) c.args.lists.items) (sym c.as_slice-4.ensures.value)
    (subst (All (Acts c.in_ok-touched.touched.items)) c.as_slice.ensures.value c.in_ok-touched.ensures.all)

pub take_out-requires-clause-within : goal.take_out-requires-clause-within
take_out-requires-clause-within g c =
    let s = site_view c.args.site.now in
    let n = length s.checkables in
    subst (λ m. All (λ k. k < m) c.as_slice-6.result.now) (sym c.requires.books.whole)
    (subst (All (λ k. k < n)) (sym c.as_slice-6.ensures.value)
    (c.in_ok-touched.ensures.no_others n (subst (All (Below n)) (sym c.as_slice.ensures.value) (on_site s c.args.lists.items c.requires.acts))))

pub bases_of-requires-clause-taken : goal.bases_of-requires-clause-taken
bases_of-requires-clause-taken g c =
    taken_length c.args.books.now.items c.as_slice-6.result.now c.in_ok-taken.taken.items c.take_out.new.books.items c.in_ok-taken.ensures.taken
    ∙ ap length (c.as_slice-6.ensures.value ∙ sym c.as_slice-7.ensures.value)

pub open_all-requires-clause-callers : goal.open_all-requires-clause-callers
open_all-requires-clause-callers g c = λ κs.
    let n = jobs_length c.as_slice-4.result.now c.as_slice-5.result.now (map asked_in c.args.lists.items) c.in_ok-jobs.jobs.items c.in_ok-jobs.ensures in
    let m = length-map c.args.lists.items asked_in in
    let low = c.requires.callers.0 in
    let high = c.requires.callers.1 in
    (omega (arith, n, m, low), omega (arith, n, m, high))

pub open_all-requires-clause-starts : goal.open_all-requires-clause-starts
open_all-requires-clause-starts g c = λ κs.
    let books = c.args.books.now.items in
    let left = c.take_out.new.books.items in
    let taken = subst (λ ks. AreTaken books ks c.in_ok-taken.taken.items left) (c.as_slice-6.ensures.value ∙ sym c.as_slice-7.ensures.value) c.in_ok-taken.ensures.taken in
    are_fit (site_view c.args.site.now) c.args.zone.now c.args.moment (histories_of books) c.as_slice-7.result.now c.in_ok-bases.bases.items (c.in_ok-bases.ensures books left c.requires.books taken)

pub open_all-requires-send-M : goal.open_all-requires-send-M
open_all-requires-send-M g c κs = search (sendable, machine_send) depth 20

pub open_all-requires-sync-M : goal.open_all-requires-sync-M
open_all-requires-sync-M g c κs = search (sendable, machine_sync) depth 20

pub close_all-requires-send-M : goal.close_all-requires-send-M
close_all-requires-send-M g c κs = search (sendable, machine_send) depth 20

pub close_all-requires-sync-M : goal.close_all-requires-sync-M
close_all-requires-sync-M g c κs = search (sendable, machine_sync) depth 20

pub all_in-requires-clause-ready : goal.all_in-requires-clause-ready
all_in-requires-clause-ready g c = λ κs within.
    let s = site_view c.args.site.now in
    let books = c.args.books.now.items in
    let left = c.take_out.new.books.items in
    let before = histories_of books in
    let touched = c.in_ok-touched.touched.items in
    let os = c.in_ok-outlooks.outlooks.items in
    let events = map asked_in c.args.lists.items in
    let jobs = c.in_ok-jobs.jobs.items in
    let bases = c.in_ok-bases.bases.items in
    let deeds : Deeds = record { moment = c.args.moment; outlooks = c.in_ok-outlooks.outlooks } in
    let taken = subst (λ ks. AreTaken books ks c.in_ok-taken.taken.items left) (c.as_slice-6.ensures.value ∙ sym c.as_slice-7.ensures.value) c.in_ok-taken.ensures.taken in
    let begun = subst (λ ks. AreBases s c.args.zone.now c.args.moment before ks bases) c.as_slice-7.ensures.value (c.in_ok-bases.ensures books left c.requires.books taken) in
    let outlooks = subst (λ bs. AreOutlooks s (histories_of bs) touched os) c.as_slice-2.ensures.value (subst (λ ks. AreOutlooks s (histories_of c.as_slice-2.result.now) ks os) c.as_slice-3.ensures.value c.in_ok-outlooks.ensures) in
    let are = subst (λ xs. AreJobs touched xs events jobs) c.as_slice-5.ensures.value (subst (λ ks. AreJobs ks c.as_slice-5.result.now events jobs) c.as_slice-4.ensures.value c.in_ok-jobs.ensures) in
    all_ready s c.args.zone.now c.args.moment before touched bases begun deeds refl outlooks c.in_ok-posts.field-0.posts.items c.in_ok-posts.ensures.posts.0 events jobs are c.in_ok-posts.field-0.callers.items c.in_ok-posts.ensures.callers

pub put_back-requires-clause-ascends : goal.put_back-requires-clause-ascends
put_back-requires-clause-ascends g c = subst Ascends (sym c.as_slice-8.ensures.value) c.in_ok-touched.ensures.ascends

pub close_all-requires-clause-callers : goal.close_all-requires-clause-callers
close_all-requires-clause-callers g c = λ κs i d l.
    let deeds : Deeds = record { moment = c.args.moment; outlooks = c.in_ok-outlooks.outlooks } in
    let posts = c.in_ok-posts.field-0.posts.items in
    c.in_ok-posts.ensures.posts.1 i d l
    ∙ sym (count (sense_of deeds (map base_of posts)) IsFit posts refl c.in_ok-jobs.jobs.items c.in_ok-posts.field-0.callers.items c.in_ok-hands.hands.items c.in_ok-posts.ensures.callers c.in_ok-hands.ensures)

pub close_all-requires-clause-hands : goal.close_all-requires-clause-hands
close_all-requires-clause-hands g c = λ κs.
    let deeds : Deeds = record { moment = c.args.moment; outlooks = c.in_ok-outlooks.outlooks } in
    let posts = c.in_ok-posts.field-0.posts.items in
    hands_held (sense_of deeds (map base_of posts)) IsFit posts refl c.in_ok-jobs.jobs.items c.in_ok-posts.field-0.callers.items c.in_ok-hands.hands.items c.in_ok-posts.ensures.callers c.in_ok-hands.ensures

pub put_back-requires-clause-whole : goal.put_back-requires-clause-whole
put_back-requires-clause-whole g c =
    let books = c.args.books.now.items in
    let left = c.take_out.new.books.items in
    let taken = subst (λ ks. AreTaken books ks c.in_ok-taken.taken.items left) (c.as_slice-6.ensures.value ∙ sym c.as_slice-7.ensures.value) c.in_ok-taken.ensures.taken in
    c.in_ok-ended.ensures.ends.whole ∙ sym (length-map c.in_ok-posts.field-0.posts.items base_of) ∙ ap length c.in_ok-posts.ensures.posts.0
    ∙ (c.in_ok-bases.ensures books left c.requires.books taken).whole ∙ ap length (c.as_slice-7.ensures.value ∙ sym c.as_slice-8.ensures.value)

pub put_back-requires-clause-taken : goal.put_back-requires-clause-taken
put_back-requires-clause-taken g c =
    let books = c.args.books.now.items in
    let left = c.take_out.new.books.items in
    (books, c.in_ok-taken.taken.items, subst (λ ks. AreTaken books ks c.in_ok-taken.taken.items left) (c.as_slice-6.ensures.value ∙ sym c.as_slice-8.ensures.value) c.in_ok-taken.ensures.taken)

pub returns : goal.returns
returns g c =
    let s = site_view c.args.site.now in
    let zone = c.args.zone.now in
    let moment = c.args.moment in
    let books = c.args.books.now.items in
    let left = c.take_out.new.books.items in
    let out = c.in_ok-taken.taken.items in
    let before = histories_of books in
    let touched = c.in_ok-touched.touched.items in
    let n = length s.checkables in
    let os = c.in_ok-outlooks.outlooks.items in
    let events = map asked_in c.args.lists.items in
    let jobs = c.in_ok-jobs.jobs.items in
    let bases = c.in_ok-bases.bases.items in
    let posts = c.in_ok-posts.field-0.posts.items in
    let ended = c.in_ok-ended.ended.items in
    let new = c.put_back.new.books.items in
    let deeds : Deeds = record { moment = moment; outlooks = c.in_ok-outlooks.outlooks } in
    let taken7 = subst (λ ks. AreTaken books ks out left) (c.as_slice-6.ensures.value ∙ sym c.as_slice-7.ensures.value) c.in_ok-taken.ensures.taken in
    let taken8 = subst (λ ks. AreTaken books ks out left) (c.as_slice-6.ensures.value ∙ sym c.as_slice-8.ensures.value) c.in_ok-taken.ensures.taken in
    let begun = subst (λ ks. AreBases s zone moment before ks bases) c.as_slice-7.ensures.value (c.in_ok-bases.ensures books left c.requires.books taken7) in
    if_both (new ≡ with_books books touched ended) (λ r. r ≡ segments_of (round_with (map (λ _. []) books) touched ended)) (IsRoundOf s zone moment books new events)
    (λ kept segments told. is_round_of s zone moment books touched deeds events jobs posts c.in_ok-posts.field-0.callers.items c.in_ok-hands.hands.items ended
    (record {
      stood = c.requires.books;
      ascends = c.in_ok-touched.ensures.ascends;
      within = c.in_ok-touched.ensures.no_others n (subst (All (Below n)) (sym c.as_slice.ensures.value) (on_site s c.args.lists.items c.requires.acts));
      now = refl;
      outlooks = subst (λ bs. AreOutlooks s (histories_of bs) touched os) c.as_slice-2.ensures.value (subst (λ ks. AreOutlooks s (histories_of c.as_slice-2.result.now) ks os) c.as_slice-3.ensures.value c.in_ok-outlooks.ensures);
      jobs = subst (λ xs. AreJobs touched xs events jobs) c.as_slice-5.ensures.value (subst (λ ks. AreJobs ks c.as_slice-5.result.now events jobs) c.as_slice-4.ensures.value c.in_ok-jobs.ensures);
      begun = subst (AreBases s zone moment before touched) (sym c.in_ok-posts.ensures.posts.0) begun;
      dealt = c.in_ok-posts.ensures.callers;
      walked = c.in_ok-hands.ensures;
      ends = c.in_ok-ended.ensures.ends;
      grown = c.in_ok-ended.ensures.grown;
    }) new segments kept told)
    c.put_back.result
    (subst (λ ks. OnOk c.put_back.result (new ≡ with_books books ks ended)) c.as_slice-8.ensures.value (c.put_back.ensures.books books out taken8))
    (subst (λ ks. IfOk c.put_back.result (λ r. r ≡ segments_of (round_with (map (λ _. []) books) ks ended))) c.as_slice-8.ensures.value (c.put_back.ensures.segments books out taken8))
