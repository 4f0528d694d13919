-- Books that are taken out, and callers that may begin.
use Rattle.std.proofs.Common.{◌≡◌, ℕ, suc, ◌+◌, ◌<◌, ◌≤◌, List, [], ◌∷◌, ◌++◌, length, map, slice_get, Option, Some, refl, sym, ap, ◌∙◌, subst, arith, length-append}
use Rattle.std.specs.Prelude.{All, Contains, Vec}
use Rattle.std.specs.declared.alloc.Global.{Global}
use Rattle.std.proofs.lemmas.List.{length-map}
use Rattle.std.proofs.lemmas.Option.{slice_get_within}
use Rattle.jiff_tz.specs.declared.tzif.Tzif.{Tzif}
use Rattle.checkable_core.specs.Contents.{Contents}
use Rattle.checkable_core.specs.Machines.{IsFit}
use Rattle.checkable_core.specs.declared.deed.Deed.{Deed}
use Rattle.checkable_core.specs.declared.machine.SiteMachine.{SiteMachine}
use Rattle.depend_graph.specs.Graph.{IsGraphOf}
use Rattle.post_turn.specs.declared.post.Post.{Post}
use Rattle.post_rounds.specs.declared.base.Base.{Base}
use Rattle.post_rounds.specs.declared.caller.Caller.{Caller}
use Rattle.post_rounds.specs.declared.job.Job.{Job}
use Rattle.post_rounds.specs.Hands.{AreCallers, AreFresh, IsJob, IsReady, base_of}
use Rattle.post_rounds.proofs.Places.{all_at, all_from, get_within}
use Rattle.run_meaning.specs.Alone.{AreOnSite}
use Rattle.run_meaning.specs.Reachability.{ancestors}
use Rattle.run_meaning.specs.Turns.{Asked, Histories}
use Rattle.run_meaning.proofs.Lists.{get_of_map}
use Rattle.site_model.specs.PlainSite.{PlainSite, site_view}
use Rattle.site_model.specs.declared.entry.Entry.{Entry}
use Rattle.site_model.specs.declared.view.View.{View}
use Rattle.site_posts.proofs.Leading.{leads_within}
use Rattle.site_posts.proofs.Shown.{leads_count}
use Rattle.site_posts.specs.Books.{histories_of}
use Rattle.site_posts.specs.Lent.{AreTaken}
use Rattle.site_posts.specs.Made.{asked_of}
use Rattle.site_posts.specs.Many.{asked_in}
use Rattle.site_posts.specs.Outlooks.{AreBases, AreJobs, AreOutlooks, IsBaseOf, IsJobOf, IsOutlookOf, IsWanted, Leads, ahead_in, ahead_of, asked_by, sights_for}
use Rattle.site_posts.specs.declared.act.Act.{Act}
use Rattle.site_posts.specs.declared.ahead.Ahead.{Ahead}
use Rattle.site_posts.specs.declared.ahead.Outlook.{Outlook}
use Rattle.site_posts.specs.declared.hall.Deeds.{Deeds}
use Rattle.site_posts.specs.declared.hall.Wanted.{Wanted}

-- acts on a site are on checkables that it has
pub on_site : (s : PlainSite) (lists : List (Vec Act Global)) → All (AreOnSite s) (map asked_in lists) → All (λ list. All (λ act. act.checkable < length s.checkables) list.items) lists
on_site s lists on = all_from (λ list. All (λ act. act.checkable < length s.checkables) list.items) lists (λ k list at_list.
    let here = all_at (AreOnSite s) (map asked_in lists) on k (asked_in list) (get_of_map asked_in lists k list at_list) in
    all_from (λ act. act.checkable < length s.checkables) list.items (λ i act at. here i (asked_of act) (get_of_map asked_of list.items i act at)))

-- as many books are taken out as there are places
pub taken_length : (books : List Contents) (ks : List ℕ) (taken left : List Contents) → AreTaken books ks taken left → length taken ≡ length ks
taken_length books [] taken left t = ap length t.0
taken_length books (k ∷ ks) taken left (first, rest, book, t, at, is, left_is) =
    let n = ap length is in let m = length-append first (book ∷ []) in let r = taken_length books ks first rest t in omega (arith, n, m, r)

module _ (s : PlainSite) (zone : Option Tzif) (moment : ℕ) (before : Histories) (touched : List ℕ) (bases : List (Base SiteMachine Contents)) (begun : AreBases s zone moment before touched bases) where
  -- the checkable of a post
  pub begun_at : (p : ℕ) (base : Base SiteMachine Contents) → slice_get bases p ≡ Some base → (c : ℕ) × (slice_get touched p ≡ Some c) × IsBaseOf s zone moment before c base
  begun_at p base at =
      let l = slice_get_within bases p base at in
      let c = get_within touched p (let n = begun.whole in omega (arith, l, n)) in
      (c.0, c.1, begun.each p c.0 base c.1 at)

  -- posts begin with states that are fit
  pub are_fit : All (λ (base : Base SiteMachine Contents). IsFit base.machine base.start) bases
  are_fit = all_from (λ (base : Base SiteMachine Contents). IsFit base.machine base.start) bases (λ p base at.
      let b = (begun_at p base at).2 in
      record {
        site = b.book_site ∙ sym b.site;
        index = b.index ∙ sym b.checkable;
        graph = subst (λ t. IsGraphOf t base.machine.graph.now) (sym b.site) b.graph;
        moment = (let n = b.last in let m = b.moment in omega (arith, n, m));
      })

  module _ (deeds : Deeds) (now : deeds.moment ≡ moment) (outlooks : AreOutlooks s before touched deeds.outlooks.items) where
    is_job : (job : Job Wanted) → IsJobOf touched deeds.outlooks.items job → IsJob (IsWanted deeds) bases job
    is_job job is =
        let place = get_within touched job.post is.post in
        let o = get_within deeds.outlooks.items job.post (let l = is.post in let n = outlooks.whole in omega (arith, l, n)) in
        let outlook : IsOutlookOf s before touched place.0 o.0 = outlooks.each job.post place.0 o.0 place.1 o.1 in
        let looks : job.looks ≡ o.0.posts = is.looks o.0 o.1 in
        let ahead : ahead_of deeds job.want ≡ o.0.ahead = ap (λ q. ahead_in (slice_get deeds.outlooks.items q)) is.want ∙ ap ahead_in o.1 in
        record {
          post = (let l = is.post in let n = begun.whole in omega (arith, l, n));
          looks = subst (All (λ q. q < length bases)) (sym looks)
              (subst (λ n. All (λ q. q < n) o.0.posts) (sym begun.whole) (leads_within s before touched o.0.ahead o.0.posts outlook.leads));
          is_apt = λ base at.
              let b = begun.each job.post place.0 base place.1 at in
              record {
                moment = now ∙ sym b.moment;
                names = ap (map (λ (a : Ahead). a.ancestor)) ahead ∙ outlook.names ∙ (λ i. ancestors (sym b.site i) (sym b.checkable i));
                sights = ap length looks ∙ leads_count s before touched o.0.ahead o.0.posts outlook.leads ∙ ap sights_for (sym ahead);
              };
        }

    -- each caller may begin
    pub all_ready : (posts : List (Post SiteMachine Contents Deed Entry View)) → map base_of posts ≡ bases → (events : List (List Asked)) (lists : List (Vec (Job Wanted) Global)) → AreJobs touched deeds.outlooks.items events lists
        → (callers : List (Caller SiteMachine Wanted Contents Deed Entry View)) → AreCallers posts lists callers → All (IsReady (IsWanted deeds) posts) callers
    all_ready posts opened events lists jobs callers are = all_from (IsReady (IsWanted deeds) posts) callers (λ k c at.
        let l = slice_get_within callers k c at in
        let js = get_within lists k (let n = are.whole in omega (arith, l, n)) in
        let is = are.each k js.0 c js.1 at in
        let own = all_at (λ (xs : Vec (Job Wanted) Global). All (IsJobOf touched deeds.outlooks.items) xs.items) lists jobs.each k js.0 js.1 in
        let apt : All (IsJob (IsWanted deeds) bases) js.0.items = all_from (IsJob (IsWanted deeds) bases) js.0.items (λ i job at_job. is_job job (all_at (IsJobOf touched deeds.outlooks.items) js.0.items own i job at_job)) in
        record {
          hand = subst (λ n. AreFresh posts n c.hand.items) (sym is.0) is.2;
          jobs = subst (λ bs. All (IsJob (IsWanted deeds) bs) c.jobs.items) (sym opened) (subst (λ (xs : Vec (Job Wanted) Global). All (IsJob (IsWanted deeds) bases) xs.items) (sym is.1) apt);
        })

-- as many callers as lists
pub jobs_length : (touched : List ℕ) (outlooks : List Outlook) (events : List (List Asked)) (lists : List (Vec (Job Wanted) Global)) → AreJobs touched outlooks events lists → length lists ≡ length events
jobs_length touched outlooks events lists jobs = sym (length-map lists (λ (js : Vec (Job Wanted) Global). map (asked_by touched) js.items)) ∙ ap length jobs.asked
