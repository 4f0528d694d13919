-- From what a round begins with to what it leaves.
use Rattle.std.proofs.Common.{◌≡◌, ℕ, ◌+◌, ◌<◌, ◌≤◌, List, [], ◌∷◌, ◌++◌, length, map, slice_get, Option, Some, Result, Ok, Err, refl, sym, ap, ◌∙◌, subst, arith}
use Rattle.std.specs.Prelude.{All, IfOk, OnOk, Vec}
use Rattle.std.specs.declared.alloc.Global.{Global}
use Rattle.std.specs.List.{AllZip}
use Rattle.std.proofs.lemmas.List.{length-map}
use Rattle.std.proofs.lemmas.Option.{slice_get_within}
use Rattle.jiff_tz.specs.declared.tzif.Tzif.{Tzif}
use Rattle.checkable_core.proofs.Behind.{replayed}
use Rattle.checkable_core.specs.Contents.{Contents}
use Rattle.checkable_core.specs.Entries.{rules_in}
use Rattle.checkable_core.specs.Machines.{IsFit, after_entry}
use Rattle.checkable_core.specs.declared.deed.Deed.{Deed}
use Rattle.checkable_core.specs.declared.machine.SiteMachine.{SiteMachine}
use Rattle.post_turn.specs.declared.pass.Pass.{Pass}
use Rattle.post_turn.specs.declared.post.Post.{Post}
use Rattle.post_rounds.specs.declared.base.Base.{Base}
use Rattle.post_rounds.specs.declared.caller.Caller.{Caller}
use Rattle.post_rounds.specs.declared.ended.Ended.{Ended}
use Rattle.post_rounds.specs.declared.job.Job.{Job}
use Rattle.post_rounds.specs.Ends.{AreEnds, GrewByOthers}
use Rattle.post_rounds.specs.Hands.{AreCallers, AreHeld, HasWalked, base_of, seen_by}
use Rattle.post_rounds.specs.Rounds as rounds
use Rattle.post_rounds.specs.Rounds.{IsEnd}
use Rattle.post_rounds.proofs.Places.{all_at, get_map, get_within}
use Rattle.site_posts.proofs.Whole.{jobs_in, made_round}
use Rattle.run_meaning.specs.Dealing.{last_moment}
use Rattle.run_meaning.specs.Rounds.{IsRound}
use Rattle.run_meaning.specs.Runs.{joined, no_entries}
use Rattle.run_meaning.specs.Turns.{Asked, Histories, of_index}
use Rattle.site_model.specs.PlainSite.{PlainCheck, PlainSite, site_view}
use Rattle.site_model.specs.declared.entry.Entry.{Entry}
use Rattle.site_model.specs.declared.view.View.{View}
use Rattle.site_posts.proofs.Behind.{joined_nothing}
use Rattle.site_posts.proofs.Booked.{books_back, histories_back}
use Rattle.site_posts.proofs.Telling.{Stands, is_round, sense_of}
use Rattle.site_posts.proofs.Tracing.{ascending_apart}
use Rattle.site_posts.specs.Books.{AreBooks, IsBook, histories_of}
use Rattle.site_posts.specs.Lent.{round_with, with_books}
use Rattle.site_posts.specs.Many.{IsRoundOf}
use Rattle.site_posts.specs.Outlooks.{AreBases, AreJobs, AreOutlooks, Ascends, IsBaseOf, IsJobOf, asked_by}
use Rattle.site_posts.specs.Segments.{segments_of}
use Rattle.site_posts.specs.declared.hall.Deeds.{Deeds}
use Rattle.site_posts.specs.declared.hall.Wanted.{Wanted}
use Rattle.site_posts.specs.declared.segment.Segment.{Segment}

abbrev Hand : Type 0
Hand = Vec (Pass SiteMachine Contents Deed Entry View) Global

-- as many lists without entries
nothing_for : {A B C : Type 0} (xs : List A) (ys : List B) → length xs ≡ length ys → map {B = List C} (λ _. []) xs ≡ map (λ _. []) ys
nothing_for [] [] e = refl
nothing_for [] (y ∷ ys) e = absurd (omega (arith, e))
nothing_for (x ∷ xs) [] e = absurd (omega (arith, e))
nothing_for {C = C} (x ∷ xs) (y ∷ ys) e = ap (λ (zs : List (List C)). [] ∷ zs) (nothing_for xs ys (omega (arith, e)))

events_of : (touched : List ℕ) (lists : List (Vec (Job Wanted) Global)) → map (map (asked_by touched)) (map jobs_in lists) ≡ map (λ (js : Vec (Job Wanted) Global). map (asked_by touched) js.items) lists
events_of touched [] = refl
events_of touched (js ∷ lists) = ap (λ xs. map (asked_by touched) js.items ∷ xs) (events_of touched lists)

-- what stands when all callers have ended
pub record Ends (s : PlainSite) (zone : Option Tzif) (moment : ℕ) (books : List Contents) (touched : List ℕ) (deeds : Deeds) (events : List (List Asked)) (lists : List (Vec (Job Wanted) Global)) (posts : List (Post SiteMachine Contents Deed Entry View)) (callers : List (Caller SiteMachine Wanted Contents Deed Entry View)) (hands : List Hand) (ended : List (Ended Contents Entry)) : Type 0 where
  pub stood : AreBooks s moment books
  pub ascends : Ascends touched
  pub within : All (λ k. k < length s.checkables) touched
  pub now : deeds.moment ≡ moment
  pub outlooks : AreOutlooks s (histories_of books) touched deeds.outlooks.items
  pub jobs : AreJobs touched deeds.outlooks.items events lists
  pub begun : AreBases s zone moment (histories_of books) touched (map base_of posts)
  pub dealt : AreCallers posts lists callers
  pub walked : AllZip (λ (c : Caller SiteMachine Wanted Contents Deed Entry View) (hand : Hand). HasWalked (sense_of deeds (map base_of posts)) posts c hand.items) callers hands
  pub ends : AreEnds IsFit after_entry (λ (e : Entry). e.caller) (length hands) posts ended
  pub grown : (j k : ℕ) (hand : Hand) → slice_get hands j ≡ Some hand → AreHeld (λ (e : Entry). e.caller) posts k hand.items → GrewByOthers (λ (e : Entry). e.caller) k (seen_by hand.items) (rounds.histories_of ended)

module _ (s : PlainSite) (zone : Option Tzif) (moment : ℕ) (books : List Contents) (touched : List ℕ) (deeds : Deeds) (events : List (List Asked)) (lists : List (Vec (Job Wanted) Global)) (at_posts : List (Post SiteMachine Contents Deed Entry View)) (callers : List (Caller SiteMachine Wanted Contents Deed Entry View)) (hands : List Hand) (ended : List (Ended Contents Entry))
    (h : Ends s zone moment books touched deeds events lists at_posts callers hands ended) where
  abbrev before : Histories
  before = histories_of books

  abbrev bases : List (Base SiteMachine Contents)
  bases = map base_of at_posts

  abbrev round : Histories
  round = round_with (no_entries s) touched ended

  at_posts_round : rounds.IsRound (sense_of deeds bases) IsFit (map jobs_in lists) ended
  at_posts_round = made_round (sense_of deeds bases) IsFit at_posts refl lists callers hands h.dealt h.walked ended h.ends h.grown

  stands : Stands s zone moment before touched deeds bases ended
  stands = record {
    apart = ascending_apart touched h.ascends;
    within = λ p c at. all_at (λ k. k < length s.checkables) touched h.within p c at;
    outlooks = h.outlooks;
    now = h.now;
    begun = h.begun;
    whole = at_posts_round.whole;
  }

  is : IsRound (rules_in s zone) moment before events round
  is = subst (λ es. IsRound (rules_in s zone) moment before es round) (events_of touched lists ∙ h.jobs.asked)
      (is_round s zone moment before touched deeds bases ended stands (map jobs_in lists) IsFit at_posts_round (λ k i js job at_js at.
      let l = get_map jobs_in lists k js at_js in
      let own = all_at (λ (xs : Vec (Job Wanted) Global). All (IsJobOf touched deeds.outlooks.items) xs.items) lists h.jobs.each k l.0 l.1 in
      all_at (IsJobOf touched deeds.outlooks.items) l.0.items own i job (ap (λ xs. slice_get xs i) l.2 ∙ at)))

  -- what a post ends with, by its checkable
  ended_at : (p k : ℕ) (e : Ended Contents Entry) → slice_get touched p ≡ Some k → slice_get ended p ≡ Some e
      → (base : Base SiteMachine Contents) × IsBaseOf s zone moment before k base × IsEnd IsFit after_entry (λ (x : Entry). x.caller) (length (map jobs_in lists)) base e
  ended_at p k e at_k at_e =
      let l = slice_get_within touched p k at_k in
      let base = get_within bases p (let n = h.begun.whole in omega (arith, l, n)) in
      (base.0, h.begun.each p k base.0 at_k base.1, at_posts_round.ends p base.0 e base.1 at_e)

  state_entries : (p k : ℕ) (e : Ended Contents Entry) → slice_get touched p ≡ Some k → slice_get ended p ≡ Some e → e.state.entries ≡ of_index k before ++ e.history
  state_entries p k e at_k at_e =
      let at = ended_at p k e at_k at_e in
      ap (λ (c : Contents). c.entries) (at.2.state ∙ replayed at.0.machine at.0.start e.history) ∙ ap (λ es. es ++ e.history) at.1.entries

  state_book : (p k : ℕ) (e : Ended Contents Entry) → slice_get touched p ≡ Some k → slice_get ended p ≡ Some e → IsBook s moment k e.state
  state_book p k e at_k at_e =
      let at = ended_at p k e at_k at_e in
      let made = at.2.state ∙ replayed at.0.machine at.0.start e.history in
      record {
        site = ap (λ (c : Contents). site_view c.site) made ∙ at.1.book_site;
        index = ap (λ (c : Contents). c.index) made ∙ at.1.index;
        moment = (let n = at.2.is_fit.moment in let m = at.1.moment in omega (arith, n, m));
      }

  -- this is the round, with what it leaves
  pub is_round_of : (new : List Contents) (segments : List Segment) → new ≡ with_books books touched ended → segments ≡ segments_of (round_with (map (λ _. []) books) touched ended) → IsRoundOf s zone moment books new events segments
  is_round_of new segments kept told = record {
    round = round;
    is = is;
    told = told ∙ ap (λ r. segments_of (round_with r touched ended)) (nothing_for books s.checkables h.stood.whole);
    behind = ap histories_of kept ∙ histories_back before books (no_entries s) touched ended
        (sym (joined_nothing before s.checkables (length-map books (λ (c : Contents). c.entries) ∙ h.stood.whole)))
        (length-map s.checkables (λ (c : PlainCheck). []) ∙ sym (length-map books (λ (c : Contents). c.entries) ∙ h.stood.whole))
        state_entries;
    books = subst (AreBooks s moment) (sym kept) (books_back s moment books touched ended h.stood state_book);
  }

-- what follows from what is said where it is Ok, and from what is said of the value
pub if_both : {T F : Type 0} (P : Type 0) (Q R : T → Type 0) → (P → (x : T) → Q x → R x) → (r : Result T F) → OnOk r P → IfOk r Q → IfOk r R
if_both P Q R step (Ok x) p q = step p x q
if_both P Q R step (Err e) p q = tt
