-- A watch goes on by entries, one after the other.
use Rattle.std.proofs.Common.{◌≡◌, ◌<◌, ℕ, suc, ◌+◌, List, [], ◌∷◌, ◌++◌, All, length, set, slice_get, Some, sym, ap, ◌∙◌, subst, arith}
use Rattle.std.proofs.lemmas.List.Elements.{All-cons, All-head, All-nil, All-tail}
use Rattle.checkable_core.specs.Contents.{check_at}
use Rattle.run_meaning.specs.Schedule.{Watch, watch_from, watch_with}
use Rattle.run_meaning.specs.Turns.{Histories, of_index}
use Rattle.run_meaning.specs.View.{view_of}
use Rattle.site_model.specs.PlainSite.{PlainCheck, PlainSite}
use Rattle.site_model.specs.declared.entry.Entry.{Entry}
use Rattle.site_model.specs.declared.view.View.{View}
use Rattle.site_posts.specs.Segments.{segments_from, segments_of}
use Rattle.site_posts.specs.declared.segment.Segment.{Segment}
use Rattle.check_plan.specs.Followed.{followed}
use Rattle.check_plan.specs.Shown.{AreAllShown, AreShown}
use Rattle.check_plan.proofs.BySegments.{all_on, follows, watch_or}

-- with the entries that are left it comes to what it has to
pub record IsWatched (c : PlainCheck) (rest : List Entry) (w total : Watch) : Type 0 where
  pub before : List Entry
  pub shown : AreShown c before rest
  pub on : watch_from c before rest w ≡ total

pub one_watched : (c : PlainCheck) (e : Entry) (rest left : List Entry) (w w' total : Watch) → left ≡ e ∷ rest → ((v : View) → v.state ≡ e.state → v.hard ≡ e.hard → w' ≡ watch_with c v e.moment e.event w) → IsWatched c left w total → IsWatched c rest w' total
one_watched c e rest left w w' total is step so_far =
    let shown : AreShown c so_far.before (e ∷ rest) = subst (AreShown c so_far.before) is so_far.shown in
    let v = view_of c (so_far.before ++ e ∷ []) in
    record {
      before = so_far.before ++ e ∷ [];
      shown = shown.2;
      on = ap (watch_from c (so_far.before ++ e ∷ []) rest) (step v shown.0 shown.1) ∙ ap (λ es. watch_from c so_far.before es w) (sym is) ∙ so_far.on;
    }

-- Segments.

abbrev pub IsShownIn : PlainSite → Histories → Segment → Type 0
IsShownIn s before x = AreShown (check_at s x.checkable) (of_index x.checkable before) x.entries

shown_from : (s : PlainSite) (before : Histories) (k : ℕ) (round : Histories) → ((i : ℕ) → AreShown (check_at s (k + i)) (of_index (k + i) before) (of_index i round)) → All (IsShownIn s before) (segments_from k round)
shown_from s before k [] h = All-nil (IsShownIn s before)
shown_from s before k ([] ∷ round) h =
    shown_from s before (suc k) round (λ i. let y : k + suc i ≡ suc k + i = omega arith in subst (λ n. AreShown (check_at s n) (of_index n before) (of_index i round)) y (h (suc i)))
shown_from s before k ((e ∷ es) ∷ round) h =
    let z : k + 0 ≡ k = omega arith in
    All-cons (IsShownIn s before) (record { checkable = k; entries = e ∷ es }) (segments_from (suc k) round) (subst (λ n. AreShown (check_at s n) (of_index n before) (e ∷ es)) z (h 0))
    (shown_from s before (suc k) round (λ i. let y : k + suc i ≡ suc k + i = omega arith in subst (λ n. AreShown (check_at s n) (of_index n before) (of_index i round)) y (h (suc i))))

pub segments_shown : (s : PlainSite) (before round : Histories) → AreAllShown s before round → All (IsShownIn s before) (segments_of round)
segments_shown s before round all = shown_from s before 0 round (λ i. let z : i ≡ 0 + i = omega arith in subst (λ n. AreShown (check_at s n) (of_index n before) (of_index i round)) z (all i))

within_from : (k count : ℕ) (round : Histories) → k + length round ≡ count → All (λ x. x.checkable < count) (segments_from k round)
within_from k count [] h = All-nil (λ x. x.checkable < count)
within_from k count ([] ∷ round) h = within_from (suc k) count round (omega (arith, h))
within_from k count ((e ∷ es) ∷ round) h = All-cons (λ x. x.checkable < count) (record { checkable = k; entries = e ∷ es }) (segments_from (suc k) round) (omega (arith, h)) (within_from (suc k) count round (omega (arith, h)))

-- the segments of a round are of the site's checkables
pub segments_within : (count : ℕ) (round : Histories) → length round ≡ count → All (λ x. x.checkable < count) (segments_of round)
segments_within count round h = within_from 0 count round (omega (arith, h))

-- with the segments that are left the watches come to what they have to
pub record AreFollowed (s : PlainSite) (before : Histories) (rest : List Segment) (ws total : List Watch) : Type 0 where
  pub shown : All (IsShownIn s before) rest
  pub on : all_on s before rest ws ≡ total

pub none_followed_yet : (s : PlainSite) (before round : Histories) (segments : List Segment) (ws : List Watch) → length round ≡ length ws → segments ≡ segments_of round → AreAllShown s before round → AreFollowed s before segments ws (followed s before round ws)
none_followed_yet s before round segments ws many is all = record {
  shown = subst (All (IsShownIn s before)) (sym is) (segments_shown s before round all);
  on = ap (λ xs. all_on s before xs ws) is ∙ follows s before ws round many;
}

pub one_followed : (s : PlainSite) (before : Histories) (x : Segment) (rest left : List Segment) (ws ws' total : List Watch) (w w' : Watch) → left ≡ x ∷ rest → slice_get ws x.checkable ≡ Some w
    → ((h : List Entry) → AreShown (check_at s x.checkable) h x.entries → w' ≡ watch_from (check_at s x.checkable) h x.entries w) → ws' ≡ set ws x.checkable w' → AreFollowed s before left ws total → AreFollowed s before rest ws' total
one_followed s before x rest left ws ws' total w w' is at step changed so_far =
    let shown = subst (All (IsShownIn s before)) is so_far.shown in
    let to = step (of_index x.checkable before) (All-head (IsShownIn s before) x rest shown) in
    record {
      shown = All-tail (IsShownIn s before) x rest shown;
      on =
          ap (all_on s before rest) (changed ∙ ap (set ws x.checkable) (to ∙ ap (λ o. watch_from (check_at s x.checkable) (of_index x.checkable before) x.entries (watch_or o)) (sym at)))
          ∙ sym (ap (λ xs. all_on s before xs ws) is) ∙ so_far.on;
    }
