-- Whether a checkable is held back, by its book and by what its ancestors show.
use Rattle.std.proofs.Common.{◌≡◌, ◌<◌, ◌==◌, ◌&&◌, ◌||◌, not, ℕ, zero, suc, List, [], ◌∷◌, length, Bool, true, false, Option, Some, slice_get, get_or, arith, refl, sym, ap, ◌∙◌}
use Rattle.std.proofs.lemmas.Bool.Decides.{nat_tests}
use Rattle.jiff_tz.specs.declared.tzif.Tzif.{Tzif}
use Rattle.checkable_core.specs.Contents.{Contents, check_at}
use Rattle.checkable_core.proofs.Listed.{length_map, spec_is}
use Rattle.depend_graph.specs.Graph.{HasOrder}
use Rattle.depend_graph.specs.Outlooks.{holds_in, outlook_of}
use Rattle.depend_graph.specs.declared.purpose.Purpose.{Purpose}
use Rattle.depend_graph.proofs.Ancestors.{ancestor_in}
use Rattle.run_meaning.specs.Reachability.{depend_or, first_back, is_held, period_holds, reach_in, reach_of, reachable}
use Rattle.run_meaning.specs.Schedule.{is_off, view_of_index}
use Rattle.run_meaning.specs.Turns.{Histories, of_index}
use Rattle.run_meaning.specs.View.{view_of}
use Rattle.site_model.specs.PlainSite.{PlainCheck, PlainSite, check_view, site_view}
use Rattle.site_model.specs.declared.check_spec.CheckSpec.{CheckSpec}
use Rattle.site_model.specs.declared.site.Site.{Site}
use Rattle.site_model.specs.declared.view.View.{View}
use Rattle.site_posts.specs.Books.{AreBooks, histories_of}
use Rattle.site_posts.specs.Sights.{shown}
use Rattle.site_posts.proofs.Behind.{entries_at}
use Rattle.check_plan.specs.Walks.{outlook_now}
use Rattle.check_plan.proofs.Reaching.{reach_is, view_is}

pub book_view : (s : PlainSite) (now : ℕ) (books : List Contents) (k : ℕ) (book : Contents) → AreBooks s now books → slice_get books k ≡ Some book → view_of (check_at (site_view book.site) book.index) book.entries ≡ view_of (check_at s k) (of_index k (histories_of books))
book_view s now books k book are at =
    let mine = are.each k book at in
    ap (λ p. view_of (check_at p book.index) book.entries) mine.site
    ∙ ap (λ n. view_of (check_at s n) book.entries) mine.index
    ∙ ap (view_of (check_at s k)) (sym (entries_at books k book at))

first_so : (x y z : Bool) → (x && y) ≡ false → true ≡ (not x || (not y || z))
first_so true true z h = absurd cc
first_so true false z h = refl
first_so false y z h = refl

rest_so : (x y z : Bool) → (x && y) ≡ true → z ≡ (not x || (not y || z))
rest_so true true z h = refl
rest_so true false z h = absurd cc
rest_so false y z h = absurd cc

no_items : {X : Type 0} (xs : List X) → (length xs == 0) ≡ true → xs ≡ []
no_items [] h = refl
no_items (x ∷ xs) h = absurd (grind (arith, nat_tests))

-- the specification of a checkable, by its place
pub spec_at : (site : Site) (cs : List CheckSpec) (k : ℕ) (spec : CheckSpec) → cs ≡ site.checkables → k < length (site_view site).checkables → spec ≡ get_or cs k spec → check_view spec ≡ check_at (site_view site) k
spec_at site cs k spec own within is =
    let many = length_map check_view site.checkables in
    ap check_view is ∙ ap (λ (xs : List CheckSpec). check_view (get_or xs k spec)) own ∙ spec_is site.checkables k spec (omega (arith, many, within))

module _ (s : PlainSite) (zone : Option Tzif) (moment : ℕ) (h : Histories) (k : ℕ) (within : k < length s.checkables) where
  abbrev v : View
  v = view_of (check_at s k) (of_index k h)

  abbrev pub off : Bool
  off = is_off (outlook_now s zone moment h) k (check_at s k) (view_of_index k (outlook_now s zone moment h).seen)

  abbrev holds : Bool
  holds = period_holds (holds_in s zone) (check_at s k).period moment

  off_is : off ≡ (not v.checks_on || (not holds || is_held (reach_of (outlook_now s zone moment h) k)))
  off_is = ap (is_off (outlook_now s zone moment h) k (check_at s k)) (view_is s h k within)

  on_is : (on : Bool) (w : View) (c : PlainCheck) → w ≡ v → c ≡ check_at s k → on ≡ (w.checks_on && period_holds (holds_in s zone) c.period moment) → on ≡ (v.checks_on && holds)
  on_is on w c w_is c_is is =
      is ∙ ap (λ (x : View). x.checks_on && period_holds (holds_in s zone) c.period moment) w_is ∙ ap (λ (d : PlainCheck). v.checks_on && period_holds (holds_in s zone) d.period moment) c_is

  -- its checks are off, or its period doesn't hold
  pub off_at_once : (on : Bool) (w : View) (c : PlainCheck) → w ≡ v → c ≡ check_at s k → on ≡ (w.checks_on && period_holds (holds_in s zone) c.period moment) → on ≡ false → true ≡ off
  off_at_once on w c w_is c_is is test =
      first_so v.checks_on holds (is_held (reach_of (outlook_now s zone moment h) k)) (sym (on_is on w c w_is c_is is) ∙ test)
      ∙ sym off_is

  -- else what its ancestors show tells
  pub off_by_reach : (on held : Bool) (w : View) (c : PlainCheck) → w ≡ v → c ≡ check_at s k → on ≡ (w.checks_on && period_holds (holds_in s zone) c.period moment) → on ≡ true → HasOrder s
      → held ≡ is_held (reach_of (outlook_of s zone Purpose.Checks moment (shown s h k)) k) → held ≡ off
  off_by_reach on held w c w_is c_is is test order so =
      so ∙ ap is_held (reach_is s h zone moment k order within (λ q above. ancestor_in s k q above))
      ∙ rest_so v.checks_on holds (is_held (reach_of (outlook_now s zone moment h) k)) (sym (on_is on w c w_is c_is is) ∙ test)
      ∙ sym off_is

  -- no check is held back where there are no dependencies
  none_back : s.depends ≡ [] → (steps : ℕ) → reach_in (outlook_now s zone moment h) steps k ≡ reachable
  none_back none zero = refl
  none_back none (suc steps) =
      ap (λ ds. depend_or (first_back (outlook_now s zone moment h) (λ p. is_held (reach_in (outlook_now s zone moment h) steps p)) k 0 ds) reachable) none

  pub off_without : (on : Bool) (w : View) (c : PlainCheck) → w ≡ v → c ≡ check_at s k → on ≡ (w.checks_on && period_holds (holds_in s zone) c.period moment) → on ≡ true → (length s.depends == 0) ≡ true → false ≡ off
  off_without on w c w_is c_is is test none =
      sym (ap is_held (none_back (no_items s.depends none) (length s.checkables)))
      ∙ rest_so v.checks_on holds (is_held (reach_of (outlook_now s zone moment h) k)) (sym (on_is on w c w_is c_is is) ∙ test)
      ∙ sym off_is
