-- Histories that go on.
use Rattle.std.proofs.Common.{◌≡◌, ℕ, suc, ◌+◌, ◌≤◌, List, [], ◌∷◌, ◌++◌, All, length, map, Option, sym, ap, ◌∙◌, arith, subst}
use Rattle.std.proofs.lemmas.List.Elements.{All-map, All-push}
use Rattle.jiff_tz.specs.declared.tzif.Tzif.{Tzif}
use Rattle.depend_graph.specs.Outlooks.{holds_in, seen_as}
use Rattle.run_meaning.specs.Acts.{draft_of}
use Rattle.run_meaning.specs.Dealing.{last_moment}
use Rattle.run_meaning.specs.Downtimes.{is_live}
use Rattle.run_meaning.specs.Reachability.{ancestors}
use Rattle.run_meaning.specs.Turns.{from_on}
use Rattle.site_model.specs.PlainSite.{PlainSite}
use Rattle.site_model.specs.Sound.{IsIndex, IsSound}
use Rattle.site_model.specs.declared.entry.Entry.{Entry}
use Rattle.site_model.specs.declared.event.Event.{Event}
use Rattle.site_model.specs.declared.sight.Sight.{Sight}
use Rattle.site_model.specs.declared.view.View.{View}
use Rattle.checkable_core.specs.Contents.{check_at}
use Rattle.checkable_core.specs.Entries.{entry_made, sight_of}
use Rattle.checkable_core.specs.Histories.{IsEntryOf, IsHistory, IsLawful, Rises}
use Rattle.checkable_core.proofs.Own.{all_parts, ancestors_own, decisions_own}

rises_more : (from : ℕ) (h : List Entry) (e : Entry) → Rises from h → from ≤ e.moment → last_moment h ≤ e.moment → Rises from (h ++ e ∷ [])
rises_more from [] e r l late = (l, tt)
rises_more from (x ∷ []) e r l late = (r.0, (late, tt))
rises_more from (x ∷ y ∷ ys) e r l late = (r.0, rises_more x.moment (y ∷ ys) e r.1 (on x.moment y ys r.1 late) late)
  where
    on : (m : ℕ) (z : Entry) (zs : List Entry) → Rises m (z ∷ zs) → last_moment (z ∷ zs) ≤ e.moment → m ≤ e.moment
    on m z [] rs k = let a = rs.0 in omega (arith, a, k)
    on m z (w ∷ ws) rs k = let a = rs.0 in let b : z.moment ≤ e.moment = on z.moment w ws rs.1 k in omega (arith, a, b)

numbers_more : (n : ℕ) (h : List Entry) (e : Entry) → map (λ x. x.number) h ≡ from_on n (length h) → e.number ≡ n + length h → map (λ x. x.number) (h ++ e ∷ []) ≡ from_on n (length (h ++ e ∷ []))
numbers_more n [] e h is = let at : e.number ≡ n = omega (arith, is) in ap (λ k. k ∷ []) at
numbers_more n (x ∷ xs) e h is =
    let head : x.number ≡ n = cc in
    let tail : map (λ (y : Entry). y.number) xs ≡ from_on (suc n) (length xs) = cc in
    ap (λ k. k ∷ map (λ (y : Entry). y.number) (xs ++ e ∷ [])) head ∙ ap (λ ks. n ∷ ks) (numbers_more (suc n) xs e tail (omega (arith, is)))

module _ (s : PlainSite) (zone : Option Tzif) (k : ℕ) (h : List Entry) (caller moment : ℕ) (v : Event) (sights : List (ℕ × View)) (sound : IsSound s) (lawful : IsLawful v) (seen : map (λ x. x.0) sights ≡ ancestors s k) where
  abbrev e : Entry
  e = entry_made s zone k h caller moment v sights

  abbrev draft : Entry
  draft = draft_of is_live (check_at s k) h (record { caller = caller; moment = moment; event = v; sights = map sight_of sights })

  pub made_own : IsEntryOf s e
  made_own = record {
    event = lawful;
    sights = All-map (λ (x : Sight). IsIndex (length s.checkables) x.checkable) sight_of sights (all_parts (IsIndex (length s.checkables)) (λ (x : ℕ × View). x.0) sights (subst (All (IsIndex (length s.checkables))) (sym seen) (ancestors_own s k)));
    decisions = decisions_own s (holds_in s zone) k (check_at s k) h draft (map seen_as sights) sound;
  }

  pub made_on : IsHistory s h → last_moment h ≤ moment → IsHistory s (h ++ e ∷ [])
  made_on is late = record {
    numbers = numbers_more 1 h e is.numbers (omega arith);
    moments = rises_more 0 h e is.moments (omega arith) late;
    entries = All-push (IsEntryOf s) h e is.entries made_own;
  }
