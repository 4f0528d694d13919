-- The entry that is made.
use Rattle.std.proofs.Common.{◌≡◌, ℕ, ◌+◌, Bool, List, [], ◌∷◌, ◌++◌, length, map, Option, refl, ap, ◌∙◌, arith}
use Rattle.jiff_tz.specs.declared.tzif.Tzif.{Tzif}
use Rattle.depend_graph.specs.Outlooks.{holds_in, seen_as}
use Rattle.run_meaning.specs.Acts.{Act, draft_of, noted, showing}
use Rattle.run_meaning.specs.Decisions.{decisions_of}
use Rattle.run_meaning.specs.Downtimes.{is_live}
use Rattle.run_meaning.specs.View.{view_of}
use Rattle.site_model.specs.PlainSite.{PlainSite}
use Rattle.site_model.specs.declared.decision.Decision.{Decision}
use Rattle.site_model.specs.declared.entry.Entry.{Entry}
use Rattle.site_model.specs.declared.event.Event.{Event}
use Rattle.site_model.specs.declared.sight.Sight.{Sight}
use Rattle.site_model.specs.declared.view.View.{View}
use Rattle.checkable_core.specs.Contents.{check_at}
use Rattle.checkable_core.specs.Drafts.{Drafts}
use Rattle.checkable_core.specs.Entries.{entry_made, sight_of}
use Rattle.checkable_core.specs.declared.draft.Draft.{Draft}
use Rattle.checkable_core.proofs.Kept.{counted}

-- the entry with these parts
abbrev pub parts : ℕ → ℕ → Event → Bool → View → ℕ → List Sight → List Decision → Entry
parts caller moment v taken w number sights decisions = record {
  caller = caller;
  number = number;
  moment = moment;
  event = v;
  taken = taken;
  state = w.state;
  hard = w.hard;
  attempt = w.attempt;
  sights = sights;
  decisions = decisions;
}

module _ (s : PlainSite) (zone : Option Tzif) (k : ℕ) (h : List Entry) (caller moment : ℕ) (v : Event) (seen : List (ℕ × View)) (d : Draft) (drafts : Drafts d (check_at s k) h moment v) where
  abbrev act : Act
  act = record { caller = caller; moment = moment; event = v; sights = map sight_of seen }

  abbrev bare : Bool → Entry
  bare taken = noted (check_at s k) (length h + 1) taken act

  -- before anything is decided
  abbrev pub drafted : Entry
  drafted = showing d.status.view (bare d.taken)

  shows : d.status.view ≡ view_of (check_at s k) (h ++ bare d.taken ∷ [])
  shows = let stands = drafts.status (bare d.taken) refl refl refl in stands.view

  drafted_is : drafted ≡ draft_of is_live (check_at s k) h act
  drafted_is =
      ap (λ (w : View). showing w (bare d.taken)) shows
      ∙ ap (λ (b : Bool). showing (view_of (check_at s k) (h ++ bare b ∷ [])) (bare b)) drafts.taken

  number_is : d.status.view.count ≡ length h + 1
  number_is = let n : d.status.view.count ≡ 1 + length h = counted (check_at s k) h (bare d.taken) d.status.view shows in omega (arith, n)

  pub made : (w : View) (ss : List Sight) (ds : List Decision) → w ≡ d.status.view → ss ≡ map sight_of seen →
      ds ≡ decisions_of s (holds_in s zone) k (check_at s k) h drafted (map seen_as seen) →
      parts caller moment v d.taken w w.count ss ds ≡ entry_made s zone k h caller moment v seen
  made w ss ds view sights decided =
      ap (λ (x : View). parts caller moment v d.taken x x.count ss ds) view
      ∙ ap (λ (n : ℕ). parts caller moment v d.taken d.status.view n ss ds) number_is
      ∙ ap (λ (xs : List Sight). parts caller moment v d.taken d.status.view (length h + 1) xs ds) sights
      ∙ ap (λ (xs : List Decision). parts caller moment v d.taken d.status.view (length h + 1) (map sight_of seen) xs) decided
      ∙ ap (λ (e : Entry). record e { decisions = decisions_of s (holds_in s zone) k (check_at s k) h e (map seen_as seen) }) drafted_is
