-- What the ancestors show is what is seen of them.
use Rattle.std.proofs.Common.{◌≡◌, ℕ, ◌<◌, List, [], ◌∷◌, All, length, map, take, option_map, Option, Some, refl, sym, ap, ◌∙◌}
use Rattle.std.proofs.lemmas.List.{length-reverse}
use Rattle.std.proofs.lemmas.List.Elements.{All-head, All-tail}
use Rattle.std.specs.List.{cons_option}
use Rattle.jiff_tz.specs.declared.tzif.Tzif.{Tzif}
use Rattle.checkable_core.proofs.Listed.{check_is}
use Rattle.checkable_core.proofs.Own.{ancestors_own}
use Rattle.checkable_core.specs.Contents.{check_at}
use Rattle.checkable_core.specs.Entries.{entry_made, rules_in, sight_of}
use Rattle.depend_graph.specs.Outlooks.{seen_as}
use Rattle.run_meaning.proofs.Lists.{take_whole}
use Rattle.run_meaning.specs.Acts.{Seen, entry_of}
use Rattle.run_meaning.specs.Alone.{sights_now}
use Rattle.run_meaning.specs.Reachability.{ancestors}
use Rattle.run_meaning.specs.Rounds.{all_seen, seen_at}
use Rattle.run_meaning.specs.Turns.{Histories, of_index}
use Rattle.run_meaning.specs.View.{view_of}
use Rattle.site_model.specs.PlainSite.{PlainCheck, PlainSite}
use Rattle.site_model.specs.Sound.{IsIndex}
use Rattle.site_model.specs.declared.entry.Entry.{Entry}
use Rattle.site_model.specs.declared.event.Event.{Event}
use Rattle.site_model.specs.declared.sight.Sight.{Sight}
use Rattle.site_model.specs.declared.view.View.{View}
use Rattle.site_posts.specs.Made.{entry_next}
use Rattle.site_posts.specs.Sights.{shown, shown_by}

module _ (s : PlainSite) (histories : Histories) where
  abbrev now : ℕ → List Entry
  now c = of_index c histories

  abbrev sight_at : ℕ → Sight
  sight_at p = record { checkable = p; count = length (now p) }

  named : (ps : List ℕ) → map (λ (x : ℕ × View). x.0) (map (shown_by s histories) ps) ≡ ps
  named [] = refl
  named (p ∷ ps) = ap (λ qs. p ∷ qs) (named ps)

  pub shown_names : (c : ℕ) → map (λ (x : ℕ × View). x.0) (shown s histories c) ≡ ancestors s c
  shown_names c = named (ancestors s c)

  counted : (ps : List ℕ) → map sight_of (map (shown_by s histories) ps) ≡ map sight_at ps
  counted [] = refl
  counted (p ∷ ps) =
      ap (λ n. record { checkable = p; count = n } ∷ map sight_of (map (shown_by s histories) ps)) (length-reverse (now p))
      ∙ ap (λ xs. sight_at p ∷ xs) (counted ps)

  abbrev seen_with : Sight → Option PlainCheck → Option Seen
  seen_with x check = option_map (λ c. record { checkable = x.checkable; view = view_of c (take x.count (now x.checkable)) }) check

  -- what is seen of one of the site's checkables where all of its entries are seen
  seen_whole : (p : ℕ) → p < length s.checkables → seen_at s now (sight_at p) ≡ Some (seen_as (shown_by s histories p))
  seen_whole p h =
      ap (seen_with (sight_at p)) (check_is s.checkables p h)
      ∙ ap (λ es. Some (record { checkable = p; view = view_of (check_at s p) es })) (take_whole (now p))

  seen : (ps : List ℕ) → All (IsIndex (length s.checkables)) ps → map seen_as (map (shown_by s histories) ps) ≡ all_seen s now (map sight_at ps)
  seen [] h = refl
  seen (p ∷ ps) h =
      ap (λ xs. seen_as (shown_by s histories p) ∷ xs) (seen ps (All-tail (IsIndex (length s.checkables)) p ps h))
      ∙ sym (ap (λ o. cons_option o (all_seen s now (map sight_at ps))) (seen_whole p (All-head (IsIndex (length s.checkables)) p ps h)))

  -- the entry that is made by what the ancestors show
  pub made_next : (zone : Option Tzif) (moment caller k : ℕ) (v : Event) → entry_made s zone k (now k) caller moment v (shown s histories k) ≡ entry_next s zone moment histories caller k v
  made_next zone moment caller k v =
      let b = rules_in s zone in
      ap (λ xs. entry_of b k (check_at s k) (now k) xs (record { caller = caller; moment = moment; event = v; sights = map sight_of (shown s histories k) })) (seen (ancestors s k) (ancestors_own s k))
      ∙ ap (λ ss. entry_of b k (check_at s k) (now k) (all_seen s now (sights_now b k now)) (record { caller = caller; moment = moment; event = v; sights = ss })) (counted (ancestors s k))
