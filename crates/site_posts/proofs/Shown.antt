-- What the callers of a round see of ancestors is what stands of them.
use Rattle.std.proofs.Common.{◌≡◌, ◌≢◌, ◌⊎◌, ℕ, zero, suc, ◌+◌, ◌<◌, List, [], ◌∷◌, length, map, take, drop, option_map, slice_get, Option, Some, None, inl, inr, ⊎_elim, refl, sym, ap, ◌∙◌, subst, arith}
use Rattle.std.proofs.lemmas.Option.{same_Some}
use Rattle.std.specs.List.{cons_option}
use Rattle.checkable_core.proofs.Listed.{check_is}
use Rattle.checkable_core.specs.Contents.{check_at}
use Rattle.checkable_core.specs.Entries.{sight_of}
use Rattle.depend_graph.specs.Outlooks.{seen_as}
use Rattle.post_rounds.specs.declared.sight.Sight as looks
use Rattle.run_meaning.specs.Acts.{Seen}
use Rattle.run_meaning.specs.Rounds.{all_seen, seen_at}
use Rattle.run_meaning.specs.Turns.{Histories, of_index}
use Rattle.run_meaning.specs.View.{view_of}
use Rattle.site_model.specs.PlainSite.{PlainCheck, PlainSite}
use Rattle.site_model.specs.declared.entry.Entry.{Entry}
use Rattle.site_model.specs.declared.sight.Sight.{Sight}
use Rattle.site_model.specs.declared.view.View.{View}
use Rattle.site_posts.specs.declared.ahead.Ahead.{Ahead}
use Rattle.site_posts.specs.Outlooks.{IsNoneOf, Leads, LeadsTo, shown_with, showing, sights_for, waits_for}

abbrev pub Look : Type 0
Look = looks.Sight View

abbrev pub posts_of : List Look → List ℕ
posts_of sights = map (λ (t : Look). t.post) sights

-- The names of what is shown.

name_one : (p : ℕ) (still : Option View) (others : List Look → List (ℕ × View)) (n : ℕ) (ps : List ℕ) → ((sights : List Look) → length sights ≡ n → map (λ (x : ℕ × View). x.0) (others sights) ≡ ps)
    → (sights : List Look) → length sights ≡ waits_for still + n → map (λ (x : ℕ × View). x.0) (showing p still others sights) ≡ p ∷ ps
name_one p (Some view) others n ps rest sights e = ap (λ qs. p ∷ qs) (rest sights (omega (arith, e)))
name_one p None others n ps rest [] e = absurd (omega (arith, e))
name_one p None others n ps rest (t ∷ sights) e = ap (λ qs. p ∷ qs) (rest sights (omega (arith, e)))

pub shown_names : (ahead : List Ahead) (sights : List Look) → length sights ≡ sights_for ahead → map (λ (x : ℕ × View). x.0) (shown_with ahead sights) ≡ map (λ (a : Ahead). a.ancestor) ahead
shown_names [] sights e = refl
shown_names (a ∷ ahead) sights e = name_one a.ancestor a.still (shown_with ahead) (sights_for ahead) (map (λ (b : Ahead). b.ancestor) ahead) (shown_names ahead) sights e

module _ (s : PlainSite) (before : Histories) (touched : List ℕ) where
  lead_one : (p : ℕ) (still : Option View) (Others : List ℕ → Type 0) (n : ℕ) → ((posts : List ℕ) → Others posts → length posts ≡ n) → (posts : List ℕ) → LeadsTo s before touched p still Others posts → length posts ≡ waits_for still + n
  lead_one p (Some view) Others n rest posts l = (let e = rest posts l.2 in omega (arith, e))
  lead_one p None Others n rest [] l = absurd l
  lead_one p None Others n rest (q ∷ posts) l = (let e = rest posts l.1 in omega (arith, e))

  pub leads_count : (ahead : List Ahead) (posts : List ℕ) → Leads s before touched ahead posts → length posts ≡ sights_for ahead
  leads_count [] posts l = ap length l
  leads_count (a ∷ ahead) posts l = lead_one a.ancestor a.still (Leads s before touched ahead) (sights_for ahead) (leads_count ahead) posts l

  -- nobody acts on it, and this is what it showed before
  pub record IsStill (p : ℕ) (v : View) : Type 0 where
    pub view : v ≡ view_of (check_at s p) (of_index p before)
    pub none : IsNoneOf p touched

  -- callers act on it, and this is what one of the sights saw of it
  pub record IsSighted (sights : List Look) (p : ℕ) (v : View) : Type 0 where
    pub j : ℕ
    pub sight : Look
    pub at : slice_get sights j ≡ Some sight
    pub post : slice_get touched sight.post ≡ Some p
    pub view : v ≡ sight.glance

  abbrev pub EachShown : List Look → List (ℕ × View) → Type 0
  EachShown sights xs = (i : ℕ) (x : ℕ × View) → slice_get xs i ≡ Some x → IsStill x.0 x.1 ⊎ IsSighted sights x.0 x.1

  one_shown : (p : ℕ) (still : Option View) (others : List Look → List (ℕ × View)) (Others : List ℕ → Type 0) → ((posts : List ℕ) (sights : List Look) → Others posts → posts_of sights ≡ posts → EachShown sights (others sights))
      → (posts : List ℕ) (sights : List Look) → LeadsTo s before touched p still Others posts → posts_of sights ≡ posts → EachShown sights (showing p still others sights)
  one_shown p (Some view) others Others rest posts sights l e zero x h = inl (subst (λ (y : ℕ × View). IsStill y.0 y.1) (same_Some (p, view) x h) (record { view = l.0; none = l.1 }))
  one_shown p (Some view) others Others rest posts sights l e (suc i) x h = rest posts sights l.2 e i x h
  one_shown p None others Others rest [] sights l e i x h = absurd l
  one_shown p None others Others rest (q ∷ posts) [] l e i x h = absurd cc
  one_shown p None others Others rest (q ∷ posts) (t ∷ sights) l e zero x h =
      let here : t.post ≡ q = same_Some t.post q (ap (λ ps. slice_get ps 0) e) in
      inr (subst (λ (y : ℕ × View). IsSighted (t ∷ sights) y.0 y.1) (same_Some (p, t.glance) x h) (record { j = 0; sight = t; at = refl; post = ap (slice_get touched) here ∙ l.0; view = refl }))
  one_shown p None others Others rest (q ∷ posts) (t ∷ sights) l e (suc i) x h =
      ⊎_elim inl (λ r. inr (record { j = suc r.j; sight = r.sight; at = r.at; post = r.post; view = r.view })) (rest posts sights l.1 (ap (drop 1) e) i x h)

  pub each_shown : (ahead : List Ahead) (posts : List ℕ) (sights : List Look) → Leads s before touched ahead posts → posts_of sights ≡ posts → EachShown sights (shown_with ahead sights)
  each_shown [] posts sights l e i x h = absurd cc
  each_shown (a ∷ ahead) posts sights l e i x h = one_shown a.ancestor a.still (shown_with ahead) (Leads s before touched ahead) (each_shown ahead) posts sights l e i x h

module _ (s : PlainSite) (entries : ℕ → List Entry) where
  -- what is shown is what its first entries make
  pub record Shows (p : ℕ) (v : View) : Type 0 where
    pub within : p < length s.checkables
    pub view : v ≡ view_of (check_at s p) (take v.count (entries p))

  abbrev seen_with : Sight → Option PlainCheck → Option Seen
  seen_with x check = option_map (λ c. record { checkable = x.checkable; view = view_of c (take x.count (entries x.checkable)) }) check

  seen_one : (x : ℕ × View) → Shows x.0 x.1 → seen_at s entries (sight_of x) ≡ Some (seen_as x)
  seen_one x h =
      ap (seen_with (sight_of x)) (check_is s.checkables x.0 h.within)
      ∙ ap (λ v. Some (record { checkable = x.0; view = v })) (sym h.view)

  pub seen_all : (xs : List (ℕ × View)) → ((i : ℕ) (x : ℕ × View) → slice_get xs i ≡ Some x → Shows x.0 x.1) → map seen_as xs ≡ all_seen s entries (map sight_of xs)
  seen_all [] h = refl
  seen_all (x ∷ xs) h =
      ap (λ ys. seen_as x ∷ ys) (seen_all xs (λ i. h (suc i)))
      ∙ sym (ap (λ o. cons_option o (all_seen s entries (map sight_of xs))) (seen_one x (h 0 x refl)))
