-- What is seen of one ancestor more, and what is shown of one more.
use Rattle.std.proofs.Common.{◌≡◌, ◌⊎◌, ℕ, zero, suc, ◌+◌, ◌<◌, ◌≤◌, List, [], ◌∷◌, ◌++◌, length, map, take, drop, get_or, slice_get, Option, Some, None, ⊎_elim, refl, sym, ap, ◌∙◌, subst, arith, append_assoc, append-nil}
use Rattle.std.specs.Prelude.{All}
use Rattle.std.proofs.lemmas.List.{map-append}
use Rattle.std.proofs.lemmas.List.Elements.{All-cons, All-nil}
use Rattle.std.proofs.lemmas.Option.{same_Some, slice_get_within}
use Rattle.checkable_core.specs.Contents.{Contents, check_at}
use Rattle.post_rounds.proofs.Lists.{snoc_get}
use Rattle.run_meaning.proofs.Lists.{take_next}
use Rattle.run_meaning.specs.Turns.{Histories, of_index}
use Rattle.run_meaning.specs.View.{view_of}
use Rattle.site_model.specs.PlainSite.{PlainSite, site_view}
use Rattle.site_model.specs.declared.view.View.{View}
use Rattle.site_posts.proofs.Behind.{entries_at}
use Rattle.site_posts.proofs.Shown.{Look}
use Rattle.site_posts.specs.Books.{AreBooks, histories_of}
use Rattle.site_posts.specs.Outlooks.{IsNoneOf, IsOutlookOf, Leads, LeadsOn, LeadsTo, shown_with, showing}
use Rattle.site_posts.specs.declared.ahead.Ahead.{Ahead}
use Rattle.site_posts.specs.declared.ahead.Outlook.{Outlook}

-- Outlooks.

abbrev pub ahead_at : ℕ → Option View → Ahead
ahead_at p still = record { ancestor = p; still = still }

-- the names of one ancestor more
pub names_more : (ahead : List Ahead) (p i : ℕ) (still : Option View) (ps : List ℕ) → slice_get ps i ≡ Some p → map (λ (a : Ahead). a.ancestor) ahead ≡ take i ps → map (λ (a : Ahead). a.ancestor) (ahead ++ ahead_at p still ∷ []) ≡ take (i + 1) ps
names_more ahead p i still ps at so_far =
    let more : suc i ≡ i + 1 = omega arith in
    map-append (λ (a : Ahead). a.ancestor) ahead (ahead_at p still ∷ []) ∙ ap (λ qs. qs ++ p ∷ []) so_far ∙ sym (take_next ps i p at) ∙ ap (λ n. take n ps) more

module _ (s : PlainSite) (before : Histories) (touched : List ℕ) where
  one_more : (p : ℕ) (still : Option View) (Old New : List ℕ → Type 0) (more : List ℕ) → ((posts : List ℕ) → Old posts → New (posts ++ more)) → (posts : List ℕ) → LeadsTo s before touched p still Old posts → LeadsTo s before touched p still New (posts ++ more)
  one_more p (Some view) Old New more step posts l = (l.0, l.1, step posts l.2)
  one_more p None Old New more step [] l = absurd l
  one_more p None Old New more step (q ∷ posts) l = (l.0, step posts l.1)

  leads_more : (ahead : List Ahead) (a : Ahead) (posts more : List ℕ) → Leads s before touched ahead posts → Leads s before touched (a ∷ []) more → Leads s before touched (ahead ++ a ∷ []) (posts ++ more)
  leads_more [] a posts more l one = subst (λ ps. Leads s before touched (a ∷ []) (ps ++ more)) (sym l) one
  leads_more (b ∷ ahead) a posts more l one = one_more b.ancestor b.still (Leads s before touched ahead) (Leads s before touched (ahead ++ a ∷ [])) more (λ ps o. leads_more ahead a ps more o one) posts l

  -- one ancestor more comes behind those so far
  pub leads_on : (ahead : List Ahead) (p : ℕ) (still : Option View) (old new : List ℕ) → Leads s before touched ahead old → LeadsOn s before touched p still old new → Leads s before touched (ahead ++ ahead_at p still ∷ []) new
  leads_on ahead p (Some view) old new l o = subst (Leads s before touched (ahead ++ ahead_at p (Some view) ∷ [])) (append-nil old ∙ sym o.2) (leads_more ahead (ahead_at p (Some view)) old [] l (o.0, o.1, refl))
  leads_on ahead p None old new l o = subst (Leads s before touched (ahead ++ ahead_at p None ∷ [])) (sym o.2) (leads_more ahead (ahead_at p None) old (o.0 ∷ []) l (o.1, refl))

  within_one : (p : ℕ) (still : Option View) (Others : List ℕ → Type 0) → ((posts : List ℕ) → Others posts → All (λ q. q < length touched) posts) → (posts : List ℕ) → LeadsTo s before touched p still Others posts → All (λ q. q < length touched) posts
  within_one p (Some view) Others rest posts l = rest posts l.2
  within_one p None Others rest [] l = absurd l
  within_one p None Others rest (q ∷ posts) l = All-cons (λ n. n < length touched) q posts (slice_get_within touched q p l.0) (rest posts l.1)

  -- the posts are places of those on which callers act
  pub leads_within : (ahead : List Ahead) (posts : List ℕ) → Leads s before touched ahead posts → All (λ q. q < length touched) posts
  leads_within [] posts l = subst (All (λ q. q < length touched)) (sym l) (All-nil (λ q. q < length touched))
  leads_within (a ∷ ahead) posts l = within_one a.ancestor a.still (Leads s before touched ahead) (leads_within ahead) posts l

-- what a book shows is what its entries make
pub still_is : (s : PlainSite) (now : ℕ) (books : List Contents) (p : ℕ) (book : Contents) (v : View) → AreBooks s now books → slice_get books p ≡ Some book → v ≡ view_of (check_at (site_view book.site) book.index) book.entries → v ≡ view_of (check_at s p) (of_index p (histories_of books))
still_is s now books p book v are at is =
    let mine = are.each p book at in
    is ∙ ap (λ t. view_of (check_at t book.index) book.entries) mine.site
    ∙ ap (λ k. view_of (check_at s k) book.entries) mine.index
    ∙ ap (view_of (check_at s p)) (sym (entries_at books p book at))

-- the outlook of one checkable more
pub outlooks_more : (s : PlainSite) (before : Histories) (touched : List ℕ) (old new : List Outlook) (i c : ℕ) (o : Outlook) → length old ≡ i → ((p k : ℕ) (x : Outlook) → slice_get touched p ≡ Some k → slice_get old p ≡ Some x → IsOutlookOf s before touched k x)
    → slice_get touched i ≡ Some c → IsOutlookOf s before touched c o → new ≡ old ++ o ∷ [] → (p k : ℕ) (x : Outlook) → slice_get touched p ≡ Some k → slice_get new p ≡ Some x → IsOutlookOf s before touched k x
outlooks_more s before touched old new i c o count each at is grown p k x at_k at_x = ⊎_elim
    (λ was. each p k x at_k was)
    (λ now.
    let place : p ≡ i = now.0 ∙ count in
    let here : c ≡ k = same_Some c k (sym at ∙ ap (slice_get touched) (sym place) ∙ at_k) in
    subst (IsOutlookOf s before touched k) now.1 (subst (λ n. IsOutlookOf s before touched n o) here is))
    (snoc_get old o x p (ap (λ os. slice_get os p) (sym grown) ∙ at_x))

-- What is shown.

-- what is shown so far, and what is left shows all
abbrev pub IsShown : List Ahead → List Look → ℕ → ℕ → List (ℕ × View) → Type 0
IsShown ahead sights i next shown = shown ++ shown_with (drop i ahead) (drop next sights) ≡ shown_with ahead sights
