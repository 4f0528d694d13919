-- All that is told is made, or not.
use Rattle.std.proofs.Common.{◌≡◌, ◌<◌, ℕ, suc, List, [], ◌∷◌, length, map, slice_get, Bool, true, false, Option, Some, None, refl, sym, ap, ◌∙◌, subst}
use Rattle.checkable_core.specs.Contents.{Contents}
use Rattle.run_meaning.specs.Acts.{Rules}
use Rattle.run_meaning.specs.Turns.{Asked, Histories}
use Rattle.site_model.specs.PlainSite.{PlainSite}
use Rattle.round_check.specs.declared.making.Making.{Making}
use Rattle.round_check.specs.declared.told.Told.{Told}
use Rattle.round_check.specs.Kept.{AreWithin, IsMaking, MadeAll, MadeSo}
use Rattle.round_check.specs.Making.{made_from, made_with, then_made}

so_made : (Kept : Histories → Type 0) (o : Option Histories) (b : Bool) → b ≡ true → MadeSo Kept o b → (next : Histories) × (o ≡ Some next) × Kept next
so_made Kept None b so h = absurd (let w : true ≡ false = sym so ∙ h in cc)
so_made Kept (Some next) b so h = (next, refl, h.1)

not_made : (Kept : Histories → Type 0) (o : Option Histories) (b : Bool) → b ≡ false → MadeSo Kept o b → o ≡ None
not_made Kept None b isnt h = refl
not_made Kept (Some next) b isnt h = absurd (let w : false ≡ true = sym isnt ∙ h.0 in cc)

module _ (r : Rules) (moment : ℕ) (before : Histories) (events : List (List Asked)) where
  pub goes_on_made : (t : Told) (left : List Told) (all : Option Histories) (round : Histories) (Kept : Histories → Type 0) (b : Bool) → b ≡ true → MadeSo Kept (made_with r moment before events t round) b → made_from r moment before events (t ∷ left) round ≡ all
      → (next : Histories) × Kept next × (made_from r moment before events left next ≡ all)
  goes_on_made t left all round Kept b so h so_far =
      let (next, is, kept) = so_made Kept (made_with r moment before events t round) b so h in
      (next, kept, sym (ap (λ o. then_made o (made_from r moment before events left)) is) ∙ so_far)

  pub stops_here : (t : Told) (left : List Told) (all : Option Histories) (round : Histories) (Kept : Histories → Type 0) (b : Bool) → b ≡ false → MadeSo Kept (made_with r moment before events t round) b → made_from r moment before events (t ∷ left) round ≡ all → all ≡ None
  stops_here t left all round Kept b isnt h so_far =
      sym so_far ∙ ap (λ o. then_made o (made_from r moment before events left)) (not_made Kept (made_with r moment before events t round) b isnt h)

module _ (s : PlainSite) (now : ℕ) (before : Histories) (callers : ℕ) (books : List Contents) where
  pub all_or_none : (o : Option Histories) → o ≡ None → MadeAll s now before callers books o None
  all_or_none o is = subst (λ z. MadeAll s now before callers books z None) (sym is) refl

  pub all_or_some : (o : Option Histories) (round : Histories) (m : Making) → o ≡ Some round → IsMaking s now before callers round m books → MadeAll s now before callers books o (Some m)
  all_or_some o round m is x = subst (λ z. MadeAll s now before callers books z (Some m)) (sym is) x

  pub none_of_all : (o : Option Histories) → MadeAll s now before callers books o None → o ≡ None
  none_of_all None h = refl
  none_of_all (Some round) h = absurd h

  pub some_of_all : (o : Option Histories) (m : Making) → MadeAll s now before callers books o (Some m) → (round : Histories) × (o ≡ Some round) × IsMaking s now before callers round m books
  some_of_all None m h = absurd cc
  some_of_all (Some round) m h = (round, refl, h)

-- what is told first, and then

pub first_within : (s : PlainSite) (t : Told) (left all : List Told) → all ≡ t ∷ left → AreWithin s all → t.checkable < length s.checkables
first_within s t left all is h = h 0 t (ap (λ z. slice_get z 0) is)

pub rest_within : (s : PlainSite) (t : Told) (left all : List Told) → all ≡ t ∷ left → AreWithin s all → AreWithin s left
rest_within s t left all is h = λ i u at. h (suc i) u (ap (λ z. slice_get z (suc i)) is ∙ at)
