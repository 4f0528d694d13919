-- What events have an effect, and what is told of them.
use Rattle.std.proofs.Common.{◌≡◌, ℕ, List, Bool, refl, ap}
use Rattle.run_meaning.specs.Acts.{is_taken}
use Rattle.run_meaning.specs.Downtimes.{is_live}
use Rattle.run_meaning.specs.View.{has_effect, view_of}
use Rattle.check_state.specs.Stands.{IsTakenAs}
use Rattle.site_model.specs.PlainSite.{PlainCheck}
use Rattle.site_model.specs.declared.entry.Entry.{Entry}
use Rattle.site_model.specs.declared.event.Event.{Event}
use Rattle.site_model.specs.declared.event.Event.TheVariants as event
use Rattle.site_model.specs.declared.view.View.{View}

-- whether any event but the end of a downtime has an effect is told by the view
pub taken_so : (c : PlainCheck) (h : List Entry) (moment : ℕ) (v : View) (e : Event) → v ≡ view_of c h → ((x : ℕ) → e ≡ event.Undown x → ⊥) → has_effect v e ≡ is_taken is_live c h moment e
taken_so c h moment v (event.Undown n) is not = absurd (not n refl)
taken_so c h moment v (event.Result status passive output perf) is not = refl
taken_so c h moment v event.Tick is not = refl
taken_so c h moment v (event.Ack sticky notify) is not = ap (λ (w : View). has_effect w (event.Ack sticky notify)) is
taken_so c h moment v event.Unack is not = ap (λ (w : View). has_effect w event.Unack) is
taken_so c h moment v (event.Down start finish fixed duration) is not = refl
taken_so c h moment v (event.Checks on) is not = refl
taken_so c h moment v (event.Notes on) is not = refl
taken_so c h moment v (event.Check at forced) is not = refl

pub told_as : (v : Event) (a b : Bool) → a ≡ b → IsTakenAs v a b
told_as (event.Undown n) a b q = tt
told_as (event.Result status passive output perf) a b q = tt
told_as event.Tick a b q = tt
told_as (event.Ack sticky notify) a b q = q
told_as event.Unack a b q = q
told_as (event.Down start finish fixed duration) a b q = tt
told_as (event.Checks on) a b q = tt
told_as (event.Notes on) a b q = tt
told_as (event.Check at forced) a b q = tt
