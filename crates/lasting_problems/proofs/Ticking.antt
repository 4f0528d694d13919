-- The ticks of a turn are those of the problems that are noted.
use Rattle.std.proofs.Common.{◌≡◌, ℕ, suc, ◌+◌, ◌&&◌, nat_lt, not, Bool, true, false, cond, List, [], ◌∷◌, map, Option, Some, None, refl, ap}
use Rattle.run_meaning.specs.Dealing.{last_moment, ticks, ticks_from}
use Rattle.run_meaning.specs.Turns.{Asked, Histories, of_index}
use Rattle.run_meaning.specs.View.{is_hard_problem, view_of}
use Rattle.site_model.specs.PlainSite.{PlainCheck, PlainSite}
use Rattle.site_model.specs.declared.event.Event.TheVariants as event
use Rattle.lasting_problems.specs.Lasting.{lasting, lasting_from}
use Rattle.lasting_problems.specs.Noted.{late_in, noted, noted_from}

abbrev pub tick_of : ℕ → Asked
tick_of k = record { checkable = k; event = event.Tick }

ticks_are_from : (k : ℕ) (cs : List PlainCheck) (h : Histories) (moment : ℕ) → ticks_from k cs h moment ≡ map tick_of (late_in moment (noted_from k (lasting_from k cs h)))
ticks_are_from k [] h moment = refl
ticks_are_from k (c ∷ cs) h moment = by (is_hard_problem (view_of c (of_index k h)).hard (view_of c (of_index k h)).state) (ticks_are_from (suc k) cs h moment)
  where
    rest : List (Option ℕ)
    rest = lasting_from (suc k) cs h

    last : ℕ
    last = last_moment (of_index k h)

    on : (b : Bool) (xs : List Asked) (ks : List ℕ) → xs ≡ map tick_of ks → cond b (tick_of k ∷ xs) xs ≡ map tick_of (cond b (k ∷ ks) ks)
    on true xs ks is = ap (λ as'. tick_of k ∷ as') is
    on false xs ks is = is

    by : (a : Bool) → ticks_from (suc k) cs h moment ≡ map tick_of (late_in moment (noted_from (suc k) rest))
        → cond (a && not (nat_lt moment (last + 60))) (tick_of k ∷ ticks_from (suc k) cs h moment) (ticks_from (suc k) cs h moment) ≡ map tick_of (late_in moment (noted_from k (cond a (Some last) None ∷ rest)))
    by false is = is
    by true is = on (not (nat_lt moment (last + 60))) (ticks_from (suc k) cs h moment) (late_in moment (noted_from (suc k) rest)) is

pub ticks_are : (s : PlainSite) (h : Histories) (moment : ℕ) → ticks s h moment ≡ map tick_of (late_in moment (noted (lasting s h)))
ticks_are s h moment = ticks_are_from 0 s.checkables h moment
