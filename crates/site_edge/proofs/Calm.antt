-- Fakes of which no later call fails.
use Rattle.std.proofs.Common.{◌≡◌, ◌↔◌, Bool, true, false, refl, sym, subst, arith}
use Rattle.std.specs.Prelude.{Contains, IsTrue, IsFalse}
use Rattle.site_edge.specs.declared.mem_failures.Failures.{Failures}
use Rattle.site_edge.specs.Fakes.{IsCalm, counted}

pub calm_on : (old new : Failures) → new ≡ counted old → IsCalm old → IsCalm new
calm_on old new e h = subst IsCalm (sym e) record { past = λ n c. (let lt = h.past n c in omega (arith, lt)) }

never_listed : (old : Failures) → IsCalm old → Contains old.listed (counted old).calls → ⊥
never_listed old h c = let lt = h.past (counted old).calls c in omega (arith, lt)

pub calm_spares : (old new : Failures) (fails : Bool) → new ≡ counted old → (IsTrue fails ↔ Contains new.listed new.calls) → IsCalm old → IsFalse fails
calm_spares old new false e h calm = refl
calm_spares old new true e h calm = absurd (never_listed old calm (subst (λ (f : Failures). Contains f.listed f.calls) e (h.0 refl)))
