-- Time periods, one by one.
use Rattle.std.proofs.Common.{◌≡◌, ℕ, ◌<◌, List, length, map, get_or, refl, sym, ap, ◌∙◌, arith}
use Rattle.std.specs.Borrow.{Bor}
use Rattle.std.proofs.lemmas.List.{get_or-map, length-map}
use Rattle.site_base.specs.declared.day_span.DaySpan.{DaySpan}
use Rattle.site_model.specs.PlainSite.{PlainObject, object_view}
use Rattle.site_model.specs.declared.object.Object.{Object}
use Rattle.object_lists.specs.Listed.{lent_view}
use Rattle.object_lists.specs.Periods.{own_spans}

pub own_at : (ps : List (Bor Object)) (own : List (List DaySpan)) (i : ℕ) (p : Bor Object) (spans : List DaySpan) → own ≡ map own_spans (lent_view ps) → i < length ps → p ≡ get_or ps i p → spans ≡ get_or own i spans
    → spans ≡ own_spans (object_view p.now)
own_at ps own i p spans is inside here there =
    let view_of : Bor Object → PlainObject = λ o. object_view o.now in
    let within : i < length (lent_view ps) = omega (arith, length-map ps view_of) in
    there
    ∙ ap (λ xs. get_or xs i spans) is
    ∙ get_or-map own_spans (lent_view ps) i (view_of p) spans within
    ∙ ap own_spans (get_or-map view_of ps i p (view_of p) inside ∙ ap view_of (sym here))
