-- Loops that add to a list what each element gives.
use Rattle.std.proofs.Common.{◌≡◌, ◌+◌, ◌<◌, ◌≤◌, ℕ, zero, suc, List, [], ◌∷◌, ◌++◌, length, drop, get_or, slice_get, map, refl, sym, ap, ◌∙◌, arith, append_assoc, append-nil, Option, Some, None}
use Rattle.std.proofs.lemmas.Option.{slice_get-get_or}
use Rattle.std.specs.List.{flat_map}
use Rattle.event_text.specs.declared.line_fault.LineFault.{LineFault}
use Rattle.log_text.specs.Fronts.{◌>>=◌}
use Rattle.site_audit.specs.Filling.{Filling, filled, one_filled}
use Rattle.site_edge.specs.declared.report.Report.{Report}
use Rattle.site_audit.specs.Telling.{after_order, after_orders}
use Rattle.site_audit.specs.Told.{line_in, report_in}
use Rattle.site_audit.specs.declared.block.OrderLine.{OrderLine}
use Rattle.site_audit.specs.declared.block.RefusedLine.{RefusedLine}
use Rattle.site_audit.specs.declared.telling.Open.{Open}
use Rattle.site_audit.specs.declared.telling.Said.{Said}
use Rattle.site_audit.proofs.Ordering.{drop_one, drop_all}

-- each element
pub add_next : {A : Type 0} (i : ℕ) (xs done all : List A) (x : A) → i < length xs → x ≡ get_or xs i x → done ++ drop i xs ≡ all → (done ++ x ∷ []) ++ drop (i + 1) xs ≡ all
add_next i xs done all x l is so_far =
    append_assoc done (x ∷ []) (drop (i + 1) xs) ∙ (sym (ap (λ ys. done ++ ys) (drop_one i xs x l) ∙ ap (λ y. done ++ y ∷ drop (i + 1) xs) (sym is)) ∙ so_far)

pub add_end : {A : Type 0} (i : ℕ) (xs done all : List A) → length xs ≤ i → done ++ drop i xs ≡ all → done ≡ all
add_end i xs done all le so_far = sym (ap (λ ys. done ++ ys) (drop_all i xs le) ∙ append-nil done) ∙ so_far

-- what a function gives of each
pub map_next : {A B : Type 0} (f : A → B) (i : ℕ) (xs : List A) (done all : List B) (x : A) → i < length xs → x ≡ get_or xs i x → done ++ map f (drop i xs) ≡ all → (done ++ f x ∷ []) ++ map f (drop (i + 1) xs) ≡ all
map_next f i xs done all x l is so_far =
    append_assoc done (f x ∷ []) (map f (drop (i + 1) xs)) ∙ (sym (ap (λ ys. done ++ map f ys) (drop_one i xs x l) ∙ ap (λ y. done ++ f y ∷ map f (drop (i + 1) xs)) (sym is)) ∙ so_far)

pub map_end : {A B : Type 0} (f : A → B) (i : ℕ) (xs : List A) (done all : List B) → length xs ≤ i → done ++ map f (drop i xs) ≡ all → done ≡ all
map_end f i xs done all le so_far = sym (ap (λ ys. done ++ map f ys) (drop_all i xs le) ∙ append-nil done) ∙ so_far

pub flat_next : {A B : Type 0} (f : A → List B) (i : ℕ) (xs : List A) (done all : List B) (x : A) → i < length xs → x ≡ get_or xs i x → done ++ flat_map f (drop i xs) ≡ all → (done ++ f x) ++ flat_map f (drop (i + 1) xs) ≡ all
flat_next f i xs done all x l is so_far =
    append_assoc done (f x) (flat_map f (drop (i + 1) xs)) ∙ (sym (ap (λ ys. done ++ flat_map f ys) (drop_one i xs x l) ∙ ap (λ y. done ++ (f y ++ flat_map f (drop (i + 1) xs))) (sym is)) ∙ so_far)

pub flat_end : {A B : Type 0} (f : A → List B) (i : ℕ) (xs : List A) (done all : List B) → length xs ≤ i → done ++ flat_map f (drop i xs) ≡ all → done ≡ all
flat_end f i xs done all le so_far = sym (ap (λ ys. done ++ flat_map f ys) (drop_all i xs le) ∙ append-nil done) ∙ so_far

-- one line more that is refused
module _ (text : LineFault → Option (List ℕ)) (i : ℕ) (rs : List RefusedLine) (r : RefusedLine) (f : Filling) (all : Option (List (List ℕ))) where
  abbrev rest : List RefusedLine
  rest = drop (i + 1) rs

  first_is : i < length rs → r ≡ get_or rs i r → filled text (drop i rs) f ≡ all → (one_filled text r f >>= filled text rest) ≡ all
  first_is l is so_far = sym (ap (λ ys. filled text ys f) (drop_one i rs r l) ∙ ap (λ (y : RefusedLine). one_filled text y f >>= filled text rest) (sym is)) ∙ so_far

  pub fill_next : (g : Filling) → i < length rs → r ≡ get_or rs i r → one_filled text r f ≡ Some g → filled text (drop i rs) f ≡ all → filled text rest g ≡ all
  fill_next g l is one so_far = sym (ap (λ o. o >>= filled text rest) one) ∙ first_is l is so_far

  pub fill_none : i < length rs → r ≡ get_or rs i r → one_filled text r f ≡ None → filled text (drop i rs) f ≡ all → None ≡ all
  fill_none l is one so_far = sym (ap (λ o. o >>= filled text rest) one) ∙ first_is l is so_far

pub fill_end : (text : LineFault → Option (List ℕ)) (i : ℕ) (rs : List RefusedLine) (f : Filling) (all : Option (List (List ℕ))) → length rs ≤ i → filled text (drop i rs) f ≡ all → Some (f.lines ++ f.left) ≡ all
fill_end text i rs f all le so_far = sym (ap (λ ys. filled text ys f) (drop_all i rs le)) ∙ so_far

-- one order more
pub orders_next : (i : ℕ) (os : List (Option Open)) (xs : List OrderLine) (x : OrderLine) (all : List (Option Open)) → i < length xs → x ≡ get_or xs i x → after_orders os (drop i xs) ≡ all → after_orders (after_order os x) (drop (i + 1) xs) ≡ all
orders_next i os xs x all l is so_far = sym (ap (after_orders os) (drop_one i xs x l) ∙ ap (λ (y : OrderLine). after_orders (after_order os y) (drop (i + 1) xs)) (sym is)) ∙ so_far

pub orders_end : (i : ℕ) (os : List (Option Open)) (xs : List OrderLine) (all : List (Option Open)) → length xs ≤ i → after_orders os (drop i xs) ≡ all → os ≡ all
orders_end i os xs all le so_far = sym (ap (after_orders os) (drop_all i xs le)) ∙ so_far

-- what is said at a place and tells no line, or no report
module _ (said : List Said) (k : ℕ) where
  said_at : (x : Said) → k < length said → x ≡ get_or said k x → slice_get said k ≡ Some x
  said_at x l is = slice_get-get_or said k x l ∙ ap Some (sym is)

  nothing_past : (xs : List Said) (i : ℕ) → length xs ≤ i → slice_get xs i ≡ None
  nothing_past [] i l = refl
  nothing_past (x ∷ xs) zero l = absurd (omega (arith, l))
  nothing_past (x ∷ xs) (suc i) l = nothing_past xs i (omega (arith, l))

  pub line_there : (done new : List (List ℕ)) (x : Said) → k < length said → x ≡ get_or said k x → new ≡ done ++ line_in (Some x) → new ≡ done ++ line_in (slice_get said k)
  line_there done new x l is e = e ∙ sym (ap (λ o. done ++ line_in o) (said_at x l is))

  pub no_line_there : (done : List (List ℕ)) → length said ≤ k → done ≡ done ++ line_in (slice_get said k)
  no_line_there done l = sym (ap (λ o. done ++ line_in o) (nothing_past said k l) ∙ append-nil done)

  pub report_there : (done new : List Report) (x : Said) → k < length said → x ≡ get_or said k x → new ≡ done ++ report_in (Some x) → new ≡ done ++ report_in (slice_get said k)
  report_there done new x l is e = e ∙ sym (ap (λ o. done ++ report_in o) (said_at x l is))

  pub no_report_there : (done : List Report) → length said ≤ k → done ≡ done ++ report_in (slice_get said k)
  no_report_there done l = sym (ap (λ o. done ++ report_in o) (nothing_past said k l) ∙ append-nil done)
