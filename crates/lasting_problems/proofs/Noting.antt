-- One checkable is noted anew.
use Rattle.std.proofs.Common.{◌≡◌, ℕ, zero, suc, ◌+◌, ◌<◌, cond, List, [], ◌∷◌, set, length, Option, Some, None, refl, ap, ◌∙◌, arith}
use Rattle.std.proofs.lemmas.Bool.Decides.{nat_tests}
use Rattle.std.specs.BTreeMap.{insert_entry, is_at}
use Rattle.std.specs.Map.{remove_entry}
use Rattle.std.specs.Ordering.{is_eq, match_ordering, nat_cmp}
use Rattle.std.specs.declared.cmp.Ordering.TheVariants.{Less, Equal, Greater}
use Rattle.lasting_problems.specs.Noted.{noted, noted_from}

less : (k j : ℕ) → k < j → nat_cmp k j ≡ Less
less k j h = grind (arith, nat_tests)

same : (k j : ℕ) → k ≡ j → nat_cmp k j ≡ Equal
same k j h = grind (arith, nat_tests)

greater : (k j : ℕ) → j < k → nat_cmp k j ≡ Greater
greater k j h = grind (arith, nat_tests)

-- one before all of them goes to the front, and isn't among them

in_front : (k j m : ℕ) (ms : List (Option ℕ)) → k < j → insert_entry nat_cmp (noted_from j ms) k m ≡ (k, m) ∷ noted_from j ms
in_front k j m [] h = refl
in_front k j m (None ∷ ms) h = in_front k (suc j) m ms (omega (arith, h))
in_front k j m (Some n ∷ ms) h =
    ap (λ o. match_ordering o ((k, m) ∷ (j, n) ∷ noted_from (suc j) ms) ((j, m) ∷ noted_from (suc j) ms) ((j, n) ∷ insert_entry nat_cmp (noted_from (suc j) ms) k m)) (less k j h)

none_in_front : (k j : ℕ) (ms : List (Option ℕ)) → k < j → remove_entry (is_at (nat_cmp k)) (noted_from j ms) ≡ noted_from j ms
none_in_front k j [] h = refl
none_in_front k j (None ∷ ms) h = none_in_front k (suc j) ms (omega (arith, h))
none_in_front k j (Some n ∷ ms) h =
    ap (λ o. cond (is_eq o) (noted_from (suc j) ms) ((j, n) ∷ remove_entry (is_at (nat_cmp k)) (noted_from (suc j) ms))) (less k j h)
    ∙ ap (λ ps. (j, n) ∷ ps) (none_in_front k (suc j) ms (omega (arith, h)))

insert_from : (i j k m : ℕ) (ms : List (Option ℕ)) → k ≡ j + i → i < length ms → insert_entry nat_cmp (noted_from j ms) k m ≡ noted_from j (set ms i (Some m))
insert_from i j k m [] at l = absurd (omega (arith, l))
insert_from zero j k m (None ∷ ms) at l =
    in_front k (suc j) m ms (omega (arith, at)) ∙ ap (λ n. (n, m) ∷ noted_from (suc j) ms) (omega (arith, at))
insert_from zero j k m (Some n ∷ ms) at l =
    ap (λ o. match_ordering o ((k, m) ∷ (j, n) ∷ noted_from (suc j) ms) ((j, m) ∷ noted_from (suc j) ms) ((j, n) ∷ insert_entry nat_cmp (noted_from (suc j) ms) k m)) (same k j (omega (arith, at)))
insert_from (suc i) j k m (None ∷ ms) at l = insert_from i (suc j) k m ms (omega (arith, at)) (omega (arith, l))
insert_from (suc i) j k m (Some n ∷ ms) at l =
    ap (λ o. match_ordering o ((k, m) ∷ (j, n) ∷ noted_from (suc j) ms) ((j, m) ∷ noted_from (suc j) ms) ((j, n) ∷ insert_entry nat_cmp (noted_from (suc j) ms) k m)) (greater k j (omega (arith, at)))
    ∙ ap (λ ps. (j, n) ∷ ps) (insert_from i (suc j) k m ms (omega (arith, at)) (omega (arith, l)))

pub inserted : (k m : ℕ) (ms : List (Option ℕ)) (old : List (ℕ × ℕ)) → k < length ms → old ≡ noted ms → insert_entry nat_cmp old k m ≡ noted (set ms k (Some m))
inserted k m ms old l is = ap (λ ps. insert_entry nat_cmp ps k m) is ∙ insert_from k 0 k m ms (omega arith) l

remove_from : (i j k : ℕ) (ms : List (Option ℕ)) → k ≡ j + i → remove_entry (is_at (nat_cmp k)) (noted_from j ms) ≡ noted_from j (set ms i None)
remove_from i j k [] at = refl
remove_from zero j k (None ∷ ms) at = none_in_front k (suc j) ms (omega (arith, at))
remove_from zero j k (Some n ∷ ms) at =
    ap (λ o. cond (is_eq o) (noted_from (suc j) ms) ((j, n) ∷ remove_entry (is_at (nat_cmp k)) (noted_from (suc j) ms))) (same k j (omega (arith, at)))
remove_from (suc i) j k (None ∷ ms) at = remove_from i (suc j) k ms (omega (arith, at))
remove_from (suc i) j k (Some n ∷ ms) at =
    ap (λ o. cond (is_eq o) (noted_from (suc j) ms) ((j, n) ∷ remove_entry (is_at (nat_cmp k)) (noted_from (suc j) ms))) (greater k j (omega (arith, at)))
    ∙ ap (λ ps. (j, n) ∷ ps) (remove_from i (suc j) k ms (omega (arith, at)))

pub removed : (k : ℕ) (ms : List (Option ℕ)) (old : List (ℕ × ℕ)) → old ≡ noted ms → remove_entry (is_at (nat_cmp k)) old ≡ noted (set ms k None)
removed k ms old is = ap (remove_entry (is_at (nat_cmp k))) is ∙ remove_from k 0 k ms (omega arith)
