-- Counts that go on.
use Rattle.std.proofs.Common.{◌≡◌, ◌+◌, Bool, not, List, [], ◌∷◌, ◌++◌, filter, length, sym, ap, ◌∙◌, append-nil, length-append}
use Rattle.std.proofs.lemmas.Grind.{flat_map-append}
use Rattle.std.proofs.lemmas.List.Elements.{filter-append}
use Rattle.std.specs.List.{flat_map}
use Rattle.run_meaning.specs.Runs.{TurnLog}
use Rattle.site_model.specs.declared.entry.Entry.{Entry}
use Rattle.site_gen.specs.Counting.{with_turn}
use Rattle.site_gen.specs.Counts.{counts_of, decisions_in, entries_of, is_sent}

-- Lists.

flat_more : {A B : Type 0} (f : A → List B) (xs : List A) (x : A) → flat_map f (xs ++ x ∷ []) ≡ flat_map f xs ++ f x
flat_more f xs x = flat_map-append f xs (x ∷ []) ∙ ap (λ ys. flat_map f xs ++ ys) (append-nil (f x))

kept_of_both : {A : Type 0} (f : A → Bool) (xs ys : List A) → length (filter f (xs ++ ys)) ≡ length (filter f xs) + length (filter f ys)
kept_of_both f xs ys = ap length (filter-append f xs ys) ∙ length-append (filter f xs) (filter f ys)

-- Logs.

-- one more
pub counts_more : (ls : List TurnLog) (l : TurnLog) → with_turn (counts_of ls) l ≡ counts_of (ls ++ l ∷ [])
counts_more ls l =
    let es = flat_map entries_of ls in
    let fs = entries_of l in
    let all : flat_map entries_of (ls ++ l ∷ []) ≡ es ++ fs = flat_more entries_of ls l in
    let decided : decisions_in (flat_map entries_of (ls ++ l ∷ [])) ≡ decisions_in es ++ decisions_in fs = ap decisions_in all ∙ flat_map-append (λ (x : Entry). x.decisions) es fs in
    let entries = ap length all ∙ length-append es fs in
    let sent = ap (λ ds. length (filter is_sent ds)) decided ∙ kept_of_both is_sent (decisions_in es) (decisions_in fs) in
    let suppressed = ap (λ ds. length (filter (λ y. not (is_sent y)) ds)) decided ∙ kept_of_both (λ y. not (is_sent y)) (decisions_in es) (decisions_in fs) in
    let orders = ap length (flat_more (λ (x : TurnLog). x.orders) ls l) ∙ length-append (flat_map (λ (x : TurnLog). x.orders) ls) l.orders in
    sym (λ i. record { entries = entries i; sent = sent i; suppressed = suppressed i; orders = orders i })
