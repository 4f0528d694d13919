-- Lines that are written one after another.
use Rattle.std.proofs.Common.{◌≡◌, ℕ, ◌+◌, ◌<◌, List, [], ◌∷◌, ◌++◌, length, take, drop, get_or, Option, Some, None, refl, sym, ap, ◌∙◌, subst, append_assoc}
use Rattle.std.specs.List.{concat}
use Rattle.std.proofs.lemmas.List.{drop_more, take_more, take-append-drop, append-nil}
use Rattle.std.proofs.lemmas.List.Folds.{concat-append}
use Rattle.site_edge.specs.Lists.{Adds, AddsPart}

-- one piece after another
pub adds_more : (a b : List ℕ) (old mid new : Option (List ℕ)) → Adds a old mid → Adds b mid new → Adds (a ++ b) old new
adds_more a b None mid new p q = subst (λ m. Adds b m new) p q
adds_more a b (Some text) mid new p q = subst (λ m. Adds b m new) p q ∙ ap Some (append_assoc text a b)

-- a prefix of a piece after another
pub adds_part : (a b c : List ℕ) (old mid new : Option (List ℕ)) → Adds a old mid → AddsPart b mid new → AddsPart (a ++ (b ++ c)) old new
adds_part a b c None mid new p q = subst (λ m. AddsPart b m new) p q
adds_part a b c (Some text) mid new p q =
    let h = subst (λ m. AddsPart b m new) p q in
    let whole : a ++ (b ++ c) ≡ (a ++ h.0) ++ (h.1 ++ c) =
    ap (λ bs. a ++ (bs ++ c)) h.2 ∙ ap (λ t. a ++ t) (append_assoc h.0 h.1 c) ∙ sym (append_assoc a h.0 (h.1 ++ c)) in
    (a ++ h.0, h.1 ++ c, whole, h.3 ∙ ap Some (append_assoc text a h.0))

concat_take : (xs : List (List ℕ)) (i : ℕ) (d : List ℕ) → i < length xs → concat (take (i + 1) xs) ≡ concat (take i xs) ++ get_or xs i d
concat_take xs i d h =
    ap concat (take_more xs i d h) ∙ concat-append (take i xs) (get_or xs i d ∷ []) ∙ ap (λ t. concat (take i xs) ++ t) (append-nil (get_or xs i d))

concat_split : (xs : List (List ℕ)) (i : ℕ) (d : List ℕ) → i < length xs → concat xs ≡ concat (take i xs) ++ (get_or xs i d ++ concat (drop (i + 1) xs))
concat_split xs i d h =
    ap concat (sym (take-append-drop i xs) ∙ ap (λ ys. take i xs ++ ys) (drop_more xs i d h)) ∙ concat-append (take i xs) (get_or xs i d ∷ drop (i + 1) xs)

-- one more line of xs
pub line_written : (xs : List (List ℕ)) (i : ℕ) (x line : List ℕ) (old mid new : Option (List ℕ)) → i < length xs → x ≡ get_or xs i x → line ≡ x
    → Adds (concat (take i xs)) old mid → Adds line mid new → Adds (concat (take (i + 1) xs)) old new
line_written xs i x line old mid new h is same before now =
    subst (λ t. Adds t old new) (ap (λ t. concat (take i xs) ++ t) (same ∙ is) ∙ sym (concat_take xs i x h)) (adds_more _ line old mid new before now)

-- a part of a line of xs
pub line_part : (xs : List (List ℕ)) (i : ℕ) (x line : List ℕ) (old mid new : Option (List ℕ)) → i < length xs → x ≡ get_or xs i x → line ≡ x
    → Adds (concat (take i xs)) old mid → AddsPart line mid new → AddsPart (concat xs) old new
line_part xs i x line old mid new h is same before now =
    subst (λ t. AddsPart t old new) (ap (λ t. concat (take i xs) ++ (t ++ concat (drop (i + 1) xs))) (same ∙ is) ∙ sym (concat_split xs i x h)) (adds_part _ line _ old mid new before now)

-- nothing was added
pub adds_none : (more : List ℕ) (old : Option (List ℕ)) → AddsPart more old old
adds_none more None = refl
adds_none more (Some all) = ([], more, refl, ap Some (sym (append-nil all)))

-- all was added, and then nothing
pub adds_all : (more : List ℕ) (old mid new : Option (List ℕ)) → Adds more old mid → new ≡ mid → AddsPart more old new
adds_all more None mid new p q = q ∙ p
adds_all more (Some all) mid new p q = (more, [], sym (append-nil more), q ∙ p)
