-- What a pattern describes, read part by part and cut into pieces.
use Rattle.std.proofs.Common.{◌≡◌, inl, inr, ℕ, ◌==◌, Bool, true, false, cond, List, [], ◌∷◌, ◌++◌, refl, ap, ◌∙◌}
use Rattle.std.proofs.lemmas.Bool.{false≢true}
use Rattle.wildcards.specs.Wildcards.{stands_for, one_then, any_then, part_then, describes, is_nothing}
use Rattle.wildcards.specs.Described.{AnyFront, OneFront, PartThen, Describes}

-- a test and a type that hold of the same texts
record Fits (test : List ℕ → Bool) (Holds : List ℕ → Type 0) : Type 0 where
  sound : (text : List ℕ) → test text ≡ true → Holds text
  complete : (text : List ℕ) → Holds text → test text ≡ true

nothing_sound : (text : List ℕ) → is_nothing text ≡ true → text ≡ []
nothing_sound [] e = refl
nothing_sound (c ∷ cs) e = absurd (false≢true e)

any_sound : (test : List ℕ → Bool) (Holds : List ℕ → Type 0) → Fits test Holds → (text : List ℕ) → any_then test text ≡ true → AnyFront Holds text
any_sound test Holds f [] e = record { front = []; rest = []; text_is = refl; more = f.sound [] e }
any_sound test Holds f (c ∷ cs) e = by (test (c ∷ cs)) refl e (λ e. any_sound test Holds f cs e)
  where
    by : (b : Bool) → test (c ∷ cs) ≡ b → cond b true (any_then test cs) ≡ true → (any_then test cs ≡ true → AnyFront Holds cs) → AnyFront Holds (c ∷ cs)
    by true h e later = record { front = []; rest = c ∷ cs; text_is = refl; more = f.sound (c ∷ cs) h }
    by false h e later = let r = later e in record { front = c ∷ r.front; rest = r.rest; text_is = ap (λ x. c ∷ x) r.text_is; more = r.more }

any_complete : (test : List ℕ → Bool) (front rest : List ℕ) → test rest ≡ true → any_then test (front ++ rest) ≡ true
any_complete test [] [] e = e
any_complete test [] (c ∷ cs) e = ap (λ b. cond b true (any_then test cs)) e
any_complete test (d ∷ ds) rest e = by (test (d ∷ (ds ++ rest))) (any_complete test ds rest e)
  where
    by : (b : Bool) → any_then test (ds ++ rest) ≡ true → cond b true (any_then test (ds ++ rest)) ≡ true
    by true later = refl
    by false later = later

one_sound : (p : ℕ) (test : List ℕ → Bool) (Holds : List ℕ → Type 0) → Fits test Holds → (text : List ℕ) → one_then p test text ≡ true → OneFront p Holds text
one_sound p test Holds f [] e = absurd (false≢true e)
one_sound p test Holds f (c ∷ cs) e = by (stands_for p c) refl e
  where
    by : (b : Bool) → stands_for p c ≡ b → cond b (test cs) false ≡ true → OneFront p Holds (c ∷ cs)
    by true h e = record { character = c; rest = cs; text_is = refl; stands = h; more = f.sound cs e }
    by false h e = absurd (false≢true e)

one_complete : (p c : ℕ) (test : List ℕ → Bool) (rest : List ℕ) → stands_for p c ≡ true → test rest ≡ true → one_then p test (c ∷ rest) ≡ true
one_complete p c test rest h e = ap (λ b. cond b (test rest) false) h ∙ e

part_fits : (p : ℕ) (test : List ℕ → Bool) (Holds : List ℕ → Type 0) → Fits test Holds → Fits (part_then p test) (PartThen p Holds)
part_fits p test Holds f = record {
  sound = λ text e. by text (p == 42) refl e;
  complete = λ text h. back text h;
}
  where
    by : (text : List ℕ) (b : Bool) → (p == 42) ≡ b → cond b (any_then test text) (one_then p test text) ≡ true → PartThen p Holds text
    by text true h e = inl (h, any_sound test Holds f text e)
    by text false h e = inr (h, one_sound p test Holds f text e)

    back : (text : List ℕ) → PartThen p Holds text → part_then p test text ≡ true
    back text (inl h) =
        ap (λ b. cond b (any_then test text) (one_then p test text)) h.0 ∙ ap (any_then test) h.1.text_is ∙ any_complete test h.1.front h.1.rest (f.complete h.1.rest h.1.more)
    back text (inr h) =
        ap (λ b. cond b (any_then test text) (one_then p test text)) h.0 ∙ ap (one_then p test) h.1.text_is
        ∙ one_complete p h.1.character test h.1.rest h.1.stands (f.complete h.1.rest h.1.more)

fits : (parts : List ℕ) → Fits (describes parts) (Describes parts)
fits [] = record { sound = nothing_sound; complete = λ text e. ap is_nothing e }
fits (p ∷ ps) = part_fits p (describes ps) (Describes ps) (fits ps)

pub described : (parts text : List ℕ) → describes parts text ≡ true → Describes parts text
described parts = (fits parts).sound

pub describing : (parts text : List ℕ) → Describes parts text → describes parts text ≡ true
describing parts = (fits parts).complete
