-- Keys that tell things apart, whatever follows them.
use Rattle.std.proofs.Common.{◌≡◌, ℕ, false, List, [], ◌∷◌, ◌++◌, sym, ap, ◌∙◌, append_assoc, arith}
use Rattle.std.specs.Prelude.{◌==◌}
use Rattle.std.proofs.lemmas.Bool.Decides.{nat_tests}

-- If the one key with something after it is the other with something after it, a fact holds, and what comes after them is the same.
pub record Tells (k l : List ℕ) (P : Type 0) : Type 0 where
  pub fact : (r q : List ℕ) → k ++ r ≡ l ++ q → P
  pub rest : (r q : List ℕ) → k ++ r ≡ l ++ q → r ≡ q

-- one thing before others
abbrev pub before : {A : Type 0} → A → List A → List A
before x xs = x ∷ xs

abbrev pub first_of : List ℕ → ℕ
first_of [] = 0
first_of (x ∷ xs) = x

abbrev pub rest_of : List ℕ → List ℕ
rest_of [] = []
rest_of (x ∷ xs) = xs

pub ap2 : {A B C : Type 0} (f : A → B → C) {a x : A} {b y : B} → a ≡ x → b ≡ y → f a b ≡ f x y
ap2 f {a} {x} {b} {y} e h = ap (λ z. f z b) e ∙ ap (f x) h

-- ---- numbers of kinds

-- the same number of a kind
pub kind : {k l : List ℕ} {P : Type 0} (n : ℕ) → Tells k l P → Tells (n ∷ k) (n ∷ l) P
kind n h = record { fact = λ r q e. h.fact r q (ap rest_of e); rest = λ r q e. h.rest r q (ap rest_of e) }

-- nothing after it
pub alone : {P : Type 0} (n : ℕ) → P → Tells (n ∷ []) (n ∷ []) P
alone n p = record { fact = λ r q e. p; rest = λ r q e. ap rest_of e }

-- one byte
pub byte : (m n : ℕ) → Tells (m ∷ []) (n ∷ []) (m ≡ n)
byte m n = record { fact = λ r q e. ap first_of e; rest = λ r q e. ap rest_of e }

-- they can't be the same
pub apart : {k l : List ℕ} {P : Type 0} (m n : ℕ) → (m ≡ n → ⊥) → Tells (m ∷ k) (n ∷ l) P
apart m n unlike = record { fact = λ r q e. absurd (unlike (ap first_of e)); rest = λ r q e. absurd (unlike (ap first_of e)) }

differ : (m n : ℕ) → (m == n) ≡ false → m ≡ n → ⊥
differ m n unlike e = grind (arith, nat_tests)

pub other : {k l : List ℕ} {P : Type 0} {m n : ℕ} → (m == n) ≡ false → Tells (m ∷ k) (n ∷ l) P
other {k} {l} {P} {m} {n} unlike = apart m n (differ m n unlike)

-- ---- one key after another

pub both : {k l m n : List ℕ} {P Q : Type 0} → Tells k l P → Tells m n Q → Tells (k ++ m) (l ++ n) (P × Q)
both {k} {l} {m} {n} h g =
    let on : (r q : List ℕ) → (k ++ m) ++ r ≡ (l ++ n) ++ q → k ++ (m ++ r) ≡ l ++ (n ++ q) = λ r q e. sym (append_assoc k m r) ∙ e ∙ append_assoc l n q in
    record {
      fact = λ r q e. (h.fact (m ++ r) (n ++ q) (on r q e), g.fact r q (h.rest (m ++ r) (n ++ q) (on r q e)));
      rest = λ r q e. g.rest r q (h.rest (m ++ r) (n ++ q) (on r q e));
    }

pub by : {k l : List ℕ} {P Q : Type 0} → Tells k l P → (P → Q) → Tells k l Q
by h f = record { fact = λ r q e. f (h.fact r q e); rest = h.rest }

pub one : {k l : List ℕ} {A D : Type 0} {a x : A} (f : A → D) → Tells k l (a ≡ x) → Tells k l (f a ≡ f x)
one f h = by h (ap f)

pub two : {k l m n : List ℕ} {A B D : Type 0} {a x : A} {b y : B} (f : A → B → D) → Tells k l (a ≡ x) → Tells m n (b ≡ y) → Tells (k ++ m) (l ++ n) (f a b ≡ f x y)
two f h g = by (both h g) (λ p. ap2 f p.0 p.1)

applied : {A D : Type 0} {f g : A → D} {a x : A} → f ≡ g → a ≡ x → f a ≡ g x
applied {A} {D} {f} {g} {a} {x} e h = ap (λ z. z a) e ∙ ap g h

pub three : {k l m n i j : List ℕ} {A B C D : Type 0} {a x : A} {b y : B} {c z : C} (f : A → B → C → D) → Tells k l (a ≡ x) → Tells m n (b ≡ y) → Tells i j (c ≡ z) → Tells (k ++ (m ++ i)) (l ++ (n ++ j)) (f a b c ≡ f x y z)
three f h g i = by (both h (both g i)) (λ p. applied (ap2 f p.0 p.1.0) p.1.1)

pub four : {k l m n i j s t : List ℕ} {A B C D E : Type 0} {a x : A} {b y : B} {c z : C} {d w : D} (f : A → B → C → D → E) → Tells k l (a ≡ x) → Tells m n (b ≡ y) → Tells i j (c ≡ z) → Tells s t (d ≡ w) → Tells (k ++ (m ++ (i ++ s))) (l ++ (n ++ (j ++ t))) (f a b c d ≡ f x y z w)
four f h g i j = by (both h (both g (both i j))) (λ p. applied (applied (ap2 f p.0 p.1.0) p.1.1.0) p.1.1.1)

pub six : {k1 k2 k3 k4 k5 k6 l1 l2 l3 l4 l5 l6 : List ℕ} {A1 A2 A3 A4 A5 A6 D : Type 0} {a1 x1 : A1} {a2 x2 : A2} {a3 x3 : A3} {a4 x4 : A4} {a5 x5 : A5} {a6 x6 : A6} (f : A1 → A2 → A3 → A4 → A5 → A6 → D) → Tells k1 l1 (a1 ≡ x1) → Tells k2 l2 (a2 ≡ x2) → Tells k3 l3 (a3 ≡ x3) → Tells k4 l4 (a4 ≡ x4) → Tells k5 l5 (a5 ≡ x5) → Tells k6 l6 (a6 ≡ x6) → Tells (k1 ++ (k2 ++ (k3 ++ (k4 ++ (k5 ++ k6))))) (l1 ++ (l2 ++ (l3 ++ (l4 ++ (l5 ++ l6))))) (f a1 a2 a3 a4 a5 a6 ≡ f x1 x2 x3 x4 x5 x6)
six f h1 h2 h3 h4 h5 h6 = by (both h1 (both h2 (both h3 (both h4 (both h5 h6))))) (λ p. applied (applied (applied (applied (ap2 f p.0 p.1.0) p.1.1.0) p.1.1.1.0) p.1.1.1.1.0) p.1.1.1.1.1)

pub seven : {k1 k2 k3 k4 k5 k6 k7 l1 l2 l3 l4 l5 l6 l7 : List ℕ} {A1 A2 A3 A4 A5 A6 A7 D : Type 0} {a1 x1 : A1} {a2 x2 : A2} {a3 x3 : A3} {a4 x4 : A4} {a5 x5 : A5} {a6 x6 : A6} {a7 x7 : A7} (f : A1 → A2 → A3 → A4 → A5 → A6 → A7 → D) → Tells k1 l1 (a1 ≡ x1) → Tells k2 l2 (a2 ≡ x2) → Tells k3 l3 (a3 ≡ x3) → Tells k4 l4 (a4 ≡ x4) → Tells k5 l5 (a5 ≡ x5) → Tells k6 l6 (a6 ≡ x6) → Tells k7 l7 (a7 ≡ x7) → Tells (k1 ++ (k2 ++ (k3 ++ (k4 ++ (k5 ++ (k6 ++ k7)))))) (l1 ++ (l2 ++ (l3 ++ (l4 ++ (l5 ++ (l6 ++ l7)))))) (f a1 a2 a3 a4 a5 a6 a7 ≡ f x1 x2 x3 x4 x5 x6 x7)
seven f h1 h2 h3 h4 h5 h6 h7 = by (both h1 (both h2 (both h3 (both h4 (both h5 (both h6 h7)))))) (λ p. applied (applied (applied (applied (applied (ap2 f p.0 p.1.0) p.1.1.0) p.1.1.1.0) p.1.1.1.1.0) p.1.1.1.1.1.0) p.1.1.1.1.1.1)

-- two keys that are the same
pub told : {k l : List ℕ} {P : Type 0} → Tells k l P → k ≡ l → P
told h e = h.fact [] [] (ap (λ k. k ++ []) e)
