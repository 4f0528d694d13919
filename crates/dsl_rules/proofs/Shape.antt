-- What can be said of a grammar by its form alone.
use Rattle.std.proofs.Common.{◌≡◌, ◌≤◌, ℕ, suc, List, [], ◌∷◌, ◌++◌, Bool, true, false, not, cond, inl, inr}
use Rattle.std.specs.Prelude.{◌⊎◌}
use Rattle.dsl_rules.specs.Alphabet.{Sort, same, Alphabet, among, outside, apart, and, or, where_holds}
use Rattle.dsl_rules.specs.Rules.{Rule}
use Rattle.dsl_rules.specs.Grammar.{Grammar, one, empty, both, either, ahead, made, here, loop, chain, rec, rec_not, Rules, Derives, Pair, pair, always, fold_pair}
use Rattle.dsl_rules.specs.Reading.{Read, got, null, first, read}
use Rattle.dsl_rules.proofs.Law.{Sets, Law}
use Rattle.dsl_rules.proofs.Choice.{Tells}

-- a type as one of the next level
pub data Lift (A : Type 0) : Type 1 where
  lift : A → Lift A

abbrev pub lower : {A : Type 0} → Lift A → A
lower (lift a) = a

-- no sort is in both, right here or behind newlines
abbrev pub Apart : (Bool → List Sort) → (Bool → List Sort) → Type 0
Apart f g = (apart (f true) (g true) ≡ true) × (apart (f false) (g false) ≡ true)

pub apart_each : (f g : Bool → List Sort) → Apart f g → (e : Bool) → apart (f e) (g e) ≡ true
apart_each f g x true = x.0
apart_each f g x false = x.1

module _ {T N : Type 0} (al : Alphabet T) (V : N → Type 0) (F G : N → List Sort) (opening : N → Sort) where
  -- the tokens by which it may go on, right behind or behind newlines
  abbrev pub go : {A : Type 0} → Bool → Grammar T N V A → List Sort
  go e (one cs f) = []
  go e (empty v) = []
  go e (both f g h) = go e h ++ where_holds (null al e h) (go e g)
  go e (either g h) = (go e g ++ go e h) ++ cond e [] (where_holds (null al false h) (first al F false g))
  go e (ahead cs test g h) = (go e g ++ go e h) ++ cond e [] cs
  go e (made f g) = go e g
  go e (here f g) = go e g
  go e (loop look cs more step s g) = (go e s ++ go e g) ++ cond look (where_holds e cs) (cond e [] cs)
  go e (chain cs f g o) = (go e g ++ (go e g ++ where_holds (null al e g) (go e o))) ++ cond e [] cs
  go e (rec k f) = cond e [] (G k)
  go e (rec_not cs k f) = cond e [] (G k)

  -- it looks over newlines at its end
  abbrev pub far : {A : Type 0} → Grammar T N V A → Bool
  far (one cs f) = false
  far (empty v) = false
  far (both f g h) = far h
  far (either g h) = or (far g) (far h)
  far (ahead cs test g h) = or (far g) (far h)
  far (made f g) = far g
  far (here f g) = far g
  far (loop look cs more step s g) = look
  far (chain cs f g o) = false
  far (rec k f) = false
  far (rec_not cs k f) = false

  -- first tokens that are taken
  abbrev pub sure : {A : Type 0} → Grammar T N V A → List Sort
  sure (one cs f) = cs
  sure (empty v) = []
  sure (both f g h) = where_holds (not (null al false g)) (sure g)
  sure (either g h) = sure g ++ outside (first al F false g) (sure h)
  sure (ahead cs test g h) = sure h
  sure (made f g) = sure g
  sure (here f g) = sure g
  sure (loop look cs more step s g) = where_holds (not (null al false s)) (sure s)
  sure (chain cs f g o) = where_holds (not (null al false g)) (sure g)
  sure (rec k f) = F k
  sure (rec_not cs k f) = outside cs (F k)

  -- each name stands behind a token
  abbrev pub guarded : {A : Type 0} → Grammar T N V A → Bool
  guarded (one cs f) = true
  guarded (empty v) = true
  guarded (both f g h) = and (guarded g) (or (not (null al false g)) (guarded h))
  guarded (either g h) = and (guarded g) (guarded h)
  guarded (ahead cs test g h) = and (guarded g) (guarded h)
  guarded (made f g) = guarded g
  guarded (here f g) = guarded g
  guarded (loop look cs more step s g) = and (guarded s) (or (not (null al false s)) (guarded g))
  guarded (chain cs f g o) = and (guarded g) (or (not (null al false g)) (and (guarded o) (or (not (null al false o)) (guarded g))))
  guarded (rec k f) = false
  guarded (rec_not cs k f) = false

  abbrev pub sets : {A : Type 0} → Grammar T N V A → Sets
  sets g = record { first = λ e. first al F e g; null = λ e. null al e g; go = λ e. go e g; far = far g; sure = sure g }

  abbrev pub name_sets : N → Sets
  name_sets k = record { first = λ e. F k; null = λ e. false; go = λ e. cond e [] (G k); far = false; sure = F k }

  -- how many tokens may be left, where a name may read n
  abbrev pub room : {A : Type 0} → ℕ → Grammar T N V A → ℕ
  room n g = cond (guarded g) (suc n) n

  -- all of these are among those
  abbrev pub subset : List Sort → List Sort → Bool
  subset [] ds = true
  subset (c ∷ cs) ds = and (among c ds) (subset cs ds)

  abbrev pub Lines : {A : Type 0} → List Sort → ((c : Sort) → Type 0) → Grammar T N V A → Type 0
  Lines {A} cs More g = (among al.line cs ≡ true) × More al.line × ((m : ℕ) (E : (k : N) → List T → Read T (V k)) (t u : T) (ts : List T) → same (al.sort_of t) al.line ≡ true → same (al.sort_of u) al.line ≡ true → (y : A) × (read al F m E g (t ∷ u ∷ ts) ≡ got y (u ∷ ts)))

  -- what else is known of the names
  module _ (Also : ℕ → (ℕ → Rules T N V) → ((k : N) → List T → Read T (V k)) → Type 0) where
    -- the rules and readers of names
    pub record Env (n n' : ℕ) (L : ℕ → Rules T N V) (E E' : (k : N) → List T → Read T (V k)) : Type 0 where
      pub law : (k : N) → Law al (name_sets k) n n n' (λ h. L h k) (E k) (E' k)
      pub also : Also n L E
      pub opens : (k : N) (r : List T) → (t : T) × (w : List T) × (a : V k) × (al.sort_of t ≡ opening k) × L (suc n) k (t ∷ (w ++ r)) a r

    -- the test tells the two apart, whatever the names
    abbrev pub Aheads : {A : Type 0} → List Sort → (List T → Bool) → Grammar T N V A → Grammar T N V A → Type 1
    Aheads cs test g h =
        (n n' m m' : ℕ) (L : ℕ → Rules T N V) (E E' : (k : N) → List T → Read T (V k)) → Env n n' L E E' → suc n ≤ m → suc n' ≤ m'
        → (lg : Law al (sets g) n (cond (and (guarded g) (guarded h)) (suc n) n) (cond (and (guarded g) (guarded h)) (suc n') n') (λ h. Derives al (L h) g) (read al F m E g) (read al F m' E' g))
        (lh : Law al (sets h) n (cond (and (guarded g) (guarded h)) (suc n) n) (cond (and (guarded g) (guarded h)) (suc n') n') (λ k. Derives al (L k) h) (read al F m E h) (read al F m' E' h))
        → Tells al (sets g) (sets h) n (cond (and (guarded g) (guarded h)) (suc n) n) (cond (and (guarded g) (guarded h)) (suc n') n') (λ h. Derives al (L h) g) (λ k. Derives al (L k) h) (read al F m E g) (read al F m' E' g) (read al F m E h) (read al F m' E' h) lg lh cs test

    -- the grammar can be read with one token before one's eyes
    abbrev pub Fits : {A : Type 0} → Grammar T N V A → Type 1
    Fits (one [] f) = Lift ⊥
    Fits (one (c ∷ cs) f) = Lift ((among (al.sort_of (al.sample c)) (c ∷ cs) ≡ true) × (among al.last (c ∷ cs) ≡ false))
    Fits (empty v) = Lift (Unit {0})
    Fits (both f g h) = Fits g × Fits h × Lift (Apart (λ e. first al F e h) (λ e. go e g) × (far g ≡ false))
    Fits (either g h) = Fits g × Fits h × Lift ((null al false g ≡ false) × (apart (first al F false h) (first al F false g) ≡ true))
    Fits (ahead cs test g h) =
        Fits g × Fits h × Aheads cs test g h
    Fits (made f g) = Fits g
    Fits (here f g) = Fits g × Lift (null al false g ≡ false)
    Fits (loop look cs more step s g) =
        Fits s × Fits g × Lift ((null al false g ≡ false) × (look ≡ true → (among al.line (first al F false g) ≡ false) × (same al.line al.last ≡ false)) × (subset cs (sure g) ≡ true)
        × Apart (λ e. where_holds (and look (not e)) (al.line ∷ []) ++ first al F e g) (λ e. go e g) × Apart (λ e. where_holds (and look (not e)) (al.line ∷ []) ++ first al F e g) (λ e. go e s)
        × (((far s ≡ false) × (far g ≡ false)) ⊎ ((look ≡ false) × Lines cs (λ l. (c : _) → more c l ≡ true) g)))
    Fits (chain cs f g o) =
        Fits g × Fits o × Lift ((null al false o ≡ false) × (subset cs (sure o) ≡ true) × (far g ≡ false) × (far o ≡ false) × Apart (λ e. first al F e g) (λ e. go e o)
        × Apart (λ e. first al F e o ++ where_holds (null al e o) (first al F e g)) (λ e. go e g ++ where_holds (null al e g) (go e o)) × Apart (λ e. first al F e o ++ where_holds (null al e o) (first al F e g)) (λ e. go e g))
    Fits (rec k f) = Lift (Unit {0})
    Fits (rec_not cs k f) = Lift ((among (opening k) cs ≡ false) × (among al.line (F k) ≡ false))
