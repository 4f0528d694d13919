-- Loops of what is printed: one thing, and then turns.
use Rattle.std.proofs.Common.{◌≡◌, ℕ, ◌+◌, ◌≤◌, List, [], ◌∷◌, ◌++◌, Bool, true, false, cond, refl, sym, ap, ◌∙◌, subst, arith, append_assoc, append-nil}
use Rattle.std.proofs.lemmas.Bool.Decides.{nat_tests}
use Rattle.std.specs.Prelude.{nat_eq}
use Rattle.std.specs.Str.{IsUtf8}
use Rattle.std.proofs.lemmas.Str.{IsUtf8-append, IsUtf8-nil}
use Rattle.site_base.specs.declared.place.Place.{Place}
use Rattle.dsl_lexer.specs.Places.{place_behind}
use Rattle.dsl_lexer.specs.Tokens.{Lexes}
use Rattle.dsl_lexer.specs.declared.sign.Sign.{Sign}
use Rattle.dsl_lexer.specs.declared.token.Token.{Token}
use Rattle.dsl_rules.specs.Alphabet.{Sort, sort, same, among, at, skip, over, and}
use Rattle.dsl_rules.specs.Grammar.{Derives, both, loop, chain, always, fold_pair, pair}
use Rattle.dsl_rules.specs.Rules.{Turns, may}
use Rattle.dsl_grammar.specs.Codes.{sorts, line_sort}
use Rattle.dsl_grammar.specs.Terms.{Rule}
use Rattle.dsl_grammar.specs.Grammar.{names}
use Rattle.dsl_print.proofs.Printed.{Front, one_of, opens_more, Prints, spells_both}

-- turns behind a value that stands already
pub record Further {A C : Type 0} (b c : List Sign) (look : Bool) (cs : List Sort) (go : C → Sort → Bool) (step : C → A → C) (g : Rule A) (X : C → Type 0) (text rest : List ℕ) (a : C) (p : Place) : Type 0 where
  pub front : List Token
  pub value : C
  pub low : ℕ
  pub spells : (more : List Token) → Lexes (place_behind text p) c rest more → Lexes p b (text ++ rest) (front ++ more)
  pub turns : (h : ℕ) → low ≤ h → (more : List Token) → (xs : List A) × Turns sorts look cs go step (Derives sorts (names h) g) xs a (front ++ more) value more
  pub is : X value
  pub utf8 : IsUtf8 text

-- a sort among one
pub one_sort : (k s : Sort) → among k (s ∷ []) ≡ true → k ≡ s
one_sort (sort a b) (sort c d) e = by (nat_eq a c) refl (nat_eq b d) refl e
  where
    by : (m : Bool) → nat_eq a c ≡ m → (n : Bool) → nat_eq b d ≡ n → cond (cond m n false) true false ≡ true → sort a b ≡ sort c d
    by true m true n e = let x : a ≡ c = grind (arith, nat_tests) in let y : b ≡ d = grind (arith, nat_tests) in ap (λ z. sort z b) x ∙ ap (sort c) y
    by true m false n e = absurd cc
    by false m n o e = absurd cc

-- a turn is taken at tokens that begin with this sort
turn_here : {C : Type 0} (look : Bool) (cs : List Sort) (go : C → Sort → Bool) (a : C) (s : Sort) (x more : List Token) → at sorts (s ∷ []) x ≡ true → among s cs ≡ true → go a s ≡ true → cond look (same s line_sort) false ≡ false
    → (over sorts look (x ++ more) ≡ x ++ more) × (may sorts cs (go a) (x ++ more) ≡ true)
turn_here look cs go a s [] more e m g l = absurd cc
turn_here look cs go a s (t ∷ x) more e m g l =
    let is : sorts.sort_of t ≡ s = one_sort (sorts.sort_of t) s e in
    (over_is look (subst (λ z. cond look (same z line_sort) false ≡ false) (sym is) l), subst (λ z. and (among z cs) (go a z) ≡ true) (sym is) (ap (λ z. and z (go a s)) m ∙ g))
  where
    over_is : (look : Bool) → cond look (same (sorts.sort_of t) line_sort) false ≡ false → over sorts look ((t ∷ x) ++ more) ≡ (t ∷ x) ++ more
    over_is true l = ap (λ z. cond z (skip sorts (x ++ more)) ((t ∷ x) ++ more)) l
    over_is false l = refl

module _ {A C : Type 0} {b : List Sign} {look : Bool} {cs : List Sort} {go : C → Sort → Bool} {step : C → A → C} {g : Rule A} {X : C → Type 0} where
  pub turns_end : (rest : List ℕ) (a : C) → X a → (p : Place) → Further b b look cs go step g X [] rest a p
  turns_end rest a i p = record {
    front = [];
    value = a;
    low = 0;
    spells = λ more l. l;
    turns = λ h le more. ([], (refl, refl));
    is = i;
    utf8 = IsUtf8-nil;
  }

  -- one turn more, which begins with a token of this sort
  pub turns_more : {c d : List Sign} {W : A → Type 0} (s : Sort) (x y rest : List ℕ) (a : C) → among s cs ≡ true → go a s ≡ true → cond look (same s line_sort) false ≡ false
      → Prints b c g W (one_of (s ∷ [])) x (y ++ rest) → ((v : A) → W v → (p : Place) → Further c d look cs go step g X y rest (step a v) p) → (p : Place) → Further b d look cs go step g X (x ++ y) rest a p
  turns_more {c = c} {d = d} s x y rest a m e l P Q p =
      let u = P p in
      let w = Q u.value u.is (place_behind x p) in record {
        front = u.front ++ w.front;
        value = w.value;
        low = u.low + w.low;
        spells = spells_both b c d x y rest p u.front w.front u.spells w.spells;
        turns = λ h le more. (
            let k = w.turns h (omega (arith, le)) more in
            let o = turn_here look cs go a s u.front (w.front ++ more) u.starts m e l in (
              u.value ∷ k.0,
              subst (λ ts. Turns sorts look cs go step (Derives sorts (names h) g) (u.value ∷ k.0) a ts w.value more) (sym (append_assoc u.front w.front more))
                  (w.front ++ more, subst (λ ts. may sorts cs (go a) ts ≡ true) (sym o.0) o.1, subst (λ ts. Derives sorts (names h) g ts u.value (w.front ++ more)) (sym o.0) (u.derives h (omega (arith, le)) (w.front ++ more)), k.1),
            ));
        is = w.is;
        utf8 = IsUtf8-append x y u.utf8 w.utf8;
      }

  -- one last turn
  pub turns_last : {c : List Sign} {W : A → Type 0} (s : Sort) (x rest : List ℕ) (a : C) → among s cs ≡ true → go a s ≡ true → cond look (same s line_sort) false ≡ false
      → Prints b c g W (one_of (s ∷ [])) x rest → ((v : A) → W v → X (step a v)) → (p : Place) → Further b c look cs go step g X x rest a p
  turns_last {c = c} s x rest a m e l P k p = subst (λ z. Further b c look cs go step g X z rest a p) (append-nil x) (turns_more s x [] rest a m e l P (λ v i q. end (step a v) (k v i) q) p)
    where
      end : (d : C) → X d → (q : Place) → Further c c look cs go step g X [] rest d q
      end d i q = record {
        front = [];
        value = d;
        low = 0;
        spells = λ more l. l;
        turns = λ h le more. ([], (refl, refl));
        is = i;
        utf8 = IsUtf8-nil;
      }

  -- one thing, and the turns behind it
  pub prints_loop : {c d : List Sign} {s : Rule C} {V : C → Type 0} {o : Front} (x y rest : List ℕ) → Prints b c s V o x (y ++ rest) → ((a : C) → V a → (p : Place) → Further c d look cs go step g X y rest a p) → Prints b d (loop look cs go step s g) X o (x ++ y) rest
  prints_loop {c = c} {d = d} {s = s} {o = o} x y rest P Q p =
      let u = P p in
      let w = Q u.value u.is (place_behind x p) in record {
        front = u.front ++ w.front;
        value = w.value;
        low = u.low + w.low;
        spells = spells_both b c d x y rest p u.front w.front u.spells w.spells;
        derives = λ h le more. (
            let k = w.turns h (omega (arith, le)) more in
            subst (λ ts. Derives sorts (names h) (loop look cs go step s g) ts w.value more) (sym (append_assoc u.front w.front more))
            (w.front ++ more, u.value, k.0, u.derives h (omega (arith, le)) (w.front ++ more), k.1));
        is = w.is;
        starts = opens_more o u.front w.front u.starts;
        utf8 = IsUtf8-append x y u.utf8 w.utf8;
      }

  -- one thing alone
  pub prints_once : {c : List Sign} {s : Rule C} {o : Front} (x rest : List ℕ) → Prints b c s X o x rest → Prints b c (loop look cs go step s g) X o x rest
  prints_once x rest P p =
      let u = P p in record {
        front = u.front;
        value = u.value;
        low = u.low;
        spells = u.spells;
        derives = λ h le more. (more, u.value, [], u.derives h le more, (refl, refl));
        is = u.is;
        starts = u.starts;
        utf8 = u.utf8;
      }

-- operands between operators are a loop of operators with operands
pub prints_chain : {A B : Type 0} {b c : List Sign} {cs : List Sort} {f : A → B → A → A} {g : Rule A} {o : Rule B} {V : A → Type 0} {r : Front} (x rest : List ℕ) → Prints b c (loop false cs always (fold_pair f) g (both pair o g)) V r x rest → Prints b c (chain cs f g o) V r x rest
prints_chain x rest P p =
    let u = P p in record {
      front = u.front;
      value = u.value;
      low = u.low;
      spells = u.spells;
      derives = u.derives;
      is = u.is;
      starts = u.starts;
      utf8 = u.utf8;
    }
