-- What is printed of a part of a tree: a text that spells tokens between brackets, and from which the grammar derives the part.
use Rattle.std.proofs.Common.{◌≡◌, ℕ, zero, suc, ◌+◌, ◌≤◌, List, [], ◌∷◌, ◌++◌, Bool, true, false, cond, not, refl, sym, ap, ◌∙◌, subst, inl, inr, arith, append_assoc}
use Rattle.std.specs.Prelude.{nat_eq}
use Rattle.std.proofs.lemmas.Bool.Decides.{nat_tests}
use Rattle.std.specs.Str.{IsUtf8}
use Rattle.std.proofs.lemmas.Str.{IsUtf8-append, IsUtf8-nil}
use Rattle.site_base.specs.declared.place.Place.{Place}
use Rattle.dsl_lexer.specs.Brackets.{keeps, opened}
use Rattle.dsl_lexer.specs.Places.{place_behind, after}
use Rattle.dsl_lexer.specs.Tokens.{blank, IsToken, Lexes, passes, takes, token}
use Rattle.dsl_lexer.specs.declared.sign.Sign.{Sign}
use Rattle.dsl_lexer.specs.declared.sign.Sign.TheVariants as signs
use Rattle.dsl_lexer.specs.declared.token.Token.{Token}
use Rattle.dsl_lexer.specs.declared.token_kind.TokenKind.{TokenKind}
use Rattle.dsl_rules.specs.Alphabet.{Sort, sort, among, at}
use Rattle.dsl_rules.specs.Grammar.{Derives, one, empty, both, either, ahead, made, here, rec, rec_not}
use Rattle.dsl_grammar.specs.Codes.{sorts, kind_sort, sign_sort}
use Rattle.dsl_grammar.specs.Terms.{Name, Value, Rule}
use Rattle.dsl_grammar.specs.Grammar.{names, production}
use Rattle.dsl_print.proofs.Ascii.{ascii_utf8}

pub self_among : (s : Sort) → among s (s ∷ []) ≡ true
self_among (sort a b) = let x : nat_eq a a ≡ true = grind (arith, nat_tests) in let y : nat_eq b b ≡ true = grind (arith, nat_tests) in ap (λ z. cond (cond z (nat_eq b b) false) true false) x ∙ ap (λ z. cond z true false) y

-- how tokens begin
pub data Front : Type 0 where
  anything some no_brace : Front
  one_of : List Sort → Front

abbrev pub opens : Front → List Token → Bool
opens anything ts = true
opens some [] = false
opens some (t ∷ ts) = true
opens no_brace [] = false
opens no_brace (t ∷ ts) = not (among (sorts.sort_of t) (sign_sort signs.OpenBrace ∷ []))
opens (one_of cs) ts = at sorts cs ts

-- at a place, between these brackets and those, before this rest: the text spells tokens from which the rule derives a
-- value that is as wanted, whatever follows, at each height from some on
pub record Printed {A : Type 0} (b c : List Sign) (g : Rule A) (V : A → Type 0) (f : Front) (text rest : List ℕ) (p : Place) : Type 0 where
  pub front : List Token
  pub value : A
  pub low : ℕ
  pub spells : (more : List Token) → Lexes (place_behind text p) c rest more → Lexes p b (text ++ rest) (front ++ more)
  pub derives : (h : ℕ) → low ≤ h → (more : List Token) → Derives sorts (names h) g (front ++ more) value more
  pub is : V value
  pub starts : opens f front ≡ true
  pub utf8 : IsUtf8 text

abbrev pub Prints : {A : Type 0} → List Sign → List Sign → Rule A → (A → Type 0) → Front → List ℕ → List ℕ → Type 0
Prints b c g V f text rest = (p : Place) → Printed b c g V f text rest p

-- the place behind two texts
pub behind_both : (x y : List ℕ) (p : Place) → place_behind (x ++ y) p ≡ place_behind y (place_behind x p)
behind_both [] y p = refl
behind_both (a ∷ x) y p = behind_both x y (after a p)

-- tokens begin as their front does
pub opens_more : (f : Front) (x y : List Token) → opens f x ≡ true → opens f (x ++ y) ≡ true
opens_more anything x y e = refl
opens_more some [] y e = absurd cc
opens_more some (t ∷ x) y e = refl
opens_more no_brace [] y e = absurd cc
opens_more no_brace (t ∷ x) y e = e
opens_more (one_of cs) [] y e = absurd cc
opens_more (one_of cs) (t ∷ x) y e = e

-- there is a token
abbrev pub has_some : Front → Bool
has_some anything = false
has_some f = true

pub opens_some : (f : Front) (x : List Token) → has_some f ≡ true → opens f x ≡ true → opens some x ≡ true
opens_some anything x n e = absurd cc
opens_some some x n e = e
opens_some no_brace [] n e = absurd cc
opens_some no_brace (t ∷ x) n e = refl
opens_some (one_of cs) [] n e = absurd cc
opens_some (one_of cs) (t ∷ x) n e = refl

pub first_token : (x : List Token) → opens some x ≡ true → (t : Token) × (y : List Token) × (x ≡ t ∷ y)
first_token [] e = absurd cc
first_token (t ∷ y) e = (t, y, refl)

not_is : (p : Bool) → not p ≡ true → p ≡ false
not_is true e = absurd cc
not_is false e = refl

pub not_brace : (x more : List Token) → opens no_brace x ≡ true → at sorts (sign_sort signs.OpenBrace ∷ []) (x ++ more) ≡ false
not_brace [] more e = absurd cc
not_brace (t ∷ x) more e = not_is (among (sorts.sort_of t) (sign_sort signs.OpenBrace ∷ [])) e

-- a name stands for its production one height above
pub deeper : (k : Name) (x : List Token) (v : Value k) (low : ℕ) → ((h : ℕ) → low ≤ h → (more : List Token) → Derives sorts (names h) (production k) (x ++ more) v more) → (h : ℕ) → suc low ≤ h → (more : List Token) → names h k (x ++ more) v more
deeper k x v low d zero le more = absurd (omega (arith, le))
deeper k x v low d (suc h) le more = d h (omega (arith, le)) more

-- one text behind the other
pub spells_both : (b c d : List Sign) (x y rest : List ℕ) (p : Place) (s t : List Token) → ((more : List Token) → Lexes (place_behind x p) c (y ++ rest) more → Lexes p b (x ++ (y ++ rest)) (s ++ more))
    → ((more : List Token) → Lexes (place_behind y (place_behind x p)) d rest more → Lexes (place_behind x p) c (y ++ rest) (t ++ more))
    → (more : List Token) → Lexes (place_behind (x ++ y) p) d rest more → Lexes p b ((x ++ y) ++ rest) ((s ++ t) ++ more)
spells_both b c d x y rest p s t f g more l =
    subst (λ u. Lexes p b u ((s ++ t) ++ more)) (sym (append_assoc x y rest))
    (subst (λ u. Lexes p b (x ++ (y ++ rest)) u) (sym (append_assoc s t more))
    (f (t ++ more) (g more (subst (λ q. Lexes q d rest more) (behind_both x y p) l))))

module _ {b c : List Sign} {o : Front} where
  -- one after the other
  pub prints_both : {A B C : Type 0} {d : List Sign} {f : A → B → C} {g : Rule A} {h : Rule B} {V : A → Type 0} {W : B → Type 0} {X : C → Type 0} {o' : Front} (x y rest : List ℕ)
      → Prints b c g V o x (y ++ rest) → Prints c d h W o' y rest → ((v : A) (w : B) → V v → W w → X (f v w)) → Prints b d (both f g h) X o (x ++ y) rest
  prints_both {d = d} {f = f} {g = g} {h = r} x y rest P Q k p =
      let u = P p in
      let w = Q (place_behind x p) in record {
        front = u.front ++ w.front;
        value = f u.value w.value;
        low = u.low + w.low;
        spells = spells_both b c d x y rest p u.front w.front u.spells w.spells;
        derives = λ h le more. subst (λ ts. Derives sorts (names h) (both f g r) ts (f u.value w.value) more) (sym (append_assoc u.front w.front more))
            (w.front ++ more, u.value, w.value, u.derives h (omega (arith, le)) (w.front ++ more), w.derives h (omega (arith, le)) more, refl);
        is = k u.value w.value u.is w.is;
        starts = opens_more o u.front w.front u.starts;
        utf8 = IsUtf8-append x y u.utf8 w.utf8;
      }

  pub prints_made : {A B : Type 0} {f : A → B} {g : Rule A} {V : A → Type 0} {X : B → Type 0} (x rest : List ℕ) → Prints b c g V o x rest → ((v : A) → V v → X (f v)) → Prints b c (made f g) X o x rest
  prints_made {f = f} x rest P k p =
      let u = P p in record {
        front = u.front;
        value = f u.value;
        low = u.low;
        spells = u.spells;
        derives = λ h le more. (u.value, u.derives h le more, refl);
        is = k u.value u.is;
        starts = u.starts;
        utf8 = u.utf8;
      }

  -- one or the other
  pub prints_left : {A : Type 0} {g h : Rule A} {V : A → Type 0} (x rest : List ℕ) → Prints b c g V o x rest → Prints b c (either g h) V o x rest
  prints_left x rest P p =
      let u = P p in record {
        front = u.front;
        value = u.value;
        low = u.low;
        spells = u.spells;
        derives = λ h le more. inl (u.derives h le more);
        is = u.is;
        starts = u.starts;
        utf8 = u.utf8;
      }

  pub prints_right : {A : Type 0} {g h : Rule A} {V : A → Type 0} (x rest : List ℕ) → Prints b c h V o x rest → Prints b c (either g h) V o x rest
  prints_right x rest P p =
      let u = P p in record {
        front = u.front;
        value = u.value;
        low = u.low;
        spells = u.spells;
        derives = λ h le more. inr (u.derives h le more);
        is = u.is;
        starts = u.starts;
        utf8 = u.utf8;
      }

  pub prints_ahead_left : {A : Type 0} {cs : List Sort} {test : List Token → Bool} {g h : Rule A} {V : A → Type 0} (x rest : List ℕ) → Prints b c g V o x rest → Prints b c (ahead cs test g h) V o x rest
  prints_ahead_left x rest P p =
      let u = P p in record {
        front = u.front;
        value = u.value;
        low = u.low;
        spells = u.spells;
        derives = λ h le more. inl (u.derives h le more);
        is = u.is;
        starts = u.starts;
        utf8 = u.utf8;
      }

  pub prints_ahead_right : {A : Type 0} {cs : List Sort} {test : List Token → Bool} {g h : Rule A} {V : A → Type 0} (x rest : List ℕ) → Prints b c h V o x rest → Prints b c (ahead cs test g h) V o x rest
  prints_ahead_right x rest P p =
      let u = P p in record {
        front = u.front;
        value = u.value;
        low = u.low;
        spells = u.spells;
        derives = λ h le more. inr (u.derives h le more);
        is = u.is;
        starts = u.starts;
        utf8 = u.utf8;
      }

  -- what is made of the value and the first token, of which it is known how it begins
  pub prints_here_at : {A B : Type 0} {f : Token → A → B} {g : Rule A} {V : A → Type 0} {X : B → Type 0} (x rest : List ℕ) → has_some o ≡ true → Prints b c g V o x rest → ((t : Token) (ts : List Token) (v : A) → opens o (t ∷ ts) ≡ true → V v → X (f t v)) → Prints b c (here f g) X o x rest
  prints_here_at {f = f} {g = g} x rest n P k p =
      let u = P p in
      let s = first_token u.front (opens_some o u.front n u.starts) in record {
        front = u.front;
        value = f s.0 u.value;
        low = u.low;
        spells = u.spells;
        derives = λ h le more. subst (λ ts. Derives sorts (names h) (here f g) (ts ++ more) (f s.0 u.value) more) (sym s.2)
            (u.value, subst (λ ts. Derives sorts (names h) g (ts ++ more) u.value more) s.2 (u.derives h le more), refl);
        is = k s.0 s.1 u.value (subst (λ ts. opens o ts ≡ true) s.2 u.starts) u.is;
        starts = u.starts;
        utf8 = u.utf8;
      }

  pub prints_here : {A B : Type 0} {f : Token → A → B} {g : Rule A} {V : A → Type 0} {X : B → Type 0} (x rest : List ℕ) → has_some o ≡ true → Prints b c g V o x rest → ((t : Token) (v : A) → V v → X (f t v)) → Prints b c (here f g) X o x rest
  prints_here x rest n P k = prints_here_at x rest n P (λ t ts v e i. k t v i)

  -- what a name stands for
  pub prints_rec : {A : Type 0} {k : Name} {f : Value k → A} {V : Value k → Type 0} {X : A → Type 0} (x rest : List ℕ) → Prints b c (production k) V o x rest → ((v : Value k) → V v → X (f v)) → Prints b c (rec k f) X o x rest
  prints_rec {k = k} {f = f} x rest P i p =
      let u = P p in record {
        front = u.front;
        value = f u.value;
        low = suc u.low;
        spells = u.spells;
        derives = λ h le more. (u.value, deeper k u.front u.value u.low u.derives h le more, refl);
        is = i u.value u.is;
        starts = u.starts;
        utf8 = u.utf8;
      }

  -- a blank in front
  pub prints_blank : {A : Type 0} {g : Rule A} {V : A → Type 0} (x rest : List ℕ) → Prints b c g V o x rest → Prints b c g V o (32 ∷ x) rest
  prints_blank x rest P p =
      let u = P (after 32 p) in record {
        front = u.front;
        value = u.value;
        low = u.low;
        spells = λ more l. passes (blank 32) (32 ∷ []) (x ++ rest) refl (refl, refl) (u.spells more l);
        derives = u.derives;
        is = u.is;
        starts = u.starts;
        utf8 = IsUtf8-append (32 ∷ []) x (ascii_utf8 (32 ∷ []) refl) u.utf8;
      }

  -- of less that is wanted, and of another spelling of the same text
  pub prints_wide : {A : Type 0} {g : Rule A} {V : A → Type 0} (o' : Front) (x rest : List ℕ) → ((ts : List Token) → opens o ts ≡ true → opens o' ts ≡ true) → Prints b c g V o x rest → Prints b c g V o' x rest
  prints_wide o' x rest k P p =
      let u = P p in record {
        front = u.front;
        value = u.value;
        low = u.low;
        spells = u.spells;
        derives = u.derives;
        is = u.is;
        starts = k u.front u.starts;
        utf8 = u.utf8;
      }

-- what a name stands for, where its first token is no brace
pub prints_rec_not : {A : Type 0} {b c : List Sign} {k : Name} {f : Value k → A} {V : Value k → Type 0} {X : A → Type 0} (x rest : List ℕ) → Prints b c (production k) V no_brace x rest → ((v : Value k) → V v → X (f v))
    → Prints b c (rec_not (sign_sort signs.OpenBrace ∷ []) k f) X no_brace x rest
prints_rec_not {k = k} {f = f} x rest P i p =
    let u = P p in record {
      front = u.front;
      value = f u.value;
      low = suc u.low;
      spells = u.spells;
      derives = λ h le more. (u.value, (not_brace u.front more u.starts, deeper k u.front u.value u.low u.derives h le more), refl);
      is = i u.value u.is;
      starts = u.starts;
      utf8 = u.utf8;
    }

-- nothing
pub prints_empty : {A : Type 0} {b : List Sign} {v : A} {V : A → Type 0} (rest : List ℕ) → V v → Prints b b (empty v) V anything [] rest
prints_empty {v = v} rest i p = record {
  front = [];
  value = v;
  low = 0;
  spells = λ more l. l;
  derives = λ h le more. (refl, refl);
  is = i;
  starts = refl;
  utf8 = IsUtf8-nil;
}

-- one token
pub prints_one : {A : Type 0} {b : List Sign} {f : Token → A} {cs : List Sort} {V : A → Type 0} (k : TokenKind) (x rest : List ℕ) → IsToken (keeps b) k x rest → among (kind_sort k) cs ≡ true → ((p : Place) → V (f (token p k))) → IsUtf8 x
    → Prints b (opened k b) (one cs f) V (one_of (kind_sort k ∷ [])) x rest
prints_one {f = f} k x rest t m i e p = record {
  front = token p k ∷ [];
  value = f (token p k);
  low = 0;
  spells = λ more l. takes k x rest refl t l;
  derives = λ h le more. (m, refl, refl);
  is = i p;
  starts = self_among (kind_sort k);
  utf8 = e;
}

pub prints_text : {A : Type 0} {b c : List Sign} {g : Rule A} {V : A → Type 0} {o : Front} (x y rest : List ℕ) → x ≡ y → Prints b c g V o x rest → Prints b c g V o y rest
prints_text {b = b} {c = c} {g = g} {V = V} {o = o} x y rest e P = subst (λ z. Prints b c g V o z rest) e P

pub prints_brackets : {A : Type 0} {b c d : List Sign} {g : Rule A} {V : A → Type 0} {o : Front} (x rest : List ℕ) → c ≡ d → Prints b c g V o x rest → Prints b d g V o x rest
prints_brackets {b = b} {g = g} {V = V} {o = o} x rest e P = subst (λ z. Prints b z g V o x rest) e P

-- before another spelling of the same rest
pub prints_rest : {A : Type 0} {b c : List Sign} {g : Rule A} {V : A → Type 0} {o : Front} {rest other : List ℕ} (x : List ℕ) → rest ≡ other → Prints b c g V o x other → Prints b c g V o x rest
prints_rest {b = b} {c = c} {g = g} {V = V} {o = o} x e P = subst (λ z. Prints b c g V o x z) (sym e) P
