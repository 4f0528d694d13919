-- What each derivation keeps: of good tokens it makes a good value, and leaves good tokens.
use Rattle.std.proofs.Common.{◌≡◌, ℕ, List, [], ◌∷◌, Bool, true, false, cond, refl, subst, inl, inr}
use Rattle.std.specs.Str.{IsUtf8}
use Rattle.site_base.specs.declared.place.Place.{Place}
use Rattle.dsl_lexer.specs.Lists.{HasTokens}
use Rattle.dsl_lexer.specs.Tokens.{IsToken, Lexes, ends, passes, takes}
use Rattle.dsl_lexer.specs.declared.sign.Sign.{Sign}
use Rattle.dsl_lexer.specs.declared.token.Token.{Token}
use Rattle.dsl_lexer.specs.declared.token_kind.TokenKind.{TokenKind}
use Rattle.dsl_lexer.specs.declared.token_kind.TokenKind.TheVariants as kinds
use Rattle.dsl_rules.specs.Alphabet.{Sort, same, among, skip, over}
use Rattle.dsl_rules.specs.Grammar.{Rules, Derives, one, empty, both, either, ahead, made, here, loop, chain, rec, rec_not, Pair, pair, left, right, always, fold_pair}
use Rattle.dsl_rules.specs.Rules.{Rule as RuleOf, Turns}
use Rattle.dsl_grammar.specs.Codes.{sorts, line_sort}
use Rattle.dsl_grammar.specs.Terms.{Name, Value, Rule, behind, before, three, maybe, nl, listed, Turn, nothing, thing, add_turn, row_of}
use Rattle.dsl_print.proofs.Good.{IsIdent, IsAmount}

-- a token is good if it is a name that is no word, a number that some text stands for, a UTF-8 string, or of another kind
abbrev pub GoodTokenKind : TokenKind → Type 0
GoodTokenKind (kinds.Ident n) = IsIdent n
GoodTokenKind (kinds.Number z) = IsAmount z
GoodTokenKind (kinds.Str s) = IsUtf8 s
GoodTokenKind k = Unit {0}

abbrev pub GoodToken : Token → Type 0
GoodToken t = GoodTokenKind t.kind

abbrev pub GoodTokens : List Token → Type 0
GoodTokens [] = Unit {0}
GoodTokens (t ∷ ts) = GoodToken t × GoodTokens ts

-- what a text is as a token is good
token_good : (is_token : Bool) (k : TokenKind) (text rest : List ℕ) → IsToken is_token k text rest → GoodTokenKind k
token_good is_token (kinds.Ident n) text rest d = (d.1, d.2)
token_good is_token (kinds.Number z) text rest d = (text, d.0)
token_good is_token (kinds.Str s) text rest d = d.2
token_good is_token k text rest d = tt

-- so is all that a text has
lexes_good : {p : Place} {brackets : List Sign} {bytes : List ℕ} {tokens : List Token} → Lexes p brackets bytes tokens → GoodTokens tokens
lexes_good ends = (tt, tt)
lexes_good (passes gap text rest e is more) = lexes_good more
lexes_good (takes k text rest e is more) = (token_good _ k text rest is, lexes_good more)

-- the tokens of a file are good
pub lexed_good : (file : ℕ) (bytes : List ℕ) (tokens : List Token) → HasTokens file bytes tokens → GoodTokens tokens
lexed_good file bytes tokens h = lexes_good h.1

-- so are those behind newlines, whether they are passed over or not
skip_good : (ts : List Token) → GoodTokens ts → GoodTokens (skip sorts ts)
skip_good [] h = h
skip_good (t ∷ ts) h = by (skip_good ts h.1) (same (sorts.sort_of t) line_sort)
  where
    by : GoodTokens (skip sorts ts) → (b : Bool) → GoodTokens (cond b (skip sorts ts) (t ∷ ts))
    by again true = again
    by again false = h

over_good : (look : Bool) (ts : List Token) → GoodTokens ts → GoodTokens (over sorts look ts)
over_good true ts h = skip_good ts h
over_good false ts h = h

-- of good tokens, a rule makes a value of which this holds, and leaves good ones
pub record Keeps {A : Type 0} (L : Rules Token Name Value) (g : Rule A) (V : A → Type 0) : Type 0 where
  pub keeps : (ts : List Token) (a : A) (rest : List Token) → GoodTokens ts → Derives sorts L g ts a rest → V a × GoodTokens rest

-- nothing is said of it
abbrev pub Any : {A : Type 0} → A → Type 0
Any a = Unit {0}

-- it holds of a thing, where there is one
abbrev pub OfTurn : {A : Type 0} → (A → Type 0) → Turn A → Type 0
OfTurn V nothing = Unit {0}
OfTurn V (thing a) = V a

-- it holds of both
abbrev pub OfPair : {A B : Type 0} → (A → Type 0) → (B → Type 0) → Pair A B → Type 0
OfPair U V (pair a b) = U a × V b

-- what holds of a value so far holds at the end of the turns
turns_keep : {A C : Type 0} (look : Bool) (cs : List Sort) (more : C → Sort → Bool) (step : C → A → C) (R : RuleOf Token A) (V : C → Type 0) (W : A → Type 0)
    → ((ts : List Token) (a : A) (rest : List Token) → GoodTokens ts → R ts a rest → W a × GoodTokens rest) → ((c : C) (a : A) → V c → W a → V (step c a))
    → (xs : List A) (c d : C) (ts rest : List Token) → GoodTokens ts → V c → Turns sorts look cs more step R xs c ts d rest → V d × GoodTokens rest
turns_keep look cs more step R V W turn next [] c d ts rest good v r = (subst V r.0 v, subst GoodTokens r.1 good)
turns_keep look cs more step R V W turn next (x ∷ xs) c d ts rest good v (mid, may, t, turns) =
    let k = turn (over sorts look ts) x mid (over_good look ts good) t in
    turns_keep look cs more step R V W turn next xs (step c x) d mid rest k.1 (next c x v k.0) turns

module _ {L : Rules Token Name Value} where
  -- one token
  pub keeps_one : {A : Type 0} {cs : List Sort} {f : Token → A} {V : A → Type 0} → ((t : Token) → GoodToken t → among (sorts.sort_of t) cs ≡ true → V (f t)) → Keeps L (one cs f) V
  keeps_one {A} {cs} {f} {V} says = record { keeps = by }
    where
      by : (ts : List Token) (a : A) (rest : List Token) → GoodTokens ts → Derives sorts L (one cs f) ts a rest → V a × GoodTokens rest
      by [] a rest good d = absurd d
      by (t ∷ ts) a rest good d = (subst V d.1 (says t good.0 d.0), subst GoodTokens d.2 good.1)

  -- one token of which nothing is said
  pub keeps_token : {A : Type 0} {cs : List Sort} {f : Token → A} → Keeps L (one cs f) Any
  keeps_token = keeps_one (λ t good m. tt)

  -- nothing
  pub keeps_empty : {A : Type 0} {a : A} {V : A → Type 0} → V a → Keeps L (empty a) V
  keeps_empty {V = V} v = record { keeps = λ ts a rest good d. (subst V d.0 v, subst GoodTokens d.1 good) }

  -- one after the other
  pub keeps_both : {A B C : Type 0} {f : A → B → C} {g : Rule A} {h : Rule B} {U : A → Type 0} {V : B → Type 0} {W : C → Type 0} → Keeps L g U → Keeps L h V → ((a : A) (b : B) → U a → V b → W (f a b)) → Keeps L (both f g h) W
  keeps_both {f = f} {W = W} p q joins = record {
    keeps = λ ts c rest good d.
        let x = p.keeps ts d.1 d.0 good d.3 in
        let y = q.keeps d.0 d.2 rest x.1 d.4 in
        (subst W d.5 (joins d.1 d.2 x.0 y.0), y.1);
  }

  -- the second's value, and the first's
  pub keeps_behind : {A B : Type 0} {g : Rule A} {h : Rule B} {U : A → Type 0} {V : B → Type 0} → Keeps L g U → Keeps L h V → Keeps L (behind g h) V
  keeps_behind p q = keeps_both p q (λ a b u v. v)

  pub keeps_before : {A B : Type 0} {g : Rule A} {h : Rule B} {U : A → Type 0} {V : B → Type 0} → Keeps L g U → Keeps L h V → Keeps L (before g h) U
  keeps_before p q = keeps_both p q (λ a b u v. u)

  -- three, one after the other
  pub keeps_three : {A B C D : Type 0} (f : A → B → C → D) {g : Rule A} {h : Rule B} {i : Rule C} {U : A → Type 0} {V : B → Type 0} {W : C → Type 0} {X : D → Type 0}
      → Keeps L g U → Keeps L h V → Keeps L i W → ((a : A) (b : B) (c : C) → U a → V b → W c → X (f a b c)) → Keeps L (three f g h i) X
  keeps_three {B = B} {C} f {U = U} {V} {W} {X} p q r joins = keeps_both p (keeps_both {W = OfPair V W} q r (λ b c v w. (v, w))) by
    where
      by : (a : _) (y : Pair B C) → U a → OfPair V W y → X (f a (left y) (right y))
      by a (pair b c) u w = joins a b c u w.0 w.1

  -- one or the other
  pub keeps_either : {A : Type 0} {g h : Rule A} {V : A → Type 0} → Keeps L g V → Keeps L h V → Keeps L (either g h) V
  keeps_either {A} {g} {h} {V} p q = record { keeps = by }
    where
      by : (ts : List Token) (a : A) (rest : List Token) → GoodTokens ts → Derives sorts L (either g h) ts a rest → V a × GoodTokens rest
      by ts a rest good (inl d) = p.keeps ts a rest good d
      by ts a rest good (inr d) = q.keeps ts a rest good d

  -- one or the other, told apart by a test
  pub keeps_ahead : {A : Type 0} {cs : List Sort} {test : List Token → Bool} {g h : Rule A} {V : A → Type 0} → Keeps L g V → Keeps L h V → Keeps L (ahead cs test g h) V
  keeps_ahead p q = record { keeps = (keeps_either p q).keeps }

  -- what is made of a value
  pub keeps_made : {A B : Type 0} {f : A → B} {g : Rule A} {U : A → Type 0} {V : B → Type 0} → Keeps L g U → ((a : A) → U a → V (f a)) → Keeps L (made f g) V
  keeps_made {V = V} p makes = record {
    keeps = λ ts b rest good d. let x = p.keeps ts d.0 rest good d.1 in (subst V d.2 (makes d.0 x.0), x.1);
  }

  -- what is made of a value and its first token
  pub keeps_here : {A B : Type 0} {f : Token → A → B} {g : Rule A} {U : A → Type 0} {V : B → Type 0} → Keeps L g U → ((t : Token) (a : A) → U a → V (f t a)) → Keeps L (here f g) V
  keeps_here {A} {B} {f} {g} {U} {V} p makes = record { keeps = by }
    where
      by : (ts : List Token) (b : B) (rest : List Token) → GoodTokens ts → Derives sorts L (here f g) ts b rest → V b × GoodTokens rest
      by [] b rest good d = absurd d
      by (t ∷ ts) b rest good d = let x = p.keeps (t ∷ ts) d.0 rest good d.1 in (subst V d.2 (makes t d.0 x.0), x.1)

  -- at most one
  pub keeps_maybe : {A B : Type 0} {f : A → B} {none : B} {g : Rule A} {U : A → Type 0} {V : B → Type 0} → Keeps L g U → ((a : A) → U a → V (f a)) → V none → Keeps L (maybe f none g) V
  keeps_maybe p makes v = keeps_either (keeps_made p makes) (keeps_empty v)

  -- what holds of the first value, and of each that a turn makes
  pub keeps_loop : {A C : Type 0} {look : Bool} {cs : List Sort} {more : C → Sort → Bool} {step : C → A → C} {s : Rule C} {g : Rule A} {V : C → Type 0} {W : A → Type 0}
      → Keeps L s V → Keeps L g W → ((c : C) (a : A) → V c → W a → V (step c a)) → Keeps L (loop look cs more step s g) V
  keeps_loop {look = look} {cs} {more} {step} {s} {g} {V} {W} p q next = record {
    keeps = λ ts d rest good l.
        let x = p.keeps ts l.1 l.0 good l.3 in
        turns_keep look cs more step (Derives sorts L g) V W q.keeps next l.2 l.1 d l.0 rest x.1 x.0 l.4;
  }

  -- any number of newlines
  pub keeps_nl : Keeps L nl Any
  keeps_nl = keeps_loop (keeps_empty tt) (keeps_token) (λ c a v w. tt)

  -- things between commas
  pub keeps_listed : {A C : Type 0} {add : C → A → C} (none : C) {g : Rule A} {V : C → Type 0} {W : A → Type 0} → Keeps L g W → V none → ((c : C) (a : A) → V c → W a → V (add c a)) → Keeps L (listed add none g) V
  keeps_listed none p v adds = keeps_loop (keeps_made p (λ a w. adds none a v w)) (keeps_behind keeps_token p) adds

  -- things between separators
  pub keeps_row : {A C : Type 0} {seps : List Sort} {add : C → A → C} (none : C) {g : Rule (Turn A)} {V : C → Type 0} {W : A → Type 0} → Keeps L g (OfTurn W) → V none → ((c : C) (a : A) → V c → W a → V (add c a)) → Keeps L (row_of seps add none g) V
  keeps_row {A} {C} {seps} {add} none {g} {V} {W} p v adds = keeps_loop (keeps_made p (λ a w. by none a v w)) (keeps_behind keeps_token p) by
    where
      by : (c : C) (a : Turn A) → V c → OfTurn W a → V (add_turn add c a)
      by c nothing v w = v
      by c (thing a) v w = adds c a v w

  -- a thing, or none
  pub keeps_thing : {A : Type 0} {g : Rule A} {W : A → Type 0} → Keeps L g W → Keeps L (maybe thing nothing g) (OfTurn W)
  keeps_thing p = keeps_maybe p (λ a w. w) tt

  -- operands between operators
  pub keeps_chain : {A B : Type 0} {cs : List Sort} {f : A → B → A → A} {g : Rule A} {o : Rule B} {V : A → Type 0} → Keeps L g V → Keeps L o Any → ((a : A) (b : B) (c : A) → V a → V c → V (f a b c)) → Keeps L (chain cs f g o) V
  keeps_chain {A} {B} {cs} {f} {g} {o} {V} p q joins = record { keeps = (keeps_loop {look = false} {cs = cs} {more = always} {step = fold_pair f} p (keeps_both {f = pair} {W = OfPair Any V} q p (λ b a u v. (u, v))) by).keeps }
    where
      by : (a : A) (y : Pair B A) → V a → OfPair Any V y → V (fold_pair f a y)
      by a (pair b c) v w = joins a b c v w.1

  -- what a name stands for, where it does not begin with these
  pub keeps_rec_not : {A : Type 0} {cs : List Sort} {k : Name} {f : Value k → A} {U : Value k → Type 0} {V : A → Type 0} → Keeps L (rec k (λ a. a)) U → ((a : Value k) → U a → V (f a)) → Keeps L (rec_not cs k f) V
  keeps_rec_not {V = V} p makes = record {
    keeps = λ ts a rest good d. let x = p.keeps ts d.0 rest good (d.0, d.1.1, refl) in (subst V d.2 (makes d.0 x.0), x.1);
  }
