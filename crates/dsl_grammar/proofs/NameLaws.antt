-- The laws of the two names, which stand inside themselves.
use Rattle.std.proofs.Common.{◌≡◌, ◌≤◌, ℕ, zero, suc, List, [], ◌∷◌, ◌++◌, length, Bool, true, false, cond, Option, None, refl, sym, ap, ◌∙◌, subst, inl, inr, arith, length-append, append_assoc, true≢false}
use Rattle.dsl_lexer.specs.declared.token.Token.{Token}
use Rattle.dsl_lexer.specs.declared.word.Word.TheVariants as words
use Rattle.dsl_lexer.specs.declared.sign.Sign.TheVariants as signs
use Rattle.dsl_syntax.specs.Syntax.{Expression, expression, null, Statements, no_statements}
use Rattle.dsl_rules.specs.Alphabet.{Sort, same, among, over}
use Rattle.dsl_rules.specs.Rules.{One, Both}
use Rattle.dsl_rules.specs.Grammar.{Rules, Derives}
use Rattle.dsl_rules.specs.Reading.{Read, got, bad, read, one_read}
use Rattle.dsl_rules.proofs.Basics.{among_is, at_nothing, Opens, inner_append, over_append, put_before}
use Rattle.dsl_rules.proofs.Law.{Sets, Law, FreeAt, AliveAt, Quiet, put, got_bad}
use Rattle.dsl_rules.proofs.Single.{law_one, one_sets}
use Rattle.dsl_rules.proofs.Shape.{Env, room}
use Rattle.dsl_rules.proofs.Deep.{law}
use Rattle.dsl_grammar.specs.Codes.{sorts, word_sort, sign_sort, ident_sort}
use Rattle.dsl_grammar.specs.Terms.{Name, expr, block, Value, starts}
use Rattle.dsl_grammar.specs.Grammar.{production, names, begins_define, Whole, Prim, Literal, literal_kind, literal_sorts}
use Rattle.dsl_grammar.specs.Reading.{reads}
use Rattle.dsl_grammar.proofs.Fitting.{goes, opening, Also}
use Rattle.dsl_grammar.proofs.Lambdas.{alone}
use Rattle.dsl_grammar.proofs.Pasts.{sort_is}
use Rattle.dsl_grammar.proofs.Defining.{among_one}
use Rattle.dsl_grammar.proofs.Knot.{fits_production, Sentences, sentences, whole_undefined, null_token, open_token, close_token, of_name, of_rule, firsts_of, nulls_of, far_of, guarded_of, sures_of, quiet_of, free_wider}

-- a rule for each name whose derivations don't look at what follows, and of which none begins a definition
pub record Free (X : Rules Token Name Value) : Type 0 where
  pub free : (k : Name) (ts : List Token) (a : Value k) (rest : List Token) → X k ts a rest → FreeAt sorts (of_name k) (X k) ts a rest
  pub undefined : (ts : List Token) (e : Expression) (rest : List Token) → X expr ts e rest → begins_define ts ≡ false
  pub sentence : Sentences X

-- A first step: no name stands for anything at the height 0, and each for one of these above it.

step : Rules Token Name Value → ℕ → Rules Token Name Value
step X zero = names zero
step X (suc h) = X

no_reading : (k : Name) → List Token → Read Token (Value k)
no_reading k ts = bad ts

step_free : (X : Rules Token Name Value) → Free X → (h : ℕ) (k : Name) (ts : List Token) (a : Value k) (rest : List Token) → step X h k ts a rest → FreeAt sorts (of_name k) (step X h k) ts a rest
unfolding step
step_free X f zero k ts a rest d = absurd d
step_free X f (suc h) k ts a rest d = f.free k ts a rest d

-- a derivation has a token
has_token : (X : Rules Token Name Value) (k : Name) (ts : List Token) (a : Value k) (rest : List Token) → FreeAt sorts (of_name k) (X k) ts a rest → length ts ≤ 0 → ⊥
has_token X k ts a rest x le = by x.0 x.1 (x.4 false)
  where
    by : (front : List Token) → ts ≡ front ++ rest → Opens sorts false (starts k) front → ⊥
    by [] e o = absurd cc
    by (t ∷ front) e o = omega (arith, ap length e, length-append (t ∷ front) rest)

-- the law of a name that reads nothing
law_none : (L : ℕ → Rules Token Name Value) (E' : (k : Name) → List Token → Read Token (Value k)) (n' : ℕ) → ((h : ℕ) (k : Name) (ts : List Token) (a : Value k) (rest : List Token) → L h k ts a rest → FreeAt sorts (of_name k) (L h k) ts a rest) → ((k : Name) (ts : List Token) (a : Value k) (rest : List Token) → L 0 k ts a rest → ⊥) → Sentences (L 1) → (k : Name) → Law sorts (of_name k) 0 0 n' (λ h. L h k) (no_reading k) (E' k)
unfolding no_reading
law_none L E' n' free none sentence k = record {
  free = λ h ts a rest d. free h k ts a rest d;
  more = λ ts a rest d. absurd (none k ts a rest d);
  full = λ r. let x = sentence k r in (x.0 ∷ x.1, x.2, x.4);
  sound = λ ts a rest e. absurd (got_bad a rest ts (sym e));
  complete = λ h ts a rest le d q. absurd (has_token (L h) k ts a rest (free h k ts a rest d) le);
  alive = λ ts s le e. ([], bads ts s k e, λ r. let x = sentence k r in (x.0 ∷ x.1, x.2, x.4));
  local = λ front t s s' f o le le' c e. absurd (omega (arith, length-append front (t ∷ s)));
  known = λ c m. m;
  takes = λ t ts o l le m e. absurd (omega arith);
}
  where
    bads : (ts s : List Token) (k : Name) → no_reading k ts ≡ bad s → ts ≡ s
    bads ts s k e = (Rattle.dsl_rules.proofs.Law.put_bad ts None s e).1

step_env : (X : Rules Token Name Value) → Free X → Env sorts Value starts goes opening Also 0 0 (step X) no_reading no_reading
unfolding step
step_env X f = record {
  law = λ k. law_none (step X) no_reading 0 (step_free X f) (λ k ts a rest d. d) f.sentence k;
  also = record { undefined = undefined; names = λ t v s i c le. absurd (omega arith) };
  opens = f.sentence;
}
  where
    undefined : (h : ℕ) (ts : List Token) (e : Expression) (rest : List Token) → step X h expr ts e rest → begins_define ts ≡ false
    undefined zero ts e rest d = absurd d
    undefined (suc h) ts e rest d = f.undefined ts e rest d

-- a production is free where its names are, or stand for nothing
production_free : (X : Rules Token Name Value) → Free X → (h : ℕ) (k : Name) (ts : List Token) (a : Value k) (rest : List Token) → Derives sorts (step X h) (production k) ts a rest → FreeAt sorts (of_name k) (λ ts a rest. Derives sorts (step X h) (production k) ts a rest) ts a rest
production_free X f h k ts a rest d =
    let l = law sorts Value starts goes opening Also 0 0 1 1 (step X) no_reading no_reading (step_env X f) (omega arith) (omega arith) (production k) (fits_production k) in
    free_wider (of_rule (production k)) (of_name k) (λ ts a rest. Derives sorts (step X h) (production k) ts a rest) ts a rest (firsts_of k) (nulls_of k) (l.free h ts a rest d)

-- a rule with one sentence for each name
sample_rules : Rules Token Name Value
sample_rules expr ts a rest = One sorts (word_sort words.Null ∷ []) (λ t. expression t.place null) ts a rest
sample_rules block ts a rest = Both (λ p q. no_statements) (One sorts (sign_sort signs.OpenBrace ∷ []) (λ t. t.place)) (One sorts (sign_sort signs.CloseBrace ∷ []) (λ t. t.place)) ts a rest

sample_free : Free sample_rules
unfolding sample_rules null_token open_token close_token
sample_free = record {
  free = free;
  undefined = undefined;
  sentence = sentence;
}
  where
    null_first : (e : Bool) (c : Sort) → among c (cond e (word_sort words.Null ∷ []) (word_sort words.Null ∷ [])) ≡ true → among c (starts expr) ≡ true
    null_first true c m = among_is c (word_sort words.Null) (starts expr) (among_one c (word_sort words.Null) m) refl
    null_first false c m = among_is c (word_sort words.Null) (starts expr) (among_one c (word_sort words.Null) m) refl

    null_null : (e : Bool) → cond e false false ≡ false
    null_null true = refl
    null_null false = refl

    law_null : Law sorts (one_sets sorts (word_sort words.Null ∷ []) (word_sort words.Null) (λ (t : Token). expression t.place null) 0 0 0 refl refl) 0 0 0 (λ h. One sorts (word_sort words.Null ∷ []) (λ t. expression t.place null)) (one_read sorts (word_sort words.Null ∷ []) (λ t. expression t.place null)) (one_read sorts (word_sort words.Null ∷ []) (λ t. expression t.place null))
    law_null = law_one sorts (word_sort words.Null ∷ []) (word_sort words.Null) (λ t. expression t.place null) 0 0 0 refl refl

    law_open : Law sorts (one_sets sorts (sign_sort signs.OpenBrace ∷ []) (sign_sort signs.OpenBrace) (λ (t : Token). t.place) 0 0 0 refl refl) 0 0 0 (λ h. One sorts (sign_sort signs.OpenBrace ∷ []) (λ t. t.place)) (one_read sorts (sign_sort signs.OpenBrace ∷ []) (λ t. t.place)) (one_read sorts (sign_sort signs.OpenBrace ∷ []) (λ t. t.place))
    law_open = law_one sorts (sign_sort signs.OpenBrace ∷ []) (sign_sort signs.OpenBrace) (λ t. t.place) 0 0 0 refl refl

    law_close : Law sorts (one_sets sorts (sign_sort signs.CloseBrace ∷ []) (sign_sort signs.CloseBrace) (λ (t : Token). t.place) 0 0 0 refl refl) 0 0 0 (λ h. One sorts (sign_sort signs.CloseBrace ∷ []) (λ t. t.place)) (one_read sorts (sign_sort signs.CloseBrace ∷ []) (λ t. t.place)) (one_read sorts (sign_sort signs.CloseBrace ∷ []) (λ t. t.place))
    law_close = law_one sorts (sign_sort signs.CloseBrace ∷ []) (sign_sort signs.CloseBrace) (λ t. t.place) 0 0 0 refl refl

    free_block : (ts : List Token) (a : Statements) (rest : List Token) → sample_rules block ts a rest → FreeAt sorts (of_name block) (sample_rules block) ts a rest
    free_block ts a rest d =
        let x = law_open.free 0 ts d.1 d.0 d.3 in
        let y = law_close.free 0 d.0 d.2 rest d.4 in
        (x.0 ++ y.0, x.1 ∙ ap (λ l. x.0 ++ l) y.1 ∙ sym (append_assoc x.0 y.0 rest), λ r. (y.0 ++ r, d.1, d.2, rw (append_assoc x.0 y.0 r) (x.2 (y.0 ++ r)), y.2 r, d.5), inner_append sorts x.0 y.0 x.3 y.3, λ e. first_of e x.0 y.0 (x.4 e))
      where
        first_of : (e : Bool) (u v : List Token) → Opens sorts (cond e false false) (cond e (sign_sort signs.OpenBrace ∷ []) (sign_sort signs.OpenBrace ∷ [])) (over sorts e u) → Opens sorts false (starts block) (over sorts e (u ++ v))
        first_of false [] v o = absurd cc
        first_of false (t ∷ u) v o = o
        first_of true u v o = subst (Opens sorts false (starts block)) (sym (over_append sorts true u v)) (by (over sorts true u) o)
          where
            by : (w : List Token) → Opens sorts false (sign_sort signs.OpenBrace ∷ []) w → Opens sorts false (starts block) (put_before sorts w (over sorts true v) v)
            by [] o = absurd cc
            by (t ∷ w) o = o

    free : (k : Name) (ts : List Token) (a : Value k) (rest : List Token) → sample_rules k ts a rest → FreeAt sorts (of_name k) (sample_rules k) ts a rest
    free expr ts a rest d = free_wider (one_sets sorts (word_sort words.Null ∷ []) (word_sort words.Null) (λ (t : Token). expression t.place null) 0 0 0 refl refl) (of_name expr) (λ ts a rest. One sorts (word_sort words.Null ∷ []) (λ t. expression t.place null) ts a rest) ts a rest null_first null_null (law_null.free 0 ts a rest d)
    free block ts a rest d = free_block ts a rest d

    undefined : (ts : List Token) (e : Expression) (rest : List Token) → sample_rules expr ts e rest → begins_define ts ≡ false
    undefined [] e rest d = absurd d
    undefined (t ∷ ts) e rest d = let m = sort_is t (word_sort words.Null) d.0 (word_sort words.Function ∷ []) false refl in rw m refl

    sentence : Sentences sample_rules
    sentence expr r = (null_token, [], expression null_token.place null, refl, (refl, refl, refl))
    sentence block r = (open_token, close_token ∷ [], no_statements, refl, (close_token ∷ r, open_token.place, close_token.place, (refl, refl, refl), (refl, refl, refl), refl))

step_names : (h : ℕ) → Free (names h) → Free (names (suc h))
unfolding step
step_names h f = record {
  free = λ k ts a rest d. production_free (names h) f 1 k ts a rest d;
  undefined = λ ts e rest d. whole_undefined (names h) ts e rest d;
  sentence = sentences (names h);
}

pub free_names : (h : ℕ) → Free (names (suc h))
unfolding step
free_names zero = record {
  free = λ k ts a rest d. production_free sample_rules sample_free 0 k ts a rest d;
  undefined = λ ts e rest d. whole_undefined (names 0) ts e rest d;
  sentence = sentences (names 0);
}
free_names (suc h) = step_names (suc h) (free_names h)

names_free : (h : ℕ) (k : Name) (ts : List Token) (a : Value k) (rest : List Token) → names h k ts a rest → FreeAt sorts (of_name k) (names h k) ts a rest
names_free zero k ts a rest d = absurd d
names_free (suc h) k ts a rest d = (free_names h).free k ts a rest d

names_undefined : (h : ℕ) (ts : List Token) (e : Expression) (rest : List Token) → names h expr ts e rest → begins_define ts ≡ false
names_undefined zero ts e rest d = absurd d
names_undefined (suc h) ts e rest d = (free_names h).undefined ts e rest d

-- The laws of the two names.

reads_at : (n : ℕ) (k : Name) (ts : List Token) → reads (suc n) k ts ≡ read sorts starts (suc n) (reads n) (production k) ts
unfolding reads
reads_at n k ts = refl

reads_zero : (k : Name) (ts : List Token) → reads 0 k ts ≡ bad ts
unfolding reads
reads_zero k ts = refl

zero_law : (n' : ℕ) (k : Name) → Law sorts (of_name k) 0 0 n' (λ h. names h k) (reads 0 k) (reads n' k)
unfolding reads no_reading
zero_law n' k = law_none names (λ k. reads n' k) n' names_free (λ k ts a rest d. d) (sentences (names 0)) k

-- a sentence that is a name
name_whole : (L : Rules Token Name Value) (t : Token) (r : List Token) → among (sorts.sort_of t) (ident_sort ∷ []) ≡ true → Derives sorts L Whole (t ∷ r) (expression t.place (literal_kind t.kind)) r
unfolding Whole Prim Literal
name_whole L t r m = let x = alone L 11 t r (expression t.place (literal_kind t.kind)) r (inl (sort_is t ident_sort m literal_sorts true refl, refl, refl)) in inr (x.0, x.2, x.1)

module _ (n n' : ℕ) (env : Env sorts Value starts goes opening Also n n' names (λ k. reads n k) (λ k. reads n' k)) where
  abbrev inner : (k : Name) → Law sorts (of_rule (production k)) n (room sorts Value starts goes opening n (production k)) (room sorts Value starts goes opening n' (production k)) (λ h. Derives sorts (names h) (production k)) (read sorts starts (suc n) (λ k. reads n k) (production k)) (read sorts starts (suc n') (λ k. reads n' k) (production k))
  inner k = law sorts Value starts goes opening Also n n' (suc n) (suc n') names (λ k. reads n k) (λ k. reads n' k) env (omega arith) (omega arith) (production k) (fits_production k)

  roomy : (k : Name) (j i : ℕ) → i ≤ suc j → i ≤ room sorts Value starts goes opening j (production k)
  roomy k j i le = subst (λ b. i ≤ cond b (suc j) j) (sym (guarded_of k)) le

  far_off : (k : Name) {A : Type 0} (o : Option A) (f : List Token) (t : Token) → Rattle.dsl_rules.proofs.Law.Clear sorts (of_rule (production k)).far o f t
  far_off k o f t far is = absurd (true≢false (sym far ∙ far_of k))

  complete_at : (k : Name) (h : ℕ) (ts : List Token) (a : Value k) (rest : List Token) → length ts ≤ suc n → names h k ts a rest → Quiet sorts (of_name k).go rest → read sorts starts (suc n) (λ k. reads n k) (production k) ts ≡ got a rest
  complete_at k zero ts a rest le d q = absurd d
  complete_at k (suc h) ts a rest le d q = (inner k).complete h ts a rest (roomy k n (length ts) le) d (quiet_of k rest q)

  suc_law : (k : Name) → Law sorts (of_name k) (suc n) (suc n) (suc n') (λ h. names h k) (reads (suc n) k) (reads (suc n') k)
  unfolding reads
  suc_law k = record {
    free = λ h ts a rest d. names_free h k ts a rest d;
    more = λ ts a rest d. (inner k).more ts a rest d;
    full = λ r. let x = sentences (names (suc n)) k r in (x.0 ∷ x.1, x.2, x.4);
    sound = λ ts a rest e. (inner k).sound ts a rest e;
    complete = λ h ts a rest le d q. complete_at k h ts a rest le d q;
    alive = λ ts s le e. (inner k).alive ts s (roomy k n (length ts) le) e;
    local = λ front t s s' f o le le' c e. (inner k).local front t s s' f o (roomy k n (length (front ++ t ∷ s)) le) (roomy k n' (length (front ++ t ∷ s')) le') (far_off k o f t) e;
    known = λ c m. m;
    takes = λ t ts o l le m e. (inner k).takes t ts o l (roomy k n (length (t ∷ ts)) le) (sures_of k (sorts.sort_of t) m) e;
  }

  suc_names : (t v : Token) (s : List Token) → same (sorts.sort_of t) ident_sort ≡ true → among (sorts.sort_of v) (sign_sort signs.CloseParen ∷ sign_sort signs.Comma ∷ []) ≡ true → length (t ∷ v ∷ s) ≤ suc n → (e : Expression) × (reads (suc n) expr (t ∷ v ∷ s) ≡ got e (v ∷ s))
  unfolding reads
  suc_names t v s i c le = (expression t.place (literal_kind t.kind), complete_at expr 1 (t ∷ v ∷ s) (expression t.place (literal_kind t.kind)) (v ∷ s) le (name_whole (names 0) t (v ∷ s) (rw i refl)) quiet)
    where
      quiet : Quiet sorts (of_name expr).go (v ∷ s)
      quiet true = at_nothing sorts (over sorts true (v ∷ s))
      quiet false = Rattle.dsl_rules.proofs.Basics.apart_not (sorts.sort_of v) (sign_sort signs.CloseParen ∷ sign_sort signs.Comma ∷ []) (goes expr) refl c

pub env : (n n' : ℕ) → Env sorts Value starts goes opening Also n n' names (λ k. reads n k) (λ k. reads n' k)
env zero n' = record {
  law = λ k. zero_law n' k;
  also = record { undefined = names_undefined; names = λ t v s i c le. absurd (omega arith) };
  opens = sentences (names 0);
}
env (suc n) zero = let again = env n zero in record {
  law = λ k. let l = suc_law n zero again k in record {
    free = l.free;
    more = l.more;
    full = l.full;
    sound = l.sound;
    complete = l.complete;
    alive = l.alive;
    local = λ front t s s' f o le le' c e. absurd (omega (arith, length-append front (t ∷ s')));
    known = l.known;
    takes = l.takes;
  };
  also = record { undefined = names_undefined; names = suc_names n zero again };
  opens = sentences (names (suc n));
}
env (suc n) (suc n') = let again = env n n' in record {
  law = suc_law n n' again;
  also = record { undefined = names_undefined; names = suc_names n n' again };
  opens = sentences (names (suc n));
}
