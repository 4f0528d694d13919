-- The levels of operators can be read with one token before one's eyes.
use Rattle.std.proofs.Common.{◌≡◌, ◌≤◌, ◌<◌, ◌⊎◌, ℕ, zero, suc, List, [], ◌∷◌, ◌++◌, Bool, true, false, cond, refl, sym, ap, ◌∙◌, subst, inl, inr, arith}
use Rattle.dsl_lexer.specs.declared.sign.Sign.TheVariants as signs
use Rattle.dsl_rules.specs.Alphabet.{Sort, same, among, and, apart, where_holds}
use Rattle.dsl_rules.specs.Reading.{null, first}
use Rattle.dsl_rules.proofs.Shape.{lift, go, far, sure, guarded, subset}
use Rattle.dsl_grammar.specs.Codes.{sorts, sign_sort}
use Rattle.dsl_grammar.specs.Operators.{level_sorts}
use Rattle.dsl_grammar.specs.Terms.{expr, Value, starts, Rule, nl}
use Rattle.dsl_grammar.specs.Grammar.{Names, Params, OneUse, UseNames, UseList, MaybeUse, Func, Literal, Paren, Slot, CommaSlot, Elements, BracketedElements, Array, Pair, MaybePair, Pairs, BracedPairs, Dict, FunctionFunc, FunctionLiteral, Prim, Listed, Arguments, OneTail, BegunPrim, Postfix, Prefixes, Prefixed, Unary, Operator, Level}
use Rattle.std.proofs.lemmas.List.{append-nil}
use Rattle.dsl_grammar.proofs.Fitting.{goes, opening, FitsHere, fits_nl, fits_Unary}

abbrev fst : {A : Type 0} → Bool → Rule A → List Sort
fst e g = first sorts starts e g

abbrev nul : {A : Type 0} → Bool → Rule A → Bool
nul e g = null sorts e g

abbrev gos : {A : Type 0} → Bool → Rule A → List Sort
gos e g = go sorts Value starts goes opening e g

abbrev sur : {A : Type 0} → Rule A → List Sort
sur g = sure sorts Value starts goes opening g

abbrev grd : {A : Type 0} → Rule A → Bool
grd g = guarded sorts Value starts goes opening g

abbrev frr : {A : Type 0} → Rule A → Bool
frr g = far sorts Value starts goes opening g

pub fits_Operator : (k : ℕ) → k < 11 → FitsHere (Operator k)
unfolding Operator
fits_Operator zero h = (lift (refl, refl), fits_nl, lift ((refl, refl), refl))
fits_Operator (suc zero) h = (lift (refl, refl), fits_nl, lift ((refl, refl), refl))
fits_Operator (suc (suc zero)) h = (lift (refl, refl), fits_nl, lift ((refl, refl), refl))
fits_Operator (suc (suc (suc zero))) h = (lift (refl, refl), fits_nl, lift ((refl, refl), refl))
fits_Operator (suc (suc (suc (suc zero)))) h = (lift (refl, refl), fits_nl, lift ((refl, refl), refl))
fits_Operator (suc (suc (suc (suc (suc zero))))) h = (lift (refl, refl), fits_nl, lift ((refl, refl), refl))
fits_Operator (suc (suc (suc (suc (suc (suc zero)))))) h = (lift (refl, refl), fits_nl, lift ((refl, refl), refl))
fits_Operator (suc (suc (suc (suc (suc (suc (suc zero))))))) h = (lift (refl, refl), fits_nl, lift ((refl, refl), refl))
fits_Operator (suc (suc (suc (suc (suc (suc (suc (suc zero)))))))) h = (lift (refl, refl), fits_nl, lift ((refl, refl), refl))
fits_Operator (suc (suc (suc (suc (suc (suc (suc (suc (suc zero))))))))) h = (lift (refl, refl), fits_nl, lift ((refl, refl), refl))
fits_Operator (suc (suc (suc (suc (suc (suc (suc (suc (suc (suc zero)))))))))) h = (lift (refl, refl), fits_nl, lift ((refl, refl), refl))
fits_Operator (suc (suc (suc (suc (suc (suc (suc (suc (suc (suc (suc k))))))))))) h = absurd (omega arith)

operator_null : (k : ℕ) → k < 11 → (nul true (Operator k) ≡ false) × (nul false (Operator k) ≡ false)
unfolding Operator
operator_null zero h = (refl, refl)
operator_null (suc zero) h = (refl, refl)
operator_null (suc (suc zero)) h = (refl, refl)
operator_null (suc (suc (suc zero))) h = (refl, refl)
operator_null (suc (suc (suc (suc zero)))) h = (refl, refl)
operator_null (suc (suc (suc (suc (suc zero))))) h = (refl, refl)
operator_null (suc (suc (suc (suc (suc (suc zero)))))) h = (refl, refl)
operator_null (suc (suc (suc (suc (suc (suc (suc zero))))))) h = (refl, refl)
operator_null (suc (suc (suc (suc (suc (suc (suc (suc zero)))))))) h = (refl, refl)
operator_null (suc (suc (suc (suc (suc (suc (suc (suc (suc zero))))))))) h = (refl, refl)
operator_null (suc (suc (suc (suc (suc (suc (suc (suc (suc (suc zero)))))))))) h = (refl, refl)
operator_null (suc (suc (suc (suc (suc (suc (suc (suc (suc (suc (suc k))))))))))) h = absurd (omega arith)

operator_first : (k : ℕ) → k < 11 → (fst true (Operator k) ≡ level_sorts k) × (fst false (Operator k) ≡ level_sorts k)
unfolding Operator
operator_first zero h = (refl, refl)
operator_first (suc zero) h = (refl, refl)
operator_first (suc (suc zero)) h = (refl, refl)
operator_first (suc (suc (suc zero))) h = (refl, refl)
operator_first (suc (suc (suc (suc zero)))) h = (refl, refl)
operator_first (suc (suc (suc (suc (suc zero))))) h = (refl, refl)
operator_first (suc (suc (suc (suc (suc (suc zero)))))) h = (refl, refl)
operator_first (suc (suc (suc (suc (suc (suc (suc zero))))))) h = (refl, refl)
operator_first (suc (suc (suc (suc (suc (suc (suc (suc zero)))))))) h = (refl, refl)
operator_first (suc (suc (suc (suc (suc (suc (suc (suc (suc zero))))))))) h = (refl, refl)
operator_first (suc (suc (suc (suc (suc (suc (suc (suc (suc (suc zero)))))))))) h = (refl, refl)
operator_first (suc (suc (suc (suc (suc (suc (suc (suc (suc (suc (suc k))))))))))) h = absurd (omega arith)

operator_sure : (k : ℕ) → k < 11 → subset sorts Value starts goes opening (level_sorts k) (sur (Operator k)) ≡ true
unfolding Operator
operator_sure zero h = refl
operator_sure (suc zero) h = refl
operator_sure (suc (suc zero)) h = refl
operator_sure (suc (suc (suc zero))) h = refl
operator_sure (suc (suc (suc (suc zero)))) h = refl
operator_sure (suc (suc (suc (suc (suc zero))))) h = refl
operator_sure (suc (suc (suc (suc (suc (suc zero)))))) h = refl
operator_sure (suc (suc (suc (suc (suc (suc (suc zero))))))) h = refl
operator_sure (suc (suc (suc (suc (suc (suc (suc (suc zero)))))))) h = refl
operator_sure (suc (suc (suc (suc (suc (suc (suc (suc (suc zero))))))))) h = refl
operator_sure (suc (suc (suc (suc (suc (suc (suc (suc (suc (suc zero)))))))))) h = refl
operator_sure (suc (suc (suc (suc (suc (suc (suc (suc (suc (suc (suc k))))))))))) h = absurd (omega arith)

operator_go : (e : Bool) (k : ℕ) → gos e (Operator k) ≡ gos e nl
unfolding Operator
operator_go true k = refl
operator_go false k = refl

operator_far : (k : ℕ) → frr (Operator k) ≡ false
unfolding Operator
operator_far k = refl

unary_null : (e : Bool) → nul e Unary ≡ false
unfolding Unary Prefixed Prefixes Postfix BegunPrim Prim Literal Paren Array BracketedElements Elements CommaSlot Slot Dict BracedPairs Pairs MaybePair Pair FunctionLiteral FunctionFunc Func Params Names MaybeUse UseList UseNames OneUse OneTail Arguments Listed
unary_null true = refl
unary_null false = refl

unary_nl : (e : Bool) → apart (fst e Unary) (gos e nl) ≡ true
unfolding Unary Prefixed Prefixes Postfix BegunPrim Prim Literal Paren Array BracketedElements Elements CommaSlot Slot Dict BracedPairs Pairs MaybePair Pair FunctionLiteral FunctionFunc Func Params Names MaybeUse UseList UseNames OneUse OneTail Arguments Listed
unary_nl true = refl
unary_nl false = refl

unary_far : frr Unary ≡ false
unfolding Unary Prefixed Prefixes Postfix BegunPrim Prim Literal Paren Array BracketedElements Elements CommaSlot Slot Dict BracedPairs Pairs MaybePair Pair FunctionLiteral FunctionFunc Func Params Names MaybeUse UseList UseNames OneUse OneTail Arguments Listed
unary_far = refl

pub unary_guarded : grd Unary ≡ true
unfolding Unary Prefixed Prefixes Postfix BegunPrim Prim Literal Paren Array BracketedElements Elements CommaSlot Slot Dict BracedPairs Pairs MaybePair Pair FunctionLiteral FunctionFunc Func Params Names MaybeUse UseList UseNames OneUse OneTail Arguments Listed
unary_guarded = refl

unary_apart_true : (k : ℕ) → k < 11 → apart (level_sorts k) (gos true Unary) ≡ true
unfolding Unary Prefixed Prefixes Postfix BegunPrim Prim Literal Paren Array BracketedElements Elements CommaSlot Slot Dict BracedPairs Pairs MaybePair Pair FunctionLiteral FunctionFunc Func Params Names MaybeUse UseList UseNames OneUse OneTail Arguments Listed
unary_apart_true zero h = refl
unary_apart_true (suc zero) h = refl
unary_apart_true (suc (suc zero)) h = refl
unary_apart_true (suc (suc (suc zero))) h = refl
unary_apart_true (suc (suc (suc (suc zero)))) h = refl
unary_apart_true (suc (suc (suc (suc (suc zero))))) h = refl
unary_apart_true (suc (suc (suc (suc (suc (suc zero)))))) h = refl
unary_apart_true (suc (suc (suc (suc (suc (suc (suc zero))))))) h = refl
unary_apart_true (suc (suc (suc (suc (suc (suc (suc (suc zero)))))))) h = refl
unary_apart_true (suc (suc (suc (suc (suc (suc (suc (suc (suc zero))))))))) h = refl
unary_apart_true (suc (suc (suc (suc (suc (suc (suc (suc (suc (suc zero)))))))))) h = refl
unary_apart_true (suc (suc (suc (suc (suc (suc (suc (suc (suc (suc (suc k))))))))))) h = absurd (omega arith)

unary_apart_false : (k : ℕ) → k < 11 → apart (level_sorts k) (gos false Unary) ≡ true
unfolding Unary Prefixed Prefixes Postfix BegunPrim Prim Literal Paren Array BracketedElements Elements CommaSlot Slot Dict BracedPairs Pairs MaybePair Pair FunctionLiteral FunctionFunc Func Params Names MaybeUse UseList UseNames OneUse OneTail Arguments Listed
unary_apart_false zero h = refl
unary_apart_false (suc zero) h = refl
unary_apart_false (suc (suc zero)) h = refl
unary_apart_false (suc (suc (suc zero))) h = refl
unary_apart_false (suc (suc (suc (suc zero)))) h = refl
unary_apart_false (suc (suc (suc (suc (suc zero))))) h = refl
unary_apart_false (suc (suc (suc (suc (suc (suc zero)))))) h = refl
unary_apart_false (suc (suc (suc (suc (suc (suc (suc zero))))))) h = refl
unary_apart_false (suc (suc (suc (suc (suc (suc (suc (suc zero)))))))) h = refl
unary_apart_false (suc (suc (suc (suc (suc (suc (suc (suc (suc zero))))))))) h = refl
unary_apart_false (suc (suc (suc (suc (suc (suc (suc (suc (suc (suc zero)))))))))) h = refl
unary_apart_false (suc (suc (suc (suc (suc (suc (suc (suc (suc (suc (suc k))))))))))) h = absurd (omega arith)

neither : (x : Sort) (ys zs : List Sort) → among x ys ≡ false → among x zs ≡ false → among x (ys ++ zs) ≡ false
neither x [] zs e f = f
neither x (y ∷ ys) zs e f = by (neither x ys zs) (same x y) e
  where
    by : (among x ys ≡ false → among x zs ≡ false → among x (ys ++ zs) ≡ false) → (b : Bool) → cond b true (among x ys) ≡ false → cond b true (among x (ys ++ zs)) ≡ false
    by again true e = absurd cc
    by again false e = again e f

nat_split : (k j : ℕ) → k < suc j → (k ≡ j) ⊎ (k < j)
nat_split zero zero le = inl refl
nat_split zero (suc j) le = inr (omega arith)
nat_split (suc k) zero le = absurd (omega arith)
nat_split (suc k) (suc j) le = by (nat_split k j (omega arith))
  where
    by : (k ≡ j) ⊎ (k < j) → (suc k ≡ suc j) ⊎ (suc k < suc j)
    by (inl e) = inl (ap suc e)
    by (inr l) = inr (omega arith)

unary_apart : (e : Bool) (k : ℕ) → k < 11 → apart (level_sorts k) (gos e Unary) ≡ true
unary_apart true k h = unary_apart_true k h
unary_apart false k h = unary_apart_false k h

pub level_null : (e : Bool) (k : ℕ) → nul e (Level k) ≡ false
unfolding Level
level_null e zero = unary_null e
level_null e (suc k) = level_null e k

pub level_first : (e : Bool) (k : ℕ) → fst e (Level k) ≡ fst e Unary
unfolding Level
level_first e zero = refl
level_first e (suc k) = rw (level_null e k) (append-nil (fst e (Level k)) ∙ level_first e k)

pub level_sure : (k : ℕ) → sur (Level k) ≡ sur Unary
unfolding Level
level_sure zero = refl
level_sure (suc k) = rw (level_null false k) (level_sure k)

pub level_far : (k : ℕ) → frr (Level k) ≡ false
unfolding Level
level_far zero = unary_far
level_far (suc k) = refl

pub level_guarded : (k : ℕ) → grd (Level k) ≡ true
unfolding Level
level_guarded zero = unary_guarded
level_guarded (suc k) = rw (level_guarded k, level_null false k) refl

apart_append : (xs ys zs : List Sort) → apart xs ys ≡ true → apart xs zs ≡ true → apart xs (ys ++ zs) ≡ true
apart_append [] ys zs h k = refl
apart_append (x ∷ xs) ys zs h k = by (apart_append xs ys zs) (among x ys) refl (among x zs) refl h k
  where
    by : (apart xs ys ≡ true → apart xs zs ≡ true → apart xs (ys ++ zs) ≡ true) → (b : Bool) → among x ys ≡ b → (c : Bool) → among x zs ≡ c → cond b false (apart xs ys) ≡ true → cond c false (apart xs zs) ≡ true → cond (among x (ys ++ zs)) false (apart xs (ys ++ zs)) ≡ true
    by again true e c f h k = absurd cc
    by again false e true f h k = absurd cc
    by again false e false f h k = let n : among x (ys ++ zs) ≡ false = neither x ys zs e f in rw n (again h k)

-- apart from the operators of all lower levels
below : ℕ → List Sort → Bool
below zero cs = true
below (suc k) cs = and (apart cs (level_sorts k)) (below k cs)

below_one : (j k : ℕ) (cs : List Sort) → below j cs ≡ true → k < j → apart cs (level_sorts k) ≡ true
unfolding below
below_one zero k cs h le = absurd (omega arith)
below_one (suc j) k cs h le = by (nat_split k j le) (below_one j k cs)
  where
    by : (k ≡ j) ⊎ (k < j) → (below j cs ≡ true → k < j → apart cs (level_sorts k) ≡ true) → apart cs (level_sorts k) ≡ true
    by (inl e) again = subst (λ z. apart cs (level_sorts z) ≡ true) (sym e) (Rattle.dsl_rules.proofs.Basics.and_left (apart cs (level_sorts j)) (below j cs) h)
    by (inr l) again = again (Rattle.dsl_rules.proofs.Basics.and_right (apart cs (level_sorts j)) (below j cs) h) l

all_below : (k : ℕ) → k < 11 → below k (level_sorts k) ≡ true
unfolding below
all_below zero h = refl
all_below (suc zero) h = refl
all_below (suc (suc zero)) h = refl
all_below (suc (suc (suc zero))) h = refl
all_below (suc (suc (suc (suc zero)))) h = refl
all_below (suc (suc (suc (suc (suc zero))))) h = refl
all_below (suc (suc (suc (suc (suc (suc zero)))))) h = refl
all_below (suc (suc (suc (suc (suc (suc (suc zero))))))) h = refl
all_below (suc (suc (suc (suc (suc (suc (suc (suc zero)))))))) h = refl
all_below (suc (suc (suc (suc (suc (suc (suc (suc (suc zero))))))))) h = refl
all_below (suc (suc (suc (suc (suc (suc (suc (suc (suc (suc zero)))))))))) h = refl
all_below (suc (suc (suc (suc (suc (suc (suc (suc (suc (suc (suc k))))))))))) h = absurd (omega arith)

-- the operators of a level are none by which the lower ones go on
level_apart : (e : Bool) (j k : ℕ) → j < 11 → k ≤ j → apart (level_sorts j) (gos e (Level k)) ≡ true
unfolding Level
level_apart e j zero h le = unary_apart e j h
level_apart e j (suc k) h le =
    let a = level_apart e j k h (omega arith) in
    apart_append (level_sorts j) (gos e (Level k) ++ (gos e (Level k) ++ where_holds (nul e (Level k)) (gos e (Operator k)))) (cond e [] (level_sorts k)) (apart_append (level_sorts j) (gos e (Level k)) (gos e (Level k) ++ where_holds (nul e (Level k)) (gos e (Operator k))) a (apart_append (level_sorts j) (gos e (Level k)) (where_holds (nul e (Level k)) (gos e (Operator k))) a (rw (level_null e k) (nothing (level_sorts j))))) (own e)
  where
    nothing : (cs : List Sort) → apart cs [] ≡ true
    nothing [] = refl
    nothing (c ∷ cs) = nothing cs

    own : (e : Bool) → apart (level_sorts j) (cond e [] (level_sorts k)) ≡ true
    own true = nothing (level_sorts j)
    own false = below_one j k (level_sorts j) (all_below j h) (omega arith)

pub fits_Level : (k : ℕ) → k ≤ 11 → FitsHere (Level k)
unfolding Level
fits_Level zero le = fits_Unary
fits_Level (suc k) le = (fits_Level k (omega arith), fits_Operator k (omega arith), lift ((operator_null k (omega arith)).1, operator_sure k (omega arith), level_far k, operator_far k, (between true, between false), (after true, after false), (turn true, turn false)))
  where
    between : (e : Bool) → apart (fst e (Level k)) (gos e (Operator k)) ≡ true
    between e = rw (level_first e k, operator_go e k) (unary_nl e)

    first_is : (e : Bool) → fst e (Operator k) ≡ level_sorts k
    first_is true = (operator_first k (omega arith)).0
    first_is false = (operator_first k (omega arith)).1

    null_is : (e : Bool) → nul e (Operator k) ≡ false
    null_is true = (operator_null k (omega arith)).0
    null_is false = (operator_null k (omega arith)).1

    turn : (e : Bool) → apart (fst e (Operator k) ++ where_holds (nul e (Operator k)) (fst e (Level k))) (gos e (Level k)) ≡ true
    turn e = rw (first_is e, null_is e, append-nil (level_sorts k)) (level_apart e k k (omega arith) (omega arith))

    after : (e : Bool) → apart (fst e (Operator k) ++ where_holds (nul e (Operator k)) (fst e (Level k))) (gos e (Level k) ++ where_holds (nul e (Level k)) (gos e (Operator k))) ≡ true
    after e = rw (level_null e k, append-nil (gos e (Level k))) (turn e)

unary_sure_paren : among (sign_sort signs.OpenParen) (sur Unary) ≡ true
unfolding Unary Prefixed Prefixes Postfix BegunPrim Prim Literal Paren Array BracketedElements Elements CommaSlot Slot Dict BracedPairs Pairs MaybePair Pair FunctionLiteral FunctionFunc Func Params Names MaybeUse UseList UseNames OneUse OneTail Arguments Listed
unary_sure_paren = refl

pub level_sure_paren : (k : ℕ) → among (sign_sort signs.OpenParen) (sur (Level k)) ≡ true
level_sure_paren k = rw (level_sure k) unary_sure_paren

-- all of these are among those
pub within : (cs ds : List Sort) → subset sorts Value starts goes opening cs ds ≡ true → (c : Sort) → among c cs ≡ true → among c ds ≡ true
within [] ds h c m = absurd cc
within (x ∷ xs) ds h c m = by (within xs ds (Rattle.dsl_rules.proofs.Basics.and_right (among x ds) (subset sorts Value starts goes opening xs ds) h) c) (same c x) refl m
  where
    by : (among c xs ≡ true → among c ds ≡ true) → (b : Bool) → same c x ≡ b → cond b true (among c xs) ≡ true → among c ds ≡ true
    by again true e m = Rattle.dsl_rules.proofs.Basics.among_is c x ds e (Rattle.dsl_rules.proofs.Basics.and_left (among x ds) (subset sorts Value starts goes opening xs ds) h)
    by again false e m = again m

unary_goes : (e : Bool) → subset sorts Value starts goes opening (gos e Unary) (cond e [] (goes expr)) ≡ true
unfolding Unary Prefixed Prefixes Postfix BegunPrim Prim Literal Paren Array BracketedElements Elements CommaSlot Slot Dict BracedPairs Pairs MaybePair Pair FunctionLiteral FunctionFunc Func Params Names MaybeUse UseList UseNames OneUse OneTail Arguments Listed
unary_goes true = refl
unary_goes false = refl

operators_go : (k : ℕ) → subset sorts Value starts goes opening (level_sorts k) (goes expr) ≡ true
operators_go zero = refl
operators_go (suc zero) = refl
operators_go (suc (suc zero)) = refl
operators_go (suc (suc (suc zero))) = refl
operators_go (suc (suc (suc (suc zero)))) = refl
operators_go (suc (suc (suc (suc (suc zero))))) = refl
operators_go (suc (suc (suc (suc (suc (suc zero)))))) = refl
operators_go (suc (suc (suc (suc (suc (suc (suc zero))))))) = refl
operators_go (suc (suc (suc (suc (suc (suc (suc (suc zero)))))))) = refl
operators_go (suc (suc (suc (suc (suc (suc (suc (suc (suc zero))))))))) = refl
operators_go (suc (suc (suc (suc (suc (suc (suc (suc (suc (suc zero)))))))))) = refl
operators_go (suc (suc (suc (suc (suc (suc (suc (suc (suc (suc (suc k))))))))))) = refl

-- a level goes on by what an expression does
pub level_goes : (e : Bool) (k : ℕ) (c : Sort) → among c (gos e (Level k)) ≡ true → among c (cond e [] (goes expr)) ≡ true
unfolding Level
level_goes e zero c m = within (gos e Unary) (cond e [] (goes expr)) (unary_goes e) c m
level_goes e (suc k) c m = outer (level_goes e k c) (Rattle.dsl_rules.proofs.Basics.among_either c (gos e (Level k) ++ (gos e (Level k) ++ where_holds (nul e (Level k)) (gos e (Operator k)))) (cond e [] (level_sorts k)) m)
  where
    own : (e : Bool) → among c (cond e [] (level_sorts k)) ≡ true → among c (cond e [] (goes expr)) ≡ true
    own true m = m
    own false m = within (level_sorts k) (goes expr) (operators_go k) c m

    nowhere : (b : Bool) → b ≡ false → among c (where_holds b (gos e (Operator k))) ≡ true → among c (cond e [] (goes expr)) ≡ true
    nowhere true h m = absurd cc
    nowhere false h m = absurd cc

    inner : (among c (gos e (Level k)) ≡ true) ⊎ ((among c (gos e (Level k)) ≡ false) × (among c (where_holds (nul e (Level k)) (gos e (Operator k))) ≡ true)) → (among c (gos e (Level k)) ≡ true → among c (cond e [] (goes expr)) ≡ true) → among c (cond e [] (goes expr)) ≡ true
    inner (inl m) again = again m
    inner (inr m) again = nowhere (nul e (Level k)) (level_null e k) m.1

    mid : (among c (gos e (Level k)) ≡ true) ⊎ ((among c (gos e (Level k)) ≡ false) × (among c (gos e (Level k) ++ where_holds (nul e (Level k)) (gos e (Operator k))) ≡ true)) → (among c (gos e (Level k)) ≡ true → among c (cond e [] (goes expr)) ≡ true) → among c (cond e [] (goes expr)) ≡ true
    mid (inl m) again = again m
    mid (inr m) again = inner (Rattle.dsl_rules.proofs.Basics.among_either c (gos e (Level k)) (where_holds (nul e (Level k)) (gos e (Operator k))) m.1) again

    outer : (among c (gos e (Level k)) ≡ true → among c (cond e [] (goes expr)) ≡ true) → (among c (gos e (Level k) ++ (gos e (Level k) ++ where_holds (nul e (Level k)) (gos e (Operator k)))) ≡ true) ⊎ ((among c (gos e (Level k) ++ (gos e (Level k) ++ where_holds (nul e (Level k)) (gos e (Operator k)))) ≡ false) × (among c (cond e [] (level_sorts k)) ≡ true)) → among c (cond e [] (goes expr)) ≡ true
    outer again (inl m) = mid (Rattle.dsl_rules.proofs.Basics.among_either c (gos e (Level k)) (gos e (Level k) ++ where_holds (nul e (Level k)) (gos e (Operator k))) m) again
    outer again (inr m) = own e m.1

pub unary_firsts : (e : Bool) → subset sorts Value starts goes opening (fst e Unary) (starts expr) ≡ true
unfolding Unary Prefixed Prefixes Postfix BegunPrim Prim Literal Paren Array BracketedElements Elements CommaSlot Slot Dict BracedPairs Pairs MaybePair Pair FunctionLiteral FunctionFunc Func Params Names MaybeUse UseList UseNames OneUse OneTail Arguments Listed
unary_firsts true = refl
unary_firsts false = refl

pub unary_sures : subset sorts Value starts goes opening (starts expr) (sur Unary) ≡ true
unfolding Unary Prefixed Prefixes Postfix BegunPrim Prim Literal Paren Array BracketedElements Elements CommaSlot Slot Dict BracedPairs Pairs MaybePair Pair FunctionLiteral FunctionFunc Func Params Names MaybeUse UseList UseNames OneUse OneTail Arguments Listed
unary_sures = refl
