-- What operators and calls make is paid for, and what they write is of the same kind.
use Rattle.std.proofs.Common.{◌≡◌, ◌≤◌, ◌<◌, ◌+◌, ℕ, ℤ, pos, List, [], ◌∷◌, ◌++◌, length, Bool, true, false, cond, Option, Some, None, refl, sym, subst, arith}
use Rattle.std.specs.Prelude.{nat_lt}
use Rattle.std.proofs.lemmas.Bool.Decides.{nat_tests}
use Rattle.site_base.specs.Numbers.{difference_of, is_zero, quotient_of, rest_of}
use Rattle.dsl_syntax.specs.declared.un_op.UnOp.{UnOp}
use Rattle.dsl_syntax.specs.declared.un_op.UnOp.TheVariants as un
use Rattle.dsl_syntax.specs.declared.bin_op.BinOp.{BinOp}
use Rattle.dsl_syntax.specs.declared.bin_op.BinOp.TheVariants as bin
use Rattle.dsl_value.specs.Contents.{PlainCell, array, dict, Contents, cell_at, is_array, pushed, with_pair, without_pair, with_value}
use Rattle.dsl_value.specs.Outcomes as comes
use Rattle.dsl_value.specs.declared.value.Value.{Value}
use Rattle.dsl_value.specs.declared.value.Value.TheVariants as value
use Rattle.dsl_ops.specs.Members.{with_member, place_in, written_or_wrong, set_outcome}
use Rattle.dsl_ops.specs.Operands as operands
use Rattle.dsl_ops.specs.Operands.{PlainOperand, operand}
use Rattle.dsl_ops.specs.Outcomes.{Outcome, or_overflow, or_wrong_type}
use Rattle.dsl_ops.specs.Table as table
use Rattle.dsl_ops.specs.Table.{binary_outcome, unary_outcome, of_both, of_whole, shifted, kept, joined, are_joined, sum, difference, itself, negation}
use Rattle.dsl_ops.specs.Units.{binary_units, copy_units, sum_units, difference_units}
use Rattle.dsl_ops.specs.declared.op_fault.OpFault.TheVariants as op_fault
use Rattle.dsl_ops.specs.declared.member_fault.MemberFault.TheVariants as member_fault
use Rattle.dsl_lib.specs.Answers as lib
use Rattle.dsl_lib.specs.Library.{answer}
use Rattle.dsl_lib.specs.Arguments.{one, two, three, text_in, number_in, items_in, pairs_in, array_in, dict_in}
use Rattle.dsl_lib.specs.Arrays as arrays
use Rattle.dsl_lib.specs.Matching.{matched}
use Rattle.dsl_lib.specs.Scalars as scalars
use Rattle.dsl_lib.specs.Texts as texts
use Rattle.dsl_lib.specs.Sets.{some_args, range, ranged, is_positive, numbers_below}
use Rattle.dsl_lib.specs.Units.{units}
use Rattle.dsl_lib.specs.declared.lib_fault.LibFault.TheVariants as lib_fault
use Rattle.dsl_lib.specs.declared.plain.Plain.{Plain}
use Rattle.dsl_lib.specs.declared.plain.Plain.TheVariants as call

-- a new cell isn't free; a write goes to a cell that isn't frozen, and leaves it an array or a dictionary
pub IsSound : {F : Type 0} → Contents → (comes.Outcome F → ℕ) → comes.Outcome F → Type 0
IsSound s cost (comes.gives v) = Unit {0}
IsSound s cost (comes.makes c) = 0 < cost (comes.makes c)
IsSound s cost (comes.writes k c) = (s.base ≤ k) × (is_array c ≡ is_array (cell_at s.cells k))
IsSound s cost (comes.refuses e) = Unit {0}

pub made_is : {F : Type 0} (s : Contents) (cost : comes.Outcome F → ℕ) (c : PlainCell) → IsSound s cost (comes.makes c) → 0 < cost (comes.makes c)
unfolding IsSound
made_is s cost c h = h

pub written_is : {F : Type 0} (s : Contents) (cost : comes.Outcome F → ℕ) (k : ℕ) (c : PlainCell) → IsSound {F = F} s cost (comes.writes k c) → (s.base ≤ k) × (is_array c ≡ is_array (cell_at s.cells k))
unfolding IsSound
written_is s cost k c h = h

given : {F : Type 0} (s : Contents) (cost : comes.Outcome F → ℕ) (v : Value) → IsSound s cost (comes.gives v)
unfolding IsSound
given s cost v = tt

new : {F : Type 0} (s : Contents) (cost : comes.Outcome F → ℕ) (c : PlainCell) → 0 < cost (comes.makes c) → IsSound s cost (comes.makes c)
unfolding IsSound
new s cost c h = h

refused : {F : Type 0} (s : Contents) (cost : comes.Outcome F → ℕ) (e : F) → IsSound s cost (comes.refuses e)
unfolding IsSound
refused s cost e = tt

choice : {F : Type 0} (s : Contents) (cost : comes.Outcome F → ℕ) (b : Bool) (x y : comes.Outcome F) → IsSound s cost x → IsSound s cost y → IsSound s cost (cond b x y)
choice s cost true x y h k = h
choice s cost false x y h k = k

unfrozen : {F : Type 0} (s : Contents) (cost : comes.Outcome F → ℕ) (frozen : F) (k : ℕ) (c : PlainCell) → is_array c ≡ is_array (cell_at s.cells k) → IsSound s cost (comes.written frozen s k c)
unfolding IsSound
unfrozen s cost frozen k c kind = by (nat_lt k s.base) refl
  where
    by : (b : Bool) → nat_lt k s.base ≡ b → IsSound s cost (cond b (comes.refuses frozen) (comes.writes k c))
    by true e = tt
    by false e = (grind (arith, nat_tests), kind)

-- ---- operators, which write nothing

module _ (s : Contents) (n : ℕ) where
  abbrev Fine : Outcome → Type 0
  Fine o = IsSound s (λ x. n) o

  overflow : (o : Option ℤ) → Fine (or_overflow o)
  overflow (Some z) = given s (λ x. n) _
  overflow None = refused s (λ x. n) _

  wrong : (o : Option Bool) → Fine (or_wrong_type o)
  wrong (Some b) = given s (λ x. n) _
  wrong None = refused s (λ x. n) _

  both : (f : ℤ → ℤ → Outcome) (o : Option (ℤ × ℤ)) → ((x y : ℤ) → Fine (f x y)) → Fine (of_both f o)
  both f (Some p) h = h p.0 p.1
  both f None h = refused s (λ x. n) _

  one_whole : (f : ℤ → Outcome) (o : Option ℤ) → ((x : ℤ) → Fine (f x)) → Fine (of_whole f o)
  one_whole f (Some z) h = h z
  one_whole f None h = refused s (λ x. n) _

  by_places : (f : ℕ → Outcome) (o : Option ℕ) → ((k : ℕ) → Fine (f k)) → Fine (shifted f o)
  by_places f (Some k) h = h k
  by_places f None h = refused s (λ x. n) _

  divided : (b : Bool) (e : _) (o : Option ℤ) → Fine (cond b (comes.refuses e) (or_overflow o))
  divided b e o = choice s (λ x. n) b _ _ (refused s (λ x. n) e) (overflow o)

  fine_itself : (o : PlainOperand) → Fine (itself o)
  fine_itself (operands.number z) = given s (λ x. n) _
  fine_itself o = refused s (λ x. n) _

  fine_negation : (o : PlainOperand) → Fine (negation o)
  fine_negation (operands.number z) = overflow _
  fine_negation o = refused s (λ x. n) _

  fine_joined : (a b : PlainOperand) → Fine (joined a b)
  fine_joined a b = choice s (λ x. n) (are_joined a b) _ _ (given s (λ x. n) _) (refused s (λ x. n) _)

pub unary_sound : (s : Contents) (cells : List PlainCell) (o : UnOp) (v : Value) → IsSound s (λ x. 0) (unary_outcome cells o v)
unary_sound s cells un.Not v = given s (λ x. 0) _
unary_sound s cells un.Complement v = one_whole s 0 _ (table.whole (operand cells v)) (λ x. overflow s 0 _)
unary_sound s cells un.Plus v = fine_itself s 0 (operand cells v)
unary_sound s cells un.Minus v = fine_negation s 0 (operand cells v)

kept_sound : (s : Contents) (o : PlainOperand) → IsSound s (λ x. copy_units o) (kept o)
kept_sound s operands.null = given s (λ x. 0) _
kept_sound s (operands.boolean b) = given s (λ x. 0) _
kept_sound s (operands.number z) = given s (λ x. 0) _
kept_sound s (operands.string t) = given s (λ x. 0) _
kept_sound s (operands.array vs) = new s (λ x. 1 + length vs) _ (omega arith)
kept_sound s (operands.dictionary ps) = new s (λ x. 1 + length ps) _ (omega arith)
kept_sound s (operands.function k) = refused s (λ x. 0) _

sum_sound : (s : Contents) (a b : PlainOperand) → IsSound s (λ x. sum_units a b) (sum a b)
sum_sound s (operands.number a) (operands.number b) = overflow s _ _
sum_sound s operands.null b = kept_sound s b
sum_sound s (operands.boolean a) operands.null = given s (λ x. 0) _
sum_sound s (operands.number a) operands.null = given s (λ x. 0) _
sum_sound s (operands.string a) operands.null = given s (λ x. 0) _
sum_sound s (operands.array a) operands.null = new s (λ x. 1 + length a) _ (omega arith)
sum_sound s (operands.dictionary a) operands.null = new s (λ x. 1 + length a) _ (omega arith)
sum_sound s (operands.function a) operands.null = refused s (λ x. 0) _
sum_sound s (operands.array a) (operands.array b) = new s (λ x. 1 + length (a ++ b)) _ (omega arith)
sum_sound s (operands.dictionary a) (operands.dictionary b) = new s (λ x. 1 + length (table.merged a b)) _ (omega arith)
sum_sound s a b = fine_joined s _ a b

difference_sound : (s : Contents) (same : Value → Value → Bool) (a b : PlainOperand) → IsSound s (λ x. difference_units same a b) (difference same a b)
difference_sound s same (operands.array a) (operands.array b) = new s (λ x. 1 + length (table.without same b a)) _ (omega arith)
difference_sound s same a b = both s 0 (λ x y. or_overflow (difference_of x y)) (table.numbers a b) (λ x y. overflow s 0 (difference_of x y))

pub binary_sound : (s : Contents) (cells : List PlainCell) (o : BinOp) (a b : Value) → IsSound s (λ x. binary_units cells o a b) (binary_outcome cells o a b)
binary_sound s cells bin.Mul a b = both s 0 _ (table.numbers (operand cells a) (operand cells b)) (λ x y. overflow s 0 _)
binary_sound s cells bin.Div a b = both s 0 _ (table.numbers (operand cells a) (operand cells b)) (λ x y. divided s 0 (is_zero y) op_fault.DivZero (quotient_of x y))
binary_sound s cells bin.Rem a b = both s 0 _ (table.numbers (operand cells a) (operand cells b)) (λ x y. divided s 0 (is_zero y) op_fault.DivZero (rest_of x y))
binary_sound s cells bin.Add a b = sum_sound s (operand cells a) (operand cells b)
binary_sound s cells bin.Sub a b = difference_sound s (table.same_in cells) (operand cells a) (operand cells b)
binary_sound s cells bin.ShiftLeft a b = both s 0 _ (table.wholes (operand cells a) (operand cells b)) (λ x y. by_places s 0 _ (table.places y) (λ k. overflow s 0 _))
binary_sound s cells bin.ShiftRight a b = both s 0 _ (table.wholes (operand cells a) (operand cells b)) (λ x y. by_places s 0 _ (table.places y) (λ k. overflow s 0 _))
binary_sound s cells bin.Less a b = wrong s 0 _
binary_sound s cells bin.Greater a b = wrong s 0 _
binary_sound s cells bin.LessEqual a b = wrong s 0 _
binary_sound s cells bin.GreaterEqual a b = wrong s 0 _
binary_sound s cells bin.In a b = wrong s 0 _
binary_sound s cells bin.NotIn a b = wrong s 0 _
binary_sound s cells bin.Equal a b = given s (λ x. 0) _
binary_sound s cells bin.NotEqual a b = given s (λ x. 0) _
binary_sound s cells bin.BitAnd a b = both s 0 _ (table.wholes (operand cells a) (operand cells b)) (λ x y. overflow s 0 _)
binary_sound s cells bin.BitXor a b = both s 0 _ (table.wholes (operand cells a) (operand cells b)) (λ x y. overflow s 0 _)
binary_sound s cells bin.BitOr a b = both s 0 _ (table.wholes (operand cells a) (operand cells b)) (λ x y. overflow s 0 _)
binary_sound s cells bin.And a b = given s (λ x. 0) _
binary_sound s cells bin.Or a b = given s (λ x. 0) _

-- ---- members

member_kind : (c : PlainCell) (k v : Value) (d : PlainCell) → with_member c k v ≡ Some d → is_array d ≡ is_array c
member_kind (dict ps) (value.Str n) v d e = cc
member_kind (array vs) (value.Number n) v d e = by (place_in (length vs) (table.whole_part n)) e
  where
    by : (o : Option ℕ) → (elim o as (λ q. Option PlainCell) [ None ↦ None | Some i ↦ Some (with_value (array vs) i v) ]) ≡ Some d → is_array d ≡ true
    by (Some i) h = cc
    by None h = absurd cc
member_kind c k v d e = absurd cc

option_sound : (s : Contents) (k : ℕ) (o : Option PlainCell) → ((d : PlainCell) → o ≡ Some d → is_array d ≡ is_array (cell_at s.cells k)) → IsSound s (λ x. comes.made_units x) (written_or_wrong s k o)
option_sound s k (Some d) h = unfrozen s (λ x. comes.made_units x) member_fault.Frozen k d (h d refl)
option_sound s k None h = refused s (λ x. comes.made_units x) _

pub member_sound : (s : Contents) (container k v : Value) → IsSound s (λ x. comes.made_units x) (set_outcome s container k v)
member_sound s (value.Ref c) k v = option_sound s c (with_member (cell_at s.cells c) k v) (λ d e. member_kind (cell_at s.cells c) k v d e)
member_sound s container k v = refused s (λ x. comes.made_units x) _

-- ---- the library

new_made : (s : Contents) (cost : lib.Answer → ℕ) (c : PlainCell) → cost ≡ comes.made_units → IsSound s cost (comes.makes c)
new_made s cost c e = subst (λ k. IsSound s k (comes.makes c)) (sym e) (new s comes.made_units c (omega arith))

new_texts : (s : Contents) (cost : lib.Answer → ℕ) (c : PlainCell) → cost ≡ comes.texts_units → IsSound s cost (comes.makes c)
new_texts s cost c e = subst (λ k. IsSound s k (comes.makes c)) (sym e) (new s comes.texts_units c (omega arith))

count : {A : Type 0} (s : Contents) (cost : lib.Answer → ℕ) (o : Option A) (f : A → lib.Answer) → ((a : A) → IsSound s cost (f a)) → IsSound s cost (lib.counted o f)
count s cost None f h = refused s cost _
count s cost (Some a) f h = h a

type : {A : Type 0} (s : Contents) (cost : lib.Answer → ℕ) (o : Option A) (f : A → lib.Answer) → ((a : A) → IsSound s cost (f a)) → IsSound s cost (lib.typed o f)
type s cost None f h = refused s cost _
type s cost (Some a) f h = h a

pushed_kind : (c : PlainCell) (v : Value) → is_array (pushed c v) ≡ is_array c
pushed_kind (array vs) v = refl
pushed_kind (dict ps) v = refl

pair_kind : (c : PlainCell) (k : List ℕ) (v : Value) → is_array (with_pair c k v) ≡ is_array c
pair_kind (array vs) k v = refl
pair_kind (dict ps) k v = refl

removed_kind : (c : PlainCell) (k : List ℕ) → is_array (without_pair c k) ≡ is_array c
removed_kind (array vs) k = refl
removed_kind (dict ps) k = refl

ranged_sound : (s : Contents) (first end step : ℤ) → IsSound s (units call.Range) (ranged first end step)
ranged_sound s first end step = type s (units call.Range) (cond (is_positive step) (Some step) None) (λ by. comes.makes (array (numbers_below first end by))) (λ by. new_made s (units call.Range) (array (numbers_below first end by)) refl)

range_sound : (s : Contents) (vs : List Value) → IsSound s (units call.Range) (range vs)
range_sound s [] = refused s (units call.Range) _
range_sound s (a ∷ []) = type s (units call.Range) (number_in a) (λ end. ranged (pos 0) end (pos 1000)) (λ end. ranged_sound s (pos 0) end (pos 1000))
range_sound s (a ∷ b ∷ []) =
    type s (units call.Range) (number_in a) (λ first. lib.typed (number_in b) (λ end. ranged first end (pos 1000))) (λ first.
    type s (units call.Range) (number_in b) (λ end. ranged first end (pos 1000)) (λ end. ranged_sound s first end (pos 1000)))
range_sound s (a ∷ b ∷ c ∷ []) =
    type s (units call.Range) (number_in a) (λ first. lib.typed (number_in b) (λ end. lib.typed (number_in c) (λ step. ranged first end step))) (λ first.
    type s (units call.Range) (number_in b) (λ end. lib.typed (number_in c) (λ step. ranged first end step)) (λ end.
    type s (units call.Range) (number_in c) (λ step. ranged first end step) (λ step. ranged_sound s first end step)))
range_sound s (a ∷ b ∷ c ∷ d ∷ vs) = refused s (units call.Range) _

pub call_sound : (c : Plain) (s : Contents) (args : List Value) → IsSound s (units c) (answer c s args)
call_sound call.Match s args = count s (units call.Match) (two args) _ (λ a. type s (units call.Match) (text_in a.0) _ (λ pattern. type s (units call.Match) (matched s.cells pattern a.1) _ (λ b. given s (units call.Match) _)))
call_sound call.Len s args = count s (units call.Len) (one args) _ (λ v. type s (units call.Len) (scalars.size_of s.cells v) _ (λ n. given s (units call.Len) _))
call_sound call.String s args = count s (units call.String) (one args) _ (λ v. type s (units call.String) (scalars.string_text v) _ (λ t. given s (units call.String) _))
call_sound call.Number s args = count s (units call.Number) (one args) _ (λ v. type s (units call.Number) (scalars.number_of v) _ (λ n. given s (units call.Number) _))
call_sound call.Bool s args = count s (units call.Bool) (one args) _ (λ v. given s (units call.Bool) _)
call_sound call.Range s args = range_sound s args
call_sound call.Union s args = count s (units call.Union) (some_args args) _ (λ xs. type s (units call.Union) (arrays.all_in (items_in s.cells) xs) _ (λ xss. new_made s (units call.Union) _ refl))
call_sound call.Intersection s args = count s (units call.Intersection) (some_args args) _ (λ xs. type s (units call.Intersection) (arrays.all_in (items_in s.cells) xs) _ (λ xss. new_made s (units call.Intersection) _ refl))
call_sound call.Keys s args = count s (units call.Keys) (one args) _ (λ d. type s (units call.Keys) (pairs_in s.cells d) _ (λ ps. new_texts s (units call.Keys) _ refl))
call_sound call.Log s args = given s (units call.Log) _
call_sound call.TextLen s args = count s (units call.TextLen) (one args) _ (λ v. type s (units call.TextLen) (text_in v) _ (λ t. given s (units call.TextLen) _))
call_sound call.TextContains s args = count s (units call.TextContains) (two args) _ (λ a. type s (units call.TextContains) (text_in a.0) _ (λ t. type s (units call.TextContains) (text_in a.1) _ (λ part. given s (units call.TextContains) _)))
call_sound call.TextLower s args = count s (units call.TextLower) (one args) _ (λ v. type s (units call.TextLower) (text_in v) _ (λ t. given s (units call.TextLower) _))
call_sound call.TextUpper s args = count s (units call.TextUpper) (one args) _ (λ v. type s (units call.TextUpper) (text_in v) _ (λ t. given s (units call.TextUpper) _))
call_sound call.TextTrim s args = count s (units call.TextTrim) (one args) _ (λ v. type s (units call.TextTrim) (text_in v) _ (λ t. given s (units call.TextTrim) _))
call_sound call.TextReplace s args = count s (units call.TextReplace) (three args) _ (λ a. type s (units call.TextReplace) (text_in a.0) _ (λ t. type s (units call.TextReplace) (text_in a.1) _ (λ part. type s (units call.TextReplace) (text_in a.2) _ (λ by. given s (units call.TextReplace) _))))
call_sound call.TextSplit s args = count s (units call.TextSplit) (two args) _ (λ a. type s (units call.TextSplit) (text_in a.0) _ (λ t. type s (units call.TextSplit) (text_in a.1) _ (λ separators. new_texts s (units call.TextSplit) _ refl)))
call_sound call.TextSubstr s args = count s (units call.TextSubstr) (three args) _ (λ a. type s (units call.TextSubstr) (text_in a.0) _ (λ t. type s (units call.TextSubstr) (number_in a.1) _ (λ m. type s (units call.TextSubstr) (number_in a.2) _ (λ n. type s (units call.TextSubstr) (table.whole_part m) _ (λ start. type s (units call.TextSubstr) (table.whole_part n) _ (λ len. type s (units call.TextSubstr) (texts.part_of t start len) _ (λ p. given s (units call.TextSubstr) _)))))))
call_sound call.ArrayLen s args = count s (units call.ArrayLen) (one args) _ (λ a. type s (units call.ArrayLen) (items_in s.cells a) _ (λ vs. given s (units call.ArrayLen) _))
call_sound call.ArrayContains s args = count s (units call.ArrayContains) (two args) _ (λ a. type s (units call.ArrayContains) (items_in s.cells a.0) _ (λ vs. given s (units call.ArrayContains) _))
call_sound call.ArrayGet s args = count s (units call.ArrayGet) (two args) _ (λ a. type s (units call.ArrayGet) (items_in s.cells a.0) _ (λ vs. type s (units call.ArrayGet) (number_in a.1) _ (λ n. type s (units call.ArrayGet) (table.whole_part n) _ (λ i. given s (units call.ArrayGet) _))))
call_sound call.ArrayAdd s args = count s (units call.ArrayAdd) (two args) _ (λ a. type s (units call.ArrayAdd) (array_in s.cells a.0) _ (λ k. unfrozen s (units call.ArrayAdd) lib_fault.Frozen k _ (pushed_kind (cell_at s.cells k) a.1)))
call_sound call.ArrayJoin s args = count s (units call.ArrayJoin) (two args) _ (λ a. type s (units call.ArrayJoin) (items_in s.cells a.0) _ (λ vs. type s (units call.ArrayJoin) (text_in a.1) _ (λ separator. type s (units call.ArrayJoin) (arrays.all_in scalars.scalar_text vs) _ (λ ts. given s (units call.ArrayJoin) _))))
call_sound call.ArraySort s args = count s (units call.ArraySort) (one args) _ (λ a. type s (units call.ArraySort) (items_in s.cells a) _ (λ vs. type s (units call.ArraySort) (arrays.sorted_values vs) _ (λ ws. new_made s (units call.ArraySort) _ refl)))
call_sound call.DictLen s args = count s (units call.DictLen) (one args) _ (λ d. type s (units call.DictLen) (pairs_in s.cells d) _ (λ ps. given s (units call.DictLen) _))
call_sound call.DictContains s args = count s (units call.DictContains) (two args) _ (λ a. type s (units call.DictContains) (pairs_in s.cells a.0) _ (λ ps. type s (units call.DictContains) (text_in a.1) _ (λ key. given s (units call.DictContains) _)))
call_sound call.DictGet s args = count s (units call.DictGet) (two args) _ (λ a. type s (units call.DictGet) (pairs_in s.cells a.0) _ (λ ps. type s (units call.DictGet) (text_in a.1) _ (λ key. given s (units call.DictGet) _)))
call_sound call.DictSet s args = count s (units call.DictSet) (three args) _ (λ a. type s (units call.DictSet) (dict_in s.cells a.0) _ (λ k. type s (units call.DictSet) (text_in a.1) _ (λ key. unfrozen s (units call.DictSet) lib_fault.Frozen k _ (pair_kind (cell_at s.cells k) key a.2))))
call_sound call.DictRemove s args = count s (units call.DictRemove) (two args) _ (λ a. type s (units call.DictRemove) (dict_in s.cells a.0) _ (λ k. type s (units call.DictRemove) (text_in a.1) _ (λ key. unfrozen s (units call.DictRemove) lib_fault.Frozen k _ (removed_kind (cell_at s.cells k) key))))
call_sound call.DictKeys s args = count s (units call.DictKeys) (one args) _ (λ d. type s (units call.DictKeys) (pairs_in s.cells d) _ (λ ps. new_texts s (units call.DictKeys) _ refl))
call_sound call.DictValues s args = count s (units call.DictValues) (one args) _ (λ d. type s (units call.DictValues) (pairs_in s.cells d) _ (λ ps. new_made s (units call.DictValues) _ refl))
