-- The order that a walk makes, stretch by stretch.
use Rattle.std.proofs.Common.{◌≡◌, ℕ, zero, suc, ◌+◌, ◌-◌, ◌<◌, ◌≤◌, Bool, false, cond, List, [], ◌∷◌, ◌++◌, length, map, set, get_or, slice_get, Option, Some, None, refl, sym, ap, subst, ◌∙◌, arith, length-append, append_assoc, append-nil}
use Rattle.std.specs.Option.{option_map}
use Rattle.std.proofs.lemmas.List.{set_at, get_or_append_left}
use Rattle.std.proofs.lemmas.Option.{slice_get_within, slice_get-map, slice_get-get_or, get_or_from_slice_get}
use Rattle.dsl_syntax.specs.Syntax.{Statements, no_statements}
use Rattle.walk_order.specs.Orders.{inclusion_count, AreMany, IsFile, IsInclusion, AreInclusions, IsPartBy, IsPart, IsOrder}
use Rattle.conf_sources.specs.Inclusions.{inclusions as inclusions_of}
use Rattle.site_conf.specs.Sound.{IsClear, IsSound, Grows, IsLater, IsFound, a_part, a_file, some_files, an_inclusion, some_inclusions, IsStretch, IsWalked, IsOver}
use Rattle.site_conf.specs.Walks.{WalkState, empty_state, with_number, with_length, or_nothing}
use Rattle.site_conf.proofs.CountLaws.{counted}
use Rattle.site_conf.proofs.SoundLaws.{grows_on, same_sound, number_later}

-- Pieces one after another.

many_last : (P : List ℕ → Type 0) (n : ℕ) (front last : List ℕ) → AreMany P n front → P last → AreMany P (suc n) (front ++ last)
many_last P zero front last e h = (last, [], ap (λ l. l ++ last) e ∙ sym (append-nil last), h, refl)
many_last P (suc n) front last m h = (m.0, m.1 ++ last, ap (λ l. l ++ last) m.2 ∙ append_assoc m.0 m.1 last, m.3, many_last P n m.1 last m.4 h)

many_so : (P Q : List ℕ → Type 0) → ((o : List ℕ) → P o → Q o) → (n : ℕ) (order : List ℕ) → AreMany P n order → AreMany Q n order
many_so P Q f zero order m = m
many_so P Q f (suc n) order m = (m.0, m.1, m.2, f m.0 m.3, many_so P Q f n m.1 m.4)

-- Trees that come later change no part.

file_so : (P Q : ℕ → List ℕ → Type 0) → ((i : ℕ) (o : List ℕ) → P i o → Q i o) → (order : List ℕ) → IsFile P order → IsFile Q order
file_so P Q f [] h = h
file_so P Q f (i ∷ order) h = f i order h

inclusion_so : (P Q : ℕ → List ℕ → Type 0) → ((i : ℕ) (o : List ℕ) → P i o → Q i o) → (order : List ℕ) → IsInclusion P order → IsInclusion Q order
inclusion_so P Q f [] h = h
inclusion_so P Q f (n ∷ order) h = many_so (IsFile P) (IsFile Q) (file_so P Q f) n order h

tree_so : (P Q : ℕ → List ℕ → Type 0) → ((i : ℕ) (o : List ℕ) → P i o → Q i o) → (a b : Option Statements) → ((t : Statements) → a ≡ Some t → b ≡ Some t) → (order : List ℕ)
    → IsPartBy P a order → IsPartBy Q b order
tree_so P Q f a b same [] h = h
tree_so P Q f None b same (n ∷ order) h = absurd h.1
tree_so P Q f (Some t) b same (n ∷ order) h =
    subst (λ x. IsPartBy Q x (n ∷ order)) (sym (same t refl)) (h.0, many_so (IsInclusion P) (IsInclusion Q) (inclusion_so P Q f) (inclusion_count t) order h.1)

still_there : (xs more : List Statements) (i : ℕ) (t : Statements) → slice_get xs i ≡ Some t → slice_get (xs ++ more) i ≡ Some t
still_there xs more i t e =
    let inside : i < length xs = slice_get_within xs i t e in
    let longer : i < length (xs ++ more) = omega (arith, inside, length-append xs more) in
    slice_get-get_or (xs ++ more) i t longer ∙ ap Some (get_or_append_left xs more t i inside ∙ get_or_from_slice_get xs i t t e)

part_grows : (trees more : List Statements) (depth i : ℕ) (order : List ℕ) → IsPart trees depth i order → IsPart (trees ++ more) depth i order
part_grows trees more zero i order h = h
part_grows trees more (suc depth) i order h =
    tree_so (IsPart trees depth) (IsPart (trees ++ more) depth) (part_grows trees more depth) (slice_get trees i) (slice_get (trees ++ more) i) (λ t e. still_there trees more i t e) order h

part_later : (a b : List Statements) → Grows a b → (depth i : ℕ) (order : List ℕ) → IsPart a depth i order → IsPart b depth i order
part_later a b g depth i order h = subst (λ x. IsPart x depth i order) (sym g.1) (part_grows a g.0 depth i order h)

files_later : (a b : List Statements) → Grows a b → (left n : ℕ) (order : List ℕ) → AreMany (IsFile (IsPart a left)) n order → AreMany (IsFile (IsPart b left)) n order
files_later a b g left n order h = many_so (IsFile (IsPart a left)) (IsFile (IsPart b left)) (file_so (IsPart a left) (IsPart b left) (part_later a b g left)) n order h

inclusions_later : (a b : List Statements) → Grows a b → (left n : ℕ) (order : List ℕ) → AreMany (IsInclusion (IsPart a left)) n order → AreMany (IsInclusion (IsPart b left)) n order
inclusions_later a b g left n order h = many_so (IsInclusion (IsPart a left)) (IsInclusion (IsPart b left)) (inclusion_so (IsPart a left) (IsPart b left) (part_later a b g left)) n order h

-- Files and inclusions one after another.

longer_by : (s t u : WalkState) (a b : List ℕ) → t.order ≡ s.order ++ a → u.order ≡ t.order ++ b → u.order ≡ s.order ++ (a ++ b)
longer_by s t u a b e f = f ∙ ap (λ l. l ++ b) e ∙ append_assoc s.order a b

pub files_on : (left n m : ℕ) (s t u : WalkState) → m ≡ suc n → IsWalked (some_files left n) s t → IsWalked (a_file left) t u → IsWalked (some_files left m) s u
files_on left n m s t u e g h = subst (λ k. IsWalked (some_files left k) s u) (sym e) (record {
  sound = h.sound;
  more = omega (arith, g.more, h.more);
  trees = grows_on s.trees t.trees u.trees g.trees h.trees;
  clear = λ c. g.clear (h.clear c);
  added = λ c.
      let x = g.added (h.clear c) in
      let y = h.added c in
      (x.0 ++ y.0, longer_by s t u x.0 y.0 x.1 y.1, many_last (IsFile (IsPart u.trees left)) n x.0 y.0 (files_later t.trees u.trees h.trees left n x.0 x.2) y.2);
})

pub inclusions_on : (left n m : ℕ) (s t u : WalkState) → m ≡ suc n → IsWalked (some_inclusions left n) s t → IsWalked (an_inclusion left) t u → IsWalked (some_inclusions left m) s u
inclusions_on left n m s t u e g h = subst (λ k. IsWalked (some_inclusions left k) s u) (sym e) (record {
  sound = h.sound;
  more = omega (arith, g.more, h.more);
  trees = grows_on s.trees t.trees u.trees g.trees h.trees;
  clear = λ c. g.clear (h.clear c);
  added = λ c.
      let x = g.added (h.clear c) in
      let y = h.added c in
      (x.0 ++ y.0, longer_by s t u x.0 y.0 x.1 y.1, many_last (IsInclusion (IsPart u.trees left)) n x.0 y.0 (inclusions_later t.trees u.trees h.trees left n x.0 x.2) y.2);
})

-- One inclusion.

pub inclusion_walked : (left n : ℕ) (s t u : WalkState) → t ≡ with_number n s → IsSound s → IsWalked (some_files left n) t u → IsWalked (an_inclusion left) s u
inclusion_walked left n s t u e h g =
    let first : IsLater s t = number_later n s t e h in
    record {
      sound = g.sound;
      more = omega (arith, first.more, g.more);
      trees = grows_on s.trees t.trees u.trees first.trees g.trees;
      clear = λ c. first.clear (g.clear c);
      added = λ c. let x = g.added c in (n ∷ x.0, longer_by s t u (n ∷ []) x.0 (ap (λ y. y.order) e) x.1, x.2);
    }

-- One file.

pub file_found : (left index : ℕ) (s t u : WalkState) → 0 < left → IsFound s t (Some index) → IsWalked (a_part (left - 1) index) t u → IsWalked (a_file left) s u
file_found zero index s t u l f g = absurd (omega (arith, l))
file_found (suc left) index s t u l f g = record {
  sound = g.sound;
  more = omega (arith, f.later.more, g.more);
  trees = grows_on s.trees t.trees u.trees f.later.trees g.trees;
  clear = λ c. f.later.clear (g.clear c);
  added = λ c.
      let x = g.added c in
      let less : suc left - 1 ≡ left = omega arith in
      (index ∷ x.0, longer_by s t u (index ∷ []) x.0 (f.added (g.clear c)) x.1, subst (λ n. IsPart u.trees (suc n) index x.0) less x.2);
}

-- The part of a file.

tree_at : (s : WalkState) (index : ℕ) → IsSound s → index < length s.names → slice_get s.trees index ≡ Some (get_or s.trees index no_statements)
tree_at s index h i = slice_get-get_or s.trees index no_statements (omega (arith, i, h.trees))

-- the inclusions of a file are those of its tree
inclusions_at : (s : WalkState) (index : ℕ) → IsSound s → index < length s.names → or_nothing (slice_get s.inclusions index) ≡ inclusions_of (get_or s.trees index no_statements)
inclusions_at s index h i =
    ap (λ l. or_nothing (slice_get l index)) h.listed ∙ ap or_nothing (slice_get-map inclusions_of s.trees index) ∙ ap (λ o. or_nothing (option_map inclusions_of o)) (tree_at s index h i)

-- the number at the beginning is how many stand behind it
length_set : (front own order : List ℕ) (start : ℕ) → start ≡ length front → order ≡ front ++ 0 ∷ own → set order start (length order - start - 1) ≡ front ++ length own ∷ own
length_set front own order start es eo =
    let all : length order ≡ length front + suc (length own) = ap length eo ∙ length-append front (0 ∷ own) in
    let behind : length order - start - 1 ≡ length own = omega (arith, all, es) in
    ap (λ n. set order start n) behind ∙ ap (λ o. set o start (length own)) eo ∙ set_at front 0 own (length own) start (sym es)

part_own : (left index m : ℕ) (s u : WalkState) (own : List ℕ) → m ≡ length (or_nothing (slice_get s.inclusions index)) → IsSound s → index < length s.names → Grows s.trees u.trees
    → AreMany (IsInclusion (IsPart u.trees left)) m own → IsPart u.trees (suc left) index (length own ∷ own)
part_own left index m s u own em h i g many =
    let tree : Statements = get_or s.trees index no_statements in
    let there : slice_get u.trees index ≡ Some tree = ap (λ l. slice_get l index) g.1 ∙ still_there s.trees g.0 index tree (tree_at s index h i) in
    let number : m ≡ inclusion_count tree = em ∙ ap length (inclusions_at s index h i) ∙ counted tree in
    let all : AreMany (IsInclusion (IsPart u.trees left)) (inclusion_count tree) own = subst (λ n. AreMany (IsInclusion (IsPart u.trees left)) n own) number many in
    subst (λ t. IsPartBy (IsPart u.trees left) t (length own ∷ own)) (sym there) (refl, all)

pub part_walked : (left index m start : ℕ) (s t u v : WalkState) → t ≡ with_number 0 s → start ≡ length s.order → m ≡ length (or_nothing (slice_get s.inclusions index)) → IsSound s → index < length s.names
    → IsWalked (some_inclusions left m) t u → v ≡ with_length start u → IsWalked (a_part left index) s v
part_walked left index m start s t u v et es em h i g ev =
    let first : IsLater s t = number_later 0 s t et h in
    let grown : Grows s.trees u.trees = grows_on s.trees t.trees u.trees first.trees g.trees in
    subst (λ x. IsWalked (a_part left index) s x) (sym ev) (record {
      sound = same_sound u (set u.order start (length u.order - start - 1)) u.count g.sound;
      more = omega (arith, first.more, g.more);
      trees = grown;
      clear = λ c. first.clear (g.clear c);
      added = λ c.
          let x = g.added c in
          let whole : u.order ≡ s.order ++ 0 ∷ x.0 = longer_by s t u (0 ∷ []) x.0 (ap (λ y. y.order) et) x.1 in
          (length x.0 ∷ x.0, length_set s.order x.0 u.order start es whole, part_own left index m s u x.0 em h i grown x.2);
    })

-- The whole walk.

pub no_root : (s t : WalkState) → IsFound s t None → IsOver t
no_root s t f = record { sound = f.later.sound; order = λ c. absurd (f.added c) }

pub root_walked : (index : ℕ) (s t u : WalkState) → s ≡ empty_state → IsFound s t (Some index) → IsWalked (a_part 50 index) t u → IsOver u
root_walked index s t u e f g = record {
  sound = g.sound;
  order = λ c.
      let x = g.added c in
      let whole : u.order ≡ index ∷ x.0 = longer_by s t u (index ∷ []) x.0 (f.added (g.clear c)) x.1 ∙ ap (λ y. y.order ++ index ∷ x.0) e in
      subst (λ o. IsOrder u.trees o) (sym whole) x.2;
}
