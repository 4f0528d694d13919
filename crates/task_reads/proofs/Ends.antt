-- Parts that are left, with one more at the end.
use Rattle.std.proofs.Common.{◌≡◌, ◌+◌, List, [], ◌∷◌, ◌++◌, arith}
use Rattle.task_reads.specs.Lefts.{AreSame, IsSame, Tells, left_work, works_of}
use Rattle.task_reads.specs.declared.equality.Left.{Left}

pub works_end : (ls : List Left) (l : Left) → works_of (ls ++ l ∷ []) ≡ works_of ls + left_work l
works_end [] l = omega arith
works_end (k ∷ ls) l = omega (arith, works_end ls l)

pub with_end : (ls : List Left) (l : Left) → AreSame ls → IsSame l → AreSame (ls ++ l ∷ [])
with_end [] l h k = (k, tt)
with_end (m ∷ ls) l h k = (h.0, with_end ls l h.1 k)

pub but_end : (ls : List Left) (l : Left) → AreSame (ls ++ l ∷ []) → AreSame ls × IsSame l
but_end [] l h = (tt, h.0)
but_end (m ∷ ls) l h = let both = but_end ls l h.1 in ((h.0, both.0), both.1)

-- what is left with a part at the end is told of by what is left with its parts in its place
pub split_end : {P : Type 0} (ls : List Left) (l inside rest : Left) → Tells (IsSame inside × IsSame rest) (IsSame l) → Tells (AreSame (ls ++ l ∷ [])) P → Tells (AreSame ((ls ++ rest ∷ []) ++ inside ∷ [])) P
split_end ls l inside rest part all = record {
  there = λ h. let outer = but_end (ls ++ rest ∷ []) inside h in let inner = but_end ls rest outer.0 in all.there (with_end ls l inner.0 (part.there (outer.1, inner.1)));
  back = λ p. let both = but_end ls l (all.back p) in let parts = part.back both.1 in with_end (ls ++ rest ∷ []) inside (with_end ls rest both.0 parts.1) parts.0;
}

pub drop_end : {P : Type 0} (ls : List Left) (l : Left) → IsSame l → Tells (AreSame (ls ++ l ∷ [])) P → Tells (AreSame ls) P
drop_end ls l same all = record {
  there = λ h. all.there (with_end ls l h same);
  back = λ p. (but_end ls l (all.back p)).0;
}
