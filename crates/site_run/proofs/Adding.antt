-- What calls take, write and start, one after another.
use Rattle.std.proofs.Common.{◌≡◌, ℕ, List, [], ◌∷◌, ◌++◌, length, Option, Some, None, MatchOption, ◌⊎◌, refl, sym, ap, ◌∙◌, subst, append_assoc, arith, ◌≤◌}
use Rattle.std.proofs.lemmas.List.{append-nil}
use Rattle.site_edge.specs.Lists.{Adds, AddsPart, IsFirst, TakesFirst}
use Rattle.site_edge.specs.declared.order.Order.{Order}
use Rattle.site_edge.specs.declared.turn.Turn.{Turn}
use Rattle.site_run.specs.Starts.{calls_with}
use Rattle.site_run.specs.Ends.{IsAt, IsPartStarted, IsPartWritten, NoneLeft, Outside, Takes}

-- What is added.

pub adds_none : {A : Type 0} (o : Option (List A)) → Adds [] o o
adds_none None = refl
adds_none (Some all) = ap Some (sym (append-nil all))

pub adds_same : {A : Type 0} (o n : Option (List A)) → n ≡ o → Adds [] o n
adds_same o n e = subst (Adds [] o) (sym e) (adds_none o)

pub adds_more : {A : Type 0} (a b : List A) (o m n : Option (List A)) → Adds a o m → Adds b m n → Adds (a ++ b) o n
adds_more a b None m n p q = subst (λ x. Adds b x n) p q
adds_more a b (Some all) m n p q = subst (λ x. Adds b x n) p q ∙ ap Some (append_assoc all a b)

-- a prefix is a part that is added whole
pub part_of : {A : Type 0} (more : List A) (o n : Option (List A)) → AddsPart more o n → (part : List A) × (rest : List A) × (more ≡ part ++ rest) × Adds part o n
part_of more None n p = ([], more, refl, p)
part_of more (Some all) n p = p

pub adds_part : {A : Type 0} (part rest : List A) (o n : Option (List A)) → Adds part o n → AddsPart (part ++ rest) o n
adds_part part rest None n p = p
adds_part part rest (Some all) n p = (part, rest, refl, p)

pub part_same : {A : Type 0} (more : List A) (o n : Option (List A)) → n ≡ o → AddsPart more o n
part_same more o n e = adds_part [] more o n (adds_same o n e)

-- By which calls orders are started.

pub no_call : (os : List Order) (k : Option (List (List Order))) → length os ≡ 0 → Adds (calls_with os) k k
no_call [] k e = adds_none k
no_call (o ∷ os) k e = absurd (omega (arith, e))

pub one_call : (os : List Order) (k k' : Option (List (List Order))) → 1 ≤ length os → Adds (os ∷ []) k k' → Adds (calls_with os) k k'
one_call [] k k' h p = absurd (omega (arith, h))
one_call (o ∷ os) k k' h p = p

-- Turns that are taken.

pub takes_none : (o : Option (List Turn)) → Takes [] o o
takes_none None = refl
takes_none (Some all) = (all, refl, refl)

pub takes_more : (a b : List Turn) (o m n : Option (List Turn)) → Takes a o m → Takes b m n → Takes (a ++ b) o n
takes_more a b None m n p q = subst (λ x. Takes b x n) p q
takes_more a b (Some all) m n p q =
    let r : Takes b (Some p.0) n = subst (λ x. Takes b x n) p.2 q in
    (r.0, p.1 ∙ ap (λ left. a ++ left) r.1 ∙ sym (append_assoc a b r.0), r.2)

one_of : {A : Type 0} (x y : A) → Some x ≡ Some y → x ≡ y
one_of x y h = cc

first_taken : (t : Turn) (all : List Turn) (n : Option (List Turn)) → IsFirst all n (Some t) → (left : List Turn) × (all ≡ t ∷ [] ++ left) × (n ≡ Some left)
first_taken t [] n p = let no = p.0 in absurd cc
first_taken t (x ∷ xs) n p = (xs, ap (λ y. y ∷ xs) (sym (one_of t x p.0)), p.1)

pub takes_first : (t : Turn) (o n : Option (List Turn)) → TakesFirst o n (Some t) → Takes (t ∷ []) o n
takes_first t None n p = p
takes_first t (Some all) n p = first_taken t all n p

none_first : (all : List Turn) (n : Option (List Turn)) → IsFirst all n None → n ≡ Some all
none_first [] n p = p.1
none_first (x ∷ xs) n p = let no = p.0 in absurd cc

none_after : (all : List Turn) (n : Option (List Turn)) → IsFirst all n None → NoneLeft n
none_after [] n p = subst NoneLeft (sym p.1) refl
none_after (x ∷ xs) n p = let no = p.0 in absurd cc

-- where there is none, nothing changes
pub takes_nothing : (o n : Option (List Turn)) → TakesFirst o n None → n ≡ o
takes_nothing None n p = p
takes_nothing (Some all) n p = none_first all n p

pub none_left : (o n : Option (List Turn)) → TakesFirst o n None → NoneLeft n
none_left None n p = subst NoneLeft (sym p) tt
none_left (Some all) n p = none_after all n p

-- All of it.

pub at_none : (o : Outside) → IsAt [] [] [] [] o o
at_none o = record { turns = takes_none o.turns; written = adds_none o.written; started = adds_none o.started; calls = adds_none o.calls }

pub at_more : (a b : List Turn) (w v : List ℕ) (s r : List Order) (k l : List (List Order)) (o m n : Outside) → IsAt a w s k o m → IsAt b v r l m n → IsAt (a ++ b) (w ++ v) (s ++ r) (k ++ l) o n
at_more a b w v s r k l o m n p q = record {
  turns = takes_more a b o.turns m.turns n.turns p.turns q.turns;
  written = adds_more w v o.written m.written n.written p.written q.written;
  started = adds_more s r o.started m.started n.started p.started q.started;
  calls = adds_more k l o.calls m.calls n.calls p.calls q.calls;
}

-- within one turn nothing is taken
pub at_within : (a : List Turn) (w v : List ℕ) (s r : List Order) (k l : List (List Order)) (o m n : Outside) → IsAt a w s k o m → IsAt [] v r l m n → IsAt a (w ++ v) (s ++ r) (k ++ l) o n
at_within a w v s r k l o m n p q = subst (λ ts. IsAt ts (w ++ v) (s ++ r) (k ++ l) o n) (append-nil a) (at_more a [] w v s r k l o m n p q)

pub written_within : (a : List Turn) (w text : List ℕ) (s : List Order) (k : List (List Order)) (o m n : Outside) → IsAt a w s k o m → IsPartWritten [] [] text [] [] m n → IsPartWritten a w text s k o n
written_within a w text s k o m n p q = record {
  part = q.part;
  rest = q.rest;
  are = q.are;
  at =
      subst (λ ks. IsAt a (w ++ q.part) s ks o n) (append-nil k)
      (subst (λ os. IsAt a (w ++ q.part) os (k ++ []) o n) (append-nil s) (at_within a w q.part s [] k [] o m n p q.at));
}

pub started_within : (a : List Turn) (w text : List ℕ) (s orders : List Order) (k : List (List Order)) (o m n : Outside) → IsAt a w s k o m → IsPartStarted [] text [] orders [] m n → IsPartStarted a (w ++ text) s orders k o n
started_within a w text s orders k o m n p q = record {
  part = q.part;
  rest = q.rest;
  are = q.are;
  some = q.some;
  tried = q.tried;
  untold = q.untold;
  one = q.one;
  at = at_within a w text s q.part k q.tried o m n p q.at;
  through = q.through;
}
