-- Tasks that are given to a baker, one after another.
use Rattle.std.proofs.Common.{◌≡◌, List, [], ◌∷◌, ◌++◌, refl, sym, ap, ◌∙◌, append_assoc, append-nil}
use Rattle.std.specs.List.{AllByRecursion}
use Rattle.task_reads.specs.Given.{GivesOnly}
use Rattle.task_reads.specs.declared.task_no.TaskNo.{TaskNo}

pub none_given : (t : TaskNo) (ts : List TaskNo) → GivesOnly t ts ts
none_given t ts = record { more = []; behind = sym (append-nil ts); only = tt }

pub one_given : (t : TaskNo) (ts us : List TaskNo) → us ≡ ts ++ t ∷ [] → GivesOnly t ts us
one_given t ts us h = record { more = t ∷ []; behind = h; only = (refl, tt) }

both_only : (t : TaskNo) (ts us : List TaskNo) → AllByRecursion (λ u. u ≡ t) ts → AllByRecursion (λ u. u ≡ t) us → AllByRecursion (λ u. u ≡ t) (ts ++ us)
both_only t [] us h k = k
both_only t (u ∷ ts) us h k = (h.0, both_only t ts us h.1 k)

pub given_then : (t : TaskNo) (ts us vs : List TaskNo) → GivesOnly t ts us → GivesOnly t us vs → GivesOnly t ts vs
given_then t ts us vs h k = record {
  more = h.more ++ k.more;
  behind = k.behind ∙ ap (λ l. l ++ k.more) h.behind ∙ append_assoc ts h.more k.more;
  only = both_only t h.more k.more h.only k.only;
}
