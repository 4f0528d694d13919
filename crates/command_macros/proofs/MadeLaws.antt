-- Texts in front of what is made.
use Rattle.std.proofs.Common.{◌≡◌, ℕ, List, [], ◌∷◌, ◌++◌, refl, sym, ap, ◌∙◌, append_assoc, append-nil, Result, Ok, Err}
use Rattle.command_macros.specs.Made.{Made, made, missing, behind, followed}
use Rattle.command_macros.specs.Returns.{Writes}
use Rattle.command_macros.specs.Walk.{Continues}
use Rattle.command_macros.specs.declared.stop.Stop.{Stop}
use Rattle.command_macros.specs.declared.stop.Stop.TheVariants as stop

pub behind_nothing : (m : Made) → behind [] m ≡ m
behind_nothing (made t) = refl
behind_nothing (missing n) = refl

pub behind_both : (a b : List ℕ) (m : Made) → behind a (behind b m) ≡ behind (a ++ b) m
behind_both a b (made t) = ap made (sym (append_assoc a b t))
behind_both a b (missing n) = refl

pub behind_followed : (a : List ℕ) (m next : Made) → behind a (followed m next) ≡ followed (behind a m) next
behind_followed a (made t) next = behind_both a t next
behind_followed a (missing n) next = refl

pub followed_end : (m : Made) → followed m (made []) ≡ m
followed_end (made t) = ap made (append-nil t)
followed_end (missing n) = refl

pub followed_both : (a b c : Made) → followed (followed a b) c ≡ followed a (followed b c)
followed_both (made t) b c = sym (behind_followed t b c)
followed_both (missing n) b c = refl

-- what is behind a text is missing
pub missing_behind : (a n : List ℕ) (m : Made) → behind a m ≡ missing n → m ≡ missing n
missing_behind a n (made t) e = cc
missing_behind a n (missing o) e = e

-- what is written behind a text goes on behind it
pub goes_on : {A : Type 0} (old new : List ℕ) (m next : Made) (r : Result A Stop) → Writes old new r m → Continues old (followed m next) new next r
goes_on old new m next (Ok x) h = sym (behind_followed old m next ∙ ap (λ x. followed x next) h)
goes_on old new m next (Err (stop.Missing n)) h = ap (λ x. followed x next) h
goes_on old new m next (Err stop.Memory) h = tt

-- and ends where nothing is left
pub ends : {A : Type 0} (old new : List ℕ) (m : Made) (r : Result A Stop) → Continues old m new (made []) r → Writes old new r m
ends old new m (Ok x) h = sym h ∙ ap made (append-nil new)
ends old new m (Err (stop.Missing n)) h = h
ends old new m (Err stop.Memory) h = tt

-- an earlier step is taken back
pub goes_behind : {A : Type 0} (old mid new : List ℕ) (all some left : Made) (r : Result A Stop) → behind mid some ≡ behind old all → Continues mid some new left r → Continues old all new left r
goes_behind old mid new all some left (Ok x) e h = h ∙ e
goes_behind old mid new all some left (Err (stop.Missing n)) e h = missing_behind old n.now all (sym e ∙ ap (behind mid) h)
goes_behind old mid new all some left (Err stop.Memory) e h = tt

-- of what is missing only the name counts
pub stops : (A B : Type 0) (old new end : List ℕ) (all left : Made) (e : Stop) → Continues {A = A} old all new left (Err e) → Writes {A = B} old end (Err e) all
stops A B old new end all left (stop.Missing n) h = h
stops A B old new end all left stop.Memory h = tt
