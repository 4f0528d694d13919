-- Words in front of words.
use Rattle.std.proofs.Common.{◌≡◌, ℕ, List, [], ◌∷◌, ◌++◌, refl, sym, ap, ◌∙◌, append_assoc, append-nil, Result, Ok, Err}
use Rattle.command_macros.specs.Arguments.{Words, words, lacks, in_front, joined}
use Rattle.command_macros.specs.Returns.{Adds}
use Rattle.command_macros.specs.declared.stop.Stop.{Stop}
use Rattle.command_macros.specs.declared.stop.Stop.TheVariants as stop

pub front_both : (a b : List (List ℕ)) (ws : Words) → in_front a (in_front b ws) ≡ in_front (a ++ b) ws
front_both a b (words ts) = ap words (sym (append_assoc a b ts))
front_both a b (lacks n) = refl

pub front_joined : (a : List (List ℕ)) (ws more : Words) → in_front a (joined ws more) ≡ joined (in_front a ws) more
front_joined a (words ts) more = front_both a ts more
front_joined a (lacks n) more = refl

pub lacks_behind : (a : List (List ℕ)) (n : List ℕ) (ws : Words) → in_front a ws ≡ lacks n → ws ≡ lacks n
lacks_behind a n (words ts) e = cc
lacks_behind a n (lacks o) e = e

-- a step, with what follows it
pub adds_then : (old mid new : List (List ℕ)) (all some more : Words) → in_front mid (joined some more) ≡ in_front old all → in_front mid some ≡ words new → in_front new more ≡ in_front old all
adds_then old mid new all some more e h = sym (front_joined mid some more ∙ ap (λ x. joined x more) h) ∙ e

-- a step that stopped
pub adds_stop : (A B : Type 0) (old mid new end : List (List ℕ)) (all some more : Words) (e : Stop) → in_front mid (joined some more) ≡ in_front old all → Adds {A = A} mid new (Err e) some → Adds {A = B} old end (Err e) all
adds_stop A B old mid new end all some more (stop.Missing n) e h = lacks_behind old n.now all (sym e ∙ ap (λ x. in_front mid (joined x more)) h)
adds_stop A B old mid new end all some more stop.Memory e h = tt

-- nothing is added
pub adds_nothing : (old : List (List ℕ)) → in_front old (words []) ≡ words old
adds_nothing old = ap words (append-nil old)
