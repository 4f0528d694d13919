-- The pieces of a text, from one dollar sign to the next.
use Rattle.std.proofs.Common.{◌≡◌, ◌≢◌, ℕ, Bool, true, false, cond, eqb, List, [], ◌∷◌, ◌++◌, Option, Some, None, refl, sym, ap, ◌∙◌, subst, append_assoc, append-nil, arith, Result, Ok, Err}
use Rattle.std.proofs.lemmas.Bool.Decides.{nat_tests}
use Rattle.command_macros.specs.Cuts.{Lacks}
use Rattle.command_macros.specs.Macros.{text_with}
use Rattle.command_macros.specs.Made.{Made, made, missing, behind, followed, piece_made, filled}
use Rattle.command_macros.specs.Pieces.{Piece, plain, macro, between, pieces_from, pieces}
use Rattle.command_macros.specs.Returns.{Writes}
use Rattle.command_macros.specs.declared.stop.Stop.{Stop}
use Rattle.command_macros.specs.declared.stop.Stop.TheVariants as stop
use Rattle.command_macros.proofs.MadeLaws.{behind_nothing, behind_both, behind_followed, followed_end, missing_behind}

other : (b c : ℕ) → b ≢ c → eqb b c ≡ false
other b c h = grind (arith, nat_tests)

-- up to a dollar sign a text stands for itself
pub front_filled : (look : List ℕ → Made) (front more : List ℕ) → Lacks 36 front → filled look (pieces_from (front ++ more) None) ≡ behind front (filled look (pieces_from more None))
front_filled look [] more h = sym (behind_nothing (filled look (pieces_from more None)))
front_filled look (b ∷ bs) more h =
    ap (λ t. filled look (cond t (pieces_from (bs ++ more) (Some [])) (plain (b ∷ []) ∷ pieces_from (bs ++ more) None))) (other b 36 h.0)
    ∙ (ap (behind (b ∷ [])) (front_filled look bs more h.1) ∙ behind_both (b ∷ []) bs (filled look (pieces_from more None)))

-- up to the next one it is a name
pub name_pieces : (name more so : List ℕ) → Lacks 36 name → pieces_from (name ++ 36 ∷ more) (Some so) ≡ between (so ++ name) ∷ pieces_from more None
name_pieces [] more so h = ap (λ n. between n ∷ pieces_from more None) (sym (append-nil so))
name_pieces (b ∷ bs) more so h =
    ap (λ t. cond t (between so ∷ pieces_from (bs ++ 36 ∷ more) None) (pieces_from (bs ++ 36 ∷ more) (Some (so ++ b ∷ [])))) (other b 36 h.0)
    ∙ (name_pieces bs more (so ++ b ∷ []) h.1 ∙ ap (λ n. between n ∷ pieces_from more None) (append_assoc so (b ∷ []) bs))

-- without one the first stands for itself
pub last_pieces : (rest so : List ℕ) → Lacks 36 rest → pieces_from rest (Some so) ≡ plain (36 ∷ (so ++ rest)) ∷ []
last_pieces [] so h = ap (λ n. plain (36 ∷ n) ∷ []) (sym (append-nil so))
last_pieces (b ∷ bs) so h =
    ap (λ t. cond t (between so ∷ pieces_from bs None) (pieces_from bs (Some (so ++ b ∷ [])))) (other b 36 h.0)
    ∙ (last_pieces bs (so ++ b ∷ []) h.1 ∙ ap (λ n. plain (36 ∷ n) ∷ []) (append_assoc so (b ∷ []) bs))

-- a text without a dollar sign
pub text_plain : (look : List ℕ → Made) (text : List ℕ) → Lacks 36 text → text_with look text ≡ made text
text_plain look text h =
    ap (λ t. filled look (pieces_from t None)) (sym (append-nil text)) ∙ (front_filled look text [] h ∙ ap made (append-nil text))

-- with one
pub text_last : (look : List ℕ → Made) (text front rest : List ℕ) → text ≡ front ++ 36 ∷ rest → Lacks 36 front → Lacks 36 rest → text_with look text ≡ behind front (made (36 ∷ rest))
text_last look text front rest e f r =
    ap (text_with look) e
    ∙ (front_filled look front (36 ∷ rest) f
    ∙ ap (behind front) (ap (filled look) (last_pieces rest [] r) ∙ followed_end (made (36 ∷ rest))))

-- with two
pub text_turn : (look : List ℕ → Made) (text front rest name more : List ℕ) → text ≡ front ++ 36 ∷ rest → Lacks 36 front → rest ≡ name ++ 36 ∷ more → Lacks 36 name
    → text_with look text ≡ behind front (followed (piece_made look (between name)) (text_with look more))
text_turn look text front rest name more e f g n =
    ap (text_with look) (e ∙ ap (λ r. front ++ 36 ∷ r) g)
    ∙ (front_filled look front (36 ∷ (name ++ 36 ∷ more)) f ∙ ap (behind front) (ap (filled look) (name_pieces name more [] n)))

-- The steps of writing a text, where this is what is made of what is left.
pub whole_step : (look : List ℕ → Made) (rest out new : List ℕ) (all : Made) → Lacks 36 rest → new ≡ out ++ rest → behind out (text_with look rest) ≡ all → all ≡ made new
whole_step look rest out new all lacks n h = sym h ∙ (ap (behind out) (text_plain look rest lacks) ∙ ap made (sym n))

pub last_step : (look : List ℕ → Made) (rest front b out mid new : List ℕ) (all : Made) → rest ≡ front ++ 36 ∷ b → Lacks 36 front → Lacks 36 b → mid ≡ out ++ front → new ≡ mid ++ 36 ∷ b
    → behind out (text_with look rest) ≡ all → all ≡ made new
last_step look rest front b out mid new all e f g m n h =
    sym h ∙ (ap (behind out) (text_last look rest front b e f g) ∙ ap made (sym (append_assoc out front (36 ∷ b)) ∙ (ap (λ x. x ++ 36 ∷ b) (sym m) ∙ sym n)))

turned : (look : List ℕ → Made) (rest front b name more out mid : List ℕ) (all : Made) → rest ≡ front ++ 36 ∷ b → Lacks 36 front → b ≡ name ++ 36 ∷ more → Lacks 36 name → mid ≡ out ++ front
    → behind out (text_with look rest) ≡ all → followed (behind mid (piece_made look (between name))) (text_with look more) ≡ all
turned look rest front b name more out mid all e f g n m h =
    sym (behind_followed mid (piece_made look (between name)) (text_with look more))
    ∙ (ap (λ x. behind x (followed (piece_made look (between name)) (text_with look more))) m
    ∙ (sym (behind_both out front (followed (piece_made look (between name)) (text_with look more)))
    ∙ (ap (behind out) (sym (text_turn look rest front b name more e f g n)) ∙ h)))

pub turn_step : (look : List ℕ → Made) (rest front b name more out mid new : List ℕ) (all : Made) → rest ≡ front ++ 36 ∷ b → Lacks 36 front → b ≡ name ++ 36 ∷ more → Lacks 36 name → mid ≡ out ++ front
    → behind mid (piece_made look (between name)) ≡ made new → behind out (text_with look rest) ≡ all → behind new (text_with look more) ≡ all
turn_step look rest front b name more out mid new all e f g n m w h =
    sym (ap (λ x. followed x (text_with look more)) w) ∙ turned look rest front b name more out mid all e f g n m h

pub stop_step : (A B : Type 0) (look : List ℕ → Made) (rest front b name more out mid new old end : List ℕ) (all : Made) (s : Stop) → rest ≡ front ++ 36 ∷ b → Lacks 36 front → b ≡ name ++ 36 ∷ more → Lacks 36 name
    → mid ≡ out ++ front → Writes {A = A} mid new (Err s) (piece_made look (between name)) → behind out (text_with look rest) ≡ behind old all → Writes {A = B} old end (Err s) all
stop_step A B look rest front b name more out mid new old end all (stop.Missing x) e f g n m w h =
    missing_behind old x.now all
    (sym (turned look rest front b name more out mid (behind old all) e f g n m h) ∙ ap (λ y. followed (behind mid y) (text_with look more)) w)
stop_step A B look rest front b name more out mid new old end all stop.Memory e f g n m w h = tt
