-- The front of a line, both ways.
use Rattle.std.proofs.Common.{◌≡◌, ℕ, ◌==◌, Bool, true, false, cond, List, [], ◌∷◌, refl, ap, ◌∙◌, arith, Option, Some, None, lit<}
use Rattle.std.proofs.lemmas.Bool.Decides.{nat_tests}
use Rattle.std.proofs.lemmas.Str.{IsUtf8-from_is_utf8, is_utf8-from_IsUtf8}
use Rattle.std.specs.Str.{IsUtf8, is_utf8}
use Rattle.site_model.specs.PlainSite.{PlainSite}
use Rattle.event_text.specs.Cuts.{IsUncut, Cut, cut, uncut, cut_at}
use Rattle.event_text.specs.Fields.{semicolon}
use Rattle.event_text.specs.Lines.{Answer, faulty, bracket, IsHead, HasName, IsCommand}
use Rattle.event_text.specs.Numbers.{IsNumber}
use Rattle.event_text.specs.Reading.{line_read, text_read, head_read, command_read, cut_read, named_read, bare_read}
use Rattle.event_text.specs.declared.line_fault.LineFault.TheVariants as fault
use Rattle.event_text.proofs.CutLaws.{cut_sound, cut_complete, uncut_sound, uncut_complete}
use Rattle.event_text.proofs.NumberLaws.{is_number_found, no_number}

-- what a text begins with decides whether it has a head
pub head_found : (s : PlainSite) (line moment command : List ℕ) → IsHead line moment command → text_read s line ≡ head_read s (cut moment command)
unfolding text_read
head_found s line moment command h =
    ap (text_read s) h.opened ∙ ap (head_read s) (cut_complete bracket h.inner moment command (lit< tt) h.closed)

same_byte : (b : ℕ) → (b == 91) ≡ true → b ≡ 91
same_byte b e = grind (arith, nat_tests)

other_byte : (b : ℕ) → (b == 91) ≡ false → b ≡ 91 → ⊥
other_byte b e h = absurd (grind (arith, nat_tests))

head_byte : (b : ℕ) (bs moment command : List ℕ) → IsHead (b ∷ bs) moment command → b ≡ 91
head_byte b bs moment command h = let opened : b ∷ bs ≡ 91 ∷ h.inner = h.opened in cc

head_inner : (b : ℕ) (bs moment command : List ℕ) (h : IsHead (b ∷ bs) moment command) → bs ≡ h.inner
head_inner b bs moment command h = let opened : b ∷ bs ≡ 91 ∷ h.inner = h.opened in cc

-- a text with no head, or with one
pub data HeadOf (s : PlainSite) (line : List ℕ) : Type 0 where
  headless : ((moment command : List ℕ) → IsHead line moment command → ⊥) → text_read s line ≡ faulty fault.NoBracket → HeadOf s line
  headed : (moment command : List ℕ) → IsHead line moment command → text_read s line ≡ head_read s (cut moment command) → HeadOf s line

pub head_of : (s : PlainSite) (line : List ℕ) → HeadOf s line
unfolding text_read
head_of s [] = headless (λ m c h. absurd (let opened : [] ≡ 91 ∷ h.inner = h.opened in cc)) refl
head_of s (b ∷ bs) = by (b == 91) refl
  where
    no_cut : IsUncut bracket bs → (moment command : List ℕ) → IsHead (b ∷ bs) moment command → ⊥
    no_cut h m c g = h m c (head_inner b bs m c g ∙ g.closed.whole)

    cut_here : b ≡ 91 → (r : Cut) → cut_at bracket bs ≡ r → text_read s (b ∷ bs) ≡ head_read s r → HeadOf s (b ∷ bs)
    cut_here is uncut e f = headless (no_cut (uncut_sound bracket bs (lit< tt) e)) f
    cut_here is (cut m c) e f = headed m c (record { inner = bs; opened = ap (λ x. x ∷ bs) is; closed = cut_sound bracket bs m c e }) f

    by : (t : Bool) → (b == 91) ≡ t → HeadOf s (b ∷ bs)
    by true hit = cut_here (same_byte b hit) (cut_at bracket bs) refl (ap (λ t. cond t (head_read s (cut_at bracket bs)) (faulty fault.NoBracket)) hit)
    by false miss = headless (λ m c h. other_byte b miss (head_byte b bs m c h)) (ap (λ t. cond t (head_read s (cut_at bracket bs)) (faulty fault.NoBracket)) miss)

-- what a command is read as
abbrev pub with_fields : PlainSite → List ℕ → Option (List ℕ) → Answer
with_fields s name None = bare_read name
with_fields s name (Some fields) = named_read s name fields

pub name_found : (s : PlainSite) (command name : List ℕ) (fields : Option (List ℕ)) → HasName command name fields → command_read s command ≡ with_fields s name fields
unfolding command_read
name_found s command name None h =
    ap (cut_read s command) (uncut_complete semicolon command h.1) ∙ ap bare_read h.0
name_found s command name (Some fields) h = ap (cut_read s command) (cut_complete semicolon command name fields (lit< tt) h)

-- each command has a name
pub record NameOf (command : List ℕ) : Type 0 where
  pub name : List ℕ
  pub fields : Option (List ℕ)
  pub is : HasName command name fields

pub name_of : (command : List ℕ) → NameOf command
name_of command = by (cut_at semicolon command) refl
  where
    by : (r : Cut) → cut_at semicolon command ≡ r → NameOf command
    by uncut e = record { name = command; fields = None; is = (refl, uncut_sound semicolon command (lit< tt) e) }
    by (cut name fields) e = record { name = name; fields = Some fields; is = cut_sound semicolon command name fields e }

pub timed : (s : PlainSite) (moment command : List ℕ) → IsNumber 11 moment → head_read s (cut moment command) ≡ command_read s command
timed s moment command h = ap (λ t. cond t (command_read s command) (faulty fault.BadMoment)) (is_number_found 11 moment h)

pub untimed : (s : PlainSite) (moment command : List ℕ) → (IsNumber 11 moment → ⊥) → head_read s (cut moment command) ≡ faulty fault.BadMoment
untimed s moment command h = ap (λ t. cond t (command_read s command) (faulty fault.BadMoment)) (no_number 11 moment h)

pub text_line : (s : PlainSite) (line : List ℕ) → IsUtf8 line → line_read s line ≡ text_read s line
unfolding line_read
text_line s line h = ap (λ t. cond t (text_read s line) (faulty fault.NotText)) (is_utf8-from_IsUtf8 line h)

pub other_line : (s : PlainSite) (line : List ℕ) → (IsUtf8 line → ⊥) → line_read s line ≡ faulty fault.NotText
unfolding line_read
other_line s line h = by (is_utf8 line) refl
  where
    by : (t : Bool) → is_utf8 line ≡ t → cond (is_utf8 line) (text_read s line) (faulty fault.NotText) ≡ faulty fault.NotText
    by true e = absurd (h (IsUtf8-from_is_utf8 line e))
    by false e = ap (λ t. cond t (text_read s line) (faulty fault.NotText)) e

-- a line with a command is read as the command
pub command_line : (s : PlainSite) (line name : List ℕ) (fields : Option (List ℕ)) → IsCommand line name fields → line_read s line ≡ with_fields s name fields
command_line s line name fields h =
    text_line s line h.text
    ∙ (head_found s line h.moment h.command h.head
    ∙ (timed s h.moment h.command h.in_time ∙ name_found s h.command name fields h.has_name))

-- a text that doesn't begin with a bracket
pub no_bracket : (s : PlainSite) (line : List ℕ) → ((rest : List ℕ) → line ≡ 91 ∷ rest → ⊥) → text_read s line ≡ faulty fault.NoBracket
unfolding text_read
no_bracket s [] h = refl
no_bracket s (b ∷ bs) h = by (b == 91) refl
  where
    by : (t : Bool) → (b == 91) ≡ t → cond (b == 91) (head_read s (cut_at bracket bs)) (faulty fault.NoBracket) ≡ faulty fault.NoBracket
    by true hit = absurd (h bs (ap (λ x. x ∷ bs) (same_byte b hit)))
    by false miss = ap (λ t. cond t (head_read s (cut_at bracket bs)) (faulty fault.NoBracket)) miss
