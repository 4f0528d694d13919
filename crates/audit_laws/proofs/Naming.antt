-- How lines name checkables.
use Rattle.std.proofs.Common.{◌≡◌, ℕ, zero, suc, ◌+◌, ◌<◌, not, true, false, List, [], ◌∷◌, ◌++◌, length, drop, get_or, slice_get, refl, sym, ap, ◌∙◌, subst, arith, Some, None, lit<}
use Rattle.std.proofs.Math.Seq.{take-append_seam}
use Rattle.std.proofs.lemmas.List.{length-append}
use Rattle.std.proofs.lemmas.Option.{slice_get-map, get_or_from_slice_get}
use Rattle.std.proofs.lemmas.Str.{IsUtf8-take, IsUtf8-drop, IsCharBoundary-before_ascii, IsCharBoundary-after_ascii}
use Rattle.std.specs.List.{AllByRecursion}
use Rattle.std.specs.Option.{option_map}
use Rattle.std.specs.Str.{IsUtf8}
use Rattle.site_model.specs.PlainSite.{PlainCheck, PlainSite, full_names}
use Rattle.event_text.proofs.CutLaws.{uncut_sound, uncut_complete}
use Rattle.event_text.specs.Checkables.{IsHost, full_name}
use Rattle.event_text.specs.Cuts.{Cut, cut, uncut, cut_at}
use Rattle.event_text.specs.Fields.{semicolon}
use Rattle.site_audit.specs.Commands.{can_be_named, is_cut, is_service, mark, names_text, names_with}
use Rattle.audit_laws.specs.Names.{IsWellNamed}
use Rattle.audit_laws.proofs.Bytes.{Lacks, uncut_lacks, lacks_uncut, lacks_cut}

-- ---- names

named_is : (r : Cut) → not (is_cut r) ≡ true → r ≡ uncut
named_is uncut e = refl
named_is (cut f g) e = let h : false ≡ true = e in cc

pub named_lacks : (name : List ℕ) → can_be_named name ≡ true → Lacks 59 name
named_lacks name e = uncut_lacks 59 name (uncut_sound semicolon name (lit< tt) (named_is (cut_at semicolon name) e))

pub lacks_named : (name : List ℕ) → Lacks 59 name → can_be_named name ≡ true
lacks_named name h = ap (λ r. not (is_cut r)) (lacks_uncut 59 name h)

-- a text before and behind a byte of ASCII
seam : (c : ℕ) (xs ys : List ℕ) → get_or (xs ++ c ∷ ys) (length xs) 0 ≡ c
seam c [] ys = refl
seam c (x ∷ xs) ys = seam c xs ys

inside : (c : ℕ) (xs ys : List ℕ) → length xs < length (xs ++ c ∷ ys)
inside c xs ys = let h = length-append xs (c ∷ ys) in omega (arith, h)

pub text_before : (c : ℕ) (xs ys : List ℕ) → c < 128 → IsUtf8 (xs ++ c ∷ ys) → IsUtf8 xs
text_before c xs ys small h =
    subst IsUtf8 (take-append_seam xs (c ∷ ys))
    (IsUtf8-take (xs ++ c ∷ ys) (length xs) h (IsCharBoundary-before_ascii (xs ++ c ∷ ys) (length xs) (inside c xs ys) (let e = seam c xs ys in omega (arith, e, small))))

drop_past : (c : ℕ) (xs ys : List ℕ) → drop (length xs + 1) (xs ++ c ∷ ys) ≡ ys
drop_past c [] ys = refl
drop_past c (x ∷ xs) ys = let e : suc (length xs) + 1 ≡ suc (length xs + 1) = omega arith in ap (λ n. drop n (x ∷ xs ++ c ∷ ys)) e ∙ drop_past c xs ys

pub text_behind : (c : ℕ) (xs ys : List ℕ) → c < 128 → IsUtf8 (xs ++ c ∷ ys) → IsUtf8 ys
text_behind c xs ys small h =
    subst IsUtf8 (drop_past c xs ys)
    (IsUtf8-drop (xs ++ c ∷ ys) (length xs + 1) h (IsCharBoundary-after_ascii (xs ++ c ∷ ys) (length xs) h (inside c xs ys) (let e = seam c xs ys in omega (arith, e, small))))

-- each name is a text
all_at : (P : List ℕ → Type 0) (xs : List (List ℕ)) (k : ℕ) (x : List ℕ) → AllByRecursion P xs → slice_get xs k ≡ Some x → P x
all_at P [] k x h e = absurd (let f : None ≡ Some x = e in cc)
all_at P (y ∷ ys) zero x h e = let f : y ≡ x = cc in subst P f h.0
all_at P (y ∷ ys) (suc k) x h e = all_at P ys k x h.1 e

pub name_at : (s : PlainSite) (k : ℕ) (check : PlainCheck) → slice_get s.checkables k ≡ Some check → slice_get (full_names s) k ≡ Some check.name
name_at s k check at = slice_get-map (λ c. c.name) s.checkables k ∙ ap (option_map (λ c. c.name)) at

pub name_is : (s : PlainSite) (k : ℕ) (check : PlainCheck) → slice_get s.checkables k ≡ Some check → get_or (full_names s) k [] ≡ check.name
name_is s k check at = get_or_from_slice_get (full_names s) k check.name [] (name_at s k check at)

pub name_text : (s : PlainSite) (k : ℕ) (check : PlainCheck) → IsWellNamed s → slice_get s.checkables k ≡ Some check → IsUtf8 check.name
name_text s k check w at = all_at IsUtf8 (full_names s) k check.name w.texts (name_at s k check at)

-- ---- hosts and services

host_unmarked : (s : PlainSite) (name : List ℕ) (k : ℕ) → IsWellNamed s → IsHost s name k → cut_at mark name ≡ uncut
host_unmarked s name k w h = uncut_complete mark name (w.hosts name k h).unmarked

pub no_service : (s : PlainSite) (name : List ℕ) (k : ℕ) → IsWellNamed s → IsHost s name k → is_service name ≡ false
no_service s name k w h = ap is_cut (host_unmarked s name k w h)

pub host_names : (s : PlainSite) (name : List ℕ) (k : ℕ) → IsWellNamed s → IsHost s name k → names_text name ≡ name
host_names s name k w h = ap (names_with name) (host_unmarked s name k w h)

service_cut : (s : PlainSite) (host own : List ℕ) (place : ℕ) → IsWellNamed s → IsHost s host place → cut_at mark (full_name host own) ≡ cut host own
service_cut s host own place w h = lacks_cut 33 host own (uncut_lacks 33 host (w.hosts host place h).unmarked)

pub some_service : (s : PlainSite) (host own : List ℕ) (place : ℕ) → IsWellNamed s → IsHost s host place → is_service (full_name host own) ≡ true
some_service s host own place w h = ap is_cut (service_cut s host own place w h)

pub service_names : (s : PlainSite) (host own : List ℕ) (place : ℕ) → IsWellNamed s → IsHost s host place → names_text (full_name host own) ≡ host ++ 59 ∷ own
service_names s host own place w h = ap (names_with (full_name host own)) (service_cut s host own place w h)

-- a host or a service
pub same_check : (s : PlainSite) (k : ℕ) (c d : PlainCheck) → slice_get s.checkables k ≡ Some c → slice_get s.checkables k ≡ Some d → c ≡ d
same_check s k c d one two = let e : Some c ≡ Some d = sym one ∙ two in cc
