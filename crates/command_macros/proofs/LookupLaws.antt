-- Names at their dots, and values along paths.
use Rattle.std.proofs.Common.{◌≡◌, ◌≢◌, ℕ, Bool, true, false, cond, eqb, List, [], ◌∷◌, ◌++◌, Option, Some, None, refl, sym, ap, ◌∙◌, append_assoc, append-nil, arith}
use Rattle.std.proofs.lemmas.Bool.Decides.{nat_tests}
use Rattle.site_base.specs.Data.{Data, Pairs}
use Rattle.command_macros.specs.Cuts.{Lacks}
use Rattle.command_macros.specs.Lookups.{Scope, parts, parts_from, pairs_of, value_at, value_along, value_of_parts, value_of_name, value_of_path, value_of}

other : (b c : ℕ) → b ≢ c → eqb b c ≡ false
other b c h = grind (arith, nat_tests)

part_first : (front rest so : List ℕ) → Lacks 46 front → parts_from (front ++ 46 ∷ rest) so ≡ (so ++ front) ∷ parts_from rest []
part_first [] rest so h = ap (λ p. p ∷ parts_from rest []) (sym (append-nil so))
part_first (b ∷ bs) rest so h =
    ap (λ t. cond t (so ∷ parts_from (bs ++ 46 ∷ rest) []) (parts_from (bs ++ 46 ∷ rest) (so ++ b ∷ []))) (other b 46 h.0)
    ∙ (part_first bs rest (so ++ b ∷ []) h.1 ∙ ap (λ p. p ∷ parts_from rest []) (append_assoc so (b ∷ []) bs))

part_only : (text so : List ℕ) → Lacks 46 text → parts_from text so ≡ (so ++ text) ∷ []
part_only [] so h = ap (λ p. p ∷ []) (sym (append-nil so))
part_only (b ∷ bs) so h =
    ap (λ t. cond t (so ∷ parts_from bs []) (parts_from bs (so ++ b ∷ []))) (other b 46 h.0)
    ∙ (part_only bs (so ++ b ∷ []) h.1 ∙ ap (λ p. p ∷ []) (append_assoc so (b ∷ []) bs))

pub parts_cut : (text front rest : List ℕ) → text ≡ front ++ 46 ∷ rest → Lacks 46 front → parts text ≡ front ∷ parts rest
parts_cut text front rest e h = ap parts e ∙ part_first front rest [] h

pub parts_whole : (text : List ℕ) → Lacks 46 text → parts text ≡ text ∷ []
parts_whole text h = part_only text [] h

-- there is always a part
along_more : (bs so key : List ℕ) (ps : Pairs) → value_along (key ∷ parts_from bs so) ps ≡ value_along (parts_from bs so) (pairs_of (value_at key ps))
along_more [] so key ps = refl
along_more (b ∷ bs) so key ps = by (eqb b 46) (along_more bs (so ++ b ∷ []) key ps)
  where
    by : (t : Bool) → value_along (key ∷ parts_from bs (so ++ b ∷ [])) ps ≡ value_along (parts_from bs (so ++ b ∷ [])) (pairs_of (value_at key ps))
        → value_along (key ∷ cond t (so ∷ parts_from bs []) (parts_from bs (so ++ b ∷ []))) ps ≡ value_along (cond t (so ∷ parts_from bs []) (parts_from bs (so ++ b ∷ []))) (pairs_of (value_at key ps))
    by true h = refl
    by false h = h

pub along_cut : (path key rest : List ℕ) (ps : Pairs) → path ≡ key ++ 46 ∷ rest → Lacks 46 key → value_along (parts path) ps ≡ value_along (parts rest) (pairs_of (value_at key ps))
along_cut path key rest ps e h = ap (λ p. value_along p ps) (parts_cut path key rest e h) ∙ along_more rest [] key ps

pub along_end : (path : List ℕ) (ps : Pairs) → Lacks 46 path → value_along (parts path) ps ≡ value_at path ps
along_end path ps h = ap (λ p. value_along p ps) (parts_whole path h)

some_path : (s : Scope) (name bs so first : List ℕ) → value_of_parts s name (first ∷ parts_from bs so) ≡ value_of_path s name first (parts_from bs so)
some_path s name [] so first = refl
some_path s name (b ∷ bs) so first = by (eqb b 46) (some_path s name bs (so ++ b ∷ []) first)
  where
    by : (t : Bool) → value_of_parts s name (first ∷ parts_from bs (so ++ b ∷ [])) ≡ value_of_path s name first (parts_from bs (so ++ b ∷ []))
        → value_of_parts s name (first ∷ cond t (so ∷ parts_from bs []) (parts_from bs (so ++ b ∷ []))) ≡ value_of_path s name first (cond t (so ∷ parts_from bs []) (parts_from bs (so ++ b ∷ [])))
    by true h = refl
    by false h = h

-- a name without a dot, and one with it
pub value_plain : (s : Scope) (name : List ℕ) → Lacks 46 name → value_of s name ≡ value_of_name s name
unfolding value_of
value_plain s name h = ap (value_of_parts s name) (parts_whole name h)

pub value_cut : (s : Scope) (name first path : List ℕ) → name ≡ first ++ 46 ∷ path → Lacks 46 first → value_of s name ≡ value_of_path s name first (parts path)
unfolding value_of
value_cut s name first path e h = ap (value_of_parts s name) (parts_cut name first path e h) ∙ some_path s name path [] first
