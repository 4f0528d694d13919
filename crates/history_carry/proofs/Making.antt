-- The checkables of a site, made one after the other.
use Rattle.std.proofs.Common.{◌≡◌, ℕ, zero, suc, ◌+◌, ◌<◌, List, [], ◌∷◌, ◌++◌, length, map, slice_get, get_or, take, Some, refl, sym, ap, ◌∙◌, subst, arith, length-append}
use Rattle.std.proofs.lemmas.List.{get_or-map, map-append, take_more}
use Rattle.std.proofs.lemmas.Option.{same_Some}
use Rattle.checkable_core.specs.Contents.{Contents}
use Rattle.run_meaning.specs.Turns.{Histories, of_index}
use Rattle.run_meaning.proofs.Lists.{length_map, take_whole}
use Rattle.turn_engine.specs.Checkables.{AreOf, IsOf}
use Rattle.site_model.specs.PlainSite.{PlainCheck, PlainSite, check_view, full_names}
use Rattle.site_model.specs.declared.check_spec.CheckSpec.{CheckSpec}
use Rattle.site_model.specs.Names.{place_of}
use Rattle.site_model.specs.declared.entry.Entry.{Entry}
use Rattle.site_posts.specs.Books.{histories_of}
use Rattle.history_carry.specs.Carried.{histories_named, history_at}
use Rattle.history_carry.proofs.Filtered.{checks_named}

-- so many are made, each with its history
pub record AreMade (s : PlainSite) (others : List (List ℕ)) (hs : Histories) (count : ℕ) (books : List Contents) : Type 0 where
  pub many : length books ≡ count
  pub entries : histories_of books ≡ histories_named others hs (take count (full_names s))
  pub each : (k : ℕ) (book : Contents) → slice_get books k ≡ Some book → IsOf s k book

pub none_made : (s : PlainSite) (others : List (List ℕ)) (hs : Histories) (books : List Contents) → books ≡ [] → AreMade s others hs 0 books
none_made s others hs books e = subst (AreMade s others hs 0) (sym e) (record { many = refl; entries = refl; each = λ k book at. absurd cc })

pushed : (s : PlainSite) (books : List Contents) (first : ℕ) (new : Contents) → ((k : ℕ) (book : Contents) → slice_get books k ≡ Some book → IsOf s (first + k) book) → IsOf s (first + length books) new
    → (k : ℕ) (book : Contents) → slice_get (books ++ new ∷ []) k ≡ Some book → IsOf s (first + k) book
pushed s [] first new each own zero book at = subst (IsOf s (first + 0)) (same_Some new book at) own
pushed s [] first new each own (suc k) book at = absurd cc
pushed s (b ∷ books) first new each own zero book at = each zero book at
pushed s (b ∷ books) first new each own (suc k) book at =
    let up : (n : ℕ) → first + suc n ≡ suc first + n = λ n. omega arith in
    subst (λ i. IsOf s i book) (sym (up k))
    (pushed s books (suc first) new (λ j other here. subst (λ i. IsOf s i other) (up j) (each (suc j) other here)) (subst (λ i. IsOf s i new) (up (length books)) own) k book at)

module _ (s : PlainSite) (others : List (List ℕ)) (hs : Histories) where
  named_more : (count : ℕ) (name : List ℕ) → count < length (full_names s) → name ≡ get_or (full_names s) count name
      → histories_named others hs (take (count + 1) (full_names s)) ≡ histories_named others hs (take count (full_names s)) ++ history_at hs (place_of name others) ∷ []
  named_more count name inside at =
      ap (histories_named others hs) (take_more (full_names s) count name inside)
      ∙ map-append (λ n. history_at hs (place_of n others)) (take count (full_names s)) (get_or (full_names s) count name ∷ [])
      ∙ ap (λ n. histories_named others hs (take count (full_names s)) ++ history_at hs (place_of n others) ∷ []) (sym at)

  -- one more is made
  pub one_made : (count : ℕ) (name : List ℕ) (books next : List Contents) (new : Contents) → count < length (full_names s) → name ≡ get_or (full_names s) count name
      → AreMade s others hs count books → new.entries ≡ history_at hs (place_of name others) → IsOf s (length books) new → next ≡ books ++ new ∷ [] → AreMade s others hs (count + 1) next
  one_made count name books next new inside at made same own added = subst (AreMade s others hs (count + 1)) (sym added) (record {
    many = (let more = length-append books (new ∷ []) in let m = made.many in omega (arith, more, m));
    entries =
        map-append (λ (b : Contents). b.entries) books (new ∷ [])
        ∙ ap (λ xs. xs ++ new.entries ∷ []) made.entries
        ∙ ap (λ es. histories_named others hs (take count (full_names s)) ++ es ∷ []) same
        ∙ sym (named_more count name inside at);
    each = λ k book here. subst (λ i. IsOf s i book) (down k) (pushed s books 0 new (λ j other there. subst (λ i. IsOf s i other) (sym (down j)) (made.each j other there)) (subst (λ i. IsOf s i new) (sym (down (length books))) own) k book here);
  })
    where
      down : (j : ℕ) → 0 + j ≡ j
      down j = omega arith

  -- all are made
  pub all_made : (count : ℕ) (books : List Contents) → count ≡ length (full_names s) → AreMade s others hs count books → (histories_of books ≡ histories_named others hs (full_names s)) × AreOf s books
  all_made count books whole made = (
    made.entries ∙ ap (λ n. histories_named others hs (take n (full_names s))) whole ∙ ap (histories_named others hs) (take_whole (full_names s)),
    record { whole = made.many ∙ whole ∙ length_map (λ (c : PlainCheck). c.name) s.checkables; each = made.each },
  )

-- what an index finds
pub index_is : (hs : Histories) (k : ℕ) (d : List Entry) → k < length hs → of_index k hs ≡ get_or hs k d
index_is [] k d h = absurd (omega (arith, h))
index_is (es ∷ hs) zero d h = refl
index_is (es ∷ hs) (suc k) d h = index_is hs k d (omega (arith, h))

-- the name of a checkable stands at its place
pub name_at : (cs : List CheckSpec) (i : ℕ) (c : CheckSpec) → i < length cs → c ≡ get_or cs i c → c.name ≡ get_or (map (λ (x : PlainCheck). x.name) (map check_view cs)) i c.name
name_at cs i c inside at =
    ap (λ (x : CheckSpec). x.name) at
    ∙ sym (get_or-map (λ (x : CheckSpec). x.name) cs i c c.name inside)
    ∙ ap (λ ns. get_or ns i c.name) (checks_named cs)

pub as_many : (cs : List CheckSpec) → length (map (λ (x : PlainCheck). x.name) (map check_view cs)) ≡ length cs
as_many cs = length_map (λ (x : PlainCheck). x.name) (map check_view cs) ∙ length_map check_view cs
