-- What is passed of the tokens of a state file, one part after the other.
use Rattle.std.proofs.Common.{◌≡◌, ℕ, ◌==◌, ◌<◌, true, List, [], ◌∷◌, ◌++◌, codes, decimal, length, Option, Some, None, IsUtf8, refl, sym, ap, ◌∙◌, arith, subst, append_assoc, append-nil, length-append}
use Rattle.std.proofs.lemmas.Bool.Decides.{Decides-eqb}
use Rattle.std.proofs.lemmas.Option.{same_Some}
use Rattle.json.specs.Json.{after_end_array}
use Rattle.json.specs.Lex.{tokens}
use Rattle.json.specs.Token as token
use Rattle.json.specs.Token.{Token}
use Rattle.serde_json.specs.Data.{array, string}
use Rattle.log_text.specs.Fronts.{◌>>=◌}
use Rattle.log_text.specs.SiteNames.{PlainNames, names_of}
use Rattle.site_model.specs.Names.{place_of}
use Rattle.site_model.specs.PlainSite.{PlainSite}
use Rattle.site_model.specs.declared.entry.Entry.{Entry}
use Rattle.site_keep.specs.Passing.{may_be, MayBe, PassesCheckable, PassesCheckables, PassesFile, PassesLine, PassesLines, PassesName}
use Rattle.site_keep.specs.Reading.{Told, entries_among, entries_in, entry_in, none_told, told_in, told_read, with_all, with_entries, with_lawful, with_one, with_parts}
use Rattle.site_keep.specs.Shape.{Saved, line_items, saved_data, saved_items, state_data}
use Rattle.site_keep.specs.Writing.{item_tokens, tokens_of}
use Rattle.site_keep.proofs.LineLaws.{entry_complete}
use Rattle.site_keep.proofs.ReadBack.{read_tokens}
use Rattle.site_keep.proofs.ShapeLaws.{two_complete, value_found}
use Rattle.site_keep.proofs.SlotLaws.{entries_given, entry_more, joined, joined_none, told_is}
use Rattle.site_keep.proofs.StateLaws.{checkables_complete}

after_bracket : (ts new : List Token) → after_end_array ts ≡ Some new → ts ≡ token.end_array ∷ new
after_bracket [] new e = absurd cc
after_bracket (token.begin_object ∷ ts) new e = absurd cc
after_bracket (token.end_object ∷ ts) new e = absurd cc
after_bracket (token.begin_array ∷ ts) new e = absurd cc
after_bracket (token.end_array ∷ ts) new e = ap (λ r. token.end_array ∷ r) (same_Some ts new e)
after_bracket (token.key s ∷ ts) new e = absurd cc
after_bracket (token.string s ∷ ts) new e = absurd cc
after_bracket (token.number s ∷ ts) new e = absurd cc
after_bracket (token.boolean b ∷ ts) new e = absurd cc
after_bracket (token.null ∷ ts) new e = absurd cc
after_bracket (token.bad ∷ ts) new e = absurd cc

-- Lines.

abbrev placed : Entry → ℕ → ℕ × Entry
placed e k = (k, e)

-- these lines and what follows them are all from the start
pub record Lined (names : PlainNames) (start : List Token) (place : Option ℕ) (front : List Entry) (left : List (List ℕ)) (rest : List Token) : Type 0 where
  pub lines : List (List ℕ)
  pub tokens : start ≡ item_tokens (line_items lines) ++ rest
  pub read : (k : ℕ) → MayBe place k → entries_among names k (line_items lines) ≡ (entries_among names k (line_items left) >>= joined front)

-- the entries so far are those of the lines that were passed
pub record LinesSoFar (names : PlainNames) (start now : List Token) (place : Option ℕ) (front : List Entry) : Type 0 where
  pub over : (left : List (List ℕ)) (rest : List Token) → now ≡ item_tokens (line_items left) ++ rest → Lined names start place front left rest

no_lines : (names : PlainNames) (start : List Token) → LinesSoFar names start start None []
no_lines names start = record { over = λ left rest at. record { lines = left; tokens = at; read = λ k same. sym (joined_none (entries_among names k (line_items left))) } }

pub begin_lines : (names : PlainNames) (start : List Token) (place : Option ℕ) (front : List Entry) → place ≡ None → front ≡ [] → LinesSoFar names start start place front
begin_lines names start place front unknown none = subst (λ o. LinesSoFar names start start o front) (sym unknown) (subst (LinesSoFar names start start None) (sym none) (no_lines names start))

pub line_passed : (names : PlainNames) (start now new : List Token) (place next : Option ℕ) (front all : List Entry) → LinesSoFar names start now place front → PassesLine names place front next all now new → LinesSoFar names start new next all
line_passed names start now new place next front all so one = record { over = over }
  where
    over : (left : List (List ℕ)) (rest : List Token) → new ≡ item_tokens (line_items left) ++ rest → Lined names start next all left rest
    over left rest at = record { lines = more.lines; tokens = more.tokens; read = read }
      where
        more : Lined names start place front (one.line ∷ left) rest
        more = so.over (one.line ∷ left) rest (one.tokens ∙ ap (λ ts. token.string one.line ∷ ts) at)

        read : (k : ℕ) → MayBe next k → entries_among names k (line_items more.lines) ≡ (entries_among names k (line_items left) >>= joined all)
        read k same =
            let here : one.place ≡ k = (Decides-eqb one.place k).0 (ap (λ o. may_be o k) (sym one.known) ∙ same) in
            let own : MayBe place k = subst (MayBe place) here one.same in
            let entry : entry_in names k (string one.line) ≡ Some one.entry = entry_complete names k one.line one.entry (one.read ∙ ap (λ j. Some (placed one.entry j)) here) in
            sym (entry_more names k front (string one.line) (line_items left) one.entry (entries_among names k (line_items more.lines)) entry (sym (more.read k own)))
            ∙ ap (λ es. entries_among names k (line_items left) >>= joined es) (sym one.added)

pub lines_passed : (names : PlainNames) (old start now new : List Token) (place : Option ℕ) (front : List Entry) → old ≡ token.begin_array ∷ start → LinesSoFar names start now place front → after_end_array now ≡ Some new → PassesLines names place front old new
lines_passed names old start now new place front begins so end =
    let all : Lined names start place front [] new = so.over [] new (after_bracket now new end) in
    record {
      lines = all.lines;
      tokens = begins ∙ ap (λ ts. token.begin_array ∷ ts) all.tokens;
      read = λ k same. all.read k same ∙ ap Some (append-nil front);
    }

pub line_shorter : (names : PlainNames) (place next : Option ℕ) (front all : List Entry) (old new : List Token) → PassesLine names place front next all old new → length new < length old
line_shorter names place next front all old new one = omega (arith, ap length one.tokens)

-- Checkables.

-- these checkables and what follows them are all from the start
pub record Listed (s : PlainSite) (start : List Token) (told : Told) (left : List Saved) (rest : List Token) : Type 0 where
  pub all : List Saved
  pub tokens : start ≡ item_tokens (saved_items all) ++ rest
  pub tells : with_all s (none_told s) (saved_items all) ≡ with_all s told (saved_items left)

-- what is told so far is told by the checkables that were passed
pub record CheckablesSoFar (s : PlainSite) (start now : List Token) (told : Told) : Type 0 where
  pub over : (left : List Saved) (rest : List Token) → now ≡ item_tokens (saved_items left) ++ rest → Listed s start told left rest

pub begin_checkables : (s : PlainSite) (start : List Token) (told : Told) → told ≡ none_told s → CheckablesSoFar s start start told
begin_checkables s start told none = record { over = λ left rest at. record { all = left; tokens = at; tells = ap (λ t. with_all s t (saved_items left)) (sym none) } }

pub checkable_passed : (s : PlainSite) (start now new : List Token) (told next : Told) → CheckablesSoFar s start now told → PassesCheckable s told next now new → CheckablesSoFar s start new next
checkable_passed s start now new told next so one = record { over = over }
  where
    over : (left : List Saved) (rest : List Token) → new ≡ item_tokens (saved_items left) ++ rest → Listed s start next left rest
    over left rest at =
        let x = one.one in
        let more : Listed s start told (x ∷ left) rest = so.over (x ∷ left) rest (one.tokens ∙ ap (λ ts. tokens_of (saved_data x) ++ ts) at ∙ sym (append_assoc (tokens_of (saved_data x)) (item_tokens (saved_items left)) rest)) in
        record { all = more.all; tokens = more.tokens; tells = more.tells ∙ ap (λ o. o >>= λ t. with_all s t (saved_items left)) one.tells }

pub checkables_passed : (s : PlainSite) (old start now new : List Token) (told : Told) → old ≡ token.begin_array ∷ start → CheckablesSoFar s start now told → after_end_array now ≡ Some new → PassesCheckables s told old new
checkables_passed s old start now new told begins so end =
    let all : Listed s start told [] new = so.over [] new (after_bracket now new end) in
    record { all = all.all; tokens = begins ∙ ap (λ ts. token.begin_array ∷ ts) all.tokens; tells = all.tells }

pub checkable_shorter : (s : PlainSite) (told next : Told) (old new : List Token) → PassesCheckable s told next old new → length new < length old
checkable_shorter s told next old new one =
    let some : 0 < length (tokens_of (saved_data one.one)) = omega arith in
    omega (arith, some, ap length one.tokens, length-append (tokens_of (saved_data one.one)) new)

-- One checkable.

lines_in : (names : PlainNames) (k : ℕ) (lines : List (List ℕ)) (h : List Entry) → entries_among names k (line_items lines) ≡ Some h → entries_in names k (array (line_items lines)) ≡ Some h
unfolding entries_in
lines_in names k lines h read = read

one_told : (s : PlainSite) (told next : Told) (x : Saved) (k : ℕ) (h : List Entry) → place_of x.name s.names ≡ Some k → entries_among (names_of s) k (line_items x.lines) ≡ Some h → with_lawful s told k h ≡ Some next
    → with_one s told (saved_data x) ≡ Some next
unfolding with_one
one_told s told next x k h found read lawful =
    ap (λ o. o >>= with_parts s told) (two_complete (codes "entries") (codes "name") (array (line_items x.lines)) (string x.name))
    ∙ ap (λ o. o >>= with_entries s told (array (line_items x.lines))) found
    ∙ entries_given s told (array (line_items x.lines)) k h (lines_in (names_of s) k x.lines h read)
    ∙ lawful

pub parts_passed : (s : PlainSite) (names : PlainNames) (told next : Told) (which : Option ℕ) (entries : List Entry) (place : ℕ) (r0 r1 r2 r3 r4 : List Token) → names ≡ names_of s
    → r0 ≡ token.begin_object ∷ r1 → r1 ≡ token.key (codes "entries") ∷ r2 → PassesLines names which entries r2 r3 → PassesName s place r3 r4
    → MayBe which place → with_lawful s told place entries ≡ Some next → PassesCheckable s told next r0 r4
parts_passed s names told next which entries place r0 r1 r2 r3 r4 own begins key lines name same lawful = record {
  one = record { name = name.name; lines = lines.lines };
  tokens =
      begins
      ∙ ap (λ ts. token.begin_object ∷ ts)
      (key
      ∙ ap (λ ts. token.key (codes "entries") ∷ ts)
      (lines.tokens
      ∙ ap (λ ts. tokens_of (array (line_items lines.lines)) ++ ts) name.tokens
      ∙ sym (append_assoc (tokens_of (array (line_items lines.lines))) (token.key (codes "name") ∷ token.string name.name ∷ token.end_object ∷ []) r4)));
  tells = one_told s told next (record { name = name.name; lines = lines.lines }) place entries name.found (subst (λ ns. entries_among ns place (line_items lines.lines) ≡ Some entries) own (lines.read place same)) lawful;
}

-- The whole text.

pub file_passed : (s : PlainSite) (told : Told) (r0 r1 r2 r3 : List Token) → r0 ≡ token.begin_object ∷ r1 → r1 ≡ token.key (codes "checkables") ∷ r2 → PassesCheckables s told r2 r3
    → r3 ≡ token.key (codes "version") ∷ token.number (decimal 1) ∷ token.end_object ∷ [] → PassesFile s told r0
file_passed s told r0 r1 r2 r3 begins key checkables version = record {
  all = checkables.all;
  tokens =
      begins
      ∙ ap (λ ts. token.begin_object ∷ ts)
      (key ∙ ap (λ ts. token.key (codes "checkables") ∷ ts) (checkables.tokens ∙ ap (λ ts. tokens_of (array (saved_items checkables.all)) ++ ts) version));
  tells = checkables.tells;
}

pub file_told : (s : PlainSite) (bytes : List ℕ) (told : Told) → IsUtf8 bytes → PassesFile s told (tokens bytes) → told_read s bytes ≡ Some told
file_told s bytes told utf8 file =
    told_is s bytes (state_data file.all) (saved_items file.all) (value_found bytes (state_data file.all) utf8 (read_tokens bytes file.all file.tokens)) (checkables_complete file.all) ∙ file.tells
