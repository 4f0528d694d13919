-- A log that agrees with a run, turn after turn.
use Rattle.std.proofs.Common.{◌≡◌, ◌==◌, ◌+◌, ◌^◌, ◌<◌, ◌≤◌, Option, Some, None, Result, Ok, Err, IfOk, ℕ, suc, Bool, true, false, cond, List, [], ◌∷◌, ◌++◌, length, take, drop, get_or, map, refl, sym, ap, ◌∙◌, subst, arith}
use Rattle.std.proofs.lemmas.Bool.Decides.{nat_tests}
use Rattle.std.proofs.lemmas.List.{append_cancel_left, length-append}
use Rattle.std.proofs.lemmas.Slice.Eq.{bytes_eq-Decides}
use Rattle.std.specs.Bool.{OnTrue}
use Rattle.std.specs.List.{concat}
use Rattle.std.specs.Str.{bytes_eq}
use Rattle.site_text.specs.ScriptReading.{begins}
use Rattle.log_text.specs.Fronts.{behind}
use Rattle.log_text.specs.SiteNames.{PlainNames, names_of}
use Rattle.log_text.proofs.FieldLaws.{behind_sound}
use Rattle.round_check.specs.declared.told.Told.{Told}
use Rattle.run_meaning.specs.Alone.{turn_alone}
use Rattle.run_meaning.specs.Runs.{Basis, IsRunFrom, IsTurn, Stage, TurnLog, no_entries, stage_after, start}
use Rattle.run_meaning.specs.Turns.{ReadTurn}
use Rattle.jiff_tz.specs.declared.tzif.Tzif.{Tzif}
use Rattle.run_text.specs.TurnReading.{turn_read}
use Rattle.site_edge.specs.declared.turn.Turn.{Turn}
use Rattle.site_model.specs.PlainSite.{PlainSite, site_view}
use Rattle.site_model.specs.Sound.{IsSound}
use Rattle.site_model.specs.declared.site.Site.{Site}
use Rattle.site_base.specs.declared.memory.OutOfMemory.{OutOfMemory}
use Rattle.turn_engine.specs.Ready.{IsZoneOf}
use Rattle.turn_engine.specs.Stages.{basis_of_site}
use Rattle.turn_engine.specs.Told.{IsNoTurn, IsOnlyTurn}
use Rattle.turn_engine.specs.declared.turn_out.TurnOut.{TurnOut}
use Rattle.turn_engine.proofs.Sole.{log_is}
use Rattle.run_text.specs.LogText.{turn_lines}
use Rattle.run_text.specs.declared.style.Style.{Style}
use Rattle.site_audit.specs.Agreeing.{is_block, AgreeBy, AgreeUpTo, AreBlocks}
use Rattle.site_audit.specs.Blocks.{lines_of, blocks_of}
use Rattle.site_audit.specs.ByCallers.{AgreesSo, AreToldIn, IsOnlyOf, IsToldIn}
use Rattle.site_audit.proofs.Cutting.{lines_whole, take_front, drop_front}
use Rattle.site_audit.proofs.Ordering.{drop_one, drop_all}
use Rattle.site_audit.proofs.ToldBack.{told_back}

-- a block's bytes are compared
pub block_is : (style : Style) (s : PlainSite) (l : TurnLog) (bytes : List ℕ) (lines : List (List ℕ)) (same : Bool) → lines ≡ turn_lines style s l → same ≡ bytes_eq bytes (concat lines) → is_block style s l (lines_of bytes) ≡ same
block_is style s l bytes lines same are is =
    sym (is ∙ (ap (λ bs. bytes_eq bs (concat lines)) (sym (lines_whole bytes)) ∙ ap (λ ls. bytes_eq (concat (lines_of bytes)) (concat ls)) are))

-- Bytes and lines, one behind another.

same_tests : (a b : Bool) → (a ≡ true → b ≡ true) → (b ≡ true → a ≡ true) → a ≡ b
same_tests true true f g = refl
same_tests false false f g = refl
same_tests true false f g = sym (f refl)
same_tests false true f g = g refl

eq_is : (xs ys : List ℕ) → bytes_eq xs ys ≡ true → xs ≡ ys
eq_is xs ys = (bytes_eq-Decides xs ys).0

is_eq : (xs ys : List ℕ) → xs ≡ ys → bytes_eq xs ys ≡ true
is_eq xs ys = (bytes_eq-Decides xs ys).1

eq_behind : (line xs more : List ℕ) → bytes_eq (line ++ xs) (line ++ more) ≡ bytes_eq xs more
eq_behind line xs more =
    same_tests (bytes_eq (line ++ xs) (line ++ more)) (bytes_eq xs more) (λ h. is_eq xs more (append_cancel_left line xs more (eq_is (line ++ xs) (line ++ more) h)))
    (λ h. is_eq (line ++ xs) (line ++ more) (ap (λ zs. line ++ zs) (eq_is xs more h)))

stands_first : (line more : List ℕ) → behind line (line ++ more) ≡ Some more
stands_first line more =
    let n : length line + length more ≡ length (line ++ more) = sym (length-append line more) in
    let taken : begins line (line ++ more) ≡ true = is_eq (take (length line) (line ++ more)) line (take_front line more (length line) n) in
    ap (λ t. cond t (Some (drop (length line) (line ++ more))) None) taken ∙ ap Some (drop_front line more (length line) n)

abbrev none_there : Option (List ℕ)
none_there = None

not_first : (line bytes more : List ℕ) → behind line bytes ≡ None → bytes_eq bytes (line ++ more) ≡ false
not_first line bytes more none = by (bytes_eq bytes (line ++ more)) refl
  where
    by : (t : Bool) → bytes_eq bytes (line ++ more) ≡ t → t ≡ false
    by true e = absurd (let is = ap (behind line) (eq_is bytes (line ++ more) e) ∙ stands_first line more in let w : none_there ≡ Some more = sym none ∙ is in cc)
    by false e = refl

-- a line stands first
pub line_first : (i : ℕ) (bytes behind_it : List ℕ) (lines : List (List ℕ)) (line : List ℕ) (all : Bool) → i < length lines → line ≡ get_or lines i line → behind line bytes ≡ Some behind_it → bytes_eq bytes (concat (drop i lines)) ≡ all → bytes_eq behind_it (concat (drop (i + 1) lines)) ≡ all
line_first i bytes behind_it lines line all l is first so_far =
    sym (eq_behind line behind_it (concat (drop (i + 1) lines)))
    ∙ (ap (λ bs. bytes_eq bs (line ++ concat (drop (i + 1) lines))) (sym (behind_sound line bytes behind_it first))
    ∙ (sym (ap (λ ls. bytes_eq bytes (concat ls)) (drop_one i lines line l) ∙ ap (λ x. bytes_eq bytes (x ++ concat (drop (i + 1) lines))) (sym is)) ∙ so_far))

pub line_not_first : (i : ℕ) (bytes : List ℕ) (lines : List (List ℕ)) (line : List ℕ) (all : Bool) → i < length lines → line ≡ get_or lines i line → behind line bytes ≡ None → bytes_eq bytes (concat (drop i lines)) ≡ all → false ≡ all
line_not_first i bytes lines line all l is none so_far =
    sym (ap (λ ls. bytes_eq bytes (concat ls)) (drop_one i lines line l) ∙ (ap (λ x. bytes_eq bytes (x ++ concat (drop (i + 1) lines))) (sym is) ∙ not_first line bytes (concat (drop (i + 1) lines)) none)) ∙ so_far

pub lines_end : (i : ℕ) (bytes : List ℕ) (lines : List (List ℕ)) (all : Bool) → length lines ≤ i → bytes_eq bytes (concat (drop i lines)) ≡ all → (length bytes == 0) ≡ all
lines_end i bytes lines all le so_far = by bytes ∙ (sym (ap (λ ls. bytes_eq bytes (concat ls)) (drop_all i lines le)) ∙ so_far)
  where
    by : (bs : List ℕ) → (length bs == 0) ≡ bytes_eq bs []
    by [] = refl
    by (b ∷ bs) = let e : (length (b ∷ bs) == 0) ≡ false = grind (arith, nat_tests) in e

-- Whether a block is that of a turn.

-- of one caller, by its one log
pub agrees_alone : (style : Style) (b : Basis) (st next : Stage) (t : ReadTurn) (lines : List (List ℕ)) (same : Bool) → IsTurn b 1 st t (turn_alone b st t) → next ≡ stage_after b st t (turn_alone b st t)
    → is_block style b.rules.site (turn_alone b st t) lines ≡ same → AgreesSo style b 1 st t lines next same
agrees_alone style b st next t lines true is after same = record { log = turn_alone b st t; is = is; text = same; only = λ l turn text. log_is b st t l turn; after = after }
agrees_alone style b st next t lines false is after same = λ l turn text.
    let bad : true ≡ false = sym text ∙ (ap (λ k. is_block style b.rules.site k lines) (log_is b st t l turn) ∙ same) in absurd cc

-- of several, by what the block tells of their round
module _ (style : Style) (s : PlainSite) (zone : Option Tzif) (callers : ℕ) (st : Stage) (t : Turn) (bytes : List ℕ) (told : List Told) (sound : IsSound s) (few : callers < 2 ^ 64) (h : IsToldIn style (names_of s) (lines_of bytes) told) where
  abbrev b : Basis
  b = basis_of_site s zone

  pub agrees_with_none : (next : Stage) → IsNoTurn b callers st (turn_read s t) told → AgreesSo style b callers st (turn_read s t) (lines_of bytes) next false
  agrees_with_none next none l is text = none l is (told_back style s zone callers st t l bytes told sound few is h text)

  pub agrees_with_only : (next : Stage) (out : TurnOut) (same : Bool) (o : IsOnlyTurn b callers st (turn_read s t) told out next) → is_block style s o.found.log (lines_of bytes) ≡ same → AgreesSo style b callers st (turn_read s t) (lines_of bytes) next same
  agrees_with_only next out true o same = record {
    log = o.found.log;
    is = o.found.is;
    text = same;
    only = λ l is text. o.only l is (told_back style s zone callers st t l bytes told sound few is h text);
    after = o.found.after;
  }
  agrees_with_only next out false o same = λ l is text.
      let one : l ≡ o.found.log = o.only l is (told_back style s zone callers st t l bytes told sound few is h text) in
      let bad : true ≡ false = sym text ∙ (ap (λ k. is_block style s k (lines_of bytes)) one ∙ same) in absurd cc

-- where there is one caller
pub with_callers : (style : Style) (b : Basis) (callers : ℕ) (st next : Stage) (t : ReadTurn) (lines : List (List ℕ)) (r : Result Bool OutOfMemory) → callers ≡ 1 → IfOk r (AgreesSo style b 1 st t lines next) → IfOk r (AgreesSo style b callers st t lines next)
with_callers style b callers st next t lines r one h = subst (λ n. IfOk r (AgreesSo style b n st t lines next)) (sym one) h

pub either_way : {P : Type 0} (same : Bool) → P → OnTrue same P
either_way true h = h
either_way false h = tt

-- Turns, one behind another.

abbrev Blocks : Type 0
Blocks = List (List (List ℕ))

module _ (style : Style) (b : Basis) (callers : ℕ) where
  abbrev UpTo : Stage → List ReadTurn → Blocks → ℕ → Type 0
  UpTo st ts xs n = AgreeUpTo style b callers st ts xs n

  no_turns_left : (st : Stage) (xs : Blocks) → UpTo st [] xs 0
  no_turns_left st xs = record { turns_within = omega arith; blocks_within = omega arith; written = record { logs = []; run = refl; texts = tt }; no_more = λ l m w. absurd (omega (arith, l)) }

  no_blocks_left : (st : Stage) (ts : List ReadTurn) → UpTo st ts [] 0
  no_blocks_left st ts = record { turns_within = omega arith; blocks_within = omega arith; written = record { logs = []; run = refl; texts = tt }; no_more = λ l m w. absurd (omega (arith, m)) }

  module _ (st : Stage) (t : ReadTurn) (ts : List ReadTurn) (x : List (List ℕ)) (xs : Blocks) where
    agrees_no_more : (next : Stage) → AgreesSo style b callers st t x next false → UpTo st (t ∷ ts) (x ∷ xs) 0
    agrees_no_more next none =
        record { turns_within = omega arith; blocks_within = omega arith; written = record { logs = []; run = refl; texts = tt }; no_more = λ l m w. by w.logs w.run w.texts }
      where
        by : (ls : List TurnLog) → IsRunFrom b callers st (t ∷ []) ls → AreBlocks style b.rules.site ls (x ∷ []) → ⊥
        by [] run texts = run
        by (l ∷ ls) run texts = none l run.0 texts.0

    agrees_with_one_more : (next : Stage) (n : ℕ) → IsOnlyOf style b callers st t x next → UpTo next ts xs n → UpTo st (t ∷ ts) (x ∷ xs) (suc n)
    agrees_with_one_more next n o rest = record {
      turns_within = (let l = rest.turns_within in omega (arith, l));
      blocks_within = (let l = rest.blocks_within in omega (arith, l));
      written = record {
        logs = o.log ∷ rest.written.logs;
        run = (o.is, subst (λ z. IsRunFrom b callers z (take n ts) rest.written.logs) o.after rest.written.run);
        texts = (o.text, rest.written.texts);
      };
      no_more = λ l m w. by w.logs w.run w.texts (omega (arith, l)) (omega (arith, m));
    }
      where
        by : (ls : List TurnLog) → IsRunFrom b callers st (t ∷ take (suc n) ts) ls → AreBlocks style b.rules.site ls (x ∷ take (suc n) xs) → n < length ts → n < length xs → ⊥
        by [] run texts l m = run
        by (k ∷ ks) run texts l m =
            let same : stage_after b st t k ≡ next = ap (stage_after b st t) (o.only k run.0 texts.0) ∙ sym o.after in
            rest.no_more l m (record { logs = ks; run = subst (λ z. IsRunFrom b callers z (take (suc n) ts) ks) same run.1; texts = texts.1 })

  -- what is left, if it agrees so far, makes all agree so far
  abbrev pub GoesOn : Stage → List ReadTurn → Blocks → ℕ → Stage → List ReadTurn → Blocks → Type 0
  GoesOn now left rest count st ts xs = (n : ℕ) → UpTo now left rest n → UpTo st ts xs (count + n)

  plus_none : (n : ℕ) → n + 0 ≡ n
  plus_none n = omega arith

  pub begins_so : (st : Stage) (left ts : List ReadTurn) (xs : Blocks) → left ≡ ts → GoesOn st left xs 0 st ts xs
  begins_so st left ts xs same n h = let e : n ≡ 0 + n = omega arith in subst (UpTo st ts xs) e (subst (λ us. UpTo st us xs n) same h)

  pub no_block_more : (now st : Stage) (left ts : List ReadTurn) (rest xs : Blocks) (count : ℕ) → rest ≡ [] → GoesOn now left rest count st ts xs → UpTo st ts xs count
  no_block_more now st left ts rest xs count none on = subst (UpTo st ts xs) (plus_none count) (on 0 (subst (λ ys. UpTo now left ys 0) (sym none) (no_blocks_left now left)))

  pub no_turn_more : (now st : Stage) (left ts : List ReadTurn) (rest xs : Blocks) (count : ℕ) → left ≡ [] → GoesOn now left rest count st ts xs → UpTo st ts xs count
  no_turn_more now st left ts rest xs count none on = subst (UpTo st ts xs) (plus_none count) (on 0 (subst (λ us. UpTo now us rest 0) (sym none) (no_turns_left now rest)))

  pub stops_so : (now next st : Stage) (t : ReadTurn) (left all ts : List ReadTurn) (x : List (List ℕ)) (rest blocks xs : Blocks) (count : ℕ) → all ≡ t ∷ left → blocks ≡ x ∷ rest → AgreesSo style b callers now t x next false → GoesOn now all blocks count st ts xs → UpTo st ts xs count
  stops_so now next st t left all ts x rest blocks xs count turns parts none on =
      subst (UpTo st ts xs) (plus_none count) (on 0 (subst (λ us. UpTo now us blocks 0) (sym turns) (subst (λ ys. UpTo now (t ∷ left) ys 0) (sym parts) (agrees_no_more now t left x rest next none))))

  pub goes_on_so : (now next st : Stage) (t : ReadTurn) (left all ts : List ReadTurn) (x : List (List ℕ)) (rest blocks xs : Blocks) (count more : ℕ) → all ≡ t ∷ left → blocks ≡ x ∷ rest → IsOnlyOf style b callers now t x next → more ≡ count + 1
      → GoesOn now all blocks count st ts xs → GoesOn next left rest more st ts xs
  goes_on_so now next st t left all ts x rest blocks xs count more turns parts o next_is on n h =
      let e : count + suc n ≡ more + n = omega (arith, next_is) in
      subst (UpTo st ts xs) e (on (suc n) (subst (λ us. UpTo now us blocks (suc n)) (sym turns) (subst (λ ys. UpTo now (t ∷ left) ys (suc n)) (sym parts) (agrees_with_one_more now t left x rest next n o h))))

-- over the same site and zone
pub on_here : (style : Style) (callers : ℕ) (a c : Site) (u v : Option Tzif) (st : Stage) (t : Turn) (lines : List (List ℕ)) (next : Stage) (same : Bool) → a ≡ c → u ≡ v
    → AgreesSo style (basis_of_site (site_view a) u) callers st (turn_read (site_view a) t) lines next same → AgreesSo style (basis_of_site (site_view c) v) callers st (turn_read (site_view c) t) lines next same
on_here style callers a c u v st t lines next same site zone h =
    subst (λ z. AgreesSo style (basis_of_site (site_view c) z) callers st (turn_read (site_view c) t) lines next same) zone (subst (λ (z : Site). AgreesSo style (basis_of_site (site_view z) u) callers st (turn_read (site_view z) t) lines next same) site h)

pub so_true : (style : Style) (b : Basis) (callers : ℕ) (st : Stage) (t : ReadTurn) (lines : List (List ℕ)) (next : Stage) (same : Bool) → same ≡ true → AgreesSo style b callers st t lines next same → IsOnlyOf style b callers st t lines next
so_true style b callers st t lines next same is h = subst (AgreesSo style b callers st t lines next) is h

pub so_false : (style : Style) (b : Basis) (callers : ℕ) (st : Stage) (t : ReadTurn) (lines : List (List ℕ)) (next : Stage) (same : Bool) → same ≡ false → AgreesSo style b callers st t lines next same → AgreesSo style b callers st t lines next false
so_false style b callers st t lines next same is h = subst (AgreesSo style b callers st t lines next) is h

pub if_same : {P : Type 0} (same : Bool) → same ≡ true → OnTrue same P → P
if_same {P = P} same is h = subst (λ t. OnTrue t P) is h

-- the rounds that are left to be told
pub rounds_left : (style : Style) (names : PlainNames) (rounds : List (List Told)) (r : List Told) (rs : List (List Told)) (blocks xs : Blocks) (x : List (List ℕ)) → rounds ≡ r ∷ rs → blocks ≡ x ∷ xs → AreToldIn style names rounds blocks → IsToldIn style names x r × AreToldIn style names rs xs
rounds_left style names rounds r rs blocks xs x are parts h = subst (AreToldIn style names (r ∷ rs)) parts (subst (λ zs. AreToldIn style names zs blocks) are h)

-- From the start of a run.
pub agree_by : (style : Style) (callers : ℕ) (s : PlainSite) (site : Site) (zone : Option Tzif) (st : Stage) (turns : List Turn) (log : List ℕ) (r : Result ℕ OutOfMemory) → IsZoneOf s.zone zone → site_view site ≡ s → st ≡ start s (no_entries s)
    → IfOk r (AgreeUpTo style (basis_of_site (site_view site) zone) callers st (map (turn_read (site_view site)) turns) (blocks_of (lines_of log))) → IfOk r (AgreeBy style callers s turns log)
agree_by style callers s site table st turns log (Ok n) is_zone same first h =
    record { zone = table; is_zone = is_zone; is = subst (λ z. AgreeUpTo style (basis_of_site s table) callers z (map (turn_read s) turns) (blocks_of (lines_of log)) n) first (subst (λ z. AgreeUpTo style (basis_of_site z table) callers st (map (turn_read z) turns) (blocks_of (lines_of log)) n) same h) }
agree_by style callers s site table st turns log (Err e) is_zone same first h = tt
