-- A block with the text of a turn tells the turn's round.
use Rattle.std.proofs.Common.{◌≡◌, ℕ, suc, ◌+◌, ◌<◌, ◌^◌, All, Bool, true, false, cond, List, [], ◌∷◌, ◌++◌, length, map, slice_get, refl, sym, ap, ◌∙◌, subst, append_assoc, append-nil, arith, Option, Some, None}
use Rattle.std.proofs.lemmas.List.{map_push}
use Rattle.std.proofs.lemmas.List.Elements.{recursion_from_All}
use Rattle.std.proofs.lemmas.Option.{slice_get_within}
use Rattle.std.proofs.lemmas.Slice.Eq.{bytes_eq-Decides}
use Rattle.std.specs.List.{AllByRecursion, concat, flat_map}
use Rattle.std.specs.Str.{is_utf8}
use Rattle.jiff_tz.specs.declared.tzif.Tzif.{Tzif}
use Rattle.checkable_core.proofs.Own.{all_parts, ancestors_own}
use Rattle.log_text.specs.Fronts.{◌>>=◌}
use Rattle.log_text.specs.LogLines.{turn_line}
use Rattle.log_text.specs.SiteNames.{names_of}
use Rattle.log_text.proofs.FieldLaws.{bind_then, some_is}
use Rattle.round_check.specs.Making.{told_from, told_in, told_of}
use Rattle.round_check.specs.declared.told.Told.{Told}
use Rattle.run_meaning.proofs.Lists.{length_from_on, length_map}
use Rattle.run_meaning.specs.Dealing.{Refusal, dealt_to, line_events, refused_line, refused_report, taken_reports, ticks}
use Rattle.run_meaning.specs.Runs.{IsTurn, Stage, TurnLog, events_of, lines_of, reports_of}
use Rattle.run_meaning.specs.Turns.{Command, Histories, Ordered, from_on, missing, of_index, words}
use Rattle.run_text.specs.LogText.{command_line, ordered_line, refusal_line, round_lines, styled_entry, turn_lines}
use Rattle.run_text.specs.TurnReading.{turn_read}
use Rattle.run_text.specs.declared.style.Style.{Style}
use Rattle.run_text.specs.declared.style.Style.TheVariants.{One, Two}
use Rattle.site_edge.specs.declared.turn.Turn.{Turn}
use Rattle.site_model.specs.PlainSite.{PlainSite, full_names}
use Rattle.site_model.specs.Sound.{AreDistinct, IsIndex, IsSound}
use Rattle.site_model.specs.declared.entry.Entry.{Entry}
use Rattle.site_model.specs.declared.sight.Sight.{Sight}
use Rattle.site_text.specs.Entries.{start_text}
use Rattle.turn_engine.specs.Stages.{basis_of_site}
use Rattle.site_audit.specs.Agreeing.{is_block}
use Rattle.site_audit.specs.BlockReading.{block_at, block_read, line_added, line_begun, lines_into, with_log_line}
use Rattle.site_audit.specs.Blocks as blocks
use Rattle.site_audit.specs.ByCallers.{IsToldIn, told_by}
use Rattle.site_audit.specs.LineReading.{as_entry, line_read, styled_read}
use Rattle.site_audit.specs.LogLines.{IsEntryLine, IsLogLine}
use Rattle.site_audit.specs.declared.block.Block.{Block}
use Rattle.site_audit.specs.declared.log_line.LogLine.{LogLine}
use Rattle.site_audit.specs.declared.log_line.LogLine.TheVariants as line
use Rattle.site_audit.proofs.Bytes.{head_of}
use Rattle.site_audit.proofs.Cutting.{lines_whole}
use Rattle.site_audit.proofs.LineLaws.{entry_dispatch, line_sound}
use Rattle.site_audit.proofs.Seen.{read_back}
use Rattle.site_audit.proofs.Spelling.{IsInside}
use Rattle.site_audit.proofs.WholeLines.{lines_back, turn_lines_whole}

-- what a line tells of an entry
abbrev told_in_line : LogLine → List Told
told_in_line (line.Turn number moment) = []
told_in_line (line.RefusedLine number fault) = []
told_in_line (line.RefusedReport order) = []
told_in_line (line.Entry checkable entry) = told_of checkable entry ∷ []
told_in_line (line.Order number checkable lacks) = []

abbrev told_by_block : Block → List Told
told_by_block b = map told_by b.entries

same_entries : (b c : Block) → c.entries ≡ b.entries → told_by_block c ≡ told_by_block b ++ []
same_entries b c e = ap (map told_by) e ∙ sym (append-nil (told_by_block b))

-- a block with what a line more tells
with_told : (b : Block) (y : LogLine) (c : Block) → with_log_line b y ≡ Some c → told_by_block c ≡ told_by_block b ++ told_in_line y
with_told b (line.Turn number moment) c e = absurd cc
with_told b (line.RefusedLine number fault) c e = same_entries b c (ap (λ (z : Block). z.entries) (sym (some_is _ c e)))
with_told b (line.RefusedReport order) c e = same_entries b c (ap (λ (z : Block). z.entries) (sym (some_is _ c e)))
with_told b (line.Entry checkable entry) c e =
    ap (λ (z : Block). map told_by z.entries) (sym (some_is _ c e)) ∙ map_push told_by b.entries (record { checkable = checkable; entry = entry })
with_told b (line.Order number checkable lacks) c e = same_entries b c (ap (λ (z : Block). z.entries) (sym (some_is _ c e)))

begun_told : (y : LogLine) (b : Block) → block_at y ≡ Some b → told_by_block b ≡ []
begun_told (line.Turn number moment) b e = ap (λ (z : Block). map told_by z.entries) (sym (some_is _ b e))
begun_told (line.RefusedLine number fault) b e = absurd cc
begun_told (line.RefusedReport order) b e = absurd cc
begun_told (line.Entry checkable entry) b e = absurd cc
begun_told (line.Order number checkable lacks) b e = absurd cc

module _ (style : Style) (s : PlainSite) where
  abbrev read : List ℕ → Option LogLine
  read bs = line_read style (names_of s) bs

  abbrev into : List (List ℕ) → Block → Option Block
  into ls b = lines_into style (names_of s) ls b

  -- these lines tell so of entries
  abbrev Tells : List (List ℕ) → List Told → Type 0
  Tells ls ts = (b c : Block) → into ls b ≡ Some c → told_by_block c ≡ told_by_block b ++ ts

  abbrev TellsAlone : List ℕ → List Told → Type 0
  TellsAlone l t = (y : LogLine) → read l ≡ Some y → told_in_line y ≡ t

  tells_none : Tells [] []
  tells_none b c e = same_entries b c (ap (λ (z : Block). z.entries) (sym (some_is b c e)))

  one_told : (l : List ℕ) (t : List Told) → TellsAlone l t → (b c : Block) → line_added style (names_of s) b l ≡ Some c → told_by_block c ≡ told_by_block b ++ t
  one_told l t is b c e = bind_then (read l) (with_log_line b) c (λ y h-y e-y. with_told b y c e-y ∙ ap (λ ts. told_by_block b ++ ts) (is y h-y)) e

  tells_first : (l : List ℕ) (ls : List (List ℕ)) (t ts : List Told) → TellsAlone l t → Tells ls ts → Tells (l ∷ ls) (t ++ ts)
  tells_first l ls t ts one more b c e =
      bind_then (line_added style (names_of s) b l) (into ls) c
      (λ m h-m e-m. more m c e-m ∙ (ap (λ us. us ++ ts) (one_told l t one b m h-m) ∙ append_assoc (told_by_block b) t ts)) e

  tells_both : (ls ms : List (List ℕ)) (ts us : List Told) → Tells ls ts → Tells ms us → Tells (ls ++ ms) (ts ++ us)
  tells_both ls ms ts us one two b c e =
      bind_then (into ls b) (into ms) c
      (λ m h-m e-m. two m c e-m ∙ (ap (λ vs. vs ++ us) (one b m h-m) ∙ append_assoc (told_by_block b) ts us)) (sym (parted ls b) ∙ e)
    where
      parted : (ls : List (List ℕ)) (b : Block) → into (ls ++ ms) b ≡ (into ls b >>= into ms)
      parted [] b = refl
      parted (l ∷ ls) b = by (line_added style (names_of s) b l) (λ m. parted ls m)
        where
          by : (r : Option Block) → ((m : Block) → into (ls ++ ms) m ≡ (into ls m >>= into ms)) → (r >>= into (ls ++ ms)) ≡ ((r >>= into ls) >>= into ms)
          by None again = refl
          by (Some m) again = again m

  tells_nothing : {A : Type 0} (text : A → List ℕ) → ((x : A) → TellsAlone (text x) []) → (xs : List A) → Tells (map text xs) []
  tells_nothing text f [] = tells_none
  tells_nothing text f (x ∷ xs) = tells_first (text x) (map text xs) [] [] (f x) (tells_nothing text f xs)

  -- Lines of no entry.

  entry_first : (k : ℕ) (e : Entry) → head_of (styled_entry style s k e) ≡ 101
  unfolding start_text
  entry_first k e = by style
    where
      by : (v : Style) → head_of (styled_entry v s k e) ≡ 101
      by One = refl
      by Two = refl

  entry_line : (bs : List ℕ) (k : ℕ) (e : Entry) → IsEntryLine style s bs k e → bs ≡ styled_entry style s k e
  entry_line bs k e h = by style h
    where
      by : (v : Style) → IsEntryLine v s bs k e → bs ≡ styled_entry v s k e
      by One h = h.whole
      by Two h = h.whole

  other_line : (bs : List ℕ) → (head_of bs ≡ 101 → ⊥) → TellsAlone bs []
  other_line bs other y is = by y (line_sound style s bs y is)
    where
      by : (y : LogLine) → IsLogLine style s bs y → told_in_line y ≡ []
      by (line.Turn number moment) h = refl
      by (line.RefusedLine number fault) h = refl
      by (line.RefusedReport order) h = refl
      by (line.Entry checkable entry) h = absurd (other (ap head_of (entry_line bs checkable entry h) ∙ entry_first checkable entry))
      by (line.Order number checkable lacks) h = refl

  refusal_told : (r : Refusal) → TellsAlone (refusal_line r) []
  refusal_told (refused_line n fault) = other_line (refusal_line (refused_line n fault)) (λ e. let bad : 114 ≡ 101 = e in absurd (omega (arith, bad)))
  refusal_told (refused_report order) = other_line (refusal_line (refused_report order)) (λ e. let bad : 114 ≡ 101 = e in absurd (omega (arith, bad)))

  command_first : (v : Style) (n k : ℕ) (c : Command) → head_of (command_line v s n k c) ≡ 111
  command_first One n k (words ws) = refl
  command_first Two n k (words ws) = refl
  command_first One n k (missing macro) = refl
  command_first Two n k (missing macro) = refl

  order_told : (o : Ordered) → TellsAlone (ordered_line style s o) []
  order_told o = other_line (ordered_line style s o) (λ e. let bad : 111 ≡ 101 = sym (command_first style o.number o.checkable o.command) ∙ e in absurd (omega (arith, bad)))

  -- Lines of entries.

  -- an entry of a checkable of the site, by a caller whose number has its bits, with sights of checkables of the site
  pub record IsOwn (k : ℕ) (e : Entry) : Type 0 where
    pub inside : k < length (full_names s)
    pub few : e.caller < 2 ^ 64
    pub sights : AllByRecursion (IsInside s) e.sights

  module _ (apart : AreDistinct (full_names s)) where
    entry_told : (k : ℕ) (e : Entry) → IsOwn k e → TellsAlone (styled_entry style s k e) (told_of k e ∷ [])
    entry_told k e own y is = by (is_utf8 (styled_entry style s k e)) (sym (entry_dispatch style s k e) ∙ is)
      where
        by : (t : Bool) → cond t (styled_read style (names_of s) (styled_entry style s k e) >>= as_entry) None ≡ Some y → told_in_line y ≡ told_of k e ∷ []
        by true h =
            bind_then (styled_read style (names_of s) (styled_entry style s k e)) as_entry y
            (λ z h-z e-z.
            let same = read_back s apart style k e z own.inside own.few own.sights h-z in
            let one : told_of z.0 z.1 ≡ told_of k e = (λ i. record { checkable = sym same.checkable i; caller = sym same.callers i; sights = sym same.sights i }) in
            ap told_in_line (sym (some_is (line.Entry z.0 z.1) y e-z)) ∙ ap (λ t. t ∷ []) one) h
        by false h = absurd cc

    entries_told : (k : ℕ) (es : List Entry) → AllByRecursion (IsOwn k) es → Tells (map (styled_entry style s k) es) (map (told_of k) es)
    entries_told k [] own = tells_none
    entries_told k (e ∷ es) own = tells_first (styled_entry style s k e) (map (styled_entry style s k) es) (told_of k e ∷ []) (map (told_of k) es) (entry_told k e own.0) (entries_told k es own.1)

    each_own : (k : ℕ) (es : List Entry) → ((i : ℕ) (e : Entry) → slice_get es i ≡ Some e → IsOwn k e) → AllByRecursion (IsOwn k) es
    each_own k [] f = tt
    each_own k (e ∷ es) f = (f 0 e refl, each_own k es (λ i. f (suc i)))

    abbrev AreOwn : ℕ → Histories → Type 0
    AreOwn k round = (j i : ℕ) (e : Entry) → slice_get (of_index j round) i ≡ Some e → IsOwn (k + j) e

    round_told : (k : ℕ) (round : Histories) → AreOwn k round → Tells (flat_map (λ lines. lines) (round_lines style s k round)) (told_from k round)
    round_told k [] own = tells_none
    round_told k (es ∷ round) own =
        tells_both (map (styled_entry style s k) es) (flat_map (λ lines. lines) (round_lines style s (suc k) round)) (map (told_of k) es) (told_from (suc k) round)
        (entries_told k es (each_own k es (λ i e at. let n : k + 0 ≡ k = omega arith in subst (λ m. IsOwn m e) n (own 0 i e at))))
        (round_told (suc k) round (λ j i e at. let n : k + suc j ≡ suc k + j = omega arith in subst (λ m. IsOwn m e) n (own (suc j) i e at)))

    -- a block of the lines of a turn
    lines_told : (l : TurnLog) (c : Block) → AreOwn 0 l.round → block_read style (names_of s) (turn_lines style s l) ≡ Some c → told_by_block c ≡ told_in l.round
    lines_told l c own e =
        let refused : List (List ℕ) = map refusal_line l.refusals in
        let entries : List (List ℕ) = flat_map (λ lines. lines) (round_lines style s 0 l.round) in
        let orders : List (List ℕ) = map (ordered_line style s) l.orders in
        let all : Tells ((refused ++ entries) ++ orders) (told_in l.round ++ []) =
        tells_both (refused ++ entries) orders (told_in l.round) [] (tells_both refused entries [] (told_in l.round) (tells_nothing refusal_line refusal_told l.refusals) (round_told 0 l.round own)) (tells_nothing (ordered_line style s) order_told l.orders) in
        bind_then (line_begun style (names_of s) (turn_line l.number l.moment)) (into ((refused ++ entries) ++ orders)) c
        (λ b h-b e-b.
        bind_then (read (turn_line l.number l.moment)) block_at b (λ y h-y e-y. all b c e-b ∙ (ap (λ ts. ts ++ (told_in l.round ++ [])) (begun_told y b e-y) ∙ append-nil (told_in l.round))) h-b) e

-- Entries of a turn's round.

module _ (s : PlainSite) (zone : Option Tzif) (callers : ℕ) (few : callers < 2 ^ 64) (st : Stage) (t : Turn) (l : TurnLog) (is : IsTurn (basis_of_site s zone) callers st (turn_read s t) l) where
  named : (k : ℕ) → k < length s.checkables → k < length (full_names s)
  named k h = let n = length_map (λ c. c.name) s.checkables in omega (arith, h, n)

  all_named : (xs : List Sight) → AllByRecursion (λ x. x.checkable < length s.checkables) xs → AllByRecursion (IsInside s) xs
  all_named [] h = tt
  all_named (x ∷ xs) h = (named x.checkable h.0, all_named xs h.1)

  many : length (events_of (basis_of_site s zone) callers st (turn_read s t) l.moment) ≡ callers
  many =
      let lines = line_events (lines_of (basis_of_site s zone) st (turn_read s t) l.moment) in
      let reports = taken_reports st.plans.outstanding (reports_of st (turn_read s t)) in
      length_map (dealt_to callers lines reports (ticks s st.histories l.moment)) (from_on 0 callers) ∙ length_from_on 0 callers

  own_entry : (style : Style) (c i : ℕ) (e : Entry) → slice_get (of_index c l.round) i ≡ Some e → IsOwn style s c e
  own_entry style c i e at =
      let m = is.round.made c i e at in
      let by = is.round.callers c i e at in
      let n = many in
      record {
        inside = named c (slice_get_within s.checkables c m.check m.is);
        few = omega (arith, by, n, few);
        sights =
            all_named e.sights
            (recursion_from_All (λ x. x.checkable < length s.checkables) e.sights
            (all_parts (IsIndex (length s.checkables)) (λ (x : Sight). x.checkable) e.sights (subst (All (IsIndex (length s.checkables))) (sym (is.round.ancestors c i e at)) (ancestors_own s c))));
      }

-- a block with the text of a turn tells its round
pub told_back : (style : Style) (s : PlainSite) (zone : Option Tzif) (callers : ℕ) (st : Stage) (t : Turn) (l : TurnLog) (bytes : List ℕ) (told : List Told) → IsSound s → callers < 2 ^ 64 → IsTurn (basis_of_site s zone) callers st (turn_read s t) l
    → IsToldIn style (names_of s) (blocks.lines_of bytes) told → is_block style s l (blocks.lines_of bytes) ≡ true → told_in l.round ≡ told
told_back style s zone callers st t l bytes told sound few is h same =
    let text : List ℕ = concat (turn_lines style s l) in
    let bytes_are : bytes ≡ text = sym (lines_whole bytes) ∙ (bytes_eq-Decides (concat (blocks.lines_of bytes)) text).0 same in
    let lines : blocks.lines_of bytes ≡ turn_lines style s l = ap blocks.lines_of bytes_are ∙ lines_back (turn_lines style s l) (turn_lines_whole style s zone callers st t l is) in
    let apart : AreDistinct (full_names s) = subst AreDistinct sound.names.named sound.names.distinct in
    let own : (j i : ℕ) (e : Entry) → slice_get (of_index j l.round) i ≡ Some e → IsOwn style s (0 + j) e = λ j i e at. let n : j ≡ 0 + j = omega arith in subst (λ m. IsOwn style s m e) n (own_entry s zone callers few st t l is style j i e at) in
    sym (lines_told style s apart l h.block own (ap (block_read style (names_of s)) (sym lines) ∙ h.read)) ∙ sym h.is
