-- What is gathered of a round is joined to what stood before it.
use Rattle.std.proofs.Common.{◌≡◌, ℕ, zero, suc, ◌+◌, ◌<◌, ◌≤◌, List, [], ◌∷◌, ◌++◌, length, map, set, get_or, All, refl, sym, ap, ap₂, ◌∙◌, subst, arith, append_assoc, length-append}
use Rattle.std.proofs.lemmas.List.{append-nil, length-set, map-append}
use Rattle.std.proofs.lemmas.List.Elements.{All-cons, All-head, All-nil, All-tail}
use Rattle.run_meaning.specs.Runs.{joined}
use Rattle.run_meaning.specs.Turns.{Histories}
use Rattle.site_keep.specs.StateFile.{lines_from, lines_of, saved_line}
use Rattle.site_model.specs.PlainSite.{PlainSite, check_view}
use Rattle.site_model.specs.declared.check_spec.CheckSpec.{CheckSpec}
use Rattle.site_model.specs.declared.entry.Entry.{Entry}
use Rattle.site_posts.specs.Segments.{segments_from, segments_of}
use Rattle.site_posts.specs.declared.segment.Segment.{Segment}
use Rattle.site_text.specs.Entries.{IsPrintable}
use Rattle.kept_runs.specs.Gathered.{with_lines, AllPrintable}

-- Entries, one after the other.

-- with the entries that a checkable gets behind its own
abbrev with_segment : Histories → Segment → Histories
with_segment hs x = set hs x.checkable (get_or hs x.checkable [] ++ x.entries)

abbrev with_segments : Histories → List Segment → Histories
with_segments hs [] = hs
with_segments hs (x ∷ xs) = with_segments (with_segment hs x) xs

set_between : (before : Histories) (h g : List Entry) (behind : Histories) → set (before ++ h ∷ behind) (length before) g ≡ before ++ g ∷ behind
set_between [] h g behind = refl
set_between (b ∷ before) h g behind = ap (λ hs. b ∷ hs) (set_between before h g behind)

get_between : (before : Histories) (h : List Entry) (behind : Histories) → get_or (before ++ h ∷ behind) (length before) [] ≡ h
get_between [] h behind = refl
get_between (b ∷ before) h behind = get_between before h behind

one_longer : (before : Histories) (h : List Entry) → length (before ++ h ∷ []) ≡ suc (length before)
one_longer before h = let l = length-append before (h ∷ []) in omega (arith, l)

module _ (before : Histories) (h : List Entry) (hs : Histories) (round : Histories) where
  -- a checkable is passed whose entries are these now
  passed : (g : List Entry) → with_segments ((before ++ g ∷ []) ++ hs) (segments_from (length (before ++ g ∷ [])) round) ≡ (before ++ g ∷ []) ++ joined hs round
      → with_segments (before ++ g ∷ hs) (segments_from (suc (length before)) round) ≡ before ++ g ∷ joined hs round
  passed g rest =
      ap (λ xs. with_segments xs (segments_from (suc (length before)) round)) (sym (append_assoc before (g ∷ []) hs))
      ∙ ap (λ k. with_segments ((before ++ g ∷ []) ++ hs) (segments_from k round)) (sym (one_longer before g))
      ∙ rest
      ∙ append_assoc before (g ∷ []) (joined hs round)

  grown : (e : Entry) (es : List Entry) → with_segment (before ++ h ∷ hs) (record { checkable = length before; entries = e ∷ es }) ≡ before ++ (h ++ e ∷ es) ∷ hs
  grown e es = ap (λ g. set (before ++ h ∷ hs) (length before) (g ++ e ∷ es)) (get_between before h hs) ∙ set_between before h (h ++ e ∷ es) hs

gathered_from : (before hs round : Histories) → length round ≡ length hs → with_segments (before ++ hs) (segments_from (length before) round) ≡ before ++ joined hs round
gathered_from before [] [] many = refl
gathered_from before [] (r ∷ round) many = absurd (omega (arith, many))
gathered_from before (h ∷ hs) [] many = refl
gathered_from before (h ∷ hs) ([] ∷ round) many =
    passed before h hs round h (gathered_from (before ++ h ∷ []) hs round (omega (arith, many)))
    ∙ ap (λ g. before ++ g ∷ joined hs round) (sym (append-nil h))
gathered_from before (h ∷ hs) ((e ∷ es) ∷ round) many =
    ap (λ xs. with_segments xs (segments_from (suc (length before)) round)) (grown before h hs round e es)
    ∙ passed before h hs round (h ++ e ∷ es) (gathered_from (before ++ (h ++ e ∷ es) ∷ []) hs round (omega (arith, many)))

gathered : (hs round : Histories) → length round ≡ length hs → with_segments hs (segments_of round) ≡ joined hs round
gathered hs round many = gathered_from [] hs round many

-- Their lines.

abbrev with_all : PlainSite → List (List (List ℕ)) → List Segment → List (List (List ℕ))
with_all s lines [] = lines
with_all s lines (x ∷ xs) = with_all s (with_lines s lines x) xs

lines_set : (s : PlainSite) (first k i : ℕ) (hs : Histories) (es : List Entry) → i ≡ first + k
    → set (lines_from s first hs) k (get_or (lines_from s first hs) k [] ++ map (saved_line s i) es) ≡ lines_from s first (set hs k (get_or hs k [] ++ es))
lines_set s first zero i [] es at = refl
lines_set s first (suc k) i [] es at = refl
lines_set s first zero i (h ∷ hs) es at =
    let same : i ≡ first = omega (arith, at) in
    ap (λ ls. ls ∷ lines_from s (suc first) hs) (ap (λ j. map (saved_line s first) h ++ map (saved_line s j) es) same ∙ sym (map-append (saved_line s first) h es))
lines_set s first (suc k) i (h ∷ hs) es at = ap (λ ls. map (saved_line s first) h ∷ ls) (lines_set s (suc first) k i hs es (omega (arith, at)))

all_lines : (s : PlainSite) (hs : Histories) (xs : List Segment) → with_all s (lines_of s hs) xs ≡ lines_of s (with_segments hs xs)
all_lines s hs [] = refl
all_lines s hs (x ∷ xs) = ap (λ ls. with_all s ls xs) (lines_set s 0 x.checkable x.checkable hs x.entries (omega arith)) ∙ all_lines s (with_segment hs x) xs

many_lines : (s : PlainSite) (k : ℕ) (hs : Histories) → length (lines_from s k hs) ≡ length hs
many_lines s k [] = refl
many_lines s k (h ∷ hs) = ap suc (many_lines s (suc k) hs)

pub lines_many : (s : PlainSite) (hs : Histories) → length (lines_of s hs) ≡ length hs
lines_many s hs = many_lines s 0 hs

-- Those that are left.

abbrev AreWithin : ℕ → List Segment → Type 0
AreWithin n xs = All (λ (x : Segment). x.checkable < n) xs

segments_within : (n k : ℕ) (round : Histories) → k + length round ≤ n → AreWithin n (segments_from k round)
segments_within n k [] few = All-nil (λ (x : Segment). x.checkable < n)
segments_within n k ([] ∷ round) few = segments_within n (suc k) round (omega (arith, few))
segments_within n k ((e ∷ es) ∷ round) few =
    All-cons (λ (x : Segment). x.checkable < n) (record { checkable = k; entries = e ∷ es }) (segments_from (suc k) round) (omega (arith, few)) (segments_within n (suc k) round (omega (arith, few)))

-- with those that are left, what is gathered so far comes to all, and each that is left has its place and can be printed
pub record Gathers (s : PlainSite) (first : List (List (List ℕ))) (all : List Segment) (now : List (List (List ℕ))) (left : List Segment) : Type 0 where
  pub same : with_all s now left ≡ with_all s first all
  pub within : AreWithin (length now) left
  pub printable : AllPrintable s left

pub begin : (s : PlainSite) (first : List (List (List ℕ))) (all left : List Segment) → left ≡ all → (round : Histories) × (all ≡ segments_of round) × (length round ≡ length first) → AllPrintable s all → Gathers s first all first left
begin s first all left is (round, of, many) printable = record {
  same = ap (with_all s first) is;
  within = subst (AreWithin (length first)) (sym (is ∙ of)) (segments_within (length first) 0 round (omega (arith, many)));
  printable = subst (AllPrintable s) (sym is) printable;
}

module _ (s : PlainSite) (first : List (List (List ℕ))) (all : List Segment) (now : List (List (List ℕ))) (left rest : List Segment) (x : Segment) (is : left ≡ x ∷ rest) (g : Gathers s first all now left) where
  pub next_within : x.checkable < length now
  next_within = All-head (λ (y : Segment). y.checkable < length now) x rest (subst (AreWithin (length now)) is g.within)

  pub next_printable : All (IsPrintable s x.checkable) x.entries
  next_printable = All-head (λ (y : Segment). All (IsPrintable s y.checkable) y.entries) x rest (subst (AllPrintable s) is g.printable)

  pub one_more : (next : List (List (List ℕ))) → next ≡ with_lines s now x → Gathers s first all next rest
  one_more next grown =
      let long : length next ≡ length now = ap length grown ∙ length-set now x.checkable (get_or now x.checkable [] ++ map (saved_line s x.checkable) x.entries) in
      record {
        same = ap (λ ls. with_all s ls rest) grown ∙ ap (with_all s now) (sym is) ∙ g.same;
        within = subst (λ n. AreWithin n rest) (sym long) (All-tail (λ (y : Segment). y.checkable < length now) x rest (subst (AreWithin (length now)) is g.within));
        printable = All-tail (λ (y : Segment). All (IsPrintable s y.checkable) y.entries) x rest (subst (AllPrintable s) is g.printable);
      }

pub all_gathered : (s : PlainSite) (first : List (List (List ℕ))) (all : List Segment) (now : List (List (List ℕ))) (left : List Segment) → length left ≡ 0 → Gathers s first all now left
    → (before round : Histories) → first ≡ lines_of s before → all ≡ segments_of round → length round ≡ length before → now ≡ lines_of s (joined before round)
all_gathered s first all now [] none g before round are of many =
    g.same ∙ ap₂ (with_all s) are of ∙ all_lines s before (segments_of round) ∙ ap (lines_of s) (gathered before round many)
all_gathered s first all now (x ∷ left) none g before round are of many = absurd (omega (arith, none))

-- Before the first round.

pub none_each : (s : PlainSite) (k : ℕ) (checkables : List CheckSpec) → map {B = List (List ℕ)} (λ _. []) checkables ≡ lines_from s k (map (λ _. []) (map check_view checkables))
none_each s k [] = refl
none_each s k (c ∷ cs) = ap (λ ls. [] ∷ ls) (none_each s (suc k) cs)
