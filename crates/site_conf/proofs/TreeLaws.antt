-- The trees of a walk over files that are told are those of their bytes.
use Rattle.std.proofs.Common.{◌≡◌, ◌≢◌, ◌≤◌, ℕ, zero, suc, ◌+◌, ◌-◌, ◌==◌, Bool, true, false, cond, nat_lt, List, [], ◌∷◌, ◌++◌, length, map, set, take, get_or, slice_get, Option, Some, None, refl, sym, ap, subst, ◌∙◌, arith, length-append}
use Rattle.std.specs.Prelude.{All, ⊤}
use Rattle.std.specs.Option.{option_map}
use Rattle.std.specs.Str.{is_utf8}
use Rattle.std.specs.Str.Lossy.{utf8_valid_len}
use Rattle.std.proofs.lemmas.Bool.Decides.{nat_tests}
use Rattle.std.proofs.lemmas.List.{map-append, length-map}
use Rattle.std.proofs.lemmas.List.Elements.{All-append}
use Rattle.std.proofs.lemmas.Option.{slice_get-map, slice_get-get_or, slice_get_within, get_or_from_slice_get}
use Rattle.site_base.specs.declared.diag_kind.DiagKind.{DiagKind}
use Rattle.site_base.specs.declared.diag_kind.DiagKind.TheVariants as kind
use Rattle.site_base.specs.declared.place.Place.{Place}
use Rattle.site_base.specs.Quoted.{quoted}
use Rattle.dsl_syntax.specs.Syntax.{Statements}
use Rattle.dsl_lexer.specs.Lexing.{Lexed, all as tokens_of, bad, lexed, file_tokens}
use Rattle.dsl_lexer.specs.Lists.{HasTokens, IsWhole}
use Rattle.dsl_lexer.specs.Places.{start_of, place_behind}
use Rattle.dsl_lexer.specs.declared.token.Token.{Token}
use Rattle.dsl_grammar.specs.Files.{Outcome, tree_found, fault_at, deep_at_place, file_outcome, Holds}
use Rattle.site_conf.specs.Findings.{IsTreeOf, IsTold}
use Rattle.conf_sources.specs.Reading.{Kept, diag_at, in_file, kept_none, kept_tree, kept_outcome, kept_tokens, kept_bytes, kept_content}
use Rattle.conf_sources.specs.Sources.{Told, full_name, is_library, source_at, content_of}
use Rattle.site_conf.specs.Sound.{IsClear}
use Rattle.site_conf.specs.Walks.{WalkState, empty_state, Entered, stays, stopped, entered, met, met_by, settled, settled_at, with_number, with_length, with_fault, with_count, with_end, with_kept, walked}
use Rattle.conf_sources.specs.declared.holding.Holding.{Holding}
use Rattle.conf_sources.specs.declared.holding.Holding.TheVariants.{Missing, TooLong, Broken, Whole}
use Rattle.conf_sources.specs.declared.source.Source.{Source}
use Rattle.conf_sources.specs.declared.source.Source.TheVariants.{File}
use Rattle.site_conf.proofs.Through.{Stays, walked_stays}
use Rattle.site_conf.proofs.SoundLaws.{nil_left, nil_right, one_more, one_all, none_all, content_kept}

-- what is kept of files, of which the first has this index
abbrev pub kept_of : Told → ℕ → List Source → List Kept
kept_of all n [] = []
kept_of all n (s ∷ ss) = kept_content n (content_of all s) ∷ kept_of all (suc n) ss

abbrev pub holding_of : Kept → Holding
holding_of k = k.holding

abbrev pub tree_of : Kept → Statements
tree_of k = k.tree

kept_last : (all : Told) (n m : ℕ) (ss : List Source) (s : Source) → m ≡ n + length ss → kept_of all n (ss ++ s ∷ []) ≡ kept_of all n ss ++ kept_content m (content_of all s) ∷ []
kept_last all n m [] s e = let same : n ≡ m = omega (arith, e) in ap (λ k. kept_content k (content_of all s) ∷ []) same
kept_last all n m (t ∷ ss) s e = ap (λ l. kept_content n (content_of all t) ∷ l) (kept_last all (suc n) m ss s (omega (arith, e)))

pub kept_at : (all : Told) (n k : ℕ) (ss : List Source) (s : Source) → slice_get ss k ≡ Some s → slice_get (kept_of all n ss) k ≡ Some (kept_content (n + k) (content_of all s))
kept_at all n k [] s e = absurd (cc)
kept_at all n zero (t ∷ ss) s e = let same : t ≡ s = source_is t s e in let there : n ≡ n + 0 = omega arith in ap (λ x. Some (kept_content n (content_of all x))) same ∙ ap (λ m. Some (kept_content m (content_of all s))) there
  where
    source_or : Option Source → Source → Source
    source_or None d = d
    source_or (Some x) d = x

    source_is : (x y : Source) → Some x ≡ Some y → x ≡ y
    source_is x y e = ap (λ o. source_or o x) e
kept_at all n (suc k) (t ∷ ss) s e = let there : suc n + k ≡ n + suc k = omega arith in kept_at all (suc n) k ss s e ∙ ap (λ m. Some (kept_content m (content_of all s))) there

-- what was met is kept by what it holds; where no fault was told, all of it is whole
pub record AreKept (all : Told) (s : WalkState) : Type 0 where
  pub named : s.names ≡ map full_name s.sources
  pub flagged : s.library ≡ map is_library s.sources
  pub holdings : s.holdings ≡ map holding_of (kept_of all 0 s.sources)
  pub trees : s.trees ≡ map tree_of (kept_of all 0 s.sources)
  pub whole : IsClear s → All (λ h. h ≡ Whole) s.holdings

pub begins_kept : (all : Told) → AreKept all empty_state
begins_kept all = record { named = refl; flagged = refl; holdings = refl; trees = refl; whole = λ _. none_all (λ h. h ≡ Whole) }

pub order_kept : (all : Told) (order : List ℕ) (s : WalkState) → AreKept all s → AreKept all (record s { order = order })
order_kept all order s h = record { named = h.named; flagged = h.flagged; holdings = h.holdings; trees = h.trees; whole = h.whole }

pub count_kept : (all : Told) (s : WalkState) → AreKept all s → AreKept all (with_count s)
count_kept all s h = record { named = h.named; flagged = h.flagged; holdings = h.holdings; trees = h.trees; whole = h.whole }

-- but for that all of it is whole
record AreRead (all : Told) (s : WalkState) : Type 0 where
  named : s.names ≡ map full_name s.sources
  flagged : s.library ≡ map is_library s.sources
  holdings : s.holdings ≡ map holding_of (kept_of all 0 s.sources)
  trees : s.trees ≡ map tree_of (kept_of all 0 s.sources)

fault_kept : (all : Told) (at : Place) (k : DiagKind) (name : List ℕ) (ended : Bool) (s : WalkState) → AreRead all s → AreKept all (record (with_fault at k name s) { ended = ended })
fault_kept all at k name ended s h = record { named = h.named; flagged = h.flagged; holdings = h.holdings; trees = h.trees; whole = λ c. absurd (one_more s.diags (diag_at at k (quoted name)) c) }

read_of : (all : Told) (s : WalkState) → AreKept all s → AreRead all s
read_of all s h = record { named = h.named; flagged = h.flagged; holdings = h.holdings; trees = h.trees }

-- what it holds is no fault of an inclusion, and then this
abbrev IsFine : Option Holding → Type 0 → Type 0
IsFine (Some Missing) A = ⊤
IsFine (Some TooLong) A = ⊤
IsFine (Some Broken) A = A
IsFine (Some Whole) A = A
IsFine None A = A

fine_so : (o : Option Holding) (A : Type 0) → A → IsFine o A
fine_so (Some Missing) A a = tt
fine_so (Some TooLong) A a = tt
fine_so (Some Broken) A a = a
fine_so (Some Whole) A a = a
fine_so None A a = a

-- what it holds decides
settled_kept : (all : Told) (at : Place) (name : List ℕ) (index : ℕ) (o : Option Holding) (s : WalkState) → AreRead all s → (IsClear s → IsFine o (All (λ h. h ≡ Whole) s.holdings)) → AreKept all (stopped (settled at name index o s))
settled_kept all at name index (Some Missing) s h w = fault_kept all at kind.NoFile name s.ended s h
settled_kept all at name index (Some TooLong) s h w = fault_kept all at kind.FileTooLong name s.ended s h
settled_kept all at name index (Some Broken) s h w = record { named = h.named; flagged = h.flagged; holdings = h.holdings; trees = h.trees; whole = w }
settled_kept all at name index (Some Whole) s h w = record { named = h.named; flagged = h.flagged; holdings = h.holdings; trees = h.trees; whole = w }
settled_kept all at name index None s h w = record { named = h.named; flagged = h.flagged; holdings = h.holdings; trees = h.trees; whole = w }

pub kept_length : (all : Told) (n : ℕ) (ss : List Source) → length (kept_of all n ss) ≡ length ss
kept_length all n [] = refl
kept_length all n (s ∷ ss) = ap suc (kept_length all (suc n) ss)

pub last_at : {A : Type 0} (xs : List A) (x : A) (k : ℕ) → k ≡ length xs → slice_get (xs ++ x ∷ []) k ≡ Some x
last_at [] x k e = ap (λ n. slice_get (x ∷ []) n) e
last_at (y ∷ xs) x k e = ap (λ n. slice_get (y ∷ xs ++ x ∷ []) n) e ∙ last_at xs x (length xs) refl

new_fine : (s : WalkState) (k : Kept) (h : Holding) → k.holding ≡ h → (k.faults ≡ [] → k.holding ≢ Broken) → (IsClear s → All (λ x. x ≡ Whole) s.holdings) → s.diags ++ k.faults ≡ [] → IsFine (Some h) (All (λ x. x ≡ Whole) (s.holdings ++ k.holding ∷ []))
new_fine s k Missing e u w c = tt
new_fine s k TooLong e u w c = tt
new_fine s k Broken e u w c = absurd (u (nil_right s.diags k.faults c) e)
new_fine s k Whole e u w c = All-append (λ x. x ≡ Whole) s.holdings (k.holding ∷ []) (w (nil_left s.diags k.faults c)) (one_all (λ x. x ≡ Whole) k.holding e)

-- a file that is met
pub met_kept_by : (all : Told) (at : Place) (source : Source) (o : Option ℕ) (s : WalkState) → AreKept all s → AreKept all (stopped (met_by all at source o s))
met_kept_by all at source (Some index) s h =
    settled_kept all at (full_name source) index (slice_get s.holdings index) s (read_of all s h) (λ c. fine_so (slice_get s.holdings index) (All (λ x. x ≡ Whole) s.holdings) (h.whole c))
met_kept_by all at source None s h =
    let n : ℕ = length s.names in
    let k : Kept = kept_content n (content_of all source) in
    let next : WalkState = with_kept source k s in
    let names : n ≡ length s.sources = ap length h.named ∙ length-map s.sources full_name in
    let last : kept_of all 0 (s.sources ++ source ∷ []) ≡ kept_of all 0 s.sources ++ k ∷ [] = kept_last all 0 n s.sources source (omega (arith, names)) in
    let many : n ≡ length s.holdings = names ∙ sym (kept_length all 0 s.sources) ∙ sym (length-map (kept_of all 0 s.sources) holding_of) ∙ sym (ap length h.holdings) in
    let there : slice_get next.holdings n ≡ Some k.holding = last_at s.holdings k.holding n many in
    let read : AreRead all next = record {
      named = ap (λ l. l ++ full_name source ∷ []) h.named ∙ sym (map-append full_name s.sources (source ∷ []));
      flagged = ap (λ l. l ++ is_library source ∷ []) h.flagged ∙ sym (map-append is_library s.sources (source ∷ []));
      holdings = ap (λ l. l ++ k.holding ∷ []) h.holdings ∙ sym (map-append holding_of (kept_of all 0 s.sources) (k ∷ [])) ∙ sym (ap (map holding_of) last);
      trees = ap (λ l. l ++ k.tree ∷ []) h.trees ∙ sym (map-append tree_of (kept_of all 0 s.sources) (k ∷ [])) ∙ sym (ap (map tree_of) last);
    } in
    let fine : IsClear next → IsFine (Some k.holding) (All (λ x. x ≡ Whole) next.holdings) = λ c. new_fine s k k.holding refl (content_kept n (content_of all source)).unbroken h.whole c in
    subst (λ o. AreKept all (stopped (settled at (full_name source) n o next))) (sym there) (settled_kept all at (full_name source) n (Some k.holding) next read fine)

met_kept : (all : Told) (at : Place) (source : Source) (s : WalkState) → AreKept all s → AreKept all (stopped (met all at source s))
unfolding met
met_kept all at source s h = met_kept_by all at source (source_at source s.sources) s h

pub entered_kept : (all : Told) (left : ℕ) (at : Place) (source : Source) (s : WalkState) → AreKept all s → AreKept all (stopped (entered all left at source s))
unfolding entered
entered_kept all left at source s h = ended s.ended
  where
    next : Bool → Entered
    next b = cond b (stays (with_fault at kind.IncludeDepth (full_name source) (with_count s))) (met all at source (with_count s))

    deep : (b : Bool) → AreKept all (stopped (next b))
    deep true = fault_kept all at kind.IncludeDepth (full_name source) s.ended (with_count s) (read_of all (with_count s) (count_kept all s h))
    deep false = met_kept all at source (with_count s) (count_kept all s h)

    many : (b : Bool) → AreKept all (stopped (cond b (next (left == 0)) (stays (with_end (with_fault at kind.TooManyFiles (full_name source) s)))))
    many true = deep (left == 0)
    many false = fault_kept all at kind.TooManyFiles (full_name source) true s (read_of all s h)

    ended : (b : Bool) → AreKept all (stopped (cond b (stays s) (cond (nat_lt s.count 10000) (next (left == 0)) (stays (with_end (with_fault at kind.TooManyFiles (full_name source) s))))))
    ended true = h
    ended false = many (nat_lt s.count 10000)

pub walk_keeps : (all : Told) (root : List ℕ) → AreKept all (walked all root)
walk_keeps all root =
    walked_stays all (AreKept all) (record {
      numbered = λ n s h. order_kept all (s.order ++ n ∷ []) s h;
      measured = λ start s h. order_kept all (set s.order start (length s.order - start - 1)) s h;
      taken = entered_kept all;
    }) root (met_kept all (start_of 0) (File root) empty_state (begins_kept all))

-- What is whole has a tree.

-- by what the outcome is of the grammar
outcome_whole : (file : ℕ) (o : Outcome) → (kept_outcome file o).holding ≡ Whole → o ≡ tree_found (kept_outcome file o).tree
outcome_whole file (tree_found tree) e = refl
outcome_whole file (fault_at p) e = cc
outcome_whole file (deep_at_place p) e = cc

pub tree_is : (file : ℕ) (bytes : List ℕ) (tokens : List Token) (tree : Statements) → length bytes ≤ 4194304 → HasTokens file bytes tokens → Holds tokens (tree_found tree) → IsTreeOf file bytes tree
tree_is file bytes tokens tree short read h = record { short = short; tokens = tokens; read = read; parsed = h.0; only = h.1; shallow = h.2 }

-- a law: what is read of bytes is their tokens, and these are whole
abbrev pub AreTokens : Type 0
AreTokens = (file : ℕ) (bytes : List ℕ) (ts : List Token) → file_tokens file bytes ≡ tokens_of ts → HasTokens file bytes ts × IsWhole ts

-- a law: what is read of tokens is their tree, or their fault
abbrev pub AreOutcomes : Type 0
AreOutcomes = (tokens : List Token) → IsWhole tokens → Holds tokens (file_outcome tokens)

tokens_whole : AreTokens → AreOutcomes → (file : ℕ) (bytes : List ℕ) (l : Lexed) → length bytes ≤ 4194304 → file_tokens file bytes ≡ l → (kept_tokens file l).holding ≡ Whole → IsTreeOf file bytes (kept_tokens file l).tree
tokens_whole read outcomes file bytes (tokens_of ts) short e w =
    let found : file_outcome ts ≡ tree_found (kept_outcome file (file_outcome ts)).tree = outcome_whole file (file_outcome ts) w in
    tree_is file bytes ts (kept_outcome file (file_outcome ts)).tree short (read file bytes ts e).0 (subst (Holds ts) found (outcomes ts (read file bytes ts e).1))
tokens_whole read outcomes file bytes (bad p) short e w = absurd (cc)

bytes_whole : AreTokens → AreOutcomes → (file : ℕ) (bytes : List ℕ) → length bytes ≤ 4194304 → (kept_bytes file bytes).holding ≡ Whole → IsTreeOf file bytes (kept_bytes file bytes).tree
unfolding kept_bytes
bytes_whole read outcomes file bytes short w = tokens_whole read outcomes file bytes (file_tokens file bytes) short refl w

short_by : (n m : ℕ) → nat_lt n m ≡ false → m ≤ n
short_by n m e = grind (arith, nat_tests)

long_whole : AreTokens → AreOutcomes → (file : ℕ) (bytes : List ℕ) (b : Bool) → nat_lt 4194304 (length bytes) ≡ b → (cond b (kept_none TooLong) (kept_bytes file bytes)).holding ≡ Whole
    → IsTreeOf file bytes (cond b (kept_none TooLong) (kept_bytes file bytes)).tree
long_whole read outcomes file bytes true e w = absurd (cc)
long_whole read outcomes file bytes false e w = bytes_whole read outcomes file bytes (short_by 4194304 (length bytes) e) w

content_whole : AreTokens → AreOutcomes → (file : ℕ) (content : Option (List ℕ)) → (kept_content file content).holding ≡ Whole → (bytes : List ℕ) × (content ≡ Some bytes) × IsTreeOf file bytes (kept_content file content).tree
content_whole read outcomes file None w = absurd (cc)
content_whole read outcomes file (Some bytes) w = (bytes, refl, long_whole read outcomes file bytes (nat_lt 4194304 (length bytes)) refl w)

-- where no fault was told, the tree of each file that was met is that of its bytes
pub trees_are : AreTokens → AreOutcomes → (all : Told) (root : List ℕ) → IsClear (walked all root) → (index : ℕ) (source : Source) → slice_get (walked all root).sources index ≡ Some source → IsTold all (walked all root) index source
trees_are read outcomes all root clear index source at =
    let s : WalkState = walked all root in
    let h : AreKept all s = walk_keeps all root in
    let k : Kept = kept_content index (content_of all source) in
    let zero_on : 0 + index ≡ index = omega arith in
    let there : slice_get (kept_of all 0 s.sources) index ≡ Some k = kept_at all 0 index s.sources source at ∙ ap (λ m. Some (kept_content m (content_of all source))) zero_on in
    let holds : slice_get s.holdings index ≡ Some k.holding = ap (λ l. slice_get l index) h.holdings ∙ slice_get-map holding_of (kept_of all 0 s.sources) index ∙ ap (option_map holding_of) there in
    let grows : slice_get s.trees index ≡ Some k.tree = ap (λ l. slice_get l index) h.trees ∙ slice_get-map tree_of (kept_of all 0 s.sources) index ∙ ap (option_map tree_of) there in
    let whole : k.holding ≡ Whole = sym (get_or_from_slice_get s.holdings index k.holding Whole holds) ∙ h.whole clear index Whole (slice_get_within s.holdings index k.holding holds) in
    let found = content_whole read outcomes index (content_of all source) whole in
    record { tree = k.tree; there = grows; bytes = found.0; content = found.1; of_them = found.2 }

-- each file that was met has its name and its flag
pub names_are : (all : Told) (root : List ℕ) → (walked all root).names ≡ map full_name (walked all root).sources
names_are all root = (walk_keeps all root).named

pub flags_are : (all : Told) (root : List ℕ) → (walked all root).library ≡ map is_library (walked all root).sources
flags_are all root = (walk_keeps all root).flagged
