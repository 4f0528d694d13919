-- Each diagnostic of a walk over files that are told is of a fault.
use Rattle.std.proofs.Common.{◌≡◌, ◌≤◌, ◌<◌, ℕ, zero, suc, ◌+◌, ◌-◌, ◌==◌, Bool, true, false, cond, nat_lt, List, [], ◌∷◌, ◌++◌, length, map, set, get_or, slice_get, ◌⊎◌, Option, Some, None, inl, inr, refl, sym, ap, subst, ◌∙◌, arith, length-append}
use Rattle.std.specs.Prelude.{All}
use Rattle.std.specs.Option.{option_map}
use Rattle.std.specs.Str.{bytes_eq}
use Rattle.std.proofs.lemmas.Bool.Decides.{nat_tests}
use Rattle.std.proofs.lemmas.List.{get_or_append_left, length-map}
use Rattle.std.proofs.lemmas.List.Elements.{All-append}
use Rattle.std.proofs.lemmas.List.Quantifiers.{position-Some}
use Rattle.std.proofs.lemmas.Option.{slice_get-map, slice_get-get_or, slice_get_within, get_or_from_slice_get}
use Rattle.std.proofs.lemmas.Slice.Eq.{bytes_eq-Decides}
use Rattle.site_base.specs.declared.diag.Diag.{Diag}
use Rattle.site_base.specs.declared.diag_kind.DiagKind.{DiagKind}
use Rattle.site_base.specs.declared.diag_kind.DiagKind.TheVariants as kind
use Rattle.site_base.specs.declared.place.Place.{Place}
use Rattle.site_base.specs.Quoted.{quoted}
use Rattle.dsl_lexer.specs.Lexing.{Lexed, all as tokens_of, bad, file_tokens}
use Rattle.dsl_lexer.specs.Lists.{HasTokens, HasFault}
use Rattle.dsl_lexer.specs.Places.{start_of}
use Rattle.dsl_lexer.specs.declared.token.Token.{Token}
use Rattle.dsl_grammar.specs.Files.{Outcome, tree_found, fault_at, deep_at_place, file_outcome, Holds}
use Rattle.site_conf.specs.Findings.{IsOwn, IsFinding}
use Rattle.conf_sources.specs.Reading.{Kept, diag_at, in_file, kept_none, kept_outcome, kept_tokens, kept_bytes, kept_content}
use Rattle.conf_sources.specs.Sources.{Told, full_name, source_at, same_source, content_of}
use Rattle.site_conf.specs.Walks.{WalkState, empty_state, Entered, stays, stopped, entered, met, met_by, settled, with_number, with_length, with_fault, with_count, with_end, with_kept, walked}
use Rattle.conf_sources.specs.declared.holding.Holding.{Holding}
use Rattle.conf_sources.specs.declared.holding.Holding.TheVariants.{Missing, TooLong, Broken, Whole}
use Rattle.conf_sources.specs.declared.source.Source.{Source}
use Rattle.conf_sources.specs.declared.source.Source.TheVariants.{File, Library}
use Rattle.site_conf.proofs.Through.{Stays, walked_stays}
use Rattle.site_conf.proofs.SoundLaws.{one_all, none_all}
use Rattle.site_conf.proofs.TreeLaws.{AreTokens, AreOutcomes, AreKept, kept_of, holding_of, kept_at, kept_length, last_at, begins_kept, order_kept, count_kept, met_kept_by, entered_kept, walk_keeps}

-- a law: where reading bytes stops, they have a fault
abbrev pub AreStops : Type 0
AreStops = (file : ℕ) (bytes : List ℕ) (place : Place) → file_tokens file bytes ≡ bad place → HasFault file bytes place

-- The faults of a file's own text.

outcome_own : (file : ℕ) (bytes : List ℕ) (ts : List Token) (o : Outcome) → HasTokens file bytes ts → Holds ts o → All (IsOwn file bytes) (kept_outcome file o).faults
outcome_own file bytes ts (tree_found tree) read h = none_all (IsOwn file bytes)
outcome_own file bytes ts (fault_at p) read h = one_all (IsOwn file bytes) (diag_at (in_file file p) kind.Syntax []) (inr (inl (record { tokens = ts; read = read; place = p; told = refl; fault = h })))
outcome_own file bytes ts (deep_at_place p) read h = one_all (IsOwn file bytes) (diag_at (in_file file p) kind.TooDeep []) (inr (inr (record { tokens = ts; read = read; place = p; told = refl; fault = h })))

tokens_own : AreTokens → AreStops → AreOutcomes → (file : ℕ) (bytes : List ℕ) (l : Lexed) → file_tokens file bytes ≡ l → All (IsOwn file bytes) (kept_tokens file l).faults
tokens_own read stops outcomes file bytes (tokens_of ts) e = outcome_own file bytes ts (file_outcome ts) (read file bytes ts e).0 (outcomes ts (read file bytes ts e).1)
tokens_own read stops outcomes file bytes (bad p) e = one_all (IsOwn file bytes) (diag_at (in_file file p) kind.Lexical []) (inl (record { place = p; told = refl; fault = stops file bytes p e }))

bytes_own : AreTokens → AreStops → AreOutcomes → (file : ℕ) (bytes : List ℕ) → All (IsOwn file bytes) (kept_bytes file bytes).faults
unfolding kept_bytes
bytes_own read stops outcomes file bytes = tokens_own read stops outcomes file bytes (file_tokens file bytes) refl

long_own : AreTokens → AreStops → AreOutcomes → (file : ℕ) (bytes : List ℕ) (b : Bool) → All (IsOwn file bytes) (cond b (kept_none TooLong) (kept_bytes file bytes)).faults
long_own read stops outcomes file bytes true = none_all (IsOwn file bytes)
long_own read stops outcomes file bytes false = bytes_own read stops outcomes file bytes

all_so : {A : Type 0} (P Q : A → Type 0) (xs : List A) → ((x : A) → P x → Q x) → All P xs → All Q xs
all_so P Q xs f h = λ k d l. f (get_or xs k d) (h k d l)

content_own : AreTokens → AreStops → AreOutcomes → (all : Told) (sources : List Source) (index : ℕ) (source : Source) → slice_get sources index ≡ Some source → (content : Option (List ℕ)) → content_of all source ≡ content
    → All (IsFinding all sources) (kept_content index content).faults
content_own read stops outcomes all sources index source met None e = none_all (IsFinding all sources)
content_own read stops outcomes all sources index source met (Some bytes) e =
    all_so (IsOwn index bytes) (IsFinding all sources) (kept_content index (Some bytes)).faults (λ d h. inl (record { index = index; source = source; met = met; bytes = bytes; content = e; own = h }))
    (long_own read stops outcomes index bytes (nat_lt 4194304 (length bytes)))

-- Files that are missing or too long.

outcome_present : (file : ℕ) (o : Outcome) → (kept_outcome file o).holding ≡ Missing → ⊥
outcome_present file (tree_found tree) e = cc
outcome_present file (fault_at p) e = cc
outcome_present file (deep_at_place p) e = cc

tokens_present : (file : ℕ) (l : Lexed) → (kept_tokens file l).holding ≡ Missing → ⊥
tokens_present file (tokens_of ts) e = outcome_present file (file_outcome ts) e
tokens_present file (bad p) e = cc

bytes_present : (file : ℕ) (bytes : List ℕ) → (kept_bytes file bytes).holding ≡ Missing → ⊥
unfolding kept_bytes
bytes_present file bytes e = tokens_present file (file_tokens file bytes) e

outcome_short : (file : ℕ) (o : Outcome) → (kept_outcome file o).holding ≡ TooLong → ⊥
outcome_short file (tree_found tree) e = cc
outcome_short file (fault_at p) e = cc
outcome_short file (deep_at_place p) e = cc

tokens_short : (file : ℕ) (l : Lexed) → (kept_tokens file l).holding ≡ TooLong → ⊥
tokens_short file (tokens_of ts) e = outcome_short file (file_outcome ts) e
tokens_short file (bad p) e = cc

bytes_short : (file : ℕ) (bytes : List ℕ) → (kept_bytes file bytes).holding ≡ TooLong → ⊥
unfolding kept_bytes
bytes_short file bytes e = tokens_short file (file_tokens file bytes) e

long_present : (file : ℕ) (bytes : List ℕ) (b : Bool) → (cond b (kept_none TooLong) (kept_bytes file bytes)).holding ≡ Missing → ⊥
long_present file bytes true e = cc
long_present file bytes false e = bytes_present file bytes e

content_missing : (file : ℕ) (content : Option (List ℕ)) → (kept_content file content).holding ≡ Missing → content ≡ None
content_missing file None e = refl
content_missing file (Some bytes) e = absurd (long_present file bytes (nat_lt 4194304 (length bytes)) e)

longer_by : (n m : ℕ) → nat_lt n m ≡ true → n < m
longer_by n m e = grind (arith, nat_tests)

long_long : (file : ℕ) (bytes : List ℕ) (b : Bool) → nat_lt 4194304 (length bytes) ≡ b → (cond b (kept_none TooLong) (kept_bytes file bytes)).holding ≡ TooLong → 4194304 < length bytes
long_long file bytes true t e = longer_by 4194304 (length bytes) t
long_long file bytes false t e = absurd (bytes_short file bytes e)

content_long : (file : ℕ) (content : Option (List ℕ)) → (kept_content file content).holding ≡ TooLong → (bytes : List ℕ) × (content ≡ Some bytes) × (4194304 < length bytes)
content_long file None e = absurd (cc)
content_long file (Some bytes) e = (bytes, refl, long_long file bytes (nat_lt 4194304 (length bytes)) refl e)

-- Steps of the walk.

-- what was met is kept, and each diagnostic is of a fault
record AreFound (all : Told) (s : WalkState) : Type 0 where
  kept : AreKept all s
  faults : All (IsFinding all s.sources) s.diags

with_one : (all : Told) (at : Place) (k : DiagKind) (name : List ℕ) (s : WalkState) → All (IsFinding all s.sources) s.diags → IsFinding all s.sources (diag_at at k (quoted name)) → All (IsFinding all s.sources) (with_fault at k name s).diags
with_one all at k name s f h = All-append (IsFinding all s.sources) s.diags (diag_at at k (quoted name) ∷ []) f (one_all (IsFinding all s.sources) (diag_at at k (quoted name)) h)

settled_faults : (all : Told) (at : Place) (source : Source) (n index : ℕ) (h : Holding) (s : WalkState) → (kept_content n (content_of all source)).holding ≡ h → All (IsFinding all s.sources) s.diags
    → All (IsFinding all (stopped (settled at (full_name source) index (Some h) s)).sources) (stopped (settled at (full_name source) index (Some h) s)).diags
settled_faults all at source n index Missing s e f =
    with_one all at kind.NoFile (full_name source) s f (inr (inl (record { at = at; source = source; told = refl; missing = content_missing n (content_of all source) e })))
settled_faults all at source n index TooLong s e f =
    let long = content_long n (content_of all source) e in
    with_one all at kind.FileTooLong (full_name source) s f (inr (inr (inl (record { at = at; source = source; told = refl; bytes = long.0; content = long.1; long = long.2 }))))
settled_faults all at source n index Broken s e f = f
settled_faults all at source n index Whole s e f = f

-- a file that was met stays where it is
met_still : (ss : List Source) (last : Source) (index : ℕ) (source : Source) → slice_get ss index ≡ Some source → slice_get (ss ++ last ∷ []) index ≡ Some source
met_still ss last index source e =
    let inside : index < length ss = slice_get_within ss index source e in
    let longer : index < length (ss ++ last ∷ []) = omega (arith, inside, length-append ss (last ∷ [])) in
    slice_get-get_or (ss ++ last ∷ []) index source longer ∙ ap Some (get_or_append_left ss (last ∷ []) source index inside ∙ get_or_from_slice_get ss index source source e)

finding_still : (all : Told) (ss : List Source) (last : Source) (d : Diag) → IsFinding all ss d → IsFinding all (ss ++ last ∷ []) d
finding_still all ss last d (inl h) = inl (record { index = h.index; source = h.source; met = met_still ss last h.index h.source h.met; bytes = h.bytes; content = h.content; own = h.own })
finding_still all ss last d (inr h) = inr h

same_is : (s t : Source) → same_source s t ≡ true → s ≡ t
same_is (File m) (File n) e = ap File ((bytes_eq-Decides m n).0 e)
same_is (Library m) (Library n) e = ap Library ((bytes_eq-Decides m n).0 e)
same_is (File m) (Library n) e = cc
same_is (Library m) (File n) e = cc

found_there : (source : Source) (ss : List Source) (index : ℕ) → source_at source ss ≡ Some index → slice_get ss index ≡ Some source
found_there source ss index e =
    let p = position-Some (same_source source) ss index source e in
    slice_get-get_or ss index source p.0 ∙ ap Some (sym (same_is source (get_or ss index source) p.1))

met_found_by : AreTokens → AreStops → AreOutcomes → (all : Told) (at : Place) (source : Source) (o : Option ℕ) (s : WalkState) → source_at source s.sources ≡ o → AreFound all s
    → All (IsFinding all (stopped (met_by all at source o s)).sources) (stopped (met_by all at source o s)).diags
met_found_by read stops outcomes all at source (Some index) s e h =
    let k : Kept = kept_content index (content_of all source) in
    let zero_on : 0 + index ≡ index = omega arith in
    let there : slice_get (kept_of all 0 s.sources) index ≡ Some k = kept_at all 0 index s.sources source (found_there source s.sources index e) ∙ ap (λ m. Some (kept_content m (content_of all source))) zero_on in
    let holds : slice_get s.holdings index ≡ Some k.holding = ap (λ l. slice_get l index) h.kept.holdings ∙ slice_get-map holding_of (kept_of all 0 s.sources) index ∙ ap (option_map holding_of) there in
    let P : Option Holding → Type 0 = λ x. All (IsFinding all (stopped (settled at (full_name source) index x s)).sources) (stopped (settled at (full_name source) index x s)).diags in
    subst P (sym holds) (settled_faults all at source index index k.holding s refl h.faults)
met_found_by read stops outcomes all at source None s e h =
    let n : ℕ = length s.names in
    let k : Kept = kept_content n (content_of all source) in
    let next : WalkState = with_kept source k s in
    let names : n ≡ length s.sources = ap length h.kept.named ∙ length-map s.sources full_name in
    let many : n ≡ length s.holdings = names ∙ sym (kept_length all 0 s.sources) ∙ sym (length-map (kept_of all 0 s.sources) holding_of) ∙ sym (ap length h.kept.holdings) in
    let there : slice_get next.holdings n ≡ Some k.holding = last_at s.holdings k.holding n many in
    let own : All (IsFinding all next.sources) k.faults = content_own read stops outcomes all next.sources n source (last_at s.sources source n names) (content_of all source) refl in
    let old : All (IsFinding all next.sources) s.diags = all_so (IsFinding all s.sources) (IsFinding all next.sources) s.diags (finding_still all s.sources source) h.faults in
    let P : Option Holding → Type 0 = λ x. All (IsFinding all (stopped (settled at (full_name source) n x next)).sources) (stopped (settled at (full_name source) n x next)).diags in
    subst P (sym there) (settled_faults all at source n n k.holding next refl (All-append (IsFinding all next.sources) s.diags k.faults old own))

met_found : AreTokens → AreStops → AreOutcomes → (all : Told) (at : Place) (source : Source) (s : WalkState) → AreFound all s → AreFound all (stopped (met all at source s))
unfolding met
met_found read stops outcomes all at source s h =
    record { kept = met_kept_by all at source (source_at source s.sources) s h.kept; faults = met_found_by read stops outcomes all at source (source_at source s.sources) s refl h }

beyond : (all : Told) (ss : List Source) (at : Place) (source : Source) (k : DiagKind)
    → (diag_at at k (quoted (full_name source)) ≡ diag_at at kind.IncludeDepth (quoted (full_name source))) ⊎ (diag_at at k (quoted (full_name source)) ≡ diag_at at kind.TooManyFiles (quoted (full_name source)))
    → IsFinding all ss (diag_at at k (quoted (full_name source)))
beyond all ss at source k e = inr (inr (inr (record { at = at; source = source; told = e })))

entered_faults : AreTokens → AreStops → AreOutcomes → (all : Told) (left : ℕ) (at : Place) (source : Source) (s : WalkState) → AreFound all s → All (IsFinding all (stopped (entered all left at source s)).sources) (stopped (entered all left at source s)).diags
unfolding entered
entered_faults read stops outcomes all left at source s h = ended s.ended
  where
    Found : Entered → Type 0
    Found e = All (IsFinding all (stopped e).sources) (stopped e).diags

    next : Bool → Entered
    next b = cond b (stays (with_fault at kind.IncludeDepth (full_name source) (with_count s))) (met all at source (with_count s))

    deep : (b : Bool) → Found (next b)
    deep true = with_one all at kind.IncludeDepth (full_name source) (with_count s) h.faults (beyond all s.sources at source kind.IncludeDepth (inl refl))
    deep false = (met_found read stops outcomes all at source (with_count s) (record { kept = count_kept all s h.kept; faults = h.faults })).faults

    many : (b : Bool) → Found (cond b (next (left == 0)) (stays (with_end (with_fault at kind.TooManyFiles (full_name source) s))))
    many true = deep (left == 0)
    many false = with_one all at kind.TooManyFiles (full_name source) s h.faults (beyond all s.sources at source kind.TooManyFiles (inr refl))

    ended : (b : Bool) → Found (cond b (stays s) (cond (nat_lt s.count 10000) (next (left == 0)) (stays (with_end (with_fault at kind.TooManyFiles (full_name source) s)))))
    ended true = h.faults
    ended false = many (nat_lt s.count 10000)

-- each diagnostic is of a fault
pub faults_are : AreTokens → AreStops → AreOutcomes → (all : Told) (root : List ℕ) → All (IsFinding all (walked all root).sources) (walked all root).diags
faults_are read stops outcomes all root =
    (walked_stays all (AreFound all) (record {
      numbered = λ n s h. record { kept = order_kept all (s.order ++ n ∷ []) s h.kept; faults = h.faults };
      measured = λ start s h. record { kept = order_kept all (set s.order start (length s.order - start - 1)) s h.kept; faults = h.faults };
      taken = λ left at source s h. record { kept = entered_kept all left at source s h.kept; faults = entered_faults read stops outcomes all left at source s h };
    }) root (met_found read stops outcomes all (start_of 0) (File root) empty_state (record { kept = begins_kept all; faults = none_all (IsFinding all []) }))).faults
