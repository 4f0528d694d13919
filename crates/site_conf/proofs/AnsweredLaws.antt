-- Of each file that was met the tree is there, or a fault of its own is told.
use Rattle.std.proofs.Common.{◌≡◌, ◌≤◌, ◌<◌, ℕ, zero, suc, ◌+◌, ◌-◌, ◌==◌, Bool, true, false, cond, nat_lt, List, [], ◌∷◌, ◌++◌, length, map, set, slice_get, ◌⊎◌, Option, Some, None, inl, inr, refl, sym, ap, subst, ◌∙◌, arith}
use Rattle.std.specs.Prelude.{Contains}
use Rattle.std.specs.Option.{option_map}
use Rattle.std.proofs.lemmas.Bool.Decides.{nat_tests}
use Rattle.std.proofs.lemmas.List.{length-map}
use Rattle.std.proofs.lemmas.List.Elements.{Contains-append_left, Contains-append_right, Contains-push}
use Rattle.std.proofs.lemmas.Option.{slice_get-map}
use Rattle.site_base.specs.Quoted.{quoted}
use Rattle.site_base.specs.declared.diag.Diag.{Diag}
use Rattle.site_base.specs.declared.diag_kind.DiagKind.{DiagKind}
use Rattle.site_base.specs.declared.diag_kind.DiagKind.TheVariants as kind
use Rattle.site_base.specs.declared.place.Place.{Place}
use Rattle.dsl_lexer.specs.Lexing.{Lexed, all as tokens_of, bad, file_tokens}
use Rattle.dsl_lexer.specs.Lists.{HasTokens}
use Rattle.dsl_lexer.specs.Places.{start_of}
use Rattle.dsl_lexer.specs.declared.token.Token.{Token}
use Rattle.dsl_grammar.specs.Files.{Outcome, tree_found, fault_at, deep_at_place, file_outcome, Holds}
use Rattle.conf_sources.specs.Reading.{Kept, diag_at, in_file, kept_none, kept_outcome, kept_tokens, kept_bytes, kept_content}
use Rattle.conf_sources.specs.Sources.{Told, full_name, source_at, content_of}
use Rattle.site_conf.specs.Telling.{IsToldFaulty, IsThere, IsAnswered}
use Rattle.site_conf.specs.Walks.{WalkState, empty_state, Entered, stays, stopped, entered, met, met_by, settled, with_number, with_length, with_fault, with_count, with_end, with_kept, walked}
use Rattle.conf_sources.specs.declared.holding.Holding.{Holding}
use Rattle.conf_sources.specs.declared.holding.Holding.TheVariants.{Missing, TooLong, Broken, Whole}
use Rattle.conf_sources.specs.declared.source.Source.{Source}
use Rattle.conf_sources.specs.declared.source.Source.TheVariants.{File}
use Rattle.site_conf.proofs.Through.{Stays, walked_stays}
use Rattle.site_conf.proofs.FaultLaws.{AreStops}
use Rattle.site_conf.proofs.TreeLaws.{AreTokens, AreOutcomes, AreKept, kept_of, tree_of, kept_at, begins_kept, order_kept, count_kept, met_kept_by, entered_kept, tree_is}

-- the fault of each file that was met is told
abbrev AreAnswered : Told → WalkState → Type 0
AreAnswered all s = (index : ℕ) (source : Source) → slice_get s.sources index ≡ Some source → (d : Diag) → Contains (kept_content index (content_of all source)).faults d → Contains s.diags d

more_told : (all : Told) (d : Diag) (s t : WalkState) → t.sources ≡ s.sources → t.diags ≡ s.diags ++ d ∷ [] → AreAnswered all s → AreAnswered all t
more_told all d s t es ed h index source e x c = subst (λ ds. Contains ds x) (sym ed) (Contains-append_left s.diags (d ∷ []) x (h index source (ap (λ ss. slice_get ss index) (sym es) ∙ e) x c))

settled_told : (all : Told) (at : Place) (name : List ℕ) (index : ℕ) (o : Option Holding) (s : WalkState) → AreAnswered all s → AreAnswered all (stopped (settled at name index o s))
settled_told all at name index (Some Missing) s h = more_told all (diag_at at kind.NoFile (quoted name)) s (with_fault at kind.NoFile name s) refl refl h
settled_told all at name index (Some TooLong) s h = more_told all (diag_at at kind.FileTooLong (quoted name)) s (with_fault at kind.FileTooLong name s) refl refl h
settled_told all at name index (Some Broken) s h = h
settled_told all at name index (Some Whole) s h = h
settled_told all at name index None s h = h

last_or : (xs : List Source) (x y : Source) (k : ℕ) → slice_get (xs ++ x ∷ []) k ≡ Some y → (slice_get xs k ≡ Some y) ⊎ ((k ≡ length xs) × (x ≡ y))
last_or [] x y zero e = inr (refl, source_is x y e)
  where
    source_or : Option Source → Source → Source
    source_or None d = d
    source_or (Some z) d = z

    source_is : (a b : Source) → Some a ≡ Some b → a ≡ b
    source_is a b e = ap (λ o. source_or o a) e
last_or [] x y (suc k) e = absurd (cc)
last_or (z ∷ xs) x y zero e = inl e
last_or (z ∷ xs) x y (suc k) e = behind (last_or xs x y k e)
  where
    behind : (slice_get xs k ≡ Some y) ⊎ ((k ≡ length xs) × (x ≡ y)) → (slice_get xs k ≡ Some y) ⊎ ((suc k ≡ suc (length xs)) × (x ≡ y))
    behind (inl h) = inl h
    behind (inr h) = inr (ap suc h.0, h.1)

kept_told : (all : Told) (source : Source) (s : WalkState) → length s.names ≡ length s.sources → AreAnswered all s → AreAnswered all (with_kept source (kept_content (length s.names) (content_of all source)) s)
kept_told all source s many h index x e d c = by (last_or s.sources source x index e)
  where
    faults : List Diag
    faults = (kept_content (length s.names) (content_of all source)).faults

    by : (slice_get s.sources index ≡ Some x) ⊎ ((index ≡ length s.sources) × (source ≡ x)) → Contains (s.diags ++ faults) d
    by (inl there) = Contains-append_left s.diags faults d (h index x there d c)
    by (inr new) =
        let at : index ≡ length s.names = new.0 ∙ sym many in
        let of_it : Contains (kept_content (length s.names) (content_of all x)).faults d = subst (λ n. Contains (kept_content n (content_of all x)).faults d) at c in
        Contains-append_right s.diags faults d (subst (λ y. Contains (kept_content (length s.names) (content_of all y)).faults d) (sym new.1) of_it)

met_told : (all : Told) (at : Place) (source : Source) (o : Option ℕ) (s : WalkState) → AreKept all s → AreAnswered all s → AreAnswered all (stopped (met_by all at source o s))
met_told all at source (Some index) s k h = settled_told all at (full_name source) index (slice_get s.holdings index) s h
met_told all at source None s k h =
    let n : ℕ = length s.names in
    let next : WalkState = with_kept source (kept_content n (content_of all source)) s in
    let many : n ≡ length s.sources = ap length k.named ∙ length-map s.sources full_name in
    settled_told all at (full_name source) n (slice_get next.holdings n) next (kept_told all source s many h)

counted_told : (all : Told) (at : Place) (source : Source) (s : WalkState) → AreKept all s → AreAnswered all s → AreAnswered all (stopped (met all at source s))
unfolding met
counted_told all at source s k h = met_told all at source (source_at source s.sources) s k h

entered_told : (all : Told) (left : ℕ) (at : Place) (source : Source) (s : WalkState) → AreKept all s → AreAnswered all s → AreAnswered all (stopped (entered all left at source s))
unfolding entered
entered_told all left at source s k h = ended s.ended
  where
    name : List ℕ
    name = full_name source

    next : Bool → Entered
    next b = cond b (stays (with_fault at kind.IncludeDepth name (with_count s))) (met all at source (with_count s))

    deep : (b : Bool) → AreAnswered all (stopped (next b))
    deep true = more_told all (diag_at at kind.IncludeDepth (quoted name)) s (with_fault at kind.IncludeDepth name (with_count s)) refl refl h
    deep false = counted_told all at source (with_count s) (count_kept all s k) h

    many : (b : Bool) → AreAnswered all (stopped (cond b (next (left == 0)) (stays (with_end (with_fault at kind.TooManyFiles name s)))))
    many true = deep (left == 0)
    many false = more_told all (diag_at at kind.TooManyFiles (quoted name)) s (with_end (with_fault at kind.TooManyFiles name s)) refl refl h

    ended : (b : Bool) → AreAnswered all (stopped (cond b (stays s) (cond (nat_lt s.count 10000) (next (left == 0)) (stays (with_end (with_fault at kind.TooManyFiles name s))))))
    ended true = h
    ended false = many (nat_lt s.count 10000)

-- each step keeps it, along with what is kept of the files
record AreBoth (all : Told) (s : WalkState) : Type 0 where
  kept : AreKept all s
  told : AreAnswered all s

first_told : (all : Told) → AreAnswered all empty_state
first_told all index source e d c = absurd (cc)

first_both : (all : Told) (root : List ℕ) → AreBoth all (stopped (met all (start_of 0) (File root) empty_state))
unfolding met
first_both all root = record {
  kept = met_kept_by all (start_of 0) (File root) (source_at (File root) empty_state.sources) empty_state (begins_kept all);
  told = met_told all (start_of 0) (File root) (source_at (File root) empty_state.sources) empty_state (begins_kept all) (first_told all);
}

walk_answers : (all : Told) (root : List ℕ) → AreBoth all (walked all root)
walk_answers all root =
    walked_stays all (AreBoth all) (record {
      numbered = λ n s h. record { kept = order_kept all (s.order ++ n ∷ []) s h.kept; told = h.told };
      measured = λ start s h. record { kept = order_kept all (set s.order start (length s.order - start - 1)) s h.kept; told = h.told };
      taken = λ left at source s h. record { kept = entered_kept all left at source s h.kept; told = entered_told all left at source s h.kept h.told };
    }) root (first_both all root)

-- What a file has by what is read of it.

abbrev Tells : WalkState → Kept → Type 0
Tells s k = (d : Diag) → Contains k.faults d → Contains s.diags d

of_outcome : (s : WalkState) (index : ℕ) (bytes : List ℕ) (ts : List Token) (o : Outcome) → length bytes ≤ 4194304 → HasTokens index bytes ts → Holds ts o → Tells s (kept_outcome index o) → slice_get s.trees index ≡ Some (kept_outcome index o).tree
    → IsThere s index bytes ⊎ IsToldFaulty s index bytes
of_outcome s index bytes ts (tree_found tree) short read h told there = inl (record { tree = tree; there = there; of_them = tree_is index bytes ts tree short read h })
of_outcome s index bytes ts (fault_at p) short read h told there =
    let d : Diag = diag_at (in_file index p) kind.Syntax [] in
    inr (record { fault = d; own = inr (inl (record { tokens = ts; read = read; place = p; told = refl; fault = h })); told = told d (Contains-push [] d) })
of_outcome s index bytes ts (deep_at_place p) short read h told there =
    let d : Diag = diag_at (in_file index p) kind.TooDeep [] in
    inr (record { fault = d; own = inr (inr (record { tokens = ts; read = read; place = p; told = refl; fault = h })); told = told d (Contains-push [] d) })

of_tokens : AreTokens → AreStops → AreOutcomes → (s : WalkState) (index : ℕ) (bytes : List ℕ) (l : Lexed) → file_tokens index bytes ≡ l → length bytes ≤ 4194304 → Tells s (kept_tokens index l) → slice_get s.trees index ≡ Some (kept_tokens index l).tree
    → IsThere s index bytes ⊎ IsToldFaulty s index bytes
of_tokens read stops outcomes s index bytes (tokens_of ts) e short told there =
    of_outcome s index bytes ts (file_outcome ts) short (read index bytes ts e).0 (outcomes ts (read index bytes ts e).1) told there
of_tokens read stops outcomes s index bytes (bad p) e short told there =
    let d : Diag = diag_at (in_file index p) kind.Lexical [] in
    inr (record { fault = d; own = inl (record { place = p; told = refl; fault = stops index bytes p e }); told = told d (Contains-push [] d) })

of_bytes : AreTokens → AreStops → AreOutcomes → (s : WalkState) (index : ℕ) (bytes : List ℕ) → length bytes ≤ 4194304 → Tells s (kept_bytes index bytes) → slice_get s.trees index ≡ Some (kept_bytes index bytes).tree
    → IsThere s index bytes ⊎ IsToldFaulty s index bytes
unfolding kept_bytes
of_bytes read stops outcomes s index bytes short told there = of_tokens read stops outcomes s index bytes (file_tokens index bytes) refl short told there

not_long : (n m : ℕ) → m ≤ n → nat_lt n m ≡ false
not_long n m h = grind (arith, nat_tests)

pub answered : AreTokens → AreStops → AreOutcomes → (all : Told) (root : List ℕ) (index : ℕ) (source : Source) (bytes : List ℕ) → slice_get (walked all root).sources index ≡ Some source → content_of all source ≡ Some bytes
    → IsAnswered (walked all root) index bytes
answered read stops outcomes all root index source bytes at content short =
    let s : WalkState = walked all root in
    let h : AreBoth all s = walk_answers all root in
    let k : Kept = kept_content index (content_of all source) in
    let is : k ≡ kept_bytes index bytes = ap (kept_content index) content ∙ ap (λ b. cond b (kept_none TooLong) (kept_bytes index bytes)) (not_long 4194304 (length bytes) short) in
    let zero_on : 0 + index ≡ index = omega arith in
    let there : slice_get (kept_of all 0 s.sources) index ≡ Some k = kept_at all 0 index s.sources source at ∙ ap (λ m. Some (kept_content m (content_of all source))) zero_on in
    let tree : slice_get s.trees index ≡ Some k.tree = ap (λ l. slice_get l index) h.kept.trees ∙ slice_get-map tree_of (kept_of all 0 s.sources) index ∙ ap (option_map tree_of) there in
    of_bytes read stops outcomes s index bytes short (subst (Tells s) is (h.told index source at)) (tree ∙ ap (λ x. Some (tree_of x)) is)
