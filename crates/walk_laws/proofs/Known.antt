-- What the walk knows of the files that it met, and what comes of a file that it meets.
use Rattle.std.proofs.Common.{◌≡◌, ◌+◌, ℕ, suc, List, [], ◌∷◌, ◌++◌, length, map, Bool, true, false, cond, not, nat_lt, slice_get, get_or, Option, Some, None, refl, sym, ap, ◌∙◌, arith, append_assoc, append-nil}
use Rattle.std.specs.Option.{option_map}
use Rattle.std.specs.List.{position, position_or_len}
use Rattle.std.proofs.lemmas.Bool.Decides.{nat_tests}
use Rattle.std.proofs.lemmas.List.{map-append, length-map}
use Rattle.std.proofs.lemmas.List.Quantifiers.{position-Some}
use Rattle.std.proofs.lemmas.Option.{slice_get-map, slice_get-get_or}
use Rattle.std.proofs.lemmas.Slice.Eq.{bytes_eq-Decides}
use Rattle.site_base.specs.declared.diag.Diag.{Diag}
use Rattle.site_base.specs.declared.place.Place.{Place}
use Rattle.dsl_lexer.specs.Lexing.{Lexed, all as tokens_of, bad, file_tokens}
use Rattle.dsl_grammar.specs.Files.{Outcome, tree_found, fault_at, deep_at_place, file_outcome}
use Rattle.conf_sources.specs.Reading.{Kept, kept_none, kept_outcome, kept_tokens, kept_bytes, kept_content}
use Rattle.conf_sources.specs.Sources.{Told, content_of, full_name, same_source, source_at}
use Rattle.conf_sources.specs.declared.holding.Holding.TheVariants.{TooLong}
use Rattle.conf_sources.specs.declared.inclusion.Inclusion.{Inclusion}
use Rattle.conf_sources.specs.declared.source.Source.{Source}
use Rattle.conf_sources.specs.declared.source.Source.TheVariants.{File, Library}
use Rattle.site_conf.specs.Sound.{Grows}
use Rattle.site_conf.specs.Walks.{WalkState, empty_state, met, met_by, settled, with_kept}
use Rattle.site_conf.proofs.TreeLaws.{holding_of, kept_at, kept_of, last_at}
use Rattle.walk_laws.specs.Visits.{index_by, index_of, is_of_inclusion, of_inclusions}

abbrev pub inclusions_of : Kept → List Inclusion
inclusions_of k = k.inclusions

-- of each file that was met its name, what it holds and its inclusions
pub record Knows (all : Told) (s : WalkState) : Type 0 where
  pub names : s.names ≡ map full_name s.sources
  pub holdings : s.holdings ≡ map holding_of (kept_of all 0 s.sources)
  pub inclusions : s.inclusions ≡ map inclusions_of (kept_of all 0 s.sources)

pub knows_nothing : (all : Told) → Knows all empty_state
knows_nothing all = record { names = refl; holdings = refl; inclusions = refl }

-- ---- places in lists that grow

module _ {A : Type 0} where
  pub no_growth : (xs : List A) → Grows xs xs
  no_growth xs = ([], sym (append-nil xs))

  pub grows_on : (xs ys zs : List A) → Grows xs ys → Grows ys zs → Grows xs zs
  grows_on xs ys zs g h = (g.0 ++ h.0, h.1 ∙ ap (λ l. l ++ h.0) g.1 ∙ append_assoc xs g.0 h.0)

-- The first place at which a test passes, from the front on.
abbrev place : {A : Type 0} → (A → Bool) → List A → Option ℕ
place p [] = None
place p (x ∷ xs) = cond (p x) (Some 0) (option_map suc (place p xs))

place_next : (n l : ℕ) (b : Bool) → nat_lt n l ≡ b → cond (nat_lt (1 + n) (suc l)) (Some (1 + n)) None ≡ option_map suc (cond b (Some n) None)
place_next n l true e =
    let low : nat_lt (1 + n) (suc l) ≡ true = grind (arith, nat_tests) in
    let next : 1 + n ≡ suc n = omega arith in
    ap (λ c. cond c (Some (1 + n)) None) low ∙ ap (λ m. Some m) next
place_next n l false e =
    let high : nat_lt (1 + n) (suc l) ≡ false = grind (arith, nat_tests) in
    ap (λ c. cond c (Some (1 + n)) None) high

place_is : {A : Type 0} (p : A → Bool) (xs : List A) → position p xs ≡ place p xs
place_is p [] = refl
place_is p (x ∷ xs) = by (p x) (place_is p xs)
  where
    by : (b : Bool) → position p xs ≡ place p xs
        → cond (nat_lt (cond (not b) (1 + position_or_len p xs) 0) (length (x ∷ xs))) (Some (cond (not b) (1 + position_or_len p xs) 0)) None ≡ cond b (Some 0) (option_map suc (place p xs))
    by true h = let first : nat_lt 0 (length (x ∷ xs)) ≡ true = grind (arith, nat_tests) in ap (λ c. cond c (Some 0) None) first
    by false h = place_next (position_or_len p xs) (length xs) (nat_lt (position_or_len p xs) (length xs)) refl ∙ ap (option_map suc) h

-- what has a place keeps it in a longer list
place_kept : {A : Type 0} (p : A → Bool) (xs ys : List A) (k : ℕ) → place p xs ≡ Some k → place p (xs ++ ys) ≡ Some k
place_kept p [] ys k e = absurd cc
place_kept p (x ∷ xs) ys k e = by (place_kept p xs ys) (p x) (place p xs) refl e
  where
    by : ((m : ℕ) → place p xs ≡ Some m → place p (xs ++ ys) ≡ Some m) → (b : Bool) (o : Option ℕ) → place p xs ≡ o → cond b (Some 0) (option_map suc o) ≡ Some k → cond b (Some 0) (option_map suc (place p (xs ++ ys))) ≡ Some k
    by later true o f g = g
    by later false None f g = absurd cc
    by later false (Some m) f g = ap (option_map suc) (later m f) ∙ g

-- what has none gets the last one
place_last : {A : Type 0} (p : A → Bool) (xs : List A) (y : A) → p y ≡ true → place p xs ≡ None → place p (xs ++ y ∷ []) ≡ Some (length xs)
place_last p [] y h e = ap (λ b. cond b (Some 0) None) h
place_last p (x ∷ xs) y h e = by (place_last p xs y h) (p x) (place p xs) refl e
  where
    by : (place p xs ≡ None → place p (xs ++ y ∷ []) ≡ Some (length xs)) → (b : Bool) (o : Option ℕ) → place p xs ≡ o → cond b (Some 0) (option_map suc o) ≡ None → cond b (Some 0) (option_map suc (place p (xs ++ y ∷ []))) ≡ Some (suc (length xs))
    by later true o f g = absurd cc
    by later false None f g = ap (option_map suc) (later f)
    by later false (Some m) f g = absurd cc

same_itself : (x : Source) → same_source x x ≡ true
same_itself (File n) = (bytes_eq-Decides n n).1 refl
same_itself (Library n) = (bytes_eq-Decides n n).1 refl

same_is : (s t : Source) → same_source s t ≡ true → s ≡ t
same_is (File m) (File n) e = ap File ((bytes_eq-Decides m n).0 e)
same_is (Library m) (Library n) e = ap Library ((bytes_eq-Decides m n).0 e)
same_is (File m) (Library n) e = cc
same_is (Library m) (File n) e = cc

found_there : (y : Source) (ss : List Source) (index : ℕ) → source_at y ss ≡ Some index → slice_get ss index ≡ Some y
found_there y ss index e =
    let p = position-Some (same_source y) ss index y e in
    slice_get-get_or ss index y p.0 ∙ ap Some (sym (same_is y (get_or ss index y) p.1))

-- a file that was met has its index among all that are met in the end
pub index_is : (ss met : List Source) (y : Source) (index : ℕ) → source_at y ss ≡ Some index → Grows ss met → index_of met y ≡ index
index_is ss met y index e g =
    let there : source_at y met ≡ Some index = ap (source_at y) g.1 ∙ place_is (same_source y) (ss ++ g.0) ∙ place_kept (same_source y) ss g.0 index (sym (place_is (same_source y) ss) ∙ e) in
    ap (index_by (length met)) there

-- ---- what is told of a file's own text isn't of an inclusion

outcome_own : (file : ℕ) (o : Outcome) → of_inclusions (kept_outcome file o).faults ≡ []
outcome_own file (tree_found tree) = refl
outcome_own file (fault_at p) = refl
outcome_own file (deep_at_place p) = refl

tokens_own : (file : ℕ) (l : Lexed) → of_inclusions (kept_tokens file l).faults ≡ []
tokens_own file (tokens_of ts) = outcome_own file (file_outcome ts)
tokens_own file (bad p) = refl

bytes_own : (file : ℕ) (bytes : List ℕ) → of_inclusions (kept_bytes file bytes).faults ≡ []
unfolding kept_bytes
bytes_own file bytes = tokens_own file (file_tokens file bytes)

content_own : (file : ℕ) (content : Option (List ℕ)) → of_inclusions (kept_content file content).faults ≡ []
content_own file None = refl
content_own file (Some bytes) = by (nat_lt 4194304 (length bytes))
  where
    by : (b : Bool) → of_inclusions (cond b (kept_none TooLong) (kept_bytes file bytes)).faults ≡ []
    by true = refl
    by false = bytes_own file bytes

pub of_append : (xs ys : List Diag) → of_inclusions (xs ++ ys) ≡ of_inclusions xs ++ of_inclusions ys
of_append [] ys = refl
of_append (x ∷ xs) ys = by (is_of_inclusion x.kind) (of_append xs ys)
  where
    by : (b : Bool) → of_inclusions (xs ++ ys) ≡ of_inclusions xs ++ of_inclusions ys → cond b (x ∷ of_inclusions (xs ++ ys)) (of_inclusions (xs ++ ys)) ≡ cond b (x ∷ of_inclusions xs) (of_inclusions xs) ++ of_inclusions ys
    by true e = ap (λ l. x ∷ l) e
    by false e = e

-- ---- a file that is met

-- what it holds decides, in a state in which it was met
pub record IsMet (all : Told) (at : Place) (y : Source) (s : WalkState) : Type 0 where
  pub then : WalkState
  pub index : ℕ
  pub is : met all at y s ≡ settled at (full_name y) index (Some (kept_content index (content_of all y)).holding) then
  pub place : source_at y then.sources ≡ Some index
  pub there : slice_get then.sources index ≡ Some y
  pub knows : Knows all then
  pub grows : Grows s.sources then.sources
  pub count : then.count ≡ s.count
  pub ended : then.ended ≡ s.ended
  pub told : of_inclusions then.diags ≡ of_inclusions s.diags

holding_at : (all : Told) (s : WalkState) → Knows all s → (index : ℕ) (y : Source) → slice_get s.sources index ≡ Some y → slice_get s.holdings index ≡ Some (kept_content index (content_of all y)).holding
holding_at all s h index y e =
    let zero_on : 0 + index ≡ index = omega arith in
    let kept : slice_get (kept_of all 0 s.sources) index ≡ Some (kept_content index (content_of all y)) = kept_at all 0 index s.sources y e ∙ ap (λ m. Some (kept_content m (content_of all y))) zero_on in
    ap (λ l. slice_get l index) h.holdings ∙ slice_get-map holding_of (kept_of all 0 s.sources) index ∙ ap (option_map holding_of) kept

pub inclusions_at : (all : Told) (s : WalkState) → Knows all s → (index : ℕ) (y : Source) → slice_get s.sources index ≡ Some y → slice_get s.inclusions index ≡ Some (kept_content index (content_of all y)).inclusions
inclusions_at all s h index y e =
    let zero_on : 0 + index ≡ index = omega arith in
    let kept : slice_get (kept_of all 0 s.sources) index ≡ Some (kept_content index (content_of all y)) = kept_at all 0 index s.sources y e ∙ ap (λ m. Some (kept_content m (content_of all y))) zero_on in
    ap (λ l. slice_get l index) h.inclusions ∙ slice_get-map inclusions_of (kept_of all 0 s.sources) index ∙ ap (option_map inclusions_of) kept

pub name_at : (all : Told) (s : WalkState) → Knows all s → (index : ℕ) (y : Source) → slice_get s.sources index ≡ Some y → slice_get s.names index ≡ Some (full_name y)
name_at all s h index y e = ap (λ l. slice_get l index) h.names ∙ slice_get-map full_name s.sources index ∙ ap (option_map full_name) e

kept_last : (all : Told) (n m : ℕ) (ss : List Source) (y : Source) → m ≡ n + length ss → kept_of all n (ss ++ y ∷ []) ≡ kept_of all n ss ++ kept_content m (content_of all y) ∷ []
kept_last all n m [] y e = let same : n ≡ m = omega (arith, e) in ap (λ k. kept_content k (content_of all y) ∷ []) same
kept_last all n m (t ∷ ss) y e = ap (λ l. kept_content n (content_of all t) ∷ l) (kept_last all (suc n) m ss y (omega (arith, e)))

module _ (all : Told) (at : Place) (y : Source) (s : WalkState) (h : Knows all s) where
  met_before : (index : ℕ) → source_at y s.sources ≡ Some index → met_by all at y (Some index) s ≡ settled at (full_name y) index (Some (kept_content index (content_of all y)).holding) s
  met_before index e = ap (λ o. settled at (full_name y) index o s) (holding_at all s h index y (found_there y s.sources index e))

  abbrev count : ℕ
  count = length s.names

  abbrev kept : Kept
  kept = kept_content count (content_of all y)

  abbrev next : WalkState
  next = with_kept y kept s

  many : count ≡ length s.sources
  many = ap length h.names ∙ length-map s.sources full_name

  next_knows : Knows all next
  next_knows =
      let last : kept_of all 0 (s.sources ++ y ∷ []) ≡ kept_of all 0 s.sources ++ kept ∷ [] = kept_last all 0 count s.sources y (omega (arith, many)) in
      record {
        names = ap (λ l. l ++ full_name y ∷ []) h.names ∙ sym (map-append full_name s.sources (y ∷ []));
        holdings = ap (λ l. l ++ kept.holding ∷ []) h.holdings ∙ sym (map-append holding_of (kept_of all 0 s.sources) (kept ∷ [])) ∙ sym (ap (map holding_of) last);
        inclusions = ap (λ l. l ++ kept.inclusions ∷ []) h.inclusions ∙ sym (map-append inclusions_of (kept_of all 0 s.sources) (kept ∷ [])) ∙ sym (ap (map inclusions_of) last);
      }

  next_there : slice_get next.sources count ≡ Some y
  next_there = last_at s.sources y count many

  next_place : source_at y s.sources ≡ None → source_at y next.sources ≡ Some count
  next_place e = place_is (same_source y) (s.sources ++ y ∷ []) ∙ place_last (same_source y) s.sources y (same_itself y) (sym (place_is (same_source y) s.sources) ∙ e) ∙ ap (λ n. Some n) (sym many)

  next_told : of_inclusions next.diags ≡ of_inclusions s.diags
  next_told = of_append s.diags kept.faults ∙ ap (λ l. of_inclusions s.diags ++ l) (content_own count (content_of all y)) ∙ append-nil (of_inclusions s.diags)

  met_now : met_by all at y None s ≡ settled at (full_name y) count (Some kept.holding) next
  met_now = ap (λ o. settled at (full_name y) count o next) (holding_at all next next_knows count y next_there)

  by_place : (o : Option ℕ) → source_at y s.sources ≡ o → met all at y s ≡ met_by all at y o s → IsMet all at y s
  by_place (Some index) e f = record {
    then = s;
    index = index;
    is = f ∙ met_before index e;
    place = e;
    there = found_there y s.sources index e;
    knows = h;
    grows = no_growth s.sources;
    count = refl;
    ended = refl;
    told = refl;
  }
  by_place None e f = record {
    then = next;
    index = count;
    is = f ∙ met_now;
    place = next_place e;
    there = next_there;
    knows = next_knows;
    grows = (y ∷ [], refl);
    count = refl;
    ended = refl;
    told = next_told;
  }

  pub is_met : IsMet all at y s
  unfolding met
  is_met = by_place (source_at y s.sources) refl refl
