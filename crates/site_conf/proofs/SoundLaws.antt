-- Each step of the walk leaves what is sound sound.
use Rattle.std.proofs.Common.{◌≡◌, ◌≢◌, ℕ, zero, suc, ◌+◌, ◌<◌, ◌≤◌, Bool, true, false, ◌||◌, cond, nat_lt, List, [], ◌∷◌, ◌++◌, length, map, get_or, slice_get, Option, Some, None, refl, sym, ap, subst, ◌∙◌, arith, length-append, append_assoc, append-nil}
use Rattle.std.specs.Prelude.{All}
use Rattle.std.specs.List.{AllByRecursion, IsDistinct, list_any}
use Rattle.std.specs.Str.{bytes_eq}
use Rattle.std.proofs.lemmas.List.{map-append, length-map}
use Rattle.std.proofs.lemmas.List.Elements.{All-append}
use Rattle.std.proofs.lemmas.List.Quantifiers.{position-Some}
use Rattle.std.proofs.lemmas.Option.{slice_get_within, slice_get-get_or, get_or_from_slice_get}
use Rattle.std.proofs.lemmas.Slice.Eq.{bytes_eq-Decides}
use Rattle.site_base.specs.declared.diag.Diag.{Diag}
use Rattle.site_base.specs.declared.diag_kind.DiagKind.{DiagKind}
use Rattle.site_base.specs.declared.diag_kind.DiagKind.TheVariants as kind
use Rattle.site_base.specs.declared.place.Place.{Place}
use Rattle.site_base.specs.Quoted.{quoted}
use Rattle.dsl_syntax.specs.Syntax.{Statements}
use Rattle.dsl_lexer.specs.Lexing.{Lexed, all, bad, file_tokens}
use Rattle.dsl_grammar.specs.Files.{Outcome, tree_found, fault_at, deep_at_place, file_outcome}
use Rattle.conf_sources.specs.Inclusions.{inclusions as inclusions_of}
use Rattle.conf_sources.specs.Reading.{Kept, diag_at, in_file, kept_none, kept_fault, kept_tree, kept_outcome, kept_tokens, kept_bytes, kept_content}
use Rattle.conf_sources.specs.Sources.{full_name, is_library, source_at, same_source}
use Rattle.site_conf.specs.Sound.{AreIn, IsClear, IsSound, Grows, IsLater, IsOneMore, IsAdded, IsFound, MayStand}
use Rattle.site_conf.specs.Views.{IsEntered}
use Rattle.site_conf.specs.Walks.{WalkState, empty_state, Entered, follows, stays, with_number, with_length, with_fault, with_kept, settled}
use Rattle.conf_sources.specs.declared.holding.Holding.{Holding}
use Rattle.conf_sources.specs.declared.holding.Holding.TheVariants.{Missing, TooLong, Broken, Whole}
use Rattle.conf_sources.specs.declared.source.Source.{Source}
use Rattle.conf_sources.specs.declared.source.Source.TheVariants.{File, Library}
use Rattle.conf_sources.proofs.KeyLaws.{absent}

-- Lists.

pub nil_left : {A : Type 0} (xs ys : List A) → xs ++ ys ≡ [] → xs ≡ []
nil_left [] ys e = refl
nil_left (x ∷ xs) ys e = cc

pub nil_right : {A : Type 0} (xs ys : List A) → xs ++ ys ≡ [] → ys ≡ []
nil_right [] ys e = e
nil_right (x ∷ xs) ys e = cc

pub one_more : {A : Type 0} (xs : List A) (x : A) → xs ++ x ∷ [] ≡ [] → ⊥
one_more xs x e = let last : x ∷ [] ≡ [] = nil_right xs (x ∷ []) e in cc

pub one_longer : {A : Type 0} (xs : List A) (x : A) (n : ℕ) → length xs ≡ n → length (xs ++ x ∷ []) ≡ n + 1
one_longer xs x n e = length-append xs (x ∷ []) ∙ ap (λ m. m + 1) e

pub one_all : {A : Type 0} (P : A → Type 0) (x : A) → P x → All P (x ∷ [])
one_all {A} P x h = by
  where
    by : (k : ℕ) (d : A) → k < 1 → P (get_or (x ∷ []) k d)
    by zero d l = h
    by (suc k) d l = absurd (omega (arith, l))

pub none_all : {A : Type 0} (P : A → Type 0) → All P []
none_all P = λ k d h. absurd (omega (arith, h))

more_in : (n m : ℕ) (ds : List Diag) → n ≤ m → AreIn n ds → AreIn m ds
more_in n m ds l h = λ k d b. omega (arith, h k d b, l)

all_last : {A : Type 0} (P : A → Type 0) (xs : List A) (x : A) → AllByRecursion P xs → P x → AllByRecursion P (xs ++ x ∷ [])
all_last P [] x a h = (h, tt)
all_last P (y ∷ xs) x a h = (a.0, all_last P xs x a.1 h)

or_left : (a b : Bool) → (a || b) ≡ false → a ≡ false
or_left true b e = cc
or_left false b e = refl

or_right : (a b : Bool) → (a || b) ≡ false → b ≡ false
or_right true b e = cc
or_right false b e = e

no_growth : {A : Type 0} (xs : List A) → Grows xs xs
no_growth xs = ([], sym (append-nil xs))

pub grows_on : {A : Type 0} (xs ys zs : List A) → Grows xs ys → Grows ys zs → Grows xs zs
grows_on xs ys zs g h = (g.0 ++ h.0, h.1 ∙ ap (λ l. l ++ h.0) g.1 ∙ append_assoc xs g.0 h.0)

-- Files that differ.

flip_by : (m n : List ℕ) (b c : Bool) → bytes_eq m n ≡ b → bytes_eq n m ≡ c → b ≡ c
flip_by m n true true e f = refl
flip_by m n false false e f = refl
flip_by m n true false e f = sym ((bytes_eq-Decides n m).1 (sym ((bytes_eq-Decides m n).0 e))) ∙ f
flip_by m n false true e f = sym e ∙ (bytes_eq-Decides m n).1 (sym ((bytes_eq-Decides n m).0 f))

same_flip : (s t : Source) → same_source s t ≡ same_source t s
same_flip (File m) (File n) = flip_by m n (bytes_eq m n) (bytes_eq n m) refl refl
same_flip (Library m) (Library n) = flip_by m n (bytes_eq m n) (bytes_eq n m) refl refl
same_flip (File m) (Library n) = refl
same_flip (Library m) (File n) = refl

-- a file that isn't there differs from those that are
last_distinct : (s : Source) (ss : List Source) → list_any (same_source s) ss ≡ false → IsDistinct same_source ss → IsDistinct same_source (ss ++ s ∷ [])
unfolding IsDistinct
last_distinct s [] n d = (tt, tt)
last_distinct s (t ∷ ss) n d =
    (all_last (λ y. same_source t y ≡ false) ss s d.0 (same_flip t s ∙ or_left (same_source s t) (list_any (same_source s) ss) n), last_distinct s ss (or_right (same_source s t) (list_any (same_source s) ss) n) d.1)

none_distinct : IsDistinct same_source []
unfolding IsDistinct
none_distinct = tt

-- What is kept of a file.

-- the fault of its own text stands in it; where it is broken there is one; its inclusions are those of its tree
pub record IsKept (file : ℕ) (k : Kept) : Type 0 where
  pub places : AreIn (file + 1) k.faults
  pub unbroken : k.faults ≡ [] → k.holding ≢ Broken
  pub listed : k.inclusions ≡ inclusions_of k.tree

none_kept : (file : ℕ) (h : Holding) → h ≢ Broken → IsKept file (kept_none h)
none_kept file h n = record { places = none_all (λ d. d.place.file < file + 1); unbroken = λ _. n; listed = refl }

fault_kept : (file : ℕ) (k : DiagKind) (p : Place) → IsKept file (kept_fault file k p)
fault_kept file k p = record { places = one_all (λ d. d.place.file < file + 1) (diag_at (in_file file p) k []) (omega arith); unbroken = λ e. absurd (cc); listed = refl }

outcome_kept : (file : ℕ) (o : Outcome) → IsKept file (kept_outcome file o)
outcome_kept file (tree_found tree) = record { places = none_all (λ d. d.place.file < file + 1); unbroken = λ _ e. cc; listed = refl }
outcome_kept file (fault_at p) = fault_kept file kind.Syntax p
outcome_kept file (deep_at_place p) = fault_kept file kind.TooDeep p

tokens_kept : (file : ℕ) (l : Lexed) → IsKept file (kept_tokens file l)
tokens_kept file (all ts) = outcome_kept file (file_outcome ts)
tokens_kept file (bad p) = fault_kept file kind.Lexical p

bytes_kept : (file : ℕ) (bytes : List ℕ) → IsKept file (kept_bytes file bytes)
unfolding kept_bytes
bytes_kept file bytes = tokens_kept file (file_tokens file bytes)

long_kept : (file : ℕ) (bytes : List ℕ) (b : Bool) → IsKept file (cond b (kept_none TooLong) (kept_bytes file bytes))
long_kept file bytes true = none_kept file TooLong (λ e. cc)
long_kept file bytes false = bytes_kept file bytes

pub content_kept : (file : ℕ) (content : Option (List ℕ)) → IsKept file (kept_content file content)
content_kept file None = none_kept file Missing (λ e. cc)
content_kept file (Some bytes) = long_kept file bytes (nat_lt 4194304 (length bytes))

-- a file that was read is one more
pub kept_more : (source : Source) (content : Option (List ℕ)) (s t : WalkState) → source_at source s.sources ≡ None → t ≡ with_kept source (kept_content (length s.names) content) s → IsSound s → IsOneMore s t
kept_more source content s t new e h =
    let k : Kept = kept_content (length s.names) content in
    let kept : IsKept (length s.names) k = content_kept (length s.names) content in
    let name : List ℕ = full_name source in
    let longer : length (s.names ++ name ∷ []) ≡ length s.names + 1 = one_longer s.names name (length s.names) refl in
    let old : AreIn (length s.names + 1) s.diags = more_in (length s.names) (length s.names + 1) s.diags (omega arith) h.places in
    let both : AreIn (length s.names + 1) (s.diags ++ k.faults) = All-append (λ d. d.place.file < length s.names + 1) s.diags k.faults old kept.places in
    subst (λ x. IsOneMore s x) (sym e) (record {
      later = record {
        sound = record {
          library = one_longer s.library (is_library source) (length s.names) h.library ∙ sym longer;
          holdings = one_longer s.holdings k.holding (length s.names) h.holdings ∙ sym longer;
          trees = one_longer s.trees k.tree (length s.names) h.trees ∙ sym longer;
          places = more_in (length s.names + 1) (length (s.names ++ name ∷ [])) (s.diags ++ k.faults) (omega (arith, longer)) both;
          named = ap (λ l. l ++ name ∷ []) h.named ∙ sym (map-append full_name s.sources (source ∷ []));
          flagged = ap (λ l. l ++ is_library source ∷ []) h.flagged ∙ sym (map-append is_library s.sources (source ∷ []));
          listed = ap (λ l. l ++ k.inclusions ∷ []) h.listed ∙ ap (λ i. map inclusions_of s.trees ++ i ∷ []) kept.listed ∙ sym (map-append inclusions_of s.trees (k.tree ∷ []));
          distinct = last_distinct source s.sources (absent (same_source source) s.sources new) h.distinct;
          unbroken = λ c.
              All-append (λ x. x ≢ Broken) s.holdings (k.holding ∷ []) (h.unbroken (nil_left s.diags k.faults c)) (one_all (λ x. x ≢ Broken) k.holding (kept.unbroken (nil_right s.diags k.faults c)));
          ended = λ f c. h.ended f (nil_left s.diags k.faults c);
        };
        more = omega (arith, longer);
        trees = (k.tree ∷ [], refl);
        clear = λ c. nil_left s.diags k.faults c;
      };
      one = longer;
      order = refl;
    })

-- Steps that meet no file.

-- neither the order nor the count of inclusions matters
pub same_sound : (s : WalkState) (order : List ℕ) (count : ℕ) → IsSound s → IsSound (record s { order = order; count = count })
same_sound s order count h = record {
  library = h.library;
  holdings = h.holdings;
  trees = h.trees;
  places = h.places;
  named = h.named;
  flagged = h.flagged;
  listed = h.listed;
  distinct = h.distinct;
  unbroken = h.unbroken;
  ended = h.ended;
}

pub number_later : (n : ℕ) (s t : WalkState) → t ≡ with_number n s → IsSound s → IsLater s t
number_later n s t e h = subst (λ x. IsLater s x) (sym e) (record { sound = same_sound s (s.order ++ n ∷ []) s.count h; more = omega arith; trees = no_growth s.trees; clear = λ c. c })

fault_sound : (at : Place) (k : DiagKind) (name : List ℕ) (ended : Bool) (s : WalkState) → IsSound s → at.file < length s.names → IsSound (record (with_fault at k name s) { ended = ended })
fault_sound at k name ended s h l = record {
  library = h.library;
  holdings = h.holdings;
  trees = h.trees;
  places = All-append (λ d. d.place.file < length s.names) s.diags (diag_at at k (quoted name) ∷ []) h.places (one_all (λ d. d.place.file < length s.names) (diag_at at k (quoted name)) l);
  named = h.named;
  flagged = h.flagged;
  listed = h.listed;
  distinct = h.distinct;
  unbroken = λ c. absurd (one_more s.diags (diag_at at k (quoted name)) c);
  ended = λ _ c. one_more s.diags (diag_at at k (quoted name)) c;
}

-- where a fault is told, no file is to be followed
fault_by : (at : Place) (k : DiagKind) (name : List ℕ) (ended : Bool) (s : WalkState) → IsSound s → at.file < length s.names → IsFound s (record (with_fault at k name s) { ended = ended }) None
fault_by at k name ended s h l = record {
  later = record {
    sound = fault_sound at k name ended s h l;
    more = omega arith;
    trees = no_growth s.trees;
    clear = λ c. absurd (one_more s.diags (diag_at at k (quoted name)) c);
  };
  met = tt;
  added = λ c. one_more s.diags (diag_at at k (quoted name)) c;
}

-- What a file holds.

pub stays_is : (s t : WalkState) (found : Option ℕ) → IsEntered (stays s) t found → (found ≡ None) × (t ≡ s)
stays_is s t None e = (refl, stayed e)
  where
    state_of : Entered → WalkState
    state_of (follows k x) = x
    state_of (stays x) = x

    stayed : stays s ≡ stays t → t ≡ s
    stayed e = sym (ap state_of e)
stays_is s t (Some k) e = absurd (cc)

pub follows_is : (s t : WalkState) (i : ℕ) (found : Option ℕ) → IsEntered (follows i s) t found → (found ≡ Some i) × (t ≡ s)
follows_is s t i None e = absurd (cc)
follows_is s t i (Some k) e = (ap Some (sym (ap index_of e)), sym (ap state_of e))
  where
    state_of : Entered → WalkState
    state_of (follows k x) = x
    state_of (stays x) = x

    index_of : Entered → ℕ
    index_of (follows k x) = k
    index_of (stays x) = 0

stay_found : (s u t : WalkState) (found : Option ℕ) → IsFound s u None → IsEntered (stays u) t found → IsFound s t found
stay_found s u t found h e =
    let r = stays_is u t found e in
    subst (λ f. IsFound s t f) (sym r.0) (subst (λ x. IsFound s x None) (sym r.1) h)

broken_at : (s : WalkState) (index : ℕ) → slice_get s.holdings index ≡ Some Broken → IsSound s → IsClear s → ⊥
broken_at s index e h c = h.unbroken c index Broken (slice_get_within s.holdings index Broken e) (get_or_from_slice_get s.holdings index Broken Broken e)

nothing_at : (s : WalkState) (index : ℕ) → slice_get s.holdings index ≡ None → index < length s.holdings → ⊥
nothing_at s index e l = let some : None ≡ Some (get_or s.holdings index Broken) = sym e ∙ slice_get-get_or s.holdings index Broken l in cc

-- what a file holds decides, and what is to be followed was met
settled_found : (at : Place) (name : List ℕ) (index : ℕ) (o : Option Holding) (s t : WalkState) (found : Option ℕ) → o ≡ slice_get s.holdings index → index < length s.holdings → IsSound s → at.file < length s.names → IsEntered (settled at name index o s) t found → IsFound s t found
settled_found at name index (Some Missing) s t found eo i h l e = stay_found s (with_fault at kind.NoFile name s) t found (fault_by at kind.NoFile name s.ended s h l) e
settled_found at name index (Some TooLong) s t found eo i h l e = stay_found s (with_fault at kind.FileTooLong name s) t found (fault_by at kind.FileTooLong name s.ended s h l) e
settled_found at name index (Some Broken) s t found eo i h l e =
    stay_found s s t found (record { later = record { sound = h; more = omega arith; trees = no_growth s.trees; clear = λ c. c }; met = tt; added = λ c. broken_at s index (sym eo) h c }) e
settled_found at name index None s t found eo i h l e = absurd (nothing_at s index (sym eo) i)
settled_found at name index (Some Whole) s t found eo i h l e =
    let r = follows_is (with_number index s) t index found e in
    let later : IsLater s t = number_later index s t r.1 h in
    subst (λ f. IsFound s t f) (sym r.0) (record { later = later; met = omega (arith, i, h.holdings, later.more); added = λ _. ap (λ x. x.order) r.1 })

source_within : (source : Source) (s : WalkState) (index : ℕ) → source_at source s.sources ≡ Some index → IsSound s → index < length s.holdings
source_within source s index e h =
    let inside : index < length s.sources = (position-Some (same_source source) s.sources index source e).0 in
    let names : length s.names ≡ length s.sources = ap length h.named ∙ length-map s.sources full_name in
    omega (arith, inside, names, h.holdings)

-- a file that was met before
pub old_found : (at : Place) (source : Source) (index : ℕ) (s t : WalkState) (found : Option ℕ) → source_at source s.sources ≡ Some index → IsSound s → MayStand at source s
    → IsEntered (settled at (full_name source) index (slice_get s.holdings index) s) t found → IsFound s t found
old_found at source index s t found p h m e = settled_found at (full_name source) index (slice_get s.holdings index) s t found refl (source_within source s index p h) h (m.old index p) e

later_on : (s t u : WalkState) → IsLater s t → IsLater t u → IsLater s u
later_on s t u g h = record { sound = h.sound; more = omega (arith, g.more, h.more); trees = grows_on s.trees t.trees u.trees g.trees h.trees; clear = λ c. g.clear (h.clear c) }

found_on : (s t u : WalkState) (found : Option ℕ) → IsOneMore s t → IsFound t u found → IsFound s u found
found_on s t u found g h = record { later = later_on s t u g.later h.later; met = h.met; added = by found h.added }
  where
    by : (o : Option ℕ) → (IsClear u → IsAdded t u o) → IsClear u → IsAdded s u o
    by None f = f
    by (Some k) f = λ c. f c ∙ ap (λ l. l ++ k ∷ []) g.order

-- one that was read now
pub new_found : (at : Place) (source : Source) (index : ℕ) (s t u : WalkState) (found : Option ℕ) → index ≡ length s.names → MayStand at source s → IsOneMore s t
    → IsEntered (settled at (full_name source) index (slice_get t.holdings index) t) u found → IsFound s u found
new_found at source index s t u found i m g e =
    let inside : index < length t.holdings = omega (arith, i, g.one, g.later.sound.holdings) in
    let place : at.file < length t.names = omega (arith, m.new, g.one) in
    found_on s t u found g (settled_found at (full_name source) index (slice_get t.holdings index) t u found refl inside g.later.sound place e)

pub begins_sound : (s : WalkState) → s ≡ empty_state → IsSound s
begins_sound s e = subst (λ x. IsSound x) (sym e) (record {
  library = refl;
  holdings = refl;
  trees = refl;
  places = none_all (λ d. d.place.file < 0);
  named = refl;
  flagged = refl;
  listed = refl;
  distinct = none_distinct;
  unbroken = λ _. none_all (λ h. h ≢ Broken);
  ended = λ f _. cc;
})

pub may_begin : (at : Place) (source : Source) (s : WalkState) → s ≡ empty_state → at.file ≡ 0 → MayStand at source s
may_begin at source s e z = subst (λ x. MayStand at source x) (sym e) (record { old = λ k f. absurd (cc); new = omega (arith, z) })
