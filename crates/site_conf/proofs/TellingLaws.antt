-- What was told stays told, and what comes later stands behind it; the fault of each file that was met is told.
use Rattle.std.proofs.Common.{◌≡◌, ◌≤◌, ◌<◌, ℕ, zero, suc, ◌+◌, ◌-◌, ◌==◌, Bool, true, false, cond, nat_lt, List, [], ◌∷◌, ◌++◌, length, map, set, slice_get, ◌⊎◌, Option, Some, None, inl, inr, refl, sym, ap, subst, ◌∙◌, arith, append_assoc, length-append}
use Rattle.std.specs.Prelude.{All, Contains}
use Rattle.std.proofs.lemmas.List.{append-nil}
use Rattle.std.proofs.lemmas.List.Elements.{Contains-append_left, Contains-append_right}
use Rattle.site_base.specs.Quoted.{quoted}
use Rattle.site_base.specs.declared.diag.Diag.{Diag}
use Rattle.site_base.specs.declared.diag_kind.DiagKind.{DiagKind}
use Rattle.site_base.specs.declared.diag_kind.DiagKind.TheVariants as kind
use Rattle.site_base.specs.declared.place.Place.{Place}
use Rattle.conf_sources.specs.Reading.{Kept, diag_at, kept_content}
use Rattle.conf_sources.specs.Sources.{Told, full_name, source_at, content_of}
use Rattle.site_conf.specs.Sound.{Grows}
use Rattle.site_conf.specs.Telling.{following, StandInOrder}
use Rattle.site_conf.specs.Walks.{WalkState, Entered, follows, stays, stopped, entered, met, met_by, settled, with_number, with_length, with_fault, with_count, with_end, with_kept, each_inclusion, one_inclusion, onward_by, onward_at, part}
use Rattle.conf_sources.specs.declared.holding.Holding.{Holding}
use Rattle.conf_sources.specs.declared.holding.Holding.TheVariants.{Missing, TooLong, Broken, Whole}
use Rattle.conf_sources.specs.declared.inclusion.Inclusion.{Inclusion}
use Rattle.conf_sources.specs.declared.source.Source.{Source}
use Rattle.site_conf.proofs.SoundLaws.{grows_on}
use Rattle.site_conf.proofs.Through.{Stays, StaysOnward, inclusions_stay, part_stays}

-- nothing that was told is lost
abbrev Keeps : WalkState → WalkState → Type 0
Keeps s t = Grows s.diags t.diags

same : (ds : List Diag) → Grows ds ds
same ds = ([], sym (append-nil ds))

more : (ds es : List Diag) → Grows ds (ds ++ es)
more ds es = (es, refl)

settled_grows : (s : WalkState) (at : Place) (name : List ℕ) (index : ℕ) (o : Option Holding) (t : WalkState) → Keeps s t → Keeps s (stopped (settled at name index o t))
settled_grows s at name index (Some Missing) t g = grows_on s.diags t.diags (t.diags ++ diag_at at kind.NoFile (quoted name) ∷ []) g (more t.diags (diag_at at kind.NoFile (quoted name) ∷ []))
settled_grows s at name index (Some TooLong) t g = grows_on s.diags t.diags (t.diags ++ diag_at at kind.FileTooLong (quoted name) ∷ []) g (more t.diags (diag_at at kind.FileTooLong (quoted name) ∷ []))
settled_grows s at name index (Some Broken) t g = g
settled_grows s at name index (Some Whole) t g = g
settled_grows s at name index None t g = g

met_grows : (all : Told) (at : Place) (source : Source) (o : Option ℕ) (s : WalkState) → Keeps s (stopped (met_by all at source o s))
met_grows all at source (Some index) s = settled_grows s at (full_name source) index (slice_get s.holdings index) s (same s.diags)
met_grows all at source None s =
    let n : ℕ = length s.names in
    let k : Kept = kept_content n (content_of all source) in
    let next : WalkState = with_kept source k s in
    settled_grows s at (full_name source) n (slice_get next.holdings n) next (more s.diags k.faults)

counted_grows : (all : Told) (at : Place) (source : Source) (s : WalkState) → Keeps s (stopped (met all at source (with_count s)))
unfolding met
counted_grows all at source s = met_grows all at source (source_at source s.sources) (with_count s)

entered_grows : (all : Told) (left : ℕ) (at : Place) (source : Source) (s : WalkState) → Keeps s (stopped (entered all left at source s))
unfolding entered
entered_grows all left at source s = ended s.ended
  where
    next : Bool → Entered
    next b = cond b (stays (with_fault at kind.IncludeDepth (full_name source) (with_count s))) (met all at source (with_count s))

    deep : (b : Bool) → Keeps s (stopped (next b))
    deep true = more s.diags (diag_at at kind.IncludeDepth (quoted (full_name source)) ∷ [])
    deep false = counted_grows all at source s

    many : (b : Bool) → Keeps s (stopped (cond b (next (left == 0)) (stays (with_end (with_fault at kind.TooManyFiles (full_name source) s)))))
    many true = deep (left == 0)
    many false = more s.diags (diag_at at kind.TooManyFiles (quoted (full_name source)) ∷ [])

    ended : (b : Bool) → Keeps s (stopped (cond b (stays s) (cond (nat_lt s.count 10000) (next (left == 0)) (stays (with_end (with_fault at kind.TooManyFiles (full_name source) s))))))
    ended true = same s.diags
    ended false = many (nat_lt s.count 10000)

-- whatever is followed, what was told at first stays at the front
all_keep : (all : Told) (s : WalkState) → Stays all (Keeps s)
all_keep all s = record {
  numbered = λ n t g. g;
  measured = λ start t g. g;
  taken = λ left at source t g. grows_on s.diags t.diags (stopped (entered all left at source t)).diags g (entered_grows all left at source t);
}

onward_keeps : (all : Told) (s : WalkState) (left : ℕ) → StaysOnward (Keeps s) (onward_at all left)
onward_keeps all s zero e g = g
onward_keeps all s (suc left) (follows index t) g = part_stays all (Keeps s) (all_keep all s) left index t g
onward_keeps all s (suc left) (stays t) g = g

following_grows : (all : Told) (left index : ℕ) (file : List ℕ) (is : List Inclusion) (s : WalkState) → Keeps s (following all left index file is s)
following_grows all left index file is s = inclusions_stay all (Keeps s) (all_keep all s) (onward_at all left) (onward_keeps all s left) left index file is s (same s.diags)

-- one list of inclusions after another
following_on : (all : Told) (left index : ℕ) (file : List ℕ) (is js : List Inclusion) (s : WalkState) → following all left index file (is ++ js) s ≡ following all left index file js (following all left index file is s)
following_on all left index file [] js s = refl
following_on all left index file (i ∷ is) js s = following_on all left index file is js (one_inclusion all (onward_at all left) left index file i s)

pub in_order : (all : Told) (left index : ℕ) (file : List ℕ) (before : List Inclusion) (i : Inclusion) (behind : List Inclusion) (s : WalkState) → StandInOrder all left index file before i behind s
in_order all left index file before i behind s =
    let t : WalkState = following all left index file before s in
    let u : WalkState = following all left index file (before ++ i ∷ []) s in
    let whole : before ++ i ∷ behind ≡ (before ++ i ∷ []) ++ behind = sym (append_assoc before (i ∷ []) behind) in
    record {
      of_those_before = following_grows all left index file before s;
      of_it = subst (λ (w : WalkState). Keeps t w) (sym (following_on all left index file before (i ∷ []) s)) (following_grows all left index file (i ∷ []) t);
      of_those_behind = subst (λ (is : List Inclusion). Keeps u (following all left index file is s)) (sym whole) (subst (λ (w : WalkState). Keeps u w) (sym (following_on all left index file (before ++ i ∷ []) behind s)) (following_grows all left index file behind u));
    }
