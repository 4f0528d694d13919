-- What each step of the walk leaves as it is to be, the walk leaves so.
use Rattle.std.proofs.Common.{◌≡◌, ℕ, zero, suc, Bool, true, false, cond, List, [], ◌∷◌, length, slice_get}
use Rattle.dsl_lexer.specs.Places.{start_of}
use Rattle.site_base.specs.declared.place.Place.{Place}
use Rattle.conf_sources.specs.Inclusions.{place_of}
use Rattle.conf_sources.specs.Reading.{in_file}
use Rattle.conf_sources.specs.Sources.{Told, sources_of}
use Rattle.site_conf.specs.Walks.{WalkState, Entered, follows, stays, stopped, entered, met, with_number, with_length, each_source, one_inclusion, each_inclusion, part_with, onward_by, part, walked, or_nothing, empty_state}
use Rattle.conf_sources.specs.declared.inclusion.Inclusion.{Inclusion}
use Rattle.conf_sources.specs.declared.source.Source.{Source}
use Rattle.conf_sources.specs.declared.source.Source.TheVariants.{File}

-- it stays over numbers of the order, and over each inclusion and what is met there
pub record Stays (all : Told) (P : WalkState → Type 0) : Type 0 where
  pub numbered : (n : ℕ) (s : WalkState) → P s → P (with_number n s)
  pub measured : (start : ℕ) (s : WalkState) → P s → P (with_length start s)
  pub taken : (left : ℕ) (at : Place) (source : Source) (s : WalkState) → P s → P (stopped (entered all left at source s))

-- it stays over what follows an inclusion
abbrev pub StaysOnward : (WalkState → Type 0) → (Entered → WalkState) → Type 0
StaysOnward P onward = (e : Entered) → P (stopped e) → P (onward e)

sources_stay : (all : Told) (P : WalkState → Type 0) → Stays all P → (onward : Entered → WalkState) → StaysOnward P onward → (left : ℕ) (at : Place) (xs : List Source) (s : WalkState) → P s → P (each_source all onward left at xs s)
sources_stay all P st onward on left at [] s p = p
sources_stay all P st onward on left at (x ∷ xs) s p = sources_stay all P st onward on left at xs (onward (entered all left at x s)) (on (entered all left at x s) (st.taken left at x s p))

inclusion_stays : (all : Told) (P : WalkState → Type 0) → Stays all P → (onward : Entered → WalkState) → StaysOnward P onward → (left index : ℕ) (file : List ℕ) (i : Inclusion) (s : WalkState) → P s
    → P (one_inclusion all onward left index file i s)
inclusion_stays all P st onward on left index file i s p = by s.ended
  where
    named : List Source
    named = sources_of all file i

    next : WalkState
    next = each_source all onward left (in_file index (place_of i)) named (with_number (length named) s)

    by : (b : Bool) → P (cond b s next)
    by true = p
    by false = sources_stay all P st onward on left (in_file index (place_of i)) named (with_number (length named) s) (st.numbered (length named) s p)

pub inclusions_stay : (all : Told) (P : WalkState → Type 0) → Stays all P → (onward : Entered → WalkState) → StaysOnward P onward → (left index : ℕ) (file : List ℕ) (is : List Inclusion) (s : WalkState) → P s
    → P (each_inclusion all onward left index file is s)
inclusions_stay all P st onward on left index file [] s p = p
inclusions_stay all P st onward on left index file (i ∷ is) s p = inclusions_stay all P st onward on left index file is (one_inclusion all onward left index file i s) (inclusion_stays all P st onward on left index file i s p)

part_with_stays : (all : Told) (P : WalkState → Type 0) → Stays all P → (onward : Entered → WalkState) → StaysOnward P onward → (left index : ℕ) (s : WalkState) → P s → P (part_with all onward left index s)
unfolding part_with
part_with_stays all P st onward on left index s p =
    let file : List ℕ = or_nothing (slice_get s.names index) in
    let is : List Inclusion = or_nothing (slice_get s.inclusions index) in
    st.measured (length s.order) (each_inclusion all onward left index file is (with_number 0 s)) (inclusions_stay all P st onward on left index file is (with_number 0 s) (st.numbered 0 s p))

onward_stays : (P : WalkState → Type 0) (walk : ℕ → WalkState → WalkState) → ((index : ℕ) (s : WalkState) → P s → P (walk index s)) → StaysOnward P (onward_by walk)
onward_stays P walk h (follows index s) p = h index s p
onward_stays P walk h (stays s) p = p

pub part_stays : (all : Told) (P : WalkState → Type 0) → Stays all P → (left index : ℕ) (s : WalkState) → P s → P (part all left index s)
part_stays all P st zero index s p = part_with_stays all P st stopped (λ e q. q) zero index s p
part_stays all P st (suc left) index s p = part_with_stays all P st (onward_by (part all left)) (onward_stays P (part all left) (part_stays all P st left)) (suc left) index s p

pub walked_stays : (all : Told) (P : WalkState → Type 0) → Stays all P → (root : List ℕ) → P (stopped (met all (start_of 0) (File root) empty_state)) → P (walked all root)
walked_stays all P st root p = onward_stays P (part all 50) (part_stays all P st 50) (met all (start_of 0) (File root) empty_state) p
