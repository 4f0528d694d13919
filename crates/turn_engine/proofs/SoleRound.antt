-- A round of the first caller alone.
use Rattle.std.proofs.Common.{◌≡◌, ℕ, ◌<◌, ◌==◌, ◌&&◌, true, false, List, [], ◌∷◌, length, map, drop, Vec, Global, Option, Result, Ok, Err, IfOk, OnOk, refl, sym, ap, subst, arith}
use Rattle.std.proofs.lemmas.Bool.Decides.{nat_tests}
use Rattle.std.specs.Prelude.{slice_index_or}
use Rattle.std.specs.List.{list_all}
use Rattle.jiff_tz.specs.declared.tzif.Tzif.{Tzif}
use Rattle.checkable_core.specs.Contents.{Contents}
use Rattle.checkable_core.specs.Entries.{rules_in}
use Rattle.run_laws.specs.Idle.{AreIdle}
use Rattle.run_laws.proofs.Idle.{idle_change_nothing}
use Rattle.run_meaning.specs.Rounds.{IsRound}
use Rattle.run_meaning.specs.Runs.{joined}
use Rattle.run_meaning.specs.Turns.{Histories}
use Rattle.site_model.specs.PlainSite.{PlainSite}
use Rattle.site_posts.specs.Books.{AreBooks, histories_of}
use Rattle.site_posts.specs.Made.{asked_of}
use Rattle.site_posts.specs.Many.{IsRoundOf, asked_in}
use Rattle.site_posts.specs.Segments.{segments_of}
use Rattle.site_posts.specs.declared.act.Act.{Act}
use Rattle.site_posts.specs.declared.segment.Segment.{Segment}
use Rattle.turn_engine.specs.Sole.{IsSole}

-- lists without acts bring no events
pub idle_ones : (lists : List (Vec Act Global)) → list_all (λ (list : Vec Act Global). length list.items == 0) lists ≡ true → AreIdle (map asked_in lists)
idle_ones [] e = tt
idle_ones (x ∷ xs) e = by (λ rest. idle_ones xs rest) x.items refl e
  where
    by : (list_all (λ (list : Vec Act Global). length list.items == 0) xs ≡ true → AreIdle (map asked_in xs)) → (acts : List Act) → x.items ≡ acts
        → ((length x.items == 0) && list_all (λ (list : Vec Act Global). length list.items == 0) xs) ≡ true → AreIdle (map asked_in (x ∷ xs))
    by again [] is all =
        let some : (length x.items == 0) ≡ true = ap (λ (as' : List Act). length as' == 0) is in
        let rest : list_all (λ (list : Vec Act Global). length list.items == 0) xs ≡ true = cc in
        (ap (map asked_of) is, again rest)
    by again (a ∷ more) is all =
        let many = ap (λ (as' : List Act). length as') is in
        let none : (length x.items == 0) ≡ false = grind (arith, nat_tests, many) in
        absurd cc

-- the first of some is in front
pub in_front : {A : Type 0} (xs : List A) (x : A) → 0 < length xs → x ≡ slice_index_or xs 0 x → xs ≡ x ∷ drop 1 xs
in_front [] x some is = absurd (omega (arith, some))
in_front (y ∷ ys) x some is = ap (λ z. z ∷ ys) (sym is)

-- a round of its acts is one of all callers
pub round_of_all : {E : Type 0} (s : PlainSite) (zone : Option Tzif) (m : ℕ) (old new : List Contents) (made : Histories) (acts : Vec Act Global) (lists : List (Vec Act Global)) (r : Result (List Segment) E)
    → IsSole acts lists → OnOk r (IsRound (rules_in s zone) m (histories_of old) (asked_in acts ∷ []) made) → IfOk r (λ x. x ≡ segments_of made) → OnOk r (histories_of new ≡ joined (histories_of old) made) → AreBooks s m new
    → IfOk r (IsRoundOf s zone m old new (map asked_in lists))
round_of_all s _ m old new made acts lists (Err e) sole is told behind books = tt
round_of_all s zone m old new made acts lists (Ok segments) sole is told behind books = record {
  round = made;
  is = subst (λ xs. IsRound (rules_in s zone) m (histories_of old) (map asked_in xs) made) (sym sole.first)
      (idle_change_nothing (rules_in s zone) m (histories_of old) (asked_in acts ∷ []) (map asked_in (drop 1 lists)) made sole.idle is);
  told = told;
  behind = behind;
  books = books;
}
