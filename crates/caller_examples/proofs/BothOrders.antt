-- Both orders of two callers' events make a run.
use Rattle.std.proofs.Common.{◌≡◌, ◌<◌, ℕ, zero, suc, [], ◌∷◌, length, slice_get, Some, refl, subst, lit<, lit≤}
use Rattle.run_meaning.specs.Runs.{IsRun}
use Rattle.run_meaning.specs.Alone.{Move}
use Rattle.run_meaning.proofs.Meeting.{moves_make}
use Rattle.caller_examples.specs.Callers.{b, first, line, line_first, report_first, reported, turns}

none : (P : Move → Type 0) (i : ℕ) (m : Move) → slice_get [] i ≡ Some m → P m
none P i m h = absurd cc

two : (P : Move → Type 0) (x y : Move) → P x → P y → (i : ℕ) (m : Move) → slice_get (x ∷ y ∷ []) i ≡ Some m → P m
two P x y px py zero m h = let e : x ≡ m = cc in subst P e px
two P x y px py (suc zero) m h = let e : y ≡ m = cc in subst P e py
two P x y px py (suc (suc i)) m h = absurd cc

abbrev Small : Move → Type 0
Small m = m.caller < 2

abbrev OnSite : Move → Type 0
OnSite m = m.asked.checkable < length b.rules.site.checkables

pub line_is_first : IsRun b 2 first turns line_first
line_is_first = record {
  someone = lit≤ tt;
  turns = (record { number = refl; moment = refl; refusals = refl; round = moves_make b.rules 10 ([] ∷ [] ∷ []) 2 [] (none Small) (none OnSite); orders = refl }, (record { number = refl; moment = refl; refusals = refl; round = moves_make b.rules 20 ([] ∷ [] ∷ []) 2 (line ∷ reported ∷ []) (two Small line reported (lit< tt) (lit< tt)) (two OnSite line reported (lit< tt) (lit< tt)); orders = refl }, (record { number = refl; moment = refl; refusals = refl; round = moves_make b.rules 30 _ 2 [] (none Small) (none OnSite); orders = refl }, refl)));
}

pub report_is_first : IsRun b 2 first turns report_first
report_is_first = record {
  someone = lit≤ tt;
  turns = (record { number = refl; moment = refl; refusals = refl; round = moves_make b.rules 10 ([] ∷ [] ∷ []) 2 [] (none Small) (none OnSite); orders = refl }, (record { number = refl; moment = refl; refusals = refl; round = moves_make b.rules 20 ([] ∷ [] ∷ []) 2 (reported ∷ line ∷ []) (two Small reported line (lit< tt) (lit< tt)) (two OnSite reported line (lit< tt) (lit< tt)); orders = refl }, (record { number = refl; moment = refl; refusals = refl; round = moves_make b.rules 30 _ 2 [] (none Small) (none OnSite); orders = refl }, refl)));
}
