use Rattle.std.proofs.Common.{◌≡◌, ℕ, ◌≤◌, false, is_lt, nat_cmp, sym, ◌∙◌, subst, arith}
use Rattle.std.proofs.lemmas.Bool.Decides.{nat_tests}
use Rattle.down_recur.proofs.Resting.{awake, resting_later}
use Rattle.down_recur.specs.Waiting.{AreResting}
use Rattle.down_recur.proofs.walking.rest_from.Goals as goal

not_before : (a b : ℕ) → is_lt (nat_cmp a b) ≡ false → b ≤ a
not_before a b e = grind (arith, nat_tests)

pub returns-in_ok-rests-clause-resting : goal.returns-in_ok-rests-clause-resting
returns-in_ok-rests-clause-resting c =
    subst (λ seconds. AreResting c.args.moment seconds c.args.list.now) (sym c.in_ok-rests.ensures) (awake c.args.moment c.args.list.now)

pub returns-else-lt-clause-resting : goal.returns-else-lt-clause-resting
returns-else-lt-clause-resting c =
    resting_later c.args.seen c.args.moment c.args.rests.now c.args.list.now (not_before c.args.moment c.args.seen (sym c.lt.ensures ∙ c.if-lt.false)) c.requires
