-- Those so far are noted.
use Rattle.std.proofs.Common.{◌≡◌, ℕ, take}
use Rattle.site_model.specs.PlainSite.{PlainSite}
use Rattle.site_posts.specs.Books.{AreBooks, histories_of}
use Rattle.lasting_problems.specs.Lasting.{lasting}
use Rattle.lasting_problems.specs.Noted.{noted}
use Rattle.lasting_problems.proofs.problems.Problems.of.Given as goal

abbrev pub invariant-loop-checkable : goal.invariant-loop-checkable
invariant-loop-checkable l = (s : PlainSite) (moment : ℕ) → AreBooks s moment l.books → l.problems ≡ noted (take l.checkable (lasting s (histories_of l.books)))
