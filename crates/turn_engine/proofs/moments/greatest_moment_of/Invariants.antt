-- The greatest so far, and of what is left, is the greatest of all.
use Rattle.std.proofs.Common.{◌≡◌, drop, max}
use Rattle.run_meaning.specs.Runs.{greatest_moment}
use Rattle.site_posts.specs.Books.{histories_of}
use Rattle.turn_engine.proofs.moments.greatest_moment_of.Given as goal

abbrev pub invariant-loop-book : goal.invariant-loop-book
invariant-loop-book l = max l.greatest (greatest_moment (histories_of (drop l.book-index l.books))) ≡ greatest_moment (histories_of l.books)
