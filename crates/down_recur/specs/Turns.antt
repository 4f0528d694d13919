-- What recurring downtimes give at one turn.
use Rattle.std.specs.Prelude.{ℕ, List}
use Rattle.site_model.specs.PlainSite.{PlainSite, site_view}
use Rattle.site_posts.specs.Books.{AreBooks, histories_of}
use Rattle.down_recur.specs.Giving.{after_at, lines_at}
use Rattle.down_recur.specs.declared.recurring.Recurring.{Recurring}
use Rattle.down_recur.specs.declared.turn.Turn.{Turn}

abbrev pub site_of : Turn → PlainSite
site_of t = site_view t.site.now.value

-- the books are the checkables of its site, one each, without an entry after its moment
abbrev pub HasBooks : Turn → Type 0
HasBooks t = AreBooks (site_of t) t.moment t.books.now

abbrev pub lines_in : Turn → Recurring → List (List ℕ)
lines_in t r = lines_at (site_of t) t.zone.now (histories_of t.books.now) t.moment r

abbrev pub after_in : Turn → Recurring → Recurring
after_in t r = after_at (site_of t) t.zone.now (histories_of t.books.now) t.moment r
