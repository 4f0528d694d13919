-- What a feed gives over the turns of a run, and what a run with it stands on.
use Rattle.std.specs.Prelude.{ℕ, List, [], ◌∷◌, Option}
use Rattle.checkable_core.specs.Contents.{Contents}
use Rattle.depend_graph.specs.Outlooks.{holds_in}
use Rattle.jiff_tz.specs.declared.tzif.Tzif.{Tzif}
use Rattle.run_meaning.specs.Meaning.{basis_of}
use Rattle.run_meaning.specs.Runs.{Basis}
use Rattle.run_meaning.specs.Turns.{Begun, Feed, Histories}
use Rattle.run_text.specs.TurnReading.{lines_read}
use Rattle.site_model.specs.PlainSite.{PlainSite}
use Rattle.site_posts.specs.Books.{AreBooks}
use Rattle.turn_engine.specs.Orders.{command_of}

-- they are those of a site that a feed was made for
pub record AreBooksFor (made_for : PlainSite → Type 0) (moment : ℕ) (books : List Contents) : Type 0 where
  pub site : PlainSite
  pub made : made_for site
  pub are : AreBooks site moment books

-- which lines a feed gives at a moment at which these are the entries
abbrev pub Giving : Type 0 → Type 0
Giving F = F → Histories → ℕ → List (List ℕ)

-- what it is afterwards
abbrev pub Changing : Type 0 → Type 0
Changing F = F → Histories → ℕ → F

-- what a feed is once these turns began
abbrev pub feed_after : {F : Type 0} → Changing F → F → List Begun → F
feed_after after feed [] = feed
feed_after after feed (b ∷ bs) = feed_after after (after feed b.histories b.moment) bs

-- the lines that it gives for the last of these turns
abbrev pub lines_fed : {F : Type 0} → Giving F → Changing F → F → List Begun → List (List ℕ)
lines_fed gives after feed [] = []
lines_fed gives after feed (b ∷ []) = gives feed b.histories b.moment
lines_fed gives after feed (b ∷ c ∷ bs) = lines_fed gives after (after feed b.histories b.moment) (c ∷ bs)

-- the same, as they are read
abbrev pub feed_of : {F : Type 0} → PlainSite → Giving F → Changing F → F → Feed
feed_of s gives after feed begun = lines_read s (lines_fed gives after feed begun)

-- the lines that stand before a turn's own, by what stood when each turn began, this one last
abbrev pub Fed : Type 0
Fed = List Begun → List (List ℕ)

-- none stand before those of any turn
abbrev pub no_lines : Fed
no_lines begun = []

-- what a run over a site in a zone stands on before whose turns these lines stand
abbrev pub basis_with : PlainSite → Option Tzif → Fed → Basis
basis_with s zone fed = basis_of s (holds_in s zone) (command_of s) (λ begun. lines_read s (fed begun))

-- the same by what a feed gives
abbrev pub basis_fed : {F : Type 0} → PlainSite → Option Tzif → Giving F → Changing F → F → Basis
basis_fed s zone gives after feed = basis_of s (holds_in s zone) (command_of s) (feed_of s gives after feed)
