-- What clauses see of a checkable.
use Rattle.std.specs.Prelude.{ℕ, List, [], ◌∷◌, ◌++◌, slice_get, Option, Some, None}
use Rattle.site_model.specs.PlainSite.{PlainCheck, PlainSite, plain_check}
use Rattle.site_model.specs.declared.entry.Entry.{Entry}
use Rattle.site_model.specs.declared.site.Site.{Site}

-- the site and the index that it was made for, and its entries, the oldest first
pub record Contents : Type 0 where
  pub site : Site
  pub index : ℕ
  pub entries : List Entry

-- with one entry more
abbrev pub with_entry : Contents → Entry → Contents
with_entry k e = record k { entries = k.entries ++ e ∷ [] }

abbrev pub check_or : Option PlainCheck → PlainCheck
check_or None = plain_check [] None
check_or (Some check) = check

-- what a site sets of the checkable of this index
abbrev pub check_at : PlainSite → ℕ → PlainCheck
check_at s k = check_or (slice_get s.checkables k)
