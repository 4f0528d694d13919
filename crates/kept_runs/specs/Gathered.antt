-- Lines of entries that are added to those of their checkable.
use Rattle.std.specs.Prelude.{ℕ, List, [], ◌++◌, All, get_or, map, slice_set}
use Rattle.site_keep.specs.StateFile.{saved_line}
use Rattle.site_model.specs.PlainSite.{PlainSite}
use Rattle.site_posts.specs.declared.segment.Segment.{Segment}
use Rattle.site_text.specs.Entries.{IsPrintable}

-- with the lines of the entries that a checkable gets, after its own
abbrev pub with_lines : PlainSite → List (List (List ℕ)) → Segment → List (List (List ℕ))
with_lines s lines x = slice_set lines x.checkable (get_or lines x.checkable [] ++ map (saved_line s x.checkable) x.entries)

-- each entry can be printed
abbrev pub AllPrintable : PlainSite → List Segment → Type 0
AllPrintable s xs = All (λ x. All (IsPrintable s x.checkable) x.entries) xs
