use Rattle.std.proofs.Common.{◌≡◌, ◌≤◌, ◌<◌, length, ◌+◌, ◌*◌, List, ℕ, Option, Some, drop}
use Rattle.conf_sources.specs.Known.{IsKnown}
use Rattle.site_conf.specs.Reads.{HaveRead}
use Rattle.site_conf.specs.Sound.{IsSound, IsWalked, some_files, some_inclusions}
use Rattle.site_conf.specs.Views.{state_view}
use Rattle.site_conf.specs.Walks.{each_inclusion, each_source, onward_at}
use Rattle.site_conf.proofs.walking.+walk.Given as goal

abbrev pub decreases-walk_part : goal.decreases-walk_part
decreases-walk_part g l = 5 * l.left + 4

abbrev pub decreases-walk_inclusions : goal.decreases-walk_inclusions
decreases-walk_inclusions g l = 5 * l.left + 3

abbrev pub decreases-walk_inclusion : goal.decreases-walk_inclusion
decreases-walk_inclusion g l = 5 * l.left + 2

abbrev pub decreases-walk_sources : goal.decreases-walk_sources
decreases-walk_sources g l = 5 * l.left + 1

abbrev pub decreases-walk_source : goal.decreases-walk_source
decreases-walk_source g l = 5 * l.left

abbrev pub invariant-walk_inclusions-loop-inclusion : goal.invariant-walk_inclusions-loop-inclusion
invariant-walk_inclusions-loop-inclusion g l = record {
  known : IsKnown (g.F.Files.told l.files) l.listings.folders l.listings.wildcards;
  same : g.F.Files.told l.files ≡ g.F.Files.told l.fn.files;
  sound : IsSound (state_view l.fn.progress) → l.index < length (state_view l.fn.progress).names → IsWalked (some_inclusions l.left l.inclusion-index) (state_view l.fn.progress) (state_view l.progress);
  reads : (before : Option (List (List ℕ))) → HaveRead before (state_view l.fn.progress) (g.F.Files.reads l.fn.files) → HaveRead before (state_view l.progress) (g.F.Files.reads l.files);
  counts : g.F.Files.faults l.fn.files ≤ g.F.Files.faults l.files;
  calm : g.F.Files.calm l.fn.files → g.F.Files.calm l.files;
  walks : (all : List (List ℕ × List ℕ)) → g.F.Files.told l.fn.files ≡ Some all
      → each_inclusion all (onward_at all l.left) l.left l.index l.file (drop l.inclusion-index l.inclusions) (state_view l.progress) ≡ each_inclusion all (onward_at all l.left) l.left l.index l.file l.inclusions (state_view l.fn.progress);
}

abbrev pub invariant-walk_sources-loop-source : goal.invariant-walk_sources-loop-source
invariant-walk_sources-loop-source g l = record {
  known : IsKnown (g.F.Files.told l.files) l.listings.folders l.listings.wildcards;
  same : g.F.Files.told l.files ≡ g.F.Files.told l.fn.files;
  sound : IsSound (state_view l.fn.progress) → l.at.file < length (state_view l.fn.progress).names → IsWalked (some_files l.left l.source-index) (state_view l.fn.progress) (state_view l.progress);
  reads : (before : Option (List (List ℕ))) → HaveRead before (state_view l.fn.progress) (g.F.Files.reads l.fn.files) → HaveRead before (state_view l.progress) (g.F.Files.reads l.files);
  counts : g.F.Files.faults l.fn.files ≤ g.F.Files.faults l.files;
  calm : g.F.Files.calm l.fn.files → g.F.Files.calm l.files;
  walks : (all : List (List ℕ × List ℕ)) → g.F.Files.told l.fn.files ≡ Some all
      → each_source all (onward_at all l.left) l.left l.at (drop l.source-index l.named) (state_view l.progress) ≡ each_source all (onward_at all l.left) l.left l.at l.named (state_view l.fn.progress);
}
