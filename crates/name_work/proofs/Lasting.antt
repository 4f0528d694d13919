-- What a value names in a later store, and what stands where nothing was changed.
use Rattle.std.proofs.Common.{length}
use Rattle.dsl_value.specs.Contents.{Contents}
use Rattle.dsl_value.specs.Whole.{Names}
use Rattle.dsl_value.specs.declared.value.Value.{Value}
use Rattle.eval_work.specs.Kept.{Named, IsFit, IsLater, IsKept}
use Rattle.eval_work.specs.declared.work.Work.{Work}
use Rattle.eval_work.proofs.Later.{names_later as still_names, kept_same as still_kept}

pub names_later : (old new : Contents) (v : Value) → IsLater old new → Names (length old.cells) (length old.functions) v → Names (length new.cells) (length new.functions) v
names_later old new v l h = still_names old new v l h

pub kept_same : (w : Work) (v : Value) → IsFit w → Named w.store v → IsKept w w v
kept_same w v f n = still_kept w v f n
