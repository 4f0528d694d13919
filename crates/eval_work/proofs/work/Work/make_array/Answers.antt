use Rattle.std.proofs.Common.{refl}
use Rattle.eval_work.proofs.Later.{last_named, later_later, still_grown}
use Rattle.eval_work.proofs.work.Work.make_array.Goals as goal

-- the new array is the last cell
pub returns-clause-kept : goal.returns-clause-kept
returns-clause-kept c =
    let mid = c.charge.new.self in
    let still = still_grown _ mid (record mid { store = c.array.new.self }) c.in_ok-charge.ensures.kept.fit c.in_ok-array.ensures.grows refl refl refl in
    record {
      fit = still.fit;
      later = later_later _ mid.store _ c.in_ok-charge.ensures.kept.later still.later;
      named = last_named mid.store c.array.new.self c.in_ok-array.field-0 _ c.in_ok-array.ensures.value c.in_ok-array.ensures.ok;
    }
