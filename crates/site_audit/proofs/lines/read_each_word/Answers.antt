use Rattle.std.proofs.Common.{◌<◌, length, List, ℕ}
use Rattle.site_audit.specs.LineReading.{words_within}
use Rattle.site_audit.proofs.WordLoops.{word_goes_on}
use Rattle.site_audit.proofs.lines.read_each_word.Goals as goal

pub loop-preserved : goal.loop-preserved
loop-preserved c =
    let bytes : List ℕ = c.args.bytes.now in
    let lt : c.loop.counter < length bytes = c.loop-test.true in
    word_goes_on (length bytes) c.loop.counter c.loop.rest.now c.in_ok-after.after.now c.in-Some.next.now _ (words_within (length bytes) bytes) lt c.in_ok-after.ensures c.in-Some.ensures c.loop.invariant
