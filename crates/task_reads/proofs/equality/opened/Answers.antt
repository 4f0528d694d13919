use Rattle.task_reads.proofs.Opened.{dicts}
use Rattle.task_reads.proofs.equality.opened.Goals as goal

pub returns-in-Dict-Dict : goal.returns-in-Dict-Dict
returns-in-Dict-Dict c =
    dicts c.args.one.now c.args.other.now c.in-Dict-Dict.one c.in-Dict-Dict.other c.deref-in-Dict-Dict.result.now c.deref-in-Dict-Dict-2.result.now
    c.in-Dict-Dict.is-0 c.in-Dict-Dict.is-1 c.deref-in-Dict-Dict.ensures.value c.deref-in-Dict-Dict-2.ensures.value
