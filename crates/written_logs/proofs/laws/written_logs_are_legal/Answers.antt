use Rattle.written_logs.proofs.WrittenLogs.{replayed_legal, watched_legal}
use Rattle.written_logs.proofs.laws.written_logs_are_legal.Goals as goal

pub returns-clause-replayed : goal.returns-clause-replayed
returns-clause-replayed c = replayed_legal

pub returns-clause-watched : goal.returns-clause-watched
returns-clause-watched c = watched_legal
