pub mod ScriptTurns
pub mod FewEntries
pub mod Sites
pub mod WrittenLogs
