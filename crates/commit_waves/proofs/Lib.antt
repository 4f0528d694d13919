pub mod ViewLaws
pub mod TellLaws
pub mod NamedLaws
pub mod WaveLaws
pub mod SplitLaws
pub mod CommitLaws
mod FewLaws
pub mod WaveSteps
pub mod WaveRuns
pub mod MakerLaws
