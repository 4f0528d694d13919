pub mod WaveItems
