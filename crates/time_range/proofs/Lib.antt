pub mod ClockLemmas
pub mod DayLemmas
pub mod FileLemmas
pub mod LocalLemmas
pub mod PieceLemmas
pub mod RangeLemmas
pub mod ResultLemmas
pub mod SpanLemmas
