pub mod ListedLaws
pub mod MemberLaws
pub mod NewLaws
pub mod PeriodLaws
pub mod Steps
