mod Keys
pub mod GroupLaws
pub mod GapLaws
pub mod StringLaws
pub mod JoinLaws
