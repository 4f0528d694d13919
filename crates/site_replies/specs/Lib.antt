pub mod Replies
pub mod Remarks
