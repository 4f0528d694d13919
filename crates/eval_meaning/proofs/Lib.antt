pub mod Sound
pub mod Every
pub mod Onward
pub mod Following
pub mod Open
pub mod Turning
