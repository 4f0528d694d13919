pub mod Results
pub mod Turning
