pub mod Idle
pub mod Seen
pub mod Watched
pub mod Grounds
pub mod Entries
pub mod Lists
pub mod Parts
pub mod Workers
