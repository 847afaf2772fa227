pub mod Replying
pub mod Acting
pub mod Sessions
pub mod Alone
pub mod Interleavings
pub mod Examples
pub mod Resetting
