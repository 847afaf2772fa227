pub mod Route
pub mod Queue
pub mod Trace
pub mod Progress
pub mod Laws
