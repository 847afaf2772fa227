pub mod Lends
pub mod Memory
pub mod Room
