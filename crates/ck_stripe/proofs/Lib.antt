pub mod Settled
pub mod Splits
pub mod Doubled
mod Spared
pub mod Stored
pub mod Writes
mod Pouring
mod Listed
pub mod Visited
pub mod Stepwise
pub mod Tables
pub mod Totals
