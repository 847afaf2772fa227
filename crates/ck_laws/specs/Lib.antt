pub mod Sole
pub mod Laws
pub mod Examples
pub mod Ledger
