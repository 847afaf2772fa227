pub mod Exchange
pub mod Places
