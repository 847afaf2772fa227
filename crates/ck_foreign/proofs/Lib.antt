pub mod FewKeys
pub mod NoSession
pub mod PairRows
pub mod Payloads
pub mod Placing
pub mod SessionRows
pub mod Taking
pub mod Through
