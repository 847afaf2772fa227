pub mod Hashes
pub mod KeyLaws
pub mod Doubling
