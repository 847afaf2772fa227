pub mod Doubling
mod Folding
