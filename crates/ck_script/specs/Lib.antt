pub mod Output
pub mod Answered
pub mod Jobs
pub mod Run
