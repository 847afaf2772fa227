pub mod SessionKeys
pub mod SessionKeyLaws
