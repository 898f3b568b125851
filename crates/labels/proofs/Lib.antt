pub mod NameLaws
pub mod WrittenRow
pub mod Kept
