pub mod Names
pub mod Kept
