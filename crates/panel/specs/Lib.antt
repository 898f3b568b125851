pub mod Acts
pub mod Suits
