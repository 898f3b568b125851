pub mod ListTrial
pub mod Lists
pub mod Needed
pub mod Tried
