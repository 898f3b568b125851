pub mod Slice
pub mod Tables
