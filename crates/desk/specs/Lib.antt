pub mod Guarantee
pub mod Tables
