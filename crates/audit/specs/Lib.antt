pub mod Guarantee
pub mod Asked
pub mod Broken
