pub mod Mask
pub mod Search
pub mod Count
pub mod Members
