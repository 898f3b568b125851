pub mod Instances
pub mod Exact
pub mod Needed
