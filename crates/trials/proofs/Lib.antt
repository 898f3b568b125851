pub mod Instances
pub mod Exact
