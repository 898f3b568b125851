pub mod Closure
pub mod Relation
