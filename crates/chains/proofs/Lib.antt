pub mod RelationLaws
pub mod ClosureLaws
