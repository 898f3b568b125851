pub mod StoreLaws
pub mod TableLaws
