pub mod OutcomeLaws
pub mod CascadeLaws
pub mod ConflictLaws
