pub mod ArgumentLaws
pub mod GrammarLaws
pub mod WordLaws
