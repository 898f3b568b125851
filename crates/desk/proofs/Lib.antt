pub mod Exits
pub mod KindRanges
pub mod OneOutcome
