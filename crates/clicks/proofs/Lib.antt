pub mod TestLaws
pub mod Growth
pub mod AddingKinds
pub mod Swap
pub mod Undone
pub mod Clicks
pub mod JustThat
