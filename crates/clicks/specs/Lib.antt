pub mod Clicks
pub mod Tests
