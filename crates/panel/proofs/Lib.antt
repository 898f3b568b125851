pub mod ActLaws
pub mod EachSuits
pub mod GivenLaws
