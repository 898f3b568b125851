pub mod Owners
pub mod Rising
