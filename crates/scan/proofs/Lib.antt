pub mod BadLaws
pub mod BlockLaws
pub mod FormedLaws
