pub mod OneFinding
pub mod UndefinedLaws
