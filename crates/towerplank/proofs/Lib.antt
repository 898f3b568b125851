pub mod OneTold
