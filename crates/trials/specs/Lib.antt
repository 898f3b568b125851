pub mod Trial
pub mod Pairs
pub mod PairsBack
pub mod Staff
pub mod Orders
pub mod Guarded
pub mod Tried
