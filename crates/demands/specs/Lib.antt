pub mod Demand3
pub mod PairsBack
pub mod ActiveRoles
pub mod Hands
