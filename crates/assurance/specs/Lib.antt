pub mod Served
pub mod AnyOrder
pub mod Zero
