pub mod Agree
pub mod ServedSound
pub mod Zero
pub mod AnyOrder
