pub mod Classes
pub mod Factors
pub mod Known
pub mod Laws
pub mod Restores
pub mod RowBuf
pub mod Rows
