pub mod Masks
pub mod Given
pub mod Giving
pub mod Printing
