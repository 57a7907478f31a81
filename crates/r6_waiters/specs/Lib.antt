pub mod Inside
pub mod Keys
pub mod Line
pub mod Positions
pub mod Sets
