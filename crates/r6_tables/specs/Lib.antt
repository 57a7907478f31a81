pub mod Inside
pub mod Lends
pub mod Places
pub mod Table
