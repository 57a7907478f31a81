pub mod Fronts
pub mod Locality
pub mod Refusing
pub mod Telling
pub mod Events
pub mod Served
