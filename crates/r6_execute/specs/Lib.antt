pub mod Commands
pub mod Faults
pub mod Layouts
pub mod Reports
pub mod Status
pub mod Source
