pub mod Writes
mod Texts
mod Known
mod Played
mod Stopped
mod Served
mod Verified
