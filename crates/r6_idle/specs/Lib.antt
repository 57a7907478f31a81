pub mod Idles
pub mod Tallies
pub mod Wakers
