mod Entries
mod Lent
mod Numbered
mod Places
