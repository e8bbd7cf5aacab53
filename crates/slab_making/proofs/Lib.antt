mod Blank
mod Writes
