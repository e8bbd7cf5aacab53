mod Bits
mod Padding
mod Rounds
mod Vectors
