pub mod Digests
mod Pairs
