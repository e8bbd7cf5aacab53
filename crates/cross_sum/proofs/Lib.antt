mod Lengths
mod Runs
