pub mod lemmas
mod Fitting
mod Doing
mod Cut
mod Searching
