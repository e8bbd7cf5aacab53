pub mod lemmas
mod SteppingBack
mod Ending
