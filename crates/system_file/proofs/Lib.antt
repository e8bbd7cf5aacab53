mod Checks
mod Going
mod Pieces
mod Recording
