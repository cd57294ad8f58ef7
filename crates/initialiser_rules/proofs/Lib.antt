mod Pieces
mod Reading
mod Stepping
mod Going
mod Fits
mod Trying
