mod Fixing
mod Stepping
mod Asked
mod Going
mod Existing
mod Beginning
mod Walkable
