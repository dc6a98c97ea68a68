mod Accepting
mod Breaching
mod Filling
mod Mentioning
mod Naming
mod Unique
mod Wishes
