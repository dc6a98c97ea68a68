-- the stages of loading
pub mod Stages
