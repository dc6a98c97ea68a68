pub mod Automaton
pub mod Inner
pub mod Machine
pub mod Shape
