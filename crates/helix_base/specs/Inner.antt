pub mod DigitLaws
pub mod ScalarLaws
