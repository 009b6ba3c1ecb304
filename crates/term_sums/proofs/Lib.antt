pub mod Common
pub mod Stored
pub mod PolynomialRules
pub mod MultipleRules
pub mod AmountRules
pub mod DifferenceRules
pub mod ComplementRules
