pub mod Findings
pub mod Polynomials
