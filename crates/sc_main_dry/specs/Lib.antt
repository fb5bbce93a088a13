pub mod Lines
pub mod Texts
pub mod Printed
pub mod Lending
pub mod Reports
pub mod Sums
