pub mod Verdicts
pub mod Lines
pub mod Opens
pub mod Asking
pub mod Asks
pub mod Reports
pub mod Parking
