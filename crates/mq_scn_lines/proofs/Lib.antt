pub mod WordLaws
pub mod OperandLaws
pub mod FaultLaws
