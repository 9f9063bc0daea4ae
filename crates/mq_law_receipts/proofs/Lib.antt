pub mod Coming
pub mod Knowing
pub mod Landing
pub mod Receiving
pub mod Numbering
pub mod Cabling
pub mod Losing
