pub mod Rulings
pub mod Letters
pub mod Treatments
pub mod Turns
