pub mod OfferLaws
pub mod Taking
pub mod Fits
pub mod MadeLaws
