pub mod Lists
pub mod Ends
pub mod Laws
pub mod Faults
pub mod Offers
pub mod from_message
