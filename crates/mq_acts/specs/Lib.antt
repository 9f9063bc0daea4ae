pub mod Restarts
pub mod Shows
pub mod Asks
pub mod Serving
pub mod Advances
pub mod from_events
