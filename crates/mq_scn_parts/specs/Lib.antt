pub mod Declared
pub mod Cables
pub mod Heading
pub mod Steps
