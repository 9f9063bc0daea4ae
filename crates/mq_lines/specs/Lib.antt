pub mod Recalls
