pub mod from_heads
