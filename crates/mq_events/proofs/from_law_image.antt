-- Laws of mq_law_image, passed on to the crates above.
pub use Rattle.mq_manager.proofs.from_law_image.Growing as Growing
