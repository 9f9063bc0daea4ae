-- Laws of mq_law_image, passed on to the crates above.
pub use Rattle.mq_law_image.proofs.Growing as Growing
