-- Definitions of mq_law_image, passed on to the crates above.
pub use Rattle.mq_manager.specs.from_law_image.Bounds as Bounds
