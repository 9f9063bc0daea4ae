-- Definitions of mq_law_image, passed on to the crates above.
pub use Rattle.mq_law_image.specs.Bounds as Bounds
pub use Rattle.mq_law_image.specs.Values as Values
