-- Definitions of mq_law_image, passed on to the crates above.
pub use Rattle.mq_law_image.specs.SoFar as SoFar
pub use Rattle.mq_law_image.specs.Tells as Tells
