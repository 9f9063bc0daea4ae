-- Definitions of mq_law_rows, passed on to the crates above.
pub use Rattle.mq_law_rows.specs.Beginning as Beginning
pub use Rattle.mq_law_rows.specs.Families as Families
pub use Rattle.mq_law_rows.specs.Kinds as Kinds
pub use Rattle.mq_law_rows.specs.Ordered as Ordered
pub use Rattle.mq_law_rows.specs.World as World
