-- Definitions of mq_law_rows, passed on to the crates above.
pub use Rattle.mq_law_seen.specs.from_law_rows.Families as Families
pub use Rattle.mq_law_seen.specs.from_law_rows.Kinds as Kinds
pub use Rattle.mq_law_seen.specs.from_law_rows.Ordered as Ordered
pub use Rattle.mq_law_seen.specs.from_law_rows.World as World
