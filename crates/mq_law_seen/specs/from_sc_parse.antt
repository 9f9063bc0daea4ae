-- Definitions of mq_sc_parse, passed on to the crates above.
pub use Rattle.mq_law_rows.specs.from_sc_parse.CommandVariants as CommandVariants
