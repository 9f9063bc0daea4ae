-- Definitions of mq_scn_script, passed on to the crates above.
pub use Rattle.mq_scn_script.specs.Bodies as Bodies
pub use Rattle.mq_scn_script.specs.Lines as Lines
