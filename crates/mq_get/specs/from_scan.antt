-- Definitions of mq_scan, passed on to the crates above.
pub use Rattle.mq_scan.specs.Scans as Scans
pub use Rattle.mq_scan.specs.declared.scanning.Met.{Met}
