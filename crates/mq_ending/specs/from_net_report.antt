-- Definitions of mq_net_report, passed on to the crates above.
pub use Rattle.mq_net_report.specs.Report as Report
