-- Definitions of mq_record, passed on to the crates above.
pub use Rattle.mq_sides.specs.from_record.Records as Records
pub use Rattle.mq_sides.specs.from_record.Room as Room
