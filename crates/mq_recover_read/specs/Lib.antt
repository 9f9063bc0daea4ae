pub mod from_spec_log
