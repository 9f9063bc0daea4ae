-- Laws of mq_events, passed on to the crates above.
pub use Rattle.mq_events.proofs.entries.Entries.TheSendSync as EntriesSendSync
pub use Rattle.mq_events.proofs.state.Opening.TheSendSync as OpeningSendSync
