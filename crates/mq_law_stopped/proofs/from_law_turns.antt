-- Laws of mq_law_turns, passed on to the crates above.
pub use Rattle.mq_law_turns.proofs.Agreeing as Agreeing
pub use Rattle.mq_law_turns.proofs.Beginning as Beginning
pub use Rattle.mq_law_turns.proofs.FarOperating as FarOperating
pub use Rattle.mq_law_turns.proofs.Keeping as Keeping
pub use Rattle.mq_law_turns.proofs.Operating as Operating
pub use Rattle.mq_law_turns.proofs.OperatorSounds as OperatorSounds
pub use Rattle.mq_law_turns.proofs.Parts as Parts
pub use Rattle.mq_law_turns.proofs.Posting as Posting
pub use Rattle.mq_law_turns.proofs.Reading as Reading
pub use Rattle.mq_law_turns.proofs.Sending as Sending
pub use Rattle.mq_law_turns.proofs.Sounds as Sounds
pub use Rattle.mq_law_turns.proofs.Taking as Taking
