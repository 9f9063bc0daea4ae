-- Laws of mq_manager, passed on to the crates above.
pub use Rattle.mq_manager.proofs.CallLaws as CallLaws
pub use Rattle.mq_manager.proofs.manager.Manager.TheSendSync as ManagerSendSync
