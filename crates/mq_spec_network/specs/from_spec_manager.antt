-- Definitions of mq_spec_manager, passed on to the crates above.
pub use Rattle.mq_spec_node.specs.from_spec_manager.Get as Get
pub use Rattle.mq_spec_node.specs.from_spec_manager.Handles as Handles
pub use Rattle.mq_spec_node.specs.from_spec_manager.Put as Put
pub use Rattle.mq_spec_node.specs.from_spec_manager.Stops as Stops
