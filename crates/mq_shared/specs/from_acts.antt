-- Definitions of mq_acts, passed on to the crates above.
pub use Rattle.mq_acts.specs.Advances as Advances
pub use Rattle.mq_acts.specs.Asks as Asks
pub use Rattle.mq_acts.specs.Restarts as Restarts
pub use Rattle.mq_acts.specs.Serving as Serving
