-- Definitions of mq_resolve, passed on to the crates above.
pub use Rattle.mq_resolve.specs.Resolved as Resolved
pub use Rattle.mq_resolve.specs.declared.route.PathStep.TheVariants as PathStepVariants
pub use Rattle.mq_resolve.specs.declared.route.PathStep.{PathStep}
pub use Rattle.mq_resolve.specs.declared.route.Route.{Route}
pub use Rattle.mq_resolve.specs.declared.route.RouteEnd.TheVariants as RouteEndVariants
pub use Rattle.mq_resolve.specs.declared.route.RouteEnd.{RouteEnd}
pub use Rattle.mq_resolve.specs.declared.way.Way.{Way}
