-- Words of the layers below that the program's call names.
pub use Rattle.mq_world.specs.Words.{IsTextCommand}
pub use Rattle.mq_law_ran.specs.Runs.{Left}
pub use Rattle.mq_law_ran.specs.Promises.{GotOnce, IsPromised, OrderKept, RestartsAreOwn, RowsAreLedgers, StandOnce}
pub use Rattle.mq_base.specs.Outside.{Rose}
pub use Rattle.mq_history.specs.Scenarios.{ArePhased, IsScenario}
pub use Rattle.mq_law_ran.specs.Runs.{standing_left}
pub use Rattle.mq_law_ran.specs.from_net_ledger.Opened.{AreOpened}
pub use Rattle.mq_nodes.specs.Carried.{AreCarriedSoFar}
pub use Rattle.mq_nodes.specs.Course.{Ready, Rests}
pub use Rattle.mq_nodes.specs.Runs.{Unmarked}
pub use Rattle.mq_nodes.specs.Texts.{AllFit}
pub use Rattle.mq_nodes.specs.Told.{Has, PhaseTold, Ran}
pub use Rattle.mq_run.specs.Ends.{DidAll, LeftEnds, RanOn, RunEnds, StepsEnd, WholeEnds, left}
pub use Rattle.mq_run.specs.Forms.{EndsBy}
pub use Rattle.mq_run.specs.declared.reporting.Form.TheVariants.{Line}
pub use Rattle.mq_run.specs.Leaves.{AreTimed, DiskRose, cable_stands, cables_stand, left_of, manager_stands, node_at_rest, stands_at_rest}
pub use Rattle.mq_run.specs.Statuses.{net_status, status_number, stop_status, verdict_status}
pub use Rattle.mq_spec_network.specs.Apart.{apart}
pub use Rattle.mq_spec_network.specs.Lawful.{AreOwn, AreSteps, IsDone}
pub use Rattle.mq_law_ran.specs.from_standing.Stands.{receiver_standing, sender_standing}
pub use Rattle.mq_story.specs.Spots.{AreRising}
pub use Rattle.mq_world.specs.Starting.{IsFresh}
pub use Rattle.mq_world.specs.Words.{IsRested, IsRisen, counts_in, course_in}
