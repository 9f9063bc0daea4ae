-- Words of this crate and of the layers below that its clauses name.
pub use Rattle.mq_base.specs.Outside.{IsLonger, Rose}
pub use Rattle.mq_run.specs.Leaves.{left_of}
pub use Rattle.mq_run.specs.Words.{DiskRose, GotOnce, IsRisen, counts_in, IsPromised, OrderKept, RestartsAreOwn, RowsAreLedgers, StandOnce}
pub use Rattle.mq_run.specs.declared.status.BadCause.{BadCause}
pub use Rattle.mq_run.specs.declared.status.Status.TheVariants.{BadScenario, BadWords, DiskFault, ReadFault, TooLong, WriteFault}
pub use Rattle.mq_scn_text.specs.Reading.{scenario_of}
pub use Rattle.mq_top.specs.declared.top.Task.TheVariants.{Read}
pub use Rattle.mq_top.specs.Headline.{Completes, Ends, IsUnread, ReadNoScenario, RefusesBytes, SoakEnds, WasRead, Writes}
pub use Rattle.mq_top.specs.Wanted.{number_task, soak_number, task_of, word_task}
pub use Rattle.mq_top.specs.Work.{FitsTask, FitsWork, IsWork, RefusesText, WorkEnds}
pub use Rattle.mq_law_rest.specs.Rests.{PumpsRest, PumpsTell}
