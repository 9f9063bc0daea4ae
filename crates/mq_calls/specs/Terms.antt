-- The words of the crates below: plain data of messages, objects, routes, channels and calls.
pub use Rattle.mq_resolve.specs.from_codes.{Reason}
pub use Rattle.mq_queue.specs.from_message.{Dest, Holder, Ident, Md, Message, Place, Want}
pub use Rattle.mq_resolve.specs.from_objects.{Channel, ChannelKind, Command, Definitions, LocalQueue, ManagerAttributes, Object, ObjectChange, Process, Subject, TriggerType}
pub use Rattle.mq_resolve.specs.declared.route.Route.{Route}
pub use Rattle.mq_resolve.specs.declared.route.RouteEnd.{RouteEnd}
pub use Rattle.mq_resolve.specs.declared.route.PathStep.{PathStep}
pub use Rattle.mq_resolve.specs.declared.path.Path.{Path}
pub use Rattle.mq_sync.specs.declared.unit.Unit.{Unit as Luw}
pub use Rattle.mq_sync.specs.declared.unit.Settle.{Settle}
pub use Rattle.mq_sync.specs.declared.data.End.{End}
pub use Rattle.mq_sync.specs.declared.data.InDoubt.{InDoubt}
pub use Rattle.mq_sync.specs.declared.data.Doubt.{Doubt}
pub use Rattle.mq_sync.specs.declared.data.SenderData.{SenderData}
pub use Rattle.mq_sync.specs.declared.data.ReceiverData.{ReceiverData}
pub use Rattle.mq_sync.specs.declared.data.ChannelData.{ChannelData}
pub use Rattle.mq_sync.specs.declared.data.Stock.{Stock}
pub use Rattle.mq_calls.specs.declared.image.Shelf.{Shelf}
pub use Rattle.mq_calls.specs.declared.image.Image.{Image}
pub use Rattle.mq_calls.specs.declared.state.Item.{Item}
pub use Rattle.mq_calls.specs.declared.state.Handle.{Handle}
pub use Rattle.mq_calls.specs.declared.state.Connection.{Connection}
pub use Rattle.mq_calls.specs.declared.state.Seizure.{Seizure}
pub use Rattle.mq_calls.specs.declared.state.Batch.{Batch}
pub use Rattle.mq_calls.specs.declared.state.SenderSide.{SenderSide}
pub use Rattle.mq_calls.specs.declared.state.ReceiverSide.{ReceiverSide}
pub use Rattle.mq_calls.specs.declared.choices.Choice.{Choice}
pub use Rattle.mq_calls.specs.declared.choices.Return.{Return}
pub use Rattle.mq_calls.specs.declared.records.Add.{Add}
pub use Rattle.mq_calls.specs.declared.records.Remove.{Remove}
pub use Rattle.mq_calls.specs.declared.records.LogRecord.{LogRecord}
pub use Rattle.mq_calls.specs.declared.commands.Shown.{Shown}
pub use Rattle.mq_calls.specs.declared.commands.ScRefusal.{ScRefusal}
pub use Rattle.mq_calls.specs.declared.commands.RestartFault.{RestartFault}
pub use Rattle.mq_calls.specs.declared.commands.BeginFault.{BeginFault}
pub use Rattle.mq_calls.specs.declared.commands.Kept.{Kept}
pub use Rattle.mq_calls.specs.declared.commands.Halt.{Halt}
pub use Rattle.mq_calls.specs.declared.deltas.Why.{Why}
pub use Rattle.mq_calls.specs.declared.deltas.Did.{Did}
pub use Rattle.mq_calls.specs.declared.answers.Hconn.{Hconn}
pub use Rattle.mq_calls.specs.declared.answers.Hobj.{Hobj}
pub use Rattle.mq_calls.specs.declared.answers.Appl.{Appl}
pub use Rattle.mq_calls.specs.declared.answers.Answer.{Answer}
pub use Rattle.mq_calls.specs.declared.answers.Input.{Input}
pub use Rattle.mq_calls.specs.declared.answers.Open.{Open}
pub use Rattle.mq_calls.specs.declared.answers.Sent.{Sent}
pub use Rattle.mq_calls.specs.declared.answers.Take.{Take}
pub use Rattle.mq_calls.specs.declared.answers.Get.{Get}
pub use Rattle.mq_calls.specs.declared.answers.Got.{Got}
pub use Rattle.mq_calls.specs.declared.answers.GetAnswer.{GetAnswer}
pub use Rattle.mq_calls.specs.declared.agents.AgentStop.{AgentStop}
pub use Rattle.mq_calls.specs.declared.agents.SeizeFault.{SeizeFault}
pub use Rattle.mq_calls.specs.declared.agents.PrepareFault.{PrepareFault}
pub use Rattle.mq_calls.specs.declared.agents.PlaceFault.{PlaceFault}
pub use Rattle.mq_calls.specs.declared.agents.Note.{Note}
pub use Rattle.mq_sync.specs.Units.{no_unit, unit_named, same_unit, Below, Upto}
pub use Rattle.mq_sync.specs.Settlement.{data_settled, data_prepared, settle_by, is_commit, sender_or, receiver_or}
pub use Rattle.mq_calls.specs.Reading.{failed_by, value_of}
pub use Rattle.mq_queue.specs.declared.row.Row.{Row}
pub use Rattle.mq_queue.specs.Rows.{same_ident, has_ident, is_free, is_after, is_wanted, same_place, held_by, keep, retag, insert_row}
pub use Rattle.mq_resolve.specs.from_objects.Names.{queue_of, local_of, locals_of, process_of, channel_of, is_transmission, is_by_priority}
