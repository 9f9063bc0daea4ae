use Rattle.mq_law_log.proofs.Parts.{move_does}
use Rattle.mq_law_log.proofs.Objects.{object_does}
use Rattle.mq_law_log.proofs.Received.{received_does, absent_lands, back_lands}
use Rattle.mq_law_log.proofs.moves_and_object_commands_do_as_their_records_say.Goals as goal

pub returns : goal.returns
returns c = record { moves = move_does; objects = object_does; received = received_does; back = back_lands; absent = absent_lands }
