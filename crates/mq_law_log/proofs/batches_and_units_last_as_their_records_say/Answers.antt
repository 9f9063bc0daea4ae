use Rattle.mq_law_log.proofs.Harmless.{prepare_harmless, number_harmless}
use Rattle.mq_law_log.proofs.Batches.{holding_aside, releasing_aside}
use Rattle.mq_law_log.proofs.Changes.{aside_lasts, unit_holds_aside}
use Rattle.mq_law_log.proofs.Parts.{pend_does, taking_does}
use Rattle.mq_law_log.proofs.batches_and_units_last_as_their_records_say.Goals as goal

pub returns : goal.returns
returns c = record { prepared = prepare_harmless; numbers = number_harmless; batches = holding_aside; releases = releasing_aside; units = unit_holds_aside; takes = taking_does; asides = aside_lasts; pending = pend_does }
