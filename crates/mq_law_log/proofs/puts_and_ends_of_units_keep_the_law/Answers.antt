use Rattle.mq_law_log.proofs.Calls.{mqput_keeps, mqcmit_keeps, mqdisc_keeps}
use Rattle.mq_law_log.proofs.puts_and_ends_of_units_keep_the_law.Goals as goal

pub returns : goal.returns
returns c = record { mqput = mqput_keeps; mqcmit = mqcmit_keeps; mqdisc = mqdisc_keeps }
