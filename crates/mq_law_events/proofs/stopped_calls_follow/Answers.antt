use Rattle.mq_spec_manager.specs.Commands.{command}
use Rattle.mq_spec_manager.specs.Put.{mqput, mqput1}
use Rattle.mq_spec_manager.specs.Units.{mqcmit, mqdisc}
use Rattle.mq_law_manager.proofs.ShortSteps as shorts
use Rattle.mq_law_events.proofs.Halting as halting
use Rattle.mq_law_events.proofs.stopped_calls_follow.Goals as goal

pub returns : goal.returns
returns c = record {
  puts = λ m given p l hc ho md body sync f t. halting.step_stops m given p l (mqput hc ho md body sync p) f t (shorts.put_short hc ho md body sync p);
  puts_once = λ m given p l hc name qmgr md body sync f t. halting.step_stops m given p l (mqput1 hc name qmgr md body sync p) f t (shorts.put1_short hc name qmgr md body sync p);
  gets = λ m given p l hc ho get until f t h. halting.gets_stop m given p l hc ho get until f t (λ d. h.facts.apart.once d);
  commits = λ m given p l hc f t. halting.step_stops m given p l (mqcmit hc p) f t (shorts.commit_short hc p);
  disconnects = λ m given p l hc f t. halting.step_stops m given p l (mqdisc hc p) f t (shorts.disc_short hc p);
  commands = λ m given p l c f t. halting.step_stops m given p l (command c p) f t (shorts.command_short c p);
}
