use Rattle.std.proofs.Common.{sym, subst}
use Rattle.mq_calls.specs.State.{Plain}
use Rattle.mq_law_seen.specs.from_spec_network.Ledger as ledgers
use Rattle.mq_law_events.specs.Tied.{Follow}
use Rattle.mq_law_events.proofs.Calling as calling
use Rattle.mq_law_events.proofs.Stopping as stopping
use Rattle.mq_law_events.proofs.Sounds.{restart_fresh}
use Rattle.mq_law_events.proofs.commands_stops_and_restarts_follow.Goals as goal

pub returns : goal.returns
returns c = record {
  commands = calling.objects_follow;
  stops = λ m given p l running f t none. subst (λ (z : Plain). Follow m given p l (record z { running = running }) (ledgers.stop m l)) (sym (stopping.stops_so p none)) (stopping.stop_follows m given p l running f t none);
  freezes = stopping.freezes;
  restarts = λ m given p l started log f t none. stopping.restart_follows m given p l started log t none (restart_fresh given p started log f);
}
