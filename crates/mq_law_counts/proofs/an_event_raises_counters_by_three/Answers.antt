use Rattle.mq_law_counts.proofs.Climbing.{within}
use Rattle.mq_law_counts.proofs.Deeds.{event_climbs}
use Rattle.mq_law_counts.proofs.Counted.{counted}
use Rattle.mq_law_counts.proofs.Opening.{opened_within}
use Rattle.mq_law_counts.proofs.an_event_raises_counters_by_three.Goals as goal

pub returns : goal.returns
returns c = record { events = event_climbs; within = within; begins = opened_within; counted = counted }
