use Rattle.mq_law_events.proofs.Events as events
use Rattle.mq_law_events.proofs.Getting as getting
use Rattle.mq_law_events.proofs.Leaving as leaving
use Rattle.mq_law_events.proofs.Sounds.{listed}
use Rattle.mq_law_events.proofs.calls_of_applications_follow.Goals as goal

pub returns : goal.returns
returns c = record {
  connects = events.connects;
  opens = events.opens;
  closes = events.closes;
  puts = events.puts;
  puts_once = events.puts_once;
  gets = λ m given p l hc ho get until f t h. getting.gets m given p l hc ho get until f t (λ d. h.facts.apart.once d);
  commits = λ m given p l hc f t h. events.commits m given p l hc f t (listed hc.number p h);
  backs_out = λ m given p l hc f t h. events.backs_out m given p l hc f t (listed hc.number p h);
  disconnects = λ m given p l hc f t h. leaving.disconnects m given p l hc f t (listed hc.number p h);
}
