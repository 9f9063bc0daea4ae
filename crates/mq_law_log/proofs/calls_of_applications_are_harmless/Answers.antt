use Rattle.mq_law_log.proofs.Applications.{conn_harmless, open_harmless, close_harmless, put_harmless_whole, put1_harmless, get_harmless, cmit_harmless, back_harmless, disc_harmless}
use Rattle.mq_law_log.proofs.calls_of_applications_are_harmless.Goals as goal

pub returns : goal.returns
returns c = record {
  connects = λ qmgr appl p h. conn_harmless qmgr appl p;
  opens = λ hc name qmgr how p h. open_harmless hc name qmgr how p;
  closes = λ hc ho p h. close_harmless hc ho p;
  puts = put_harmless_whole;
  puts_once = put1_harmless;
  gets = get_harmless;
  commits = cmit_harmless;
  backs_out = back_harmless;
  disconnects = disc_harmless;
}
