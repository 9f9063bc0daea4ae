use Rattle.mq_spec_manager.specs.Words.{mqconn, mqopen, mqclose, mqput, mqput1, mqget, mqcmit, mqback, mqdisc}
use Rattle.mq_law_manager.proofs.Puts.{mqconn_keeps, mqopen_keeps, mqclose_keeps, mqput_keeps, mqput1_keeps}
use Rattle.mq_law_manager.proofs.Removals.{mqget_keeps}
use Rattle.mq_law_manager.proofs.Units.{mqcmit_keeps, mqback_keeps, mqdisc_keeps}
use Rattle.mq_law_manager.proofs.Stocks.{conn_stocked, open_stocked, close_stocked, put_stocked, put1_stocked, get_stocked, cmit_stocked, back_stocked, disc_stocked}
use Rattle.mq_law_manager.proofs.Ending.{joined}
use Rattle.mq_law_manager.proofs.applications_keep_the_facts.Goals as goal

pub returns : goal.returns
returns c = record {
  connects = λ qmgr appl p h. joined (mqconn qmgr appl p) p h (mqconn_keeps qmgr appl p h.facts) (conn_stocked qmgr appl p h.stocked);
  opens = λ hc name qmgr how p h. joined (mqopen hc name qmgr how p) p h (mqopen_keeps hc name qmgr how p h.facts) (open_stocked hc name qmgr how p h.stocked);
  closes = λ hc ho p h. joined (mqclose hc ho p) p h (mqclose_keeps hc ho p h.facts) (close_stocked hc ho p h.stocked);
  puts = λ hc ho md body sync p h. joined (mqput hc ho md body sync p) p h (mqput_keeps hc ho md body sync p h.facts) (put_stocked hc ho md body sync p h.stocked);
  puts_once = λ hc name qmgr md body sync p h. joined (mqput1 hc name qmgr md body sync p) p h (mqput1_keeps hc name qmgr md body sync p h.facts) (put1_stocked hc name qmgr md body sync p h.stocked);
  gets = λ hc ho g until p h. joined (mqget hc ho g until p) p h (mqget_keeps hc ho g until p h.facts) (get_stocked hc ho g until p h.stocked);
  commits = λ hc p h. joined (mqcmit hc p) p h (mqcmit_keeps hc p h.facts) (cmit_stocked hc p h.stocked);
  backs_out = λ hc p h. joined (mqback hc p) p h (mqback_keeps hc p h.facts) (back_stocked hc p h.facts h.stocked);
  disconnects = λ hc p h. joined (mqdisc hc p) p h (mqdisc_keeps hc p h.facts) (disc_stocked hc p h.stocked);
}
