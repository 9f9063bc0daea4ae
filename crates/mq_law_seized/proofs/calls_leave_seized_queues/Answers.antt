use Rattle.mq_spec_manager.specs.Handles.{mqclose, mqconn}
use Rattle.mq_spec_manager.specs.Put.{mqput, mqput1}
use Rattle.mq_spec_manager.specs.Units.{mqback, mqcmit, mqdisc}
use Rattle.mq_law_seized.proofs.Calling as calling
use Rattle.mq_law_seized.proofs.CommonCalls.{mqback_common, mqclose_common, mqcmit_common, mqconn_common, mqdisc_common, mqput1_common, mqput_common}
use Rattle.mq_law_seized.proofs.Bare.{common_leaves}
use Rattle.mq_law_seized.proofs.calls_leave_seized_queues.Goals as goal

pub returns : goal.returns
returns c = record {
  connects = λ qmgr appl p h. common_leaves (mqconn qmgr appl p) p (mqconn_common qmgr appl p) h;
  opens = calling.opens;
  closes = λ hc ho p h. common_leaves (mqclose hc ho p) p (mqclose_common hc ho p) h;
  puts = λ hc ho md body sync p h. common_leaves (mqput hc ho md body sync p) p (mqput_common hc ho md body sync p) h;
  puts_once = λ hc name qmgr md body sync p h. common_leaves (mqput1 hc name qmgr md body sync p) p (mqput1_common hc name qmgr md body sync p) h;
  gets = calling.gets;
  commits = λ hc p h. common_leaves (mqcmit hc p) p (mqcmit_common hc p) h;
  backs_out = λ hc p h. common_leaves (mqback hc p) p (mqback_common hc p) h;
  disconnects = λ hc p h. common_leaves (mqdisc hc p) p (mqdisc_common hc p) h;
}
