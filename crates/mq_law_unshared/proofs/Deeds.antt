-- Calls, commands on objects, triggers and the handler's turns leave seized queues their senders'.
use Rattle.std.proofs.Common.{ℕ}
use Rattle.std.specs.Prelude.{Some}
use Rattle.mq_frame.specs.declared.frame.Seen.{Seen}
use Rattle.mq_history.specs.declared.calls.Actor.{Actor}
use Rattle.mq_history.specs.declared.calls.Call.{Call}
use Rattle.mq_calls.specs.State.{Plain}
use Rattle.mq_calls.specs.Reads.{is_up, stored}
use Rattle.mq_calls.specs.Steps.{Step}
use Rattle.mq_calls.specs.Steps.Step.{Refuse, Do}
use Rattle.mq_spec_manager.specs.Words.{mqconn, mqopen, mqclose, mqput, mqput1, mqget, mqcmit, mqback, mqdisc, command, trigger_turn}
use Rattle.mq_spec_manager.specs.Agents.{discard, move_row, row_with}
use Rattle.mq_spec_node.specs.Node.{Node}
use Rattle.mq_spec_node.specs.Deeds.{parts_of}
use Rattle.mq_spec_node.specs.Happens.{deed_of}
use Rattle.mq_law_manager.specs.Facts.{IsSound}
use Rattle.mq_law_seized.specs.Each.{IsCommon}
use Rattle.mq_law_manager.specs.Kept.{AllKeep, StepKeeps}
use Rattle.mq_law_seized.proofs.CommonCalls.{discard_common, move_common, mqback_common, mqclose_common, mqcmit_common, mqconn_common, mqdisc_common, mqput1_common, mqput_common, trigger_common}
use Rattle.mq_law_keys.specs.from_law_node.Quiet.{IsOrdinary}
use Rattle.mq_law_seized.specs.Seized.{AreSeized}
use Rattle.mq_law_seized.proofs.Bare.{common_leaves}
use Rattle.mq_law_seized.proofs.Calling.{gets, opens}
use Rattle.mq_law_seized.proofs.Commanding.{obeys}
use Rattle.mq_law_unshared.specs.Ordinary.{CallsHave}
use Rattle.mq_law_unshared.specs.Unshared.{EachLeaves}
use Rattle.mq_law_unshared.proofs.Ordinary.{ordinary_has}

-- what a step keeps, its parts keep
pub parts_keep : {F T : Type 0} (holds : Plain → Type 0) (s : Step F T) (p : Plain) → StepKeeps holds s p → AllKeep holds (parts_of s) p
parts_keep holds (Refuse reason) p k = tt
parts_keep holds (Do reply parts) p k = k

kept : {F T : Type 0} (s : Step F T) (p : Plain) → StepKeeps AreSeized s p → AllKeep AreSeized (parts_of s) p
kept s p k = parts_keep AreSeized s p k

commonly : {F T : Type 0} (s : Step F T) (p : Plain) → IsCommon s → AreSeized p → AllKeep AreSeized (parts_of s) p
commonly s p e h = kept s p (common_leaves s p e h)

seized_calls : (p : Plain) → IsSound p → AreSeized p → CallsHave (λ parts. AllKeep AreSeized parts p) p
seized_calls p sound h = record {
  none = tt;
  connects = λ qmgr appl. commonly (mqconn qmgr appl p) p (mqconn_common qmgr appl p) h;
  opens = λ hc name qmgr how. kept (mqopen hc name qmgr how p) p (opens hc name qmgr how p h);
  closes = λ hc ho. commonly (mqclose hc ho p) p (mqclose_common hc ho p) h;
  puts = λ hc ho md body sync. commonly (mqput hc ho md body sync p) p (mqput_common hc ho md body sync p) h;
  puts_once = λ hc name qmgr md body sync. commonly (mqput1 hc name qmgr md body sync p) p (mqput1_common hc name qmgr md body sync p) h;
  gets = λ hc ho get until. kept (mqget hc ho get until p) p (gets hc ho get until p h);
  commits = λ hc. commonly (mqcmit hc p) p (mqcmit_common hc p) h;
  backs_out = λ hc. commonly (mqback hc p) p (mqback_common hc p) h;
  disconnects = λ hc. commonly (mqdisc hc p) p (mqdisc_common hc p) h;
  obeys = λ c. kept (command c p) p (obeys c p sound h);
  triggers = commonly (trigger_turn p) p (trigger_common (is_up p.running) p) h;
  moves = λ q handler x to bare readable found. commonly (move_row q x.message.ident to bare p) p (move_common q to bare (row_with (Some x.message.ident) (stored q p).rows) p) h;
  discards = λ q handler x readable found. commonly (discard q x.message.ident p) p (discard_common q x.message.ident p) h;
}

pub ordinary_leaves : (stamp : ℕ) (actor : Actor) (call : Call) (seen : Seen) (n : Node) → IsOrdinary actor call → IsSound n.manager → AreSeized n.manager → EachLeaves n.manager (deed_of stamp actor call seen n)
ordinary_leaves stamp actor call seen n o sound h = ordinary_has (λ parts. AllKeep AreSeized parts n.manager) stamp actor call seen n o (seized_calls n.manager sound h)
