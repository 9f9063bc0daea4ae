-- What holds of a manager holds behind each part of each call, command, trigger and turn of a handler, and of a timeout.
use Rattle.std.proofs.Common.{ℕ, ◌≡◌, Bool, true, false, List, [], ◌∷◌}
use Rattle.std.specs.Prelude.{Option, Some, None, if◌then◌else◌}
use Rattle.mq_queue.specs.declared.row.Row.{Row}
use Rattle.mq_objects.specs.Names.{local_of}
use Rattle.mq_frame.specs.declared.frame.Seen.{Seen}
use Rattle.mq_sender.specs.States.{awaits, is_running, timed_out}
use Rattle.mq_history.specs.declared.calls.Actor.{Actor}
use Rattle.mq_history.specs.declared.calls.Call.{Call}
use Rattle.mq_calls.specs.State.{Plain}
use Rattle.mq_calls.specs.Steps.{Part, Step, do_all, do_part}
use Rattle.mq_spec_manager.specs.Words.{mqconn, mqopen, mqclose, mqput, mqput1, mqget, mqcmit, mqback, mqdisc, command, trigger_turn}
use Rattle.mq_spec_manager.specs.Conditions.{CanMove}
use Rattle.mq_spec_manager.specs.Agents.{discard, leave, move_row}
use Rattle.mq_spec_node.specs.Node.{Handler, Node, SenderEnd}
use Rattle.mq_spec_node.specs.Deeds.{Deed, parts_of}
use Rattle.mq_spec_node.specs.Handlers as handlers
use Rattle.mq_spec_node.specs.Senders.{after_timeout, timeout_deed}
use Rattle.mq_spec_node.specs.Happens.{deed_of}
use Rattle.mq_law_manager.specs.Facts.{IsSound}
use Rattle.mq_law_manager.specs.Kept.{AllKeep, StepKeeps}
use Rattle.mq_law_manager.proofs.Lists.{bool_case}
use Rattle.mq_law_manager.proofs.Puts.{mqconn_keeps, mqopen_keeps, mqclose_keeps, mqput_keeps, mqput1_keeps}
use Rattle.mq_law_manager.proofs.Removals.{mqget_keeps}
use Rattle.mq_law_manager.proofs.Units.{mqcmit_keeps, mqback_keeps, mqdisc_keeps}
use Rattle.mq_law_manager.proofs.Commanding.{command_keeps}
use Rattle.mq_law_manager.proofs.Handling.{discard_keeps, leave_keeps, move_row_keeps, trigger_turn_keeps}
use Rattle.mq_law_manager.proofs.StockCommands.{command_stocked}
use Rattle.mq_law_manager.proofs.Stocks.{conn_stocked, open_stocked, close_stocked, put_stocked, put1_stocked, get_stocked, cmit_stocked, back_stocked, disc_stocked, discard_stocked, leave_stocked, move_stocked, trigger_stocked}
use Rattle.mq_law_manager.proofs.Ending.{joined}
use Rattle.mq_law_node.specs.Quiet.{IsOrdinary}
use Rattle.mq_law_unshared.specs.Ordinary.{CallsHave, EachHas}
use Rattle.mq_law_unshared.proofs.Deeds.{parts_keep}
use Rattle.mq_law_node.proofs.Letters.{can_move, letter_of}
use Rattle.mq_law_unshared.proofs.Ordinary.{ordinary_has}
use Rattle.mq_law_turns.specs.Turns.{EachSound}

-- behind all parts
pub behind : (parts : List Part) (p : Plain) → IsSound p → AllKeep IsSound parts p → IsSound (do_all parts p)
behind [] p h k = h
behind (part ∷ parts) p h k = behind parts (do_part part p) k.0 k.1

-- the handler: what it reads may be moved
letter_moves : (q : List ℕ) (h : Handler) (p : Plain) (x : Row) (bare : Bool) → IsSound p → handlers.is_readable (local_of q p.definitions) ≡ true → handlers.next_letter q h p ≡ Some x → CanMove q x.message.ident bare p
letter_moves q h p x bare sound readable e = can_move q p x bare sound (letter_of q h p x readable e)

-- what a step keeps, its parts keep
kept : {F T : Type 0} (s : Step F T) (p : Plain) → StepKeeps IsSound s p → AllKeep IsSound (parts_of s) p
kept s p k = parts_keep IsSound s p k

-- timeouts
pub timeouts_kept : (e : SenderEnd) (n : Node) → IsSound n.manager → EachSound n.manager (timeout_deed e n)
timeouts_kept e n h = bool_case (awaits e.machine.state) (λ b. EachSound n.manager (if b then Some (after_timeout e (timed_out e.machine) n) else None))
    (λ z. bool_case (is_running (timed_out e.machine).state) (λ b. AllKeep IsSound (if b then [] else parts_of (leave e.channel n.manager)) n.manager) (λ f. tt)
    (λ f. kept (leave e.channel n.manager) n.manager (joined (leave e.channel n.manager) n.manager h (leave_keeps e.channel n.manager h.facts) (leave_stocked e.channel n.manager h.stocked))))
    (λ z. tt)

-- ALL ORDINARY DEEDS
sound_calls : (p : Plain) → IsSound p → CallsHave (λ parts. AllKeep IsSound parts p) p
sound_calls p h = record {
  none = tt;
  connects = λ qmgr appl. kept (mqconn qmgr appl p) p (joined (mqconn qmgr appl p) p h (mqconn_keeps qmgr appl p h.facts) (conn_stocked qmgr appl p h.stocked));
  opens = λ hc name qmgr how. kept (mqopen hc name qmgr how p) p (joined (mqopen hc name qmgr how p) p h (mqopen_keeps hc name qmgr how p h.facts) (open_stocked hc name qmgr how p h.stocked));
  closes = λ hc ho. kept (mqclose hc ho p) p (joined (mqclose hc ho p) p h (mqclose_keeps hc ho p h.facts) (close_stocked hc ho p h.stocked));
  puts = λ hc ho md body sync. kept (mqput hc ho md body sync p) p (joined (mqput hc ho md body sync p) p h (mqput_keeps hc ho md body sync p h.facts) (put_stocked hc ho md body sync p h.stocked));
  puts_once = λ hc name qmgr md body sync. kept (mqput1 hc name qmgr md body sync p) p (joined (mqput1 hc name qmgr md body sync p) p h (mqput1_keeps hc name qmgr md body sync p h.facts) (put1_stocked hc name qmgr md body sync p h.stocked));
  gets = λ hc ho get until. kept (mqget hc ho get until p) p (joined (mqget hc ho get until p) p h (mqget_keeps hc ho get until p h.facts) (get_stocked hc ho get until p h.stocked));
  commits = λ hc. kept (mqcmit hc p) p (joined (mqcmit hc p) p h (mqcmit_keeps hc p h.facts) (cmit_stocked hc p h.stocked));
  backs_out = λ hc. kept (mqback hc p) p (joined (mqback hc p) p h (mqback_keeps hc p h.facts) (back_stocked hc p h.facts h.stocked));
  disconnects = λ hc. kept (mqdisc hc p) p (joined (mqdisc hc p) p h (mqdisc_keeps hc p h.facts) (disc_stocked hc p h.stocked));
  obeys = λ c. kept (command c p) p (joined (command c p) p h (command_keeps c p h.stocked.rows h.facts) (command_stocked c p h.stocked));
  triggers = kept (trigger_turn p) p (joined (trigger_turn p) p h (trigger_turn_keeps p h.facts) (trigger_stocked p h.stocked));
  moves = λ q handler x to bare readable found.
      let can : CanMove q x.message.ident bare p = letter_moves q handler p x bare h readable found in
      kept (move_row q x.message.ident to bare p) p (joined (move_row q x.message.ident to bare p) p h (move_row_keeps q x.message.ident to bare p h.facts can) (move_stocked q x.message.ident to bare p can h.facts h.stocked));
  discards = λ q handler x readable found. kept (discard q x.message.ident p) p
      (joined (discard q x.message.ident p) p h (discard_keeps q x.message.ident p h.facts (letter_moves q handler p x false h readable found).free) (discard_stocked q x.message.ident p h.stocked));
}

each_sound : (p : Plain) (o : Option Deed) → EachHas (λ parts. AllKeep IsSound parts p) o → EachSound p o
each_sound p None k = k
each_sound p (Some d) k = k

pub ordinary_kept : (stamp : ℕ) (actor : Actor) (call : Call) (seen : Seen) (n : Node) → IsOrdinary actor call → IsSound n.manager → EachSound n.manager (deed_of stamp actor call seen n)
ordinary_kept stamp actor call seen n o h = each_sound n.manager (deed_of stamp actor call seen n) (ordinary_has (λ parts. AllKeep IsSound parts n.manager) stamp actor call seen n o (sound_calls n.manager h))
