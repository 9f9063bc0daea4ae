-- A batch that has one ident twice, computed: one message is placed, and the receiver's commit tells one.
use Rattle.std.specs.Prelude.{◌≡◌, pos, [], ◌∷◌, Some, None, map, codes, refl}
use Rattle.mq_history.specs.from_message.{Message}
use Rattle.mq_history.specs.from_frame.SeenVariants as items
use Rattle.mq_history.specs.from_queue.{Row}
use Rattle.mq_receiver.specs.States.{receiver_of}
use Rattle.mq_sender.specs.from_sync.Units.{unit_named}
use Rattle.mq_history.specs.from_calls.Reads.{stored}
use Rattle.mq_history.specs.from_calls.Steps.{do_all}
use Rattle.mq_spec_manager.specs.Agents.{receive}
use Rattle.mq_spec_manager.proofs.Script.{script_md, ident_numbers}
use Rattle.mq_spec_node.specs.Node.{Node, ReceiverEnd}
use Rattle.mq_spec_node.specs.Deeds.{Deed}
use Rattle.mq_spec_node.specs.Receivers.{place_deed}
use Rattle.mq_spec_node.proofs.Pair.{paris, at_paris, channel}

abbrev pub message : Message
message = record {
  ident = record { manager = 1; incarnation = 1; number = 1 };
  md = script_md (pos 0) (pos 1);
  route = Some (record { queue = codes "Q1"; qmgr = codes "PARIS" });
  deadline = None;
  body = codes "HELLO";
}

abbrev twice : ReceiverEnd
twice = record { cable = 0; channel = channel; partner = codes "LONDON"; machine = receiver_of None; kept = message ∷ message ∷ [] }

abbrev here : Node
here = paris at_paris []

abbrev deed : Deed
deed = place_deed twice (unit_named 1 1) items.Nothing (receive channel (unit_named 1 1) 2 twice.kept here.manager) here

told_once : map (λ (m : Message). ident_numbers m.ident) deed.received ≡ (1 ∷ 1 ∷ 1 ∷ []) ∷ []
told_once = refl

placed_once : map (λ (row : Row). ident_numbers row.message.ident) (stored (codes "Q1") (do_all deed.parts here.manager)).rows ≡ (1 ∷ 1 ∷ 1 ∷ []) ∷ []
placed_once = refl
