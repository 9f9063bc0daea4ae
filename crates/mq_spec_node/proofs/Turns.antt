-- A channel's turns, computed from the definitions.
use Rattle.std.specs.Prelude.{◌≡◌, ℕ, true, false, List, [], ◌∷◌, Option, Some, None, map, codes, refl}
use Rattle.mq_history.specs.from_queue.{Row}
use Rattle.mq_history.specs.from_calls.{Open}
use Rattle.mq_history.specs.from_calls.InputVariants as inputs
use Rattle.mq_history.specs.declared.calls.Actor.TheVariants as actors
use Rattle.mq_history.specs.declared.calls.Call.{Call}
use Rattle.mq_history.specs.declared.calls.Call.TheVariants as calls
use Rattle.mq_sender.specs.from_sync.{ReceiverData, SenderData}
use Rattle.mq_history.specs.from_calls.Reads.{stored, sender_data, receiver_data}
use Rattle.mq_spec_manager.proofs.Script.{connection, handle, script_appl, plain_md, ident_numbers}
use Rattle.mq_spec_node.specs.Node.{Node}
use Rattle.mq_spec_node.proofs.Pair.{Pair, pair, london, paris, at_paris, channel, at_sender, runs, rounds, turns, operate, start}

abbrev output_alone : Open
output_alone = record { input = inputs.No; browse = false; output = true }

abbrev pub script : Call → Pair → Pair
script call p = at_sender (actors.Script 0) call runs p

abbrev put : Call
put = calls.Mqput (connection 1) (handle 1) plain_md (codes "HELLO") false

abbrev pub begun : ℕ → Pair
begun batch = script (calls.Mqopen (connection 1) (codes "R1") [] output_alone) (script (calls.Mqconn [] script_appl) (operate start (pair (london batch) (paris at_paris []))))

abbrev one : Pair
one = rounds 20 (script put (begun 1))

abbrev pub idents : List ℕ → Node → List (List ℕ)
idents name n = map (λ (row : Row). ident_numbers row.message.ident) (stored name n.manager).rows

-- One message: twelve turns, and then no more.
one_turns : turns one ≡ 12
one_turns = refl

one_rows : idents (codes "Q1") one.receiver ≡ (1 ∷ 1 ∷ 1 ∷ []) ∷ []
one_rows = refl

one_left : idents (codes "PARIS") one.sender ≡ []
one_left = refl

abbrev sender_numbers : Option SenderData → List ℕ
sender_numbers None = []
sender_numbers (Some d) = d.session ∷ d.last ∷ []

abbrev receiver_numbers : Option ReceiverData → List ℕ
receiver_numbers None = []
receiver_numbers (Some d) = d.session ∷ d.last ∷ d.unit.session ∷ d.unit.n ∷ []

one_sent : sender_numbers (sender_data channel one.sender.manager) ≡ 1 ∷ 1 ∷ []
one_sent = refl

one_received : receiver_numbers (receiver_data channel one.receiver.manager) ≡ 1 ∷ 1 ∷ 1 ∷ 1 ∷ []
one_received = refl

-- Two messages with batches of one: nineteen turns, and unit 2 of session 1.
abbrev two : Pair
two = rounds 20 (script put (script put (begun 1)))

two_turns : turns two ≡ 19
two_turns = refl

two_received : receiver_numbers (receiver_data channel two.receiver.manager) ≡ 1 ∷ 2 ∷ 1 ∷ 2 ∷ []
two_received = refl
