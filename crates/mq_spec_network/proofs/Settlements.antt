-- A lost acknowledgement, and what an operator makes of it: story, ledger, standing rows and conflict, computed.
use Rattle.std.specs.Prelude.{◌≡◌, ℕ, true, false, List, [], ◌∷◌, Option, Some, None, map, reverse, codes, refl}
use Rattle.mq_spec_node.specs.from_queue.{Row}
use Rattle.mq_spec_node.specs.from_calls.{Open}
use Rattle.mq_spec_node.specs.from_calls.InputVariants as inputs
use Rattle.mq_spec_node.specs.from_sync.{Settle}
use Rattle.mq_spec_node.specs.from_sync.SettleVariants as settles
use Rattle.mq_spec_node.specs.from_history.ActVariants as acts
use Rattle.mq_spec_node.specs.from_sc_parse.CommandVariants as commands
use Rattle.mq_spec_node.specs.from_sc_parse.OpVariants as ops
use Rattle.mq_spec_node.specs.from_history.ActorVariants as actors
use Rattle.mq_spec_node.specs.from_history.{Call, Conflict, History, Scenario}
use Rattle.mq_spec_node.specs.from_history.CallVariants as calls
use Rattle.mq_spec_node.specs.from_calls.Reads.{stored, depth}
use Rattle.mq_spec_node.proofs.from_spec_manager.Script.{connection, handle, script_appl, persistent_md, ident_numbers}
use Rattle.mq_spec_node.proofs.Pair.{Pair, pair, london, paris, at_london, at_paris, image, channel, at_sender, runs, rounds, turns, operate, start, stop_channel}
use Rattle.mq_spec_network.specs.Story.{Line, weave}
use Rattle.mq_spec_network.specs.Ledger.{ledger, ledger_rows}
use Rattle.mq_spec_network.specs.Standing.{standing, managers_at, opening_ledger}
use Rattle.mq_spec_network.specs.Conflict.{conflict}

abbrev output_alone : Open
output_alone = record { input = inputs.No; browse = false; output = true }

abbrev script : Call → Pair → Pair
script call p = at_sender (actors.Script 0) call runs p

-- a persistent message is put, and the sender started
abbrev begun : Pair
begun = script (calls.Mqput (connection 1) (handle 1) persistent_md (codes "HELLO") false)
    (script (calls.Mqopen (connection 1) (codes "R1") [] output_alone)
    (script (calls.Mqconn [] script_appl) (operate start (pair (london 50) (paris at_paris [])))))

-- eleven turns, up to the acknowledgement, which is lost
abbrev without_ack : Pair → Pair
without_ack p = record p { back = [] }

abbrev lost : Pair
lost = without_ack (rounds 8 begun)

lost_turns : turns lost ≡ 11
lost_turns = refl

-- What the two managers did makes a story.
abbrev scenario : Scenario
scenario = record {
  moment = None;
  managers = record { name = codes "LONDON"; log_max = 268435456 } ∷ record { name = codes "PARIS"; log_max = 268435456 } ∷ [];
  cables = record { channel = channel; sender = 0; receiver = 1; out = []; back = [] } ∷ [];
  sections = [];
  rules = [];
  scripts = [];
  monitors = [];
  steps = [];
}

abbrev histories : Pair → List History
histories p =
    record { number = 1; name = codes "LONDON"; opening = image (at_london 50) []; length = 1; moment = 0; entries = reverse p.sent; marks = [] }
    ∷ record { number = 2; name = codes "PARIS"; opening = image at_paris []; length = 1; moment = 1767225600000; entries = reverse p.received; marks = [] } ∷ []

abbrev story : Pair → List Line
story p = weave (histories p)

abbrev idents : List Row → List (List ℕ)
idents rows = map (λ (row : Row). ident_numbers row.message.ident) rows

abbrev in_ledger : ℕ → List ℕ → Pair → List (List ℕ)
in_ledger m name p = idents (ledger_rows m name (ledger (opening_ledger scenario (histories p)) (story p)))

abbrev in_standing : ℕ → List ℕ → Pair → List (List ℕ)
in_standing m name p = idents (standing scenario (managers_at scenario (story p) (histories p)) m name)

abbrev the_message : List (List ℕ)
the_message = (1 ∷ 1 ∷ 1 ∷ []) ∷ []

-- While the acknowledgement is lost, the unit in doubt counts at its receiver, in the ledger and among the standing rows.
lost_ledger_there : in_ledger 1 (codes "Q1") lost ≡ the_message
lost_ledger_there = refl

lost_ledger_here : in_ledger 0 (codes "PARIS") lost ≡ []
lost_ledger_here = refl

lost_standing_there : in_standing 1 (codes "Q1") lost ≡ the_message
lost_standing_there = refl

lost_standing_here : in_standing 0 (codes "PARIS") lost ≡ []
lost_standing_here = refl

-- though the row is still held at the sender, and counts for no depth
lost_held : idents (stored (codes "PARIS") lost.sender.manager).rows ≡ the_message
lost_held = refl

lost_depth : depth (codes "PARIS") lost.sender.manager ≡ 0
lost_depth = refl

-- A timeout and five more turns: the next session's STATUS names the unit, which is settled as committed.
abbrev again : Pair
again = rounds 10 (at_sender (actors.Sender 0) calls.Timeout runs lost)

again_turns : turns again ≡ 17
again_turns = refl

again_here : idents (stored (codes "PARIS") again.sender.manager).rows ≡ []
again_here = refl

again_there : in_standing 1 (codes "Q1") again ≡ the_message
again_there = refl

again_ledger : in_ledger 1 (codes "Q1") again ≡ the_message
again_ledger = refl

-- An operator settles it in place of the acknowledgement: as committed, which agrees; as backed out, which does not.
abbrev settled : Settle → Pair
settled settle = operate (acts.Obey (commands.Operate (ops.Resolve channel settle))) (operate stop_channel lost)

abbrev found : Pair → Option Conflict
found p = conflict scenario (histories p) (story p)

committed_agrees : found (settled settles.Commit) ≡ None
committed_agrees = refl

committed_here : in_standing 0 (codes "PARIS") (settled settles.Commit) ≡ []
committed_here = refl

committed_there : in_standing 1 (codes "Q1") (settled settles.Commit) ≡ the_message
committed_there = refl

committed_ledger : in_ledger 1 (codes "Q1") (settled settles.Commit) ≡ the_message
committed_ledger = refl

backed_out_conflicts : found (settled settles.Backout) ≡ Some (record { manager = 1; channel = codes "LON.PAR"; unit = record { session = 1; n = 1 } })
backed_out_conflicts = refl

backed_out_here : in_standing 0 (codes "PARIS") (settled settles.Backout) ≡ the_message
backed_out_here = refl

backed_out_there : in_standing 1 (codes "Q1") (settled settles.Backout) ≡ the_message
backed_out_there = refl

backed_out_ledger : in_ledger 0 (codes "PARIS") (settled settles.Backout) ≡ []
backed_out_ledger = refl
