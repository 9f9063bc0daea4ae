-- The ledger, computed: at a receiver's commit it places its own row; a RESTART that is refused leaves it.
use Rattle.std.specs.Prelude.{◌≡◌, ℕ, pos, List, [], ◌∷◌, Some, None, map, codes, refl}
use Rattle.mq_spec_node.specs.from_frame.SeenVariants as items
use Rattle.mq_spec_node.specs.from_message.{Message}
use Rattle.mq_spec_node.specs.from_objects.{Object}
use Rattle.mq_spec_node.specs.from_objects.SubjectVariants as subjects
use Rattle.mq_spec_node.specs.from_objects.Defaults.{new_manager}
use Rattle.mq_spec_node.specs.from_queue.{Row}
use Rattle.mq_spec_node.specs.from_calls.{Return}
use Rattle.mq_spec_node.specs.from_calls.RestartFaultVariants as faults
use Rattle.mq_spec_node.specs.from_history.ActVariants as acts
use Rattle.mq_spec_node.specs.from_history.ActedVariants as acted
use Rattle.mq_spec_node.specs.from_history.ActorVariants as actors
use Rattle.mq_spec_node.specs.from_history.CallVariants as calls
use Rattle.mq_spec_node.specs.from_history.ChanceVariants as chances
use Rattle.mq_spec_node.specs.from_history.{Entry, ManagerPlaces}
use Rattle.mq_spec_node.specs.from_history.ReplyVariants as replies
use Rattle.mq_spec_node.specs.from_spec_manager.Commands.{defined_object}
use Rattle.mq_spec_node.proofs.from_spec_manager.Script.{script_md}
use Rattle.mq_spec_network.specs.Ledger.{Ledger, no_users, place, receive, posted, ledger_rows}

-- A message of LONDON's, with this body.
abbrev message : List ℕ → Message
message body = record {
  ident = record { manager = 1; incarnation = 1; number = 1 };
  md = script_md (pos 0) (pos 1);
  route = Some (record { queue = codes "Q1"; qmgr = codes "PARIS" });
  deadline = None;
  body = body;
}

abbrev places : List ℕ → List Object → ManagerPlaces
places name given = record { name = name; definitions = record { objects = given; manager = new_manager }; queues = [] }

abbrev empty : Ledger
empty = record {
  places = places (codes "LONDON") (defined_object (subjects.Local (codes "PARIS")) [] ∷ []) ∷ places (codes "PARIS") (defined_object (subjects.Local (codes "Q1")) [] ∷ []) ∷ [];
  users = no_users ∷ no_users ∷ [];
  gone = [];
  got = [];
}

abbrev bodies : ℕ → List ℕ → Ledger → List (List ℕ)
bodies m name l = map (λ (row : Row). row.message.body) (ledger_rows m name l)

-- It stands on LONDON's queue; what the entry of PARIS tells of it has another body, which doesn't count.
abbrev received : Ledger
received = receive 1 (codes "LON.PAR") (message (codes "OTHER") ∷ []) [] (place 0 (codes "PARIS") (message (codes "HELLO")) empty)

own_row_placed : bodies 1 (codes "Q1") received ≡ codes "HELLO" ∷ []
own_row_placed = refl

none_left : bodies 0 (codes "PARIS") received ≡ []
none_left = refl

-- A RESTART of a manager that runs was refused: whatever the entry has as its chance, nothing changes.
abbrev restart_refused : Return → Entry
restart_refused choice = record {
  stamp = 1;
  actor = actors.Operator;
  call = calls.Act acts.Restart;
  chance = chances.Restart choice;
  reply = replies.Acted (acted.Start faults.Up);
  effect = record { delta = []; pushed = None; extras = 0; popped = items.Nothing; received = [] };
}

nothing_stops : (m : ℕ) (choice : Return) (l : Ledger) → posted m (restart_refused choice) (restart_refused choice).reply l ≡ l
nothing_stops m choice l = refl
