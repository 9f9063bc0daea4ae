-- A dead-letter handler whose first rule fails twice, computed from the definitions.
use Rattle.std.specs.Prelude.{◌≡◌, ℕ, pos, false, List, [], ◌∷◌, Option, Some, None, map, codes, refl}
use Rattle.mq_codes.specs.declared.reason.Reason.TheVariants as reasons
use Rattle.mq_history.specs.from_message.{Message}
use Rattle.mq_history.specs.from_message.Layout.{long_bytes, long_of}
use Rattle.mq_spec_manager.specs.from_heads.Headers.{dlh_bytes, dlh_in, dlh_read}
use Rattle.mq_spec_manager.specs.from_heads.Stamps.{put_date, put_time, reached}
use Rattle.mq_history.specs.from_frame.SeenVariants as items
use Rattle.mq_history.specs.from_queue.{Row}
use Rattle.mq_history.specs.from_objects.{Object}
use Rattle.mq_history.specs.from_objects.SettingVariants as settings
use Rattle.mq_history.specs.from_objects.SubjectVariants as subjects
use Rattle.mq_history.specs.declared.acts.Act.TheVariants as acts
use Rattle.mq_history.specs.declared.calls.Actor.TheVariants as actors
use Rattle.mq_history.specs.declared.calls.Call.TheVariants as calls
use Rattle.mq_history.specs.from_calls.{Shelf}
use Rattle.mq_history.specs.from_rules.{Rule, Table}
use Rattle.mq_history.specs.from_rules.ActionVariants as actions
use Rattle.mq_history.specs.from_rules.ConditionVariants as conditions
use Rattle.mq_history.specs.from_rules.NumberFieldVariants as numbers
use Rattle.mq_history.specs.from_rules.TargetVariants as targets
use Rattle.mq_history.specs.from_rules.WaitVariants as waits
use Rattle.mq_history.specs.from_calls.Reads.{stored}
use Rattle.mq_spec_manager.specs.Commands.{defined_object}
use Rattle.mq_spec_manager.proofs.Script.{script_md, ident_numbers}
use Rattle.mq_spec_manager.specs.Agents.{dead_message}
use Rattle.mq_spec_node.specs.Node.{Node}
use Rattle.mq_spec_node.specs.Deeds.{Deed}
use Rattle.mq_spec_node.specs.Happens.{event, deed_of}
use Rattle.mq_spec_node.specs.Openings.{first_node}
use Rattle.mq_spec_node.proofs.Pair.{image, runs}

-- a dead letter of reason 2053
abbrev letter : Message
letter = dead_message (codes "LON.PAR") reasons.QueueFull
    (record { ident = record { manager = 1; incarnation = 1; number = 1 }; md = script_md (pos 0) (pos 1); route = Some (record { queue = codes "Q1"; qmgr = codes "PARIS" }); deadline = None; body = codes "HELLO" })
    0

abbrev of_2053 : Rule
of_2053 = record {
  conditions = conditions.Number numbers.Reason (pos 2053) ∷ [];
  action = actions.Forward (record { queue = targets.Name (codes "FULLQ"); qmgr = targets.Name []; header = false });
  retries = 2;
}

abbrev discards : Rule
discards = record { conditions = conditions.Number numbers.Reason (pos 2053) ∷ []; action = actions.Discard; retries = 1 }

abbrev rules : Table
rules = record { input_q = []; retry_interval = 60; wait = waits.No; rules = of_2053 ∷ discards ∷ [] }

abbrev given : List Object
given = defined_object (subjects.Local (codes "DLQ")) [] ∷ defined_object (subjects.Local (codes "FULLQ")) (settings.MaxDepth 0 ∷ []) ∷ []

abbrev shelf : List ℕ → List Row → Shelf
shelf name rows = record { name = name; rows = rows }

abbrev letters : List Shelf
letters = shelf (codes "DLQ") (record { place = record { lane = 9; arrival = 0 }; message = letter; by = None } ∷ []) ∷ shelf (codes "FULLQ") [] ∷ []

abbrev handled : Node
handled = first_node (record { number = 2; name = codes "PARIS"; log_max = 268435456 })
    (record { ends = []; handlers = record { number = 0; table = rules; tried = [] } ∷ []; monitors = []; scripts = [] })
    (record (image given (codes "DLQ")) { shelves = letters }) 1 0

-- a turn, and whether there is one
abbrev turn : Node → Node
turn n = (event 1 (actors.Handler 0) calls.Turn runs items.Nothing n).next

abbrev count : Option Deed → ℕ
count None = 0
count (Some d) = 1

abbrev turns : Node → ℕ
turns n = count (deed_of 1 (actors.Handler 0) calls.Turn items.Nothing n)

abbrev later : Node → Node
later n = (event 1 actors.Clock (calls.Act (acts.Clock 60000)) runs items.Nothing n).next

abbrev dead_rows : Node → List (List ℕ)
dead_rows n = map (λ (row : Row). ident_numbers row.message.ident) (stored (codes "DLQ") n.manager).rows

-- One try fails; the next is due after a minute.
first_turn : turns handled ≡ 1
unfolding dlh_bytes dlh_in dlh_read long_bytes long_of put_date put_time reached
first_turn = refl

no_second_turn : turns (turn handled) ≡ 0
unfolding dlh_bytes dlh_in dlh_read long_bytes long_of put_date put_time reached
no_second_turn = refl

-- A minute later the second try fails, and the next rule is in force at once: it discards the row.
second_turn : turns (later (turn handled)) ≡ 1
unfolding dlh_bytes dlh_in dlh_read long_bytes long_of put_date put_time reached
second_turn = refl

third_turn : turns (turn (later (turn handled))) ≡ 1
unfolding dlh_bytes dlh_in dlh_read long_bytes long_of put_date put_time reached
third_turn = refl

still_there : dead_rows (turn (later (turn handled))) ≡ (1 ∷ 1 ∷ 1 ∷ []) ∷ []
unfolding dlh_bytes dlh_in dlh_read long_bytes long_of put_date put_time reached
still_there = refl

discarded : dead_rows (turn (turn (later (turn handled)))) ≡ []
unfolding dlh_bytes dlh_in dlh_read long_bytes long_of put_date put_time reached
discarded = refl

idle_then : turns (turn (turn (later (turn handled)))) ≡ 0
unfolding dlh_bytes dlh_in dlh_read long_bytes long_of put_date put_time reached
idle_then = refl

-- One rule that retries once, to a queue that isn't there: the first turn is its last try, the second ignores the row.
abbrev retries_once : Rule
retries_once = record { conditions = conditions.Number numbers.Reason (pos 2053) ∷ []; action = actions.Retry; retries = 1 }

abbrev retried : Node
retried = first_node (record { number = 2; name = codes "PARIS"; log_max = 268435456 })
    (record { ends = []; handlers = record { number = 0; table = record rules { rules = retries_once ∷ [] }; tried = [] } ∷ []; monitors = []; scripts = [] })
    (record (image given (codes "DLQ")) { shelves = letters }) 1 0

last_try : turns retried ≡ 1
unfolding dlh_bytes dlh_in dlh_read long_bytes long_of put_date put_time reached
last_try = refl

then_ignored : turns (turn retried) ≡ 1
unfolding dlh_bytes dlh_in dlh_read long_bytes long_of put_date put_time reached
then_ignored = refl

idle_behind : turns (turn (turn retried)) ≡ 0
unfolding dlh_bytes dlh_in dlh_read long_bytes long_of put_date put_time reached
idle_behind = refl

still_in_queue : dead_rows (turn (turn retried)) ≡ (1 ∷ 1 ∷ 1 ∷ []) ∷ []
unfolding dlh_bytes dlh_in dlh_read long_bytes long_of put_date put_time reached
still_in_queue = refl
