-- The ends of units: MQCMIT, MQBACK, MQDISC.
use Rattle.std.specs.Prelude.{true, List, [], ◌∷◌, ◌++◌, if◌then◌else◌, Option, Some, None, flat_map}
use Rattle.mq_sc_apply.specs.from_calls.Words.{Reason, Plain, Change, Among, is_persistent, Step, Part, Do}
use Rattle.mq_sc_apply.specs.from_calls.{Add, Answer, Connection, Did, Hconn, Item, LogRecord, Remove}
use Rattle.mq_sc_apply.specs.from_calls.AnswerVariants as answers
use Rattle.mq_sc_apply.specs.from_calls.DidVariants as did
use Rattle.mq_sc_apply.specs.from_calls.WhyVariants as reasons_gone
use Rattle.mq_sc_apply.specs.from_calls.LogRecordVariants as records
use Rattle.mq_sc_apply.specs.from_calls.ItemVariants.{Put, Take}
use Rattle.mq_sc_apply.specs.from_calls.State.Change.{Leave, Release, EndUnit, Disconnect}
use Rattle.mq_spec_manager.specs.Handles.{connected, for_connection}
use Rattle.mq_spec_manager.specs.Put.{placed}

-- what a unit's persistent items add and remove
abbrev pub adds_of : List Item → List Add
adds_of [] = []
adds_of (Put queue message ∷ items) = if is_persistent message then record { queue = queue; message = message } ∷ adds_of items else adds_of items
adds_of (Take queue ident persistent ∷ items) = adds_of items

abbrev pub removes_of : List Item → List Remove
removes_of [] = []
removes_of (Put queue message ∷ items) = removes_of items
removes_of (Take queue ident persistent ∷ items) = if persistent then record { queue = queue; ident = ident } ∷ removes_of items else removes_of items

abbrev pub record_of : List Add → List Remove → Option LogRecord
record_of [] [] = None
record_of [] (r ∷ rs) = Some (records.Unit [] (r ∷ rs))
record_of (a ∷ as_) rs = Some (records.Unit (a ∷ as_) rs)

-- the pending puts get their places in put order
abbrev pub placed_item : Item → List Change
placed_item (Put queue message) = placed queue message
placed_item (Take queue ident persistent) = []

abbrev pub removed_item : Item → List Did
removed_item (Put queue message) = []
removed_item (Take queue ident persistent) = did.Removed queue ident reasons_gone.Got ∷ []

abbrev pub placed_did : Item → List Did
placed_did (Put queue message) = did.Placed queue message.ident None ∷ []
placed_did (Take queue ident persistent) = []

abbrev pub released_did : Item → List Did
released_did (Put queue message) = []
released_did (Take queue ident persistent) = did.Released queue ident ∷ []

-- the rows that it holds go; or they are free again at their places
abbrev pub taken_item : Item → List Change
taken_item (Put queue message) = []
taken_item (Take queue ident persistent) = Leave (Among queue (ident ∷ [])) ∷ []

abbrev pub freed_item : Item → List Change
freed_item (Put queue message) = []
freed_item (Take queue ident persistent) = Release (Among queue (ident ∷ [])) true ∷ []

-- the held rows go, then the puts are placed
abbrev pub commit_changes : Connection → List Change
commit_changes c = flat_map taken_item c.unit ++ flat_map placed_item c.unit ++ EndUnit c.number ∷ []

abbrev pub commit_delta : Connection → List Did
commit_delta c = flat_map removed_item c.unit ++ flat_map placed_did c.unit

abbrev pub commit_part : List Change → Connection → Part
commit_part more c = record { forced = record_of (adds_of c.unit) (removes_of c.unit); changes = commit_changes c ++ more; delta = commit_delta c }

abbrev pub mqcmit : Hconn → Plain → Step Reason (Answer (Unit {0}))
mqcmit hc p = for_connection (connected hc p) (λ c. Do (answers.Ok tt) (commit_part [] c ∷ []))

-- the held rows are free again at their places, the pending puts go
abbrev pub backout_part : Connection → Part
backout_part c = record {
  forced = None;
  changes = flat_map freed_item c.unit ++ EndUnit c.number ∷ [];
  delta = flat_map released_did c.unit;
}

abbrev pub mqback : Hconn → Plain → Step Reason (Answer (Unit {0}))
mqback hc p = for_connection (connected hc p) (λ c. Do (answers.Ok tt) (backout_part c ∷ []))

-- a commit, and the connection ends with its handles
abbrev pub mqdisc : Hconn → Plain → Step Reason (Answer (Unit {0}))
mqdisc hc p = for_connection (connected hc p) (λ c. Do (answers.Ok tt) (commit_part (Disconnect c.number ∷ []) c ∷ []))
