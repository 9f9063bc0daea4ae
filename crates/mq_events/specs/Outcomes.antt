-- What a call of the manager comes to as an event: the choice behind its result, and what is replied.
use Rattle.std.specs.Prelude.{◌≡◌, ◌≤◌, ℕ, Bool, true, false, List, [], ◌∷◌, Option, Some, None, Result, Ok, Err}
use Rattle.mq_base.specs.declared.want.NoMemory.{NoMemory as Want}
use Rattle.mq_codes.specs.declared.reason.Reason.TheVariants as reasons
use Rattle.mq_calls.specs.declared.answers.Answer.TheVariants as answers
use Rattle.mq_calls.specs.declared.answers.GetAnswer.{GetAnswer}
use Rattle.mq_calls.specs.declared.answers.GetAnswer.TheVariants as get_answers
use Rattle.mq_calls.specs.declared.commands.Halt.{Halt}
use Rattle.mq_calls.specs.declared.commands.Halt.TheVariants as halts
use Rattle.mq_calls.specs.declared.commands.ScRefusal.TheVariants as refusals
use Rattle.mq_objects.specs.declared.command.Command.{Command as Objects}
use Rattle.mq_sc_parse.specs.declared.command.Command.TheVariants as commands
use Rattle.mq_history.specs.declared.acts.Act.TheVariants as acts
use Rattle.mq_history.specs.declared.acts.Acted.TheVariants as acted
use Rattle.mq_history.specs.declared.calls.Call.TheVariants as calls
use Rattle.mq_history.specs.declared.calls.Reply.TheVariants as replies
use Rattle.mq_frame.specs.declared.frame.Seen.TheVariants as items
use Rattle.mq_spec_node.specs.Terms.{Acted, ScRefusal, Shown, Reason, Answer, Choice, Runs, NoMemory, Stopped, Did, Actor, Call, Reply, Plain, Part, Step, Refuse, Do, delta_before}
use Rattle.mq_calls.specs.Steps.{IsWrite}
use Rattle.mq_spec_node.specs.Words.{Node, Own, Deed, done, node_of, CanCome, deed_of, answer_of, sc_stopped}
use Rattle.mq_manager.specs.from_core.Values.{CoreValue}
pub use Rattle.mq_manager.specs.from_steer.Due.{next_due}
use Rattle.mq_events.specs.Disks.{RoseIn}
use Rattle.mq_events.specs.declared.outcome.Outcome.{Outcome}
use Rattle.mq_events.specs.declared.outcome.Obeyed.{Obeyed}

-- Which part of a call a stopped write belongs to shows by what was told before it: of two parts the first tells something.
abbrev pub part_by : List Did → ℕ
part_by [] = 0
part_by (d ∷ ds) = 1

abbrev pub IsNumbered : List Part → Type 0
IsNumbered parts = (n : ℕ) → IsWrite n parts → n ≡ part_by (delta_before n parts)

abbrev pub StepIsNumbered : {F T : Type 0} → Step F T → Type 0
StepIsNumbered (Refuse reason) = Unit {0}
StepIsNumbered (Do reply parts) = IsNumbered parts

-- the choice behind a result, by what was told and by the device calls left before an armed cut
abbrev pub choice_by : {F T : Type 0} → Result T (Halt F) → List Did → ℕ → Choice
choice_by (Ok value) delta left = Runs
choice_by (Err (halts.Refused reason)) delta left = Runs
choice_by (Err halts.NoMemory) delta left = NoMemory
choice_by (Err (halts.Stopped by)) delta left = Stopped by (part_by delta) left

-- the reply of an MQI call
abbrev pub reply_by : {T : Type 0} → (Answer T → Reply) → Result (Answer T) (Halt Reason) → Reply
reply_by f (Ok answer) = f answer
reply_by f (Err (halts.Refused reason)) = f (answers.Failed reason)
reply_by f (Err halts.NoMemory) = f (answers.Failed reasons.StorageNotAvailable)
reply_by f (Err (halts.Stopped by)) = replies.Stopped by

-- of a get: none where it may wait still
abbrev pub is_wanting : {F T : Type 0} → Result T (Halt F) → Bool
is_wanting (Ok value) = false
is_wanting (Err (halts.Refused reason)) = false
is_wanting (Err halts.NoMemory) = true
is_wanting (Err (halts.Stopped by)) = false

abbrev pub outcome_of : Result GetAnswer (Halt Reason) → Choice → List Did → Option Outcome
outcome_of (Ok get_answers.NotYet) choice delta = None
outcome_of (Ok (get_answers.Done answer)) choice delta = Some (record { choice = choice; reply = replies.Got answer; delta = delta })
outcome_of (Err halt) choice delta = Some (record { choice = choice; reply = reply_by replies.Got (Err halt); delta = delta })

-- A deed that leaves a node's own as it is, and neither offers a frame nor places a batch, came to this.
pub record Came (d : Deed) (n : Node) (o : Outcome) (p : Plain) : Type 0 where
  pub can : CanCome d o.choice n
  pub reply : o.reply ≡ (done d o.choice n).reply
  pub delta : o.delta ≡ (done d o.choice n).delta
  pub manager : p ≡ (done d o.choice n).next.manager
  pub own : d.own ≡ n.own
  pub pushed : d.pushed ≡ None
  pub received : d.received ≡ []

-- It came to this; it is no event; or there was no memory, and nothing has changed.
abbrev pub EndsAs : Option Deed → Node → Result (Option Outcome) Want → Plain → Type 0
EndsAs d n (Err e) p = p ≡ n.manager
EndsAs None n (Ok None) p = p ≡ n.manager
EndsAs None n (Ok (Some o)) p = ⊥
EndsAs (Some d) n (Ok None) p = ⊥
EndsAs (Some d) n (Ok (Some o)) p = Came d n o p

-- so at a node with any ends of its own, whoever calls; the disk's count of faults doesn't fall, and rose where a disk failed
pub record Ends (call : Call) (old : CoreValue) (result : Result (Option Outcome) Want) (new : CoreValue) : Type 0 where
  pub ends : (stamp : ℕ) (actor : Actor) (own : Own) → EndsAs (deed_of stamp actor call items.Nothing (node_of old.plain own)) (node_of old.plain own) result new.plain
  pub later : old.faults ≤ new.faults
  pub rose : RoseIn result old.faults new.faults

abbrev pub EndsSo : Call → CoreValue → Outcome → CoreValue → Type 0
EndsSo call old o new = Ends call old (Ok (Some o)) new

abbrev pub TurnEnds : CoreValue → Result Outcome Want → CoreValue → Type 0
TurnEnds old (Ok o) new = EndsSo calls.Trigger old o new
TurnEnds old (Err e) new = Ends calls.Trigger old (Err e) new

-- A command on objects: its reply, and what is answered for it.
abbrev pub reply_of : Result Shown (Halt ScRefusal) → Reply
reply_of (Ok shown) = replies.Acted (acted.Shown shown)
reply_of (Err (halts.Refused reason)) = replies.Acted (acted.Sc reason)
reply_of (Err halts.NoMemory) = replies.Acted (acted.Sc refusals.NoMemory)
reply_of (Err (halts.Stopped by)) = replies.Stopped by

abbrev pub acted_of : Result Shown (Halt ScRefusal) → Acted
acted_of (Ok shown) = acted.Shown shown
acted_of (Err (halts.Refused reason)) = acted.Sc reason
acted_of (Err halts.NoMemory) = acted.Sc refusals.NoMemory
acted_of (Err (halts.Stopped by)) = acted.Sc (sc_stopped by)

abbrev pub ObeysAs : Objects → CoreValue → Result Obeyed Want → CoreValue → Type 0
ObeysAs c old (Ok o) new = EndsSo (calls.Act (acts.Obey (commands.Objects c))) old o.outcome new × (answer_of (calls.Act (acts.Obey (commands.Objects c))) o.outcome.reply ≡ replies.Acted o.acted)
ObeysAs c old (Err e) new = Ends (calls.Act (acts.Obey (commands.Objects c))) old (Err e) new

-- a copy of what is answered; there was no memory, for the command or for the lines that it shows
abbrev pub WantsCopy : Result Shown (Halt ScRefusal) → Type 0
WantsCopy (Ok shown) = shown.lines ≡ [] → ⊥
WantsCopy (Err (halts.Refused reason)) = ⊥
WantsCopy (Err halts.NoMemory) = Unit {0}
WantsCopy (Err (halts.Stopped by)) = ⊥

abbrev pub AnswersAs : Result Shown (Halt ScRefusal) → Result Acted Want → Type 0
AnswersAs ended (Ok a) = (a ≡ acted_of ended) × (is_wanting ended ≡ false)
AnswersAs ended (Err e) = WantsCopy ended
