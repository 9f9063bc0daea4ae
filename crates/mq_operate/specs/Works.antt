-- What a command on a channel's end comes to at a node, before its entry is added.
use Rattle.std.specs.Prelude.{◌≡◌, ◌≤◌, List, [], Option, Some, None, Result, Ok, Err}
use Rattle.std.specs.List.{AllByRecursion}
use Rattle.mq_base.specs.declared.want.NoMemory.{NoMemory as Want}
use Rattle.mq_calls.specs.declared.choices.Choice.{Choice}
use Rattle.mq_calls.specs.declared.choices.Choice.TheVariants.{Runs, NoMemory, Stopped}
use Rattle.mq_history.specs.declared.acts.Act.TheVariants as acts
use Rattle.mq_history.specs.declared.acts.Acted.TheVariants as acted
use Rattle.mq_history.specs.declared.calls.Call.TheVariants as calls
use Rattle.mq_history.specs.declared.calls.Reply.TheVariants as replies
use Rattle.mq_sc_parse.specs.declared.command.Command.TheVariants as commands
use Rattle.mq_turn_parts.specs.from_law_image.Bounds.{all_growth}
use Rattle.mq_spec_node.specs.Terms.{Acted, Call, Did, Op, OpRefusal, Part, Reply}
use Rattle.mq_spec_node.specs.Words.{Deed, op_stopped}
use Rattle.mq_turn_parts.specs.from_events.{Outcome}
use Rattle.mq_turn_parts.specs.from_events.States.{NodeState}
use Rattle.mq_turn_parts.specs.from_events.Counts.{kept_total, waiting_total}
use Rattle.mq_turn_parts.specs.Turns.{IsAsWas, Made, own_by}
use Rattle.mq_operate.specs.declared.working.Worked.{Worked}

abbrev pub call_of : Op → Call
call_of op = calls.Act (acts.Obey (commands.Operate op))

-- the answer of a command that was refused or accepted; its reply, and what is answered for that, under a choice
abbrev pub acted_by : Option OpRefusal → Acted
acted_by None = acted.Done
acted_by (Some reason) = acted.Op reason

abbrev pub reply_by : Choice → Option OpRefusal → Reply
reply_by Runs refusal = replies.Acted (acted_by refusal)
reply_by NoMemory refusal = replies.Acted (acted_by refusal)
reply_by (Stopped by n left) refusal = replies.Stopped by

abbrev pub answer_by : Choice → Option OpRefusal → Acted
answer_by Runs refusal = acted_by refusal
answer_by NoMemory refusal = acted_by refusal
answer_by (Stopped by n left) refusal = acted.Op (op_stopped by)

abbrev pub outcome_by : Worked → Outcome
outcome_by w = record { choice = w.told.choice; reply = reply_by w.told.choice w.refusal; delta = w.told.delta }

-- Its deed came to this: it raises no counter, no receiver keeps more, and no more senders wait for an answer.
pub record IsWorked (d : Deed) (refusal : Option OpRefusal) (choice : Choice) (delta : List Did) (s a : NodeState) : Type 0 where
  pub reply : d.reply ≡ replies.Acted (acted_by refusal)
  pub pushed : d.pushed ≡ None
  pub received : d.received ≡ []
  pub brings : AllByRecursion (λ (x : Part). all_growth x.changes ≤ 0) d.parts
  pub total : kept_total d.own ≤ kept_total s.own
  pub waits : waiting_total d.own ≤ waiting_total s.own
  pub made : Made d.parts choice delta s.manager a.manager
  pub state : a ≡ record s { manager = a.manager; own = own_by choice delta d.own s.own }

-- There was no memory, and nothing has changed.
pub record IsUnworked (s a : NodeState) : Type 0 where
  pub was : IsAsWas s.manager a.manager
  pub state : a ≡ record s { manager = a.manager }

abbrev pub Works : Deed → NodeState → Result Worked Want → NodeState → Type 0
Works d s (Ok w) a = IsWorked d w.refusal w.told.choice w.told.delta s a
Works d s (Err e) a = IsUnworked s a
