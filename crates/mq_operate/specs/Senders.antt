-- What commands on a sender's end come to at its manager.
use Rattle.std.specs.Prelude.{◌≡◌, ℕ, List, [], ◌∷◌, Option, Some, None, Result, Ok, Err}
use Rattle.mq_base.specs.declared.want.NoMemory.{NoMemory as Want}
use Rattle.mq_calls.specs.declared.choices.Choice.{Choice}
use Rattle.mq_calls.specs.declared.choices.Choice.TheVariants.{Runs}
use Rattle.mq_history.specs.declared.acts.OpRefusal.TheVariants as reasons
use Rattle.mq_sender.specs.States as senders
use Rattle.mq_spec_node.specs.Terms.{Did, OpRefusal, SeizeFault, Step, Refuse, Do, when, refusal}
use Rattle.mq_spec_node.specs.Words.{ChannelEnd, Node, Own, SenderEnd, is_bad_number, is_in_doubt, limits_here, seize_refusal, with_end}
use Rattle.mq_core.specs.Values.{CoreValue}
use Rattle.mq_turn_parts.specs.Turns.{IsAsWas, Made, own_by}
use Rattle.mq_operate.specs.declared.working.Worked.{Worked}

-- a queue that was sought was refused, or opened
pub record IsRefused (reason : OpRefusal) (w : Worked) (old new : CoreValue) : Type 0 where
  pub refusal : w.refusal ≡ Some reason
  pub choice : w.told.choice ≡ Runs
  pub delta : w.told.delta ≡ []
  pub was : IsAsWas old new

abbrev pub Sought : Step SeizeFault (Unit {0}) → Worked → CoreValue → CoreValue → Type 0
Sought (Refuse fault) w old new = IsRefused (seize_refusal fault) w old new
Sought (Do reply parts) w old new = (w.refusal ≡ None) × Made parts w.told.choice w.told.delta old new

abbrev pub SoughtOr : Step SeizeFault (Unit {0}) → Result Worked Want → CoreValue → CoreValue → Type 0
SoughtOr step (Ok w) old new = Sought step w old new
SoughtOr step (Err e) old new = IsAsWas old new

-- the node's own behind a command, the same where it was refused
abbrev pub own_if : Option OpRefusal → Choice → List Did → ChannelEnd → Own → Own
own_if None choice delta end own = own_by choice delta (with_end end own) own
own_if (Some reason) choice delta end own = own

-- the first refusal of RESET of a sender
abbrev pub unset : SenderEnd → ℕ → Node → Option OpRefusal
unset e seqnum n = refusal (
    when (is_in_doubt e.channel n) reasons.InDoubt
    ∷ when (senders.is_running e.machine.state) reasons.Running
    ∷ when (is_bad_number seqnum (limits_here e.channel n)) reasons.BadNumber
    ∷ [])
