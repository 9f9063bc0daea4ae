-- What replies and chances say, asked one by one.
use Rattle.std.specs.Prelude.{ℕ, Bool, true, false, List, Option, Some, None}
use Rattle.mq_calls.specs.declared.deltas.Did.{Did}
use Rattle.mq_calls.specs.declared.choices.Return.TheVariants as returns
use Rattle.mq_message.specs.declared.message.Message.{Message}
use Rattle.mq_history.specs.declared.acts.Act.{Act}
use Rattle.mq_history.specs.declared.acts.Acted.TheVariants as acted
use Rattle.mq_history.specs.declared.calls.Call.TheVariants as calls
use Rattle.mq_history.specs.declared.calls.Reply.{Reply}
use Rattle.mq_history.specs.declared.calls.Reply.TheVariants as replies
use Rattle.mq_history.specs.declared.calls.Chance.{Chance}
use Rattle.mq_history.specs.declared.calls.Chance.TheVariants as chances
use Rattle.mq_spec_network.specs.Ledger.{Ledger, users_at, found, up_again, post_call}

-- the forced write of the call was stopped
abbrev pub is_stopped : Reply → Bool
is_stopped (replies.Stopped by) = true
is_stopped _ = false

-- what was asked beside MQI calls was done
abbrev pub is_done : Reply → Bool
is_done (replies.Acted acted.Done) = true
is_done _ = false

-- of a restart that came up, whether it found the call whose write was stopped
abbrev pub kept_of : Chance → Option Bool
kept_of (chances.Restart (returns.Comes kept started)) = Some kept
kept_of _ = None

abbrev pub come_up_as : ℕ → Option Bool → List Did → Ledger → Ledger
come_up_as m None ds l = l
come_up_as m (Some true) ds l = up_again m (found m (users_at m l).cut ds l)
come_up_as m (Some false) ds l = up_again m l

-- what is asked beside MQI calls
abbrev pub post_act : ℕ → Act → Reply → List Message → List Did → Ledger → Ledger
post_act m a reply ms ds l = post_call m (calls.Act a) reply ms ds l
