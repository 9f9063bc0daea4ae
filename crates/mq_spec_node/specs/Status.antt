-- DISPLAY CHSTATUS.
use Rattle.std.specs.Prelude.{ℕ, Bool, List, [], ◌∷◌, ◌++◌, if◌then◌else◌, Option, Some, None, length, map, filter, take, codes}
use Rattle.std.specs.Fmt.{decimal}
use Rattle.std.specs.Str.{bytes_eq}
use Rattle.mq_history.specs.from_objects.Attributes.{in_brackets}
use Rattle.mq_spec_node.specs.Terms.{InDoubt, SenderData, ReceiverData, no_unit, unit_text, SenderState, ReceiverState, Plain, is_up, sender_data, receiver_data, sender_or, receiver_or}
use Rattle.mq_history.specs.from_calls.ScRefusalVariants as refusals
use Rattle.mq_history.specs.declared.acts.Acted.TheVariants as acted
use Rattle.mq_history.specs.declared.calls.Reply.TheVariants as replies
use Rattle.mq_sender.specs.declared.state.SenderState.TheVariants as sender_states
use Rattle.mq_receiver.specs.declared.state.ReceiverState.TheVariants as receiver_states
use Rattle.mq_spec_node.specs.Node.{Node, Own, ChannelEnd}
use Rattle.mq_spec_node.specs.Node.ChannelEnd.{Sends, Receives}
use Rattle.mq_spec_node.specs.Deeds.{Deed, told}

-- DISPLAY CHSTATUS: a line for each end of a cable here that has the name.
abbrev pub sender_word : SenderState → List ℕ
sender_word sender_states.Inactive = codes "INACTIVE"
sender_word (sender_states.Stopped cause) = codes "STOPPED"
sender_word sender_states.Starting = codes "STARTING"
sender_word sender_states.Hailing = codes "STARTING"
sender_word sender_states.Binding = codes "BINDING"
sender_word sender_states.Running = codes "RUNNING"
sender_word (sender_states.Sending sent number) = codes "RUNNING"
sender_word sender_states.Ready = codes "RUNNING"
sender_word sender_states.Waiting = codes "RUNNING"

abbrev pub receiver_word : ReceiverState → List ℕ
receiver_word receiver_states.Inactive = codes "INACTIVE"
receiver_word receiver_states.Stopped = codes "STOPPED"
receiver_word (receiver_states.Bound latest came) = codes "RUNNING"

-- the unit in doubt and its last number, or no unit and the last number
abbrev pub doubt_words : ℕ → Option InDoubt → List ℕ
doubt_words last None = in_brackets (codes " INDOUBT") (codes "NO") ++ in_brackets (codes " CURLUWID") (unit_text no_unit) ++ in_brackets (codes " CURSEQNO") (decimal last)
doubt_words last (Some d) = in_brackets (codes " INDOUBT") (codes "YES") ++ in_brackets (codes " CURLUWID") (unit_text d.unit) ++ in_brackets (codes " CURSEQNO") (decimal d.last)

abbrev pub sender_words : SenderData → List ℕ
sender_words d = doubt_words d.last d.in_doubt

abbrev pub receiver_words : ReceiverData → List ℕ
receiver_words d = in_brackets (codes " LSTLUWID") (unit_text d.unit) ++ in_brackets (codes " LSTSEQNO") (decimal d.last)

abbrev pub status_line : Plain → ChannelEnd → List ℕ
status_line p (Sends e) =
    in_brackets (codes "CHSTATUS") e.channel ++ in_brackets (codes " STATUS") (sender_word e.machine.state) ++ sender_words (sender_or (sender_data e.channel p))
status_line p (Receives e) =
    in_brackets (codes "CHSTATUS") e.channel ++ in_brackets (codes " STATUS") (receiver_word e.machine.state) ++ receiver_words (receiver_or (receiver_data e.channel p))

-- a whole name, or the beginning of one
abbrev pub channel_at : ChannelEnd → List ℕ
channel_at (Sends e) = e.channel
channel_at (Receives e) = e.channel

abbrev pub is_asked : List ℕ → Bool → ChannelEnd → Bool
is_asked name any_end e = if any_end then bytes_eq name (take (length name) (channel_at e)) else bytes_eq name (channel_at e)

-- a whole name without a line is Missing
abbrev pub shown : Own → Bool → List (List ℕ) → Deed
shown own any_end [] = if any_end then told (replies.Acted (acted.Shown (record { lines = [] }))) own else told (replies.Acted (acted.Sc refusals.Missing)) own
shown own any_end (line ∷ lines) = told (replies.Acted (acted.Shown (record { lines = line ∷ lines }))) own

abbrev pub show_status : List ℕ → Bool → Node → Deed
show_status name any_end n =
    if is_up n.manager.running then shown n.own any_end (map (status_line n.manager) (filter (is_asked name any_end) n.own.ends))
    else told (replies.Acted (acted.Sc refusals.Down)) n.own
