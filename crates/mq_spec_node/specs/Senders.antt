-- Turns and timeouts of a sender.
use Rattle.std.specs.Prelude.{ℕ, Bool, true, false, List, [], ◌++◌, if◌then◌else◌, Option, Some, None}
use Rattle.std.specs.Option.{option_map}
use Rattle.mq_spec_node.specs.Terms.{Message, Frame, Seen, Luw, Settle, no_unit, unit_named, is_commit, PrepareFault, Doubt, SenderState, SenderDoes, SenderOut, Sender, is_running, awaits, timed_out, sender_next, sender_after, number_sent, bind_frame, message_frame, end_frame, Plain, Step, Part, do_all, Refuse, Do, names_of, stock, expire, hold_batch, batch_row, release_batch, prepare, harden, leave}
use Rattle.mq_history.specs.from_calls.NoteVariants as notes
use Rattle.mq_sender.specs.declared.turns.SenderDoes.TheVariants as does
use Rattle.mq_sender.specs.declared.turns.SenderOut.TheVariants as outs
use Rattle.mq_spec_node.specs.Node.{Node, Own, SenderEnd, with_end}
use Rattle.mq_spec_node.specs.Node.ChannelEnd.{Sends}
use Rattle.mq_spec_node.specs.Deeds.{Deed, parts_of, turned}

-- the end after a turn
abbrev pub sender_end_after : SenderEnd → SenderDoes → SenderOut → Own → Own
sender_end_after e d out own = with_end (Sends (record e { machine = sender_after e.machine d out })) own

-- a sender that stops ends its open of the transmission queue
abbrev pub leave_if_stopped : List ℕ → SenderState → Plain → List Part
leave_if_stopped channel s p = if is_running s then [] else parts_of (leave channel p)

-- a message as its frame carries it: the names stand beside it
abbrev pub carried : ℕ → SenderEnd → (n index : ℕ) → Message → Frame
carried stamp e n index m = message_frame stamp e.machine n index (names_of m.route) (record m { route = None })

-- the unit in doubt, as the machine knows it
abbrev pub doubted : Option Doubt → Luw
doubted None = no_unit
doubted (Some d) = d.unit

-- the unit in doubt is settled by its receiver's word
abbrev pub settle_parts : SenderEnd → Bool → Plain → List Part
settle_parts e commit p = parts_of (harden e.channel (notes.Resolved (doubted e.machine.kept.doubt) commit false) p)

abbrev pub settle_parts_if : SenderEnd → Option Settle → Plain → List Part
settle_parts_if e None p = []
settle_parts_if e (Some s) p = settle_parts e (is_commit s) p

-- what is done at the manager, with the end's state after it and the frame that is offered
abbrev pub sent : SenderEnd → SenderDoes → List Part → Option Frame → Node → Deed
sent e d parts pushed n =
    turned (parts ++ leave_if_stopped e.channel (sender_after e.machine d outs.Done).state n.manager) pushed (sender_end_after e d outs.Done n.own)

-- a batch is held, and its first message goes
abbrev pub begin_deed : ℕ → SenderEnd → (k count : ℕ) → List Part → Node → Deed
begin_deed stamp e k count parts n =
    sent e (does.Begin k count) parts (option_map (carried stamp e k 1) (batch_row e.channel 1 (do_all parts n.manager))) n

-- the log may lack the room: the batch is released, and the sender stops
abbrev pub prepare_deed : SenderEnd → Step PrepareFault (Unit {0}) → Node → Deed
prepare_deed e (Refuse fault) n =
    turned (parts_of (release_batch e.channel n.manager) ++ parts_of (leave e.channel n.manager)) None (sender_end_after e does.Prepare outs.NoRoom n.own)
prepare_deed e (Do reply parts) n = sent e does.Prepare parts None n

abbrev pub sender_deed_by : ℕ → SenderEnd → SenderDoes → Node → Option Deed
sender_deed_by stamp e does.Still n = None
sender_deed_by stamp e does.Ignore n = Some (turned [] None n.own)
sender_deed_by stamp e (does.HardenSession session) n =
    Some (sent e (does.HardenSession session) (parts_of (harden e.channel (notes.Session e.partner session) n.manager)) None n)
sender_deed_by stamp e does.PushBind n = Some (sent e does.PushBind [] (Some (bind_frame stamp e.machine)) n)
sender_deed_by stamp e does.Expire n = Some (sent e does.Expire (parts_of (expire e.channel n.manager)) None n)
sender_deed_by stamp e (does.Begin k count) n =
    Some (begin_deed stamp e k count (parts_of (hold_batch e.channel (unit_named e.machine.kept.session k) count n.manager)) n)
sender_deed_by stamp e (does.PushMsg index) n =
    Some (sent e (does.PushMsg index) [] (option_map (carried stamp e e.machine.begun index) (batch_row e.channel index n.manager)) n)
sender_deed_by stamp e does.Prepare n =
    Some (prepare_deed e (prepare e.channel (number_sent e.machine.state e.machine.kept.last) n.manager) n)
sender_deed_by stamp e does.PushEnd n = Some (sent e does.PushEnd [] (Some (end_frame stamp e.machine)) n)
sender_deed_by stamp e (does.Bound settle partner) n =
    Some (sent e (does.Bound settle partner) (settle_parts_if e settle n.manager) None n)
sender_deed_by stamp e does.Commit n = Some (sent e does.Commit (settle_parts e true n.manager) None n)
sender_deed_by stamp e (does.Backout reason) n = Some (sent e (does.Backout reason) (settle_parts e false n.manager) None n)

-- A turn: the first line of the sender's table that applies.
abbrev pub sender_deed : ℕ → SenderEnd → Seen → Node → Option Deed
sender_deed stamp e seen n = sender_deed_by stamp e (sender_next e.machine seen (stock e.channel n.manager)) n

-- A timeout comes where an answer is awaited.
abbrev pub after_timeout : SenderEnd → Sender → Node → Deed
after_timeout e machine n = turned (leave_if_stopped e.channel machine.state n.manager) None (with_end (Sends (record e { machine = machine })) n.own)

abbrev pub timeout_deed : SenderEnd → Node → Option Deed
timeout_deed e n = if awaits e.machine.state then Some (after_timeout e (timed_out e.machine) n) else None
