-- What each line of the sender's table does at the manager.
use Rattle.std.specs.Prelude.{Bool, true, false, List, [], ◌++◌, Some}
use Rattle.mq_calls.specs.declared.agents.Note.TheVariants as notes
use Rattle.mq_sender.specs.declared.turns.SenderDoes.TheVariants as does
use Rattle.mq_sync.specs.declared.data.Stock.{Stock}
use Rattle.mq_sender.specs.After.{done_after}
use Rattle.mq_spec_node.specs.Terms.{Frame, SenderDoes, Plain, Part, expire, harden}
use Rattle.mq_spec_node.specs.Words.{Deed, Node, SenderEnd, parts_of, settle_parts, settle_parts_if, turned, with_end}
use Rattle.mq_spec_node.specs.Node.ChannelEnd.{Sends}
use Rattle.mq_turn_parts.specs.Turns.{leave_unless}

-- lines that do no more at the manager than to harden a record or to remove expired rows
abbrev pub Works : SenderDoes → Type 0
Works (does.HardenSession session) = Unit {0}
Works does.Expire = Unit {0}
Works (does.Bound settle partner) = Unit {0}
Works does.Commit = Unit {0}
Works (does.Backout reason) = Unit {0}
Works _ = ⊥

abbrev pub sender_parts : SenderEnd → SenderDoes → Plain → List Part
sender_parts e (does.HardenSession session) p = parts_of (harden e.channel (notes.Session e.partner session) p)
sender_parts e does.Expire p = parts_of (expire e.channel p)
sender_parts e (does.Bound settle partner) p = settle_parts_if e settle p
sender_parts e does.Commit p = settle_parts e true p
sender_parts e (does.Backout reason) p = settle_parts e false p
sender_parts e _ p = []

-- with what a sender leaves that doesn't run behind it
abbrev pub all_parts : SenderEnd → SenderDoes → (running : Bool) → Plain → List Part
all_parts e d running p = sender_parts e d p ++ leave_unless running e.channel p

-- what an end does where an item waits
abbrev pub Answers : SenderDoes → Type 0
Answers does.Ignore = Unit {0}
Answers (does.Bound settle partner) = Unit {0}
Answers does.Commit = Unit {0}
Answers (does.Backout reason) = Unit {0}
Answers _ = ⊥

-- and where none does
abbrev pub IsOwn : SenderDoes → Type 0
IsOwn does.Ignore = ⊥
IsOwn (does.Bound settle partner) = ⊥
IsOwn does.Commit = ⊥
IsOwn (does.Backout reason) = ⊥
IsOwn _ = Unit {0}

-- the item is taken, and nothing else is done
abbrev pub is_ignore : SenderDoes → Bool
is_ignore does.Ignore = true
is_ignore _ = false

-- the end after a line
abbrev pub behind_end : SenderEnd → SenderDoes → SenderEnd
behind_end e d = record e { machine = done_after e.machine d }

-- the deed of a line that offers this frame and does nothing at the manager
abbrev pub pushed_deed : SenderEnd → SenderDoes → Frame → Node → Deed
pushed_deed e d f n = turned [] (Some f) (with_end (Sends (behind_end e d)) n.own)

-- a queue of which nothing was seen
abbrev pub unseen : Stock
unseen = record { enabled = false; expired = false; free = 0 }
