-- The ends of a node as its definitions have them, and what is done to each of a list.
use Rattle.std.specs.Prelude.{ℕ, List, [], ◌==◌, if◌then◌else◌, filter}
use Rattle.mq_spec_node.specs.Terms.{Did, Call, Reply}
use Rattle.mq_spec_node.specs.Node.{ChannelEnd, Handler, Monitor}
use Rattle.mq_spec_node.specs.Node.ChannelEnd.{Sends, Receives}
use Rattle.mq_spec_node.specs.Deeds.{still_tried}
use Rattle.mq_spec_node.specs.Happens.{connected_by, disconnected_by}
use Rattle.mq_own.specs.declared.ends.EndKind.{EndKind}
use Rattle.mq_own.specs.declared.ends.EndKind.TheVariants as kinds

abbrev pub end_of : EndKind → ChannelEnd
end_of (kinds.Sends e) = Sends e
end_of (kinds.Receives e) = Receives e

-- a handler forgets its tries of rows that went
abbrev pub forgetting : List Did → Handler → Handler
forgetting delta h = record h { tried = filter (still_tried delta) h.tried }

-- the monitor of that number remembers what it was answered
abbrev pub remembering : ℕ → Call → Reply → Monitor → Monitor
remembering number call reply m = if m.number == number then connected_by reply (disconnected_by call m) else m

-- and all of them
abbrev pub forgetting_all : Handler → Handler
forgetting_all h = record h { tried = [] }
