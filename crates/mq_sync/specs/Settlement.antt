-- What becomes of a sender's hardened data: a batch is prepared, and the unit in doubt is settled.
use Rattle.std.specs.Prelude.{ℕ, Bool, true, false, [], Option, Some, None}
use Rattle.mq_sync.specs.declared.unit.Settle.{Settle}
use Rattle.mq_sync.specs.declared.unit.Settle.TheVariants.{Commit, Backout}
use Rattle.mq_sync.specs.declared.data.Doubt.{Doubt}
use Rattle.mq_sync.specs.declared.data.InDoubt.{InDoubt}
use Rattle.mq_sync.specs.declared.data.SenderData.{SenderData}
use Rattle.mq_sync.specs.declared.data.ReceiverData.{ReceiverData}
use Rattle.mq_sync.specs.Units.{no_unit}

-- a settlement as the flag of its record, and back
abbrev pub is_commit : Settle → Bool
is_commit Commit = true
is_commit Backout = false

abbrev pub settle_by : (commit : Bool) → Settle
settle_by true = Commit
settle_by false = Backout

-- what is told of the unit in doubt; its last number, or the last one without it where there is none
abbrev pub doubt_of : Option InDoubt → Option Doubt
doubt_of None = None
doubt_of (Some d) = Some (record { unit = d.unit; last = d.last })

abbrev pub doubt_last : Option Doubt → ℕ → ℕ
doubt_last None last = last
doubt_last (Some d) last = d.last

-- the unit is in doubt from here on; the next session need not tell the partner the last number any more
abbrev pub data_prepared : InDoubt → SenderData → SenderData
data_prepared doubt d = record d { force = false; in_doubt = Some doubt }

-- the unit in doubt is settled, where it is: a commit takes its last number over
abbrev pub data_settled : Option Settle → SenderData → SenderData
data_settled None d = d
data_settled (Some Commit) d = record d { last = doubt_last (doubt_of d.in_doubt) d.last; in_doubt = None }
data_settled (Some Backout) d = record d { in_doubt = None }

-- the data of an end for which nothing was hardened yet
abbrev pub sender_or : Option SenderData → SenderData
sender_or None = record { partner = []; session = 0; last = 0; force = false; in_doubt = None }
sender_or (Some d) = d

abbrev pub receiver_or : Option ReceiverData → ReceiverData
receiver_or None = record { partner = []; session = 0; closed = false; unit = no_unit; last = 0 }
receiver_or (Some d) = d
