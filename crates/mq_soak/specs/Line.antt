-- The one line that tells of such a run.
use Rattle.std.specs.Prelude.{ℕ, Bool, true, false, List, [], ◌∷◌, ◌++◌, length, count_by, sum_by, codes}
use Rattle.std.specs.List.{flat_map}
use Rattle.std.specs.Fmt.{decimal}
use Rattle.mq_calls.specs.declared.answers.Answer.{Answer}
use Rattle.mq_calls.specs.declared.answers.Answer.TheVariants as answers
use Rattle.mq_calls.specs.declared.answers.Sent.{Sent}
use Rattle.mq_history.specs.declared.calls.Entry.{Entry}
use Rattle.mq_history.specs.declared.calls.Reply.{Reply}
use Rattle.mq_history.specs.declared.calls.Reply.TheVariants as replies
use Rattle.mq_history.specs.declared.history.History.{History}
use Rattle.mq_net_stands.specs.declared.standing.ManagerStanding.{ManagerStanding}
use Rattle.mq_net_stands.specs.declared.standing.QueueStanding.{QueueStanding}
use Rattle.mq_net_stands.specs.declared.standing.Standing.{Standing}

-- a put that was answered OK
abbrev pub is_ok : Answer Sent → Bool
is_ok (answers.Ok s) = true
is_ok _ = false

abbrev pub is_put : Reply → Bool
is_put (replies.Put a) = is_ok a
is_put _ = false

-- how many the first manager has, whose script alone puts
abbrev pub puts_of : List History → ℕ
puts_of [] = 0
puts_of (h ∷ hs) = count_by (λ (e : Entry). is_put e.reply) h.entries

-- the committed rows of a manager, held ones too; none are told of one that is down
abbrev pub rows_at : ManagerStanding → ℕ
rows_at m = sum_by (λ (q : QueueStanding). length q.rows) m.queues

abbrev pub manager_part : ManagerStanding → List ℕ
manager_part m = codes " " ++ m.name ++ codes " " ++ decimal (rows_at m)

-- the line of a number, by histories, standing and status
abbrev pub soak_line : ℕ → List History → Standing → ℕ → List ℕ
soak_line n hs standing status =
    codes "SOAK " ++ decimal n ++ codes " PUTS " ++ decimal (puts_of hs) ++ flat_map manager_part standing.managers ++ codes " STATUS " ++ decimal status ++ codes "\n"
