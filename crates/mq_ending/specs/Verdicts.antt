-- What a story says of its run.
use Rattle.std.specs.Prelude.{ℕ, Bool, true, false, List, [], ◌∷◌, Option, None, Some}
use Rattle.std.specs.List.{list_any}
use Rattle.std.specs.Option.{option_or as or_else}
use Rattle.mq_disk.specs.declared.cutter.Stop.TheVariants as stops
use Rattle.mq_calls.specs.declared.commands.ScRefusal.{ScRefusal}
use Rattle.mq_calls.specs.declared.commands.ScRefusal.TheVariants as sc
use Rattle.mq_calls.specs.declared.commands.RestartFault.{RestartFault}
use Rattle.mq_calls.specs.declared.commands.RestartFault.TheVariants as starts
use Rattle.mq_history.specs.declared.acts.Acted.{Acted}
use Rattle.mq_history.specs.declared.acts.Acted.TheVariants as acted
use Rattle.mq_history.specs.declared.acts.OpRefusal.{OpRefusal}
use Rattle.mq_history.specs.declared.acts.OpRefusal.TheVariants as ops
use Rattle.mq_history.specs.declared.calls.Reply.{Reply}
use Rattle.mq_history.specs.declared.calls.Reply.TheVariants as replies
use Rattle.mq_history.specs.declared.history.History.{History}
use Rattle.mq_history.specs.declared.scenario.Scenario.{Scenario}
use Rattle.mq_history.specs.declared.story.Conflict.{Conflict}
use Rattle.mq_spec_network.specs.Story.{Line}
use Rattle.mq_spec_network.specs.Conflict.{conflict}
use Rattle.mq_story.specs.declared.merging.Spot.{Spot}
use Rattle.mq_story.specs.Spots.{line_at}
use Rattle.mq_ending.specs.declared.verdict.BadLog.{BadLog}
use Rattle.mq_ending.specs.declared.verdict.Verdict.{Verdict}
use Rattle.mq_ending.specs.declared.verdict.Verdict.TheVariants as verdicts

-- A disk that failed: a call whose write it stopped, or a command or a restart that was refused for it.
abbrev pub sc_disk : ScRefusal → Bool
sc_disk sc.Disk = true
sc_disk _ = false

abbrev pub op_disk : OpRefusal → Bool
op_disk ops.Disk = true
op_disk _ = false

abbrev pub start_disk : RestartFault → Bool
start_disk starts.Disk = true
start_disk _ = false

abbrev pub acted_disk : Acted → Bool
acted_disk (acted.Sc refusal) = sc_disk refusal
acted_disk (acted.Op refusal) = op_disk refusal
acted_disk (acted.Start fault) = start_disk fault
acted_disk _ = false

abbrev pub tells_disk : Reply → Bool
tells_disk (replies.Stopped stops.Disk) = true
tells_disk (replies.Acted a) = acted_disk a
tells_disk _ = false

-- an entry of a story tells so
abbrev pub any_disk : List Line → Bool
any_disk story = list_any (λ (x : Line). tells_disk x.entry.reply) story

-- A log that a restart found bad: the gate at fault.
abbrev pub start_bad : RestartFault → Option ℕ
start_bad (starts.BadLog gate) = Some gate
start_bad _ = None

abbrev pub bad_acted : Acted → Option ℕ
bad_acted (acted.Start fault) = start_bad fault
bad_acted _ = None

abbrev pub bad_place : Reply → Option ℕ
bad_place (replies.Acted a) = bad_acted a
bad_place _ = None

abbrev pub bad_of : ℕ → Option ℕ → Option BadLog
bad_of m None = None
bad_of m (Some gate) = Some (record { manager = m; gate = gate })

-- the first such restart of a story
abbrev pub first_bad : List Line → Option BadLog
first_bad [] = None
first_bad (x ∷ xs) = or_else (bad_of x.manager (bad_place x.entry.reply)) (first_bad xs)

-- The verdict: a conflict, else a disk, else a log.
abbrev pub by_log : Option BadLog → Verdict
by_log None = verdicts.Whole
by_log (Some bad) = verdicts.BadLog bad

abbrev pub by_disk : Bool → Verdict → Verdict
by_disk true other = verdicts.DiskFault
by_disk false other = other

abbrev pub by_conflict : Option Conflict → Verdict → Verdict
by_conflict (Some found) other = verdicts.Conflict found
by_conflict None other = other

abbrev pub verdict : Scenario → List History → List Line → Verdict
verdict s hs story = by_conflict (conflict s hs story) (by_disk (any_disk story) (by_log (first_bad story)))

-- the status that the report tells
abbrev pub verdict_number : Verdict → ℕ
verdict_number (verdicts.Conflict found) = 8
verdict_number verdicts.DiskFault = 5
verdict_number (verdicts.BadLog bad) = 9
verdict_number verdicts.Whole = 0

-- As a story is read, spot by spot.
abbrev pub disk_at : List History → Spot → Bool
disk_at hs spot = any_disk (line_at hs spot)

abbrev pub first_bad_at : List History → List Spot → Option BadLog
first_bad_at hs [] = None
first_bad_at hs (x ∷ xs) = or_else (first_bad (line_at hs x)) (first_bad_at hs xs)
