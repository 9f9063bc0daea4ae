-- When an event tells that a disk failed: the disk's count of faults rose in that very call.
use Rattle.std.specs.Prelude.{◌≡◌, ◌≤◌, ◌+◌, ◌-◌, ◌^◌, ℕ, min, Bool, true, false, if◌then◌else◌, List, [], ◌∷◌, Option, Some, None, Result, Ok, Err}
use Rattle.mq_base.specs.Outside.{Rose}
use Rattle.mq_base.specs.declared.want.NoMemory.{NoMemory as Want}
use Rattle.mq_calls.specs.declared.commands.RestartFault.TheVariants as faults
use Rattle.mq_disk.specs.declared.cutter.Stop.TheVariants as stops
use Rattle.mq_history.specs.declared.acts.Acted.TheVariants as acted
use Rattle.mq_history.specs.declared.calls.Reply.TheVariants as replies
use Rattle.mq_spec_node.specs.Terms.{Choice, Runs, NoMemory, Stopped, Entry, Reply}
use Rattle.mq_events.specs.declared.outcome.Outcome.{Outcome}

-- A disk stopped its write, or a restart found none that works.
abbrev pub disk_failed : Reply → Bool
disk_failed (replies.Stopped stops.Disk) = true
disk_failed (replies.Acted (acted.Start faults.Disk)) = true
disk_failed _ = false

abbrev pub RoseBy : Reply → (before now : ℕ) → Type 0
RoseBy reply before now = disk_failed reply ≡ true → Rose before now

-- so by what a call's parts came to
abbrev pub RoseWhere : Choice → (before now : ℕ) → Type 0
RoseWhere Runs before now = Unit {0}
RoseWhere NoMemory before now = Unit {0}
RoseWhere (Stopped by part left) before now = by ≡ stops.Disk → Rose before now

-- and where a call is an event
abbrev pub RoseIn : Result (Option Outcome) Want → (before now : ℕ) → Type 0
RoseIn (Ok (Some o)) before now = RoseBy o.reply before now
RoseIn (Ok None) before now = Unit {0}
RoseIn (Err e) before now = Unit {0}

-- how often entries tell so
abbrev pub disk_failures : List Entry → ℕ
disk_failures [] = 0
disk_failures (e ∷ es) = (if disk_failed e.reply then 1 else 0) + disk_failures es

-- A disk failed at least as often as these entries tell, or its count stands at its last value.
abbrev pub HasRisen : List Entry → (count : ℕ) → Type 0
HasRisen es count = min (disk_failures es) (2 ^ 64 - 1) ≤ count
