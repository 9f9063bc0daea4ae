-- Statuses: their numbers, and those of a run that was done whole, or broken off, or whose managers were not begun.
use Rattle.std.specs.Prelude.{ℕ}
use Rattle.mq_world.specs.from_begin.{NetFault}
use Rattle.mq_world.specs.from_begin.NetFaultVariants as faults
use Rattle.mq_ending.specs.declared.verdict.Verdict.{Verdict}
use Rattle.mq_ending.specs.declared.verdict.Verdict.TheVariants as verdicts
use Rattle.mq_nodes.specs.declared.nodes.Stop.{Stop}
use Rattle.mq_nodes.specs.declared.nodes.Stop.TheVariants as stops
use Rattle.mq_run.specs.declared.status.Status.{Status}
use Rattle.mq_run.specs.declared.status.Status.TheVariants as status

abbrev pub status_number : Status → ℕ
status_number status.Ok = 0
status_number status.BadWords = 1
status_number (status.BadScenario line cause) = 2
status_number status.ReadFault = 3
status_number (status.WriteFault written) = 4
status_number status.DiskFault = 5
status_number status.NoMemory = 6
status_number status.TooLong = 7
status_number (status.Conflict found) = 8
status_number (status.BadLog bad) = 9
status_number (status.Apart found) = 10
status_number (status.Spent m) = 11

abbrev pub verdict_status : Verdict → Status
verdict_status verdicts.Whole = status.Ok
verdict_status (verdicts.Conflict found) = status.Conflict found
verdict_status verdicts.DiskFault = status.DiskFault
verdict_status (verdicts.BadLog bad) = status.BadLog bad

abbrev pub net_status : NetFault → Status
net_status faults.DiskFault = status.DiskFault
net_status (faults.BadLog m gate) = status.BadLog (record { manager = m; gate = gate })
net_status faults.NoMemory = status.NoMemory

abbrev pub stop_status : Stop → Status
stop_status stops.NoMemory = status.NoMemory
stop_status (stops.Spent m) = status.Spent m
