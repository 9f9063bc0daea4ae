use Rattle.mq_restart.proofs.StandLaws.{cuts_stand, clock_stands, stops_stand, breaks_stand}
use Rattle.mq_restart.proofs.laws.a_log_stands_behind_each_stop.Goals as goal

pub returns : goal.returns
returns g c = record { cuts = cuts_stand g.D.Disk.tells; clock = clock_stands g.D.Disk.tells; stops = stops_stand g.D.Disk.tells; breaks = breaks_stand g.D.Disk.tells }
