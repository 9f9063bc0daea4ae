use Rattle.mq_restart.proofs.RaiseLaws.{comes_up}
use Rattle.mq_restart.proofs.FallLaws.{falls, can_return}
use Rattle.mq_restart.proofs.starting.a_restart_keeps_to_its_history.Goals as goal

pub returns : goal.returns
returns g c = record { comes = comes_up g.D.Disk.tells; falls = falls g.D.Disk.tells; calls = can_return g.D.Disk.tells }
