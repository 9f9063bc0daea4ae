use Rattle.mq_acts.proofs.ReturnLaws.{came_told, stayed_down}
use Rattle.mq_acts.proofs.restarting.restart_manager.Goals as goal

pub returns-in-Ok : goal.returns-in-Ok
returns-in-Ok g c =
    came_told g.D.Disk.tells c.args.manager.now c.restart.new.self c.take_delta.new.self c.in-Ok.back c.came.result c.take_delta.result c.in-Ok.ensures.ends c.in-Ok.ensures.passes c.came.ensures c.take_delta.ensures.delta c.take_delta.ensures.left

pub returns-in-Err : goal.returns-in-Err
returns-in-Err g c = stayed_down g.D.Disk.tells c.args.manager.now c.restart.new.self c.in-Err.e c.stayed.result c.in-Err.ensures.ends c.in-Err.ensures.passes c.stayed.ensures
