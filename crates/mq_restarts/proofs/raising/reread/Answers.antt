use Rattle.std.proofs.Common.{ap, refl}
use Rattle.std.specs.Prelude.{Err}
use Rattle.mq_log.specs.declared.open.StartFault.{StartFault}
use Rattle.mq_restart.proofs.AgainLaws.{has_read, unopened}
use Rattle.mq_restarts.proofs.StepLaws.{is_reread}
use Rattle.mq_restarts.proofs.raising.reread.Goals as goal

pub returns-in-Err : goal.returns-in-Err
returns-in-Err g c =
    let e = c.in-Err.ensures in
    unopened g.D.Disk.tells c.in-Err.fault _ c.restart.new.self _ c.args.parts.now c.parts.view_is e.err e.good e.ends e.told e.later (λ d. e.disk (ap (λ (s : StartFault). Err s) d)) c.start_fault-fault.ensures refl refl

pub returns : goal.returns
returns g c =
    let e = c.in-Ok.ensures in
    is_reread g.D.Disk.tells c.in-Ok.found c.restart.new.self _ c.args.parts.now c.parts.view_is (has_read g.D.Disk.tells c.in-Ok.found c.parts.inside.log c.restart.new.self e.found e.known e.ok e.ends e.one e.later)
