use Rattle.std.proofs.Common.{inl, refl}
use Rattle.mq_restart.specs.Begun.{given_by}
use Rattle.mq_restart.proofs.BeginLaws.{begun_whole, refused_whole}
use Rattle.mq_restart.proofs.LeftLaws.{left_standing, left_whole}
use Rattle.mq_restart.proofs.beginning.begin.Goals as goal

pub returns-in-Ok-begin_built-clause-begun : goal.returns-in-Ok-begin_built-clause-begun
returns-in-Ok-begin_built-clause-begun g c =
    begun_whole g.D.Disk.tells (g.D.Disk.seen c.args.disk.inner) (g.D.Disk.faults c.args.disk.inner) c.args.max c.args.number c.args.name.now c.args.moment c.in-Ok.log c.in-Ok-begin_built.core c.in-Ok.ensures.opened c.in-Ok-begin_built.ensures.begun

pub returns-in-Err-begin_built-clause-begun : goal.returns-in-Err-begin_built-clause-begun
returns-in-Err-begin_built-clause-begun g c =
    refused_whole g.D.Disk.tells (g.D.Disk.seen c.args.disk.inner) (g.D.Disk.faults c.args.disk.inner) c.args.max c.args.number c.args.name.now c.in-Ok.log c.in-Err-begin_built.unbegun.fault _ c.in-Ok.ensures.opened (c.in-Err-begin_built.ensures.begun (g.D.Disk.seen c.args.disk.inner))

pub returns-in-Err-clause-begun : goal.returns-in-Err-clause-begun
returns-in-Err-clause-begun g c = c.in-Err.ensures.opened (given_by c.args.number c.args.name.now c.args.max)

pub returns-in-Err-clause-left : goal.returns-in-Err-clause-left
returns-in-Err-clause-left g c t = inl (c.in-Err.ensures.left t)

pub returns-in-Err-begin_built-clause-left : goal.returns-in-Err-begin_built-clause-left
returns-in-Err-begin_built-clause-left g c t =
    left_whole g.D.Disk.tells (g.D.Disk.seen c.args.disk.inner) (g.D.Disk.faults c.args.disk.inner) c.args.max c.args.number c.args.name.now c.in-Ok.log c.in-Err-begin_built.unbegun.fault
    (g.D.Disk.may_leave c.args.disk.inner) (g.D.Disk.may_leave c.in-Err-begin_built.unbegun.disk.inner) c.in-Ok.ensures.opened t (c.in-Err-begin_built.ensures.left t)

pub returns-in-Err-built_of-clause-left : goal.returns-in-Err-built_of-clause-left
returns-in-Err-built_of-clause-left g c t =
    let h = c.handed_back in
    left_whole g.D.Disk.tells (g.D.Disk.seen c.args.disk.inner) (g.D.Disk.faults c.args.disk.inner) c.args.max c.args.number c.args.name.now c.in-Ok.log h.result.fault
    (g.D.Disk.may_leave c.args.disk.inner) (g.D.Disk.may_leave h.result.disk.inner) c.in-Ok.ensures.opened t
    (left_standing (given_by c.args.number c.args.name.now c.in-Ok.log.max) c.in-Ok.log.bodies h.result.fault (g.D.Disk.may_leave h.result.disk.inner) c.in-Ok.log refl c.in-Ok.ensures.opened.opened.fresh.settled (h.ensures.left t))
