use Rattle.std.specs.Prelude.{refl}
use Rattle.std.proofs.Common.{ap, ◌∙◌, ◌+◌}
use Rattle.mq_disk.specs.declared.shelf.Side.TheVariants as sides
use Rattle.mq_begin.proofs.BeganLaws.{log_refuses}
use Rattle.mq_begin.proofs.one.begin_one.Goals as goal

pub returns-in-Err-begin-clause-told : goal.returns-in-Err-begin-clause-told
returns-in-Err-begin-clause-told g c =
    log_refuses g.H.D.Disk.tells (λ b. g.H.Shelf.holds c.args.shelf.now c.args.line.now.name sides.A b) c.args.place c.args.line.now (c.args.place + 1) c.from.result (g.H.Shelf.faults c.args.shelf.now) (g.H.Shelf.faults c.take.new.self)
    (g.H.D.Disk.seen c.new.result.inner) c.in-Err-begin.unbegun.fault (g.H.D.Disk.faults c.new.result.inner) (g.H.D.Disk.faults c.in-Err-begin.unbegun.disk.inner) c.net_fault-fault.result refl c.from.ensures
    (ap (λ x. g.H.D.Disk.faults x.inner) c.new.ensures ∙ c.in-Ok.ensures.fresh)
    (λ b h. ap (λ x. g.H.D.Disk.seen x.inner) c.new.ensures ∙ c.in-Ok.ensures.bytes b h)
    c.in-Err-begin.ensures.begun c.net_fault-fault.ensures
