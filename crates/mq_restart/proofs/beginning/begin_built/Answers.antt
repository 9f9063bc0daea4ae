use Rattle.std.proofs.Common.{ap, arith, length, ◌∙◌, ◌+◌}
use Rattle.mq_log.specs.State.{LogState}
use Rattle.mq_record.proofs.SizeLaws.{record_whole}
use Rattle.mq_spec_manager.specs.Stops.{started_record}
use Rattle.mq_spec_log.specs.Applies.Start.{First}
use Rattle.mq_restart.specs.Begun.{given_by}
use Rattle.mq_restart.proofs.BeginLaws.{begins, has_started, is_low, ties}
use Rattle.mq_restart.proofs.LeftLaws.{left_standing, left_stopped}
use Rattle.mq_restart.proofs.beginning.begin_built.Goals as goal

pub overflow_add-built : goal.overflow_add-built
overflow_add-built g c = let low = is_low (given_by c.args.number c.args.name.now c.args.log.max) First c.args.log.bodies c.args.built c.requires.read in omega (arith, low)

pub core_of-requires-clause-tied : goal.core_of-requires-clause-tied
core_of-requires-clause-tied g c =
    let record_is = c.started_bytes-record.ensures.bytes in
    let long = ap length record_is ∙ record_whole (started_record (given_by c.args.number c.args.name.now c.args.log.max) (c.args.built.incarnation + 1)) c.started_bytes-record.ensures.record in
    let e = c.in-Ok-append_forced.ensures in
    let started = has_started c.args.built c.args.number c.args.name.now c.started_bytes-record.result c.args.log c.make_room.new.log c.append_forced.new.self c.requires.opened.fresh c.in-Ok.ensures.same c.in-Ok.ensures.aside e.appended e.ends e.later record_is long c.started_bytes-record.ensures.record in
    ties c.args.built c.args.number c.args.name.now c.args.moment c.args.log c.append_forced.new.self c.requires.read started c.requires.max c.requires.moment

pub returns-in-Ok-append_forced-clause-begun : goal.returns-in-Ok-append_forced-clause-begun
returns-in-Ok-append_forced-clause-begun g c =
    let record_is = c.started_bytes-record.ensures.bytes in
    let long = ap length record_is ∙ record_whole (started_record (given_by c.args.number c.args.name.now c.args.log.max) (c.args.built.incarnation + 1)) c.started_bytes-record.ensures.record in
    let e = c.in-Ok-append_forced.ensures in
    let started = has_started c.args.built c.args.number c.args.name.now c.started_bytes-record.result c.args.log c.make_room.new.log c.append_forced.new.self c.requires.opened.fresh c.in-Ok.ensures.same c.in-Ok.ensures.aside e.appended e.ends e.later record_is long c.started_bytes-record.ensures.record in
    begins g.D.Disk.tells c.args.built c.args.number c.args.name.now c.args.moment c.args.log c.append_forced.new.self c.core_of.result c.requires.read c.requires.opened.armed started c.core_of.ensures

pub returns-in-Err-clause-left : goal.returns-in-Err-clause-left
returns-in-Err-clause-left g c t =
    left_standing (given_by c.args.number c.args.name.now c.args.log.max) c.args.log.bodies c.handed_back.result.fault (g.D.Disk.may_leave c.handed_back.result.disk.inner) c.make_room.new.log
    (ap (λ (l : LogState). l.bodies) c.in-Err.ensures.same) (ap (λ (l : LogState). l.pending) c.in-Err.ensures.same ∙ c.requires.opened.fresh.settled) (c.handed_back.ensures.left t)

pub returns-in-Err-append_forced-clause-left : goal.returns-in-Err-append_forced-clause-left
returns-in-Err-append_forced-clause-left g c t =
    let h = c.handed_back-in-Err-append_forced in
    left_stopped (given_by c.args.number c.args.name.now c.args.log.max) c.args.built c.started_bytes-record.result c.in-Err-append_forced.stop h.result.fault (g.D.Disk.may_leave h.result.disk.inner)
    c.args.log c.make_room.new.log c.append_forced.new.self c.requires.read c.in-Ok.ensures.same c.started_bytes-record.ensures.bytes c.in-Err-append_forced.ensures.appended
    (h.ensures.fault ∙ c.stop_fault-fault.ensures) (h.ensures.left t)
