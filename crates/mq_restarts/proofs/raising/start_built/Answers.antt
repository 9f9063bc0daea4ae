use Rattle.std.proofs.Common.{ap, refl, length, ◌∙◌, ◌+◌}
use Rattle.std.specs.Prelude.{Err}
use Rattle.mq_disk.specs.declared.cutter.Stop.{Stop}
use Rattle.mq_restart.proofs.from_record.SizeLaws.{record_whole}
use Rattle.mq_restart.specs.from_spec_manager.Stops.{started_record}
use Rattle.mq_restart.specs.Begun.{given_by}
use Rattle.mq_restart.proofs.AgainLaws.{is_raised, is_unraised}
use Rattle.mq_restarts.proofs.raising.start_built.Goals as goal

pub returns-in-Ok-append_forced-clause-raised : goal.returns-in-Ok-append_forced-clause-raised
returns-in-Ok-append_forced-clause-raised g c =
    let record_is = c.started_bytes-record.ensures.bytes in
    let long = ap length record_is ∙ record_whole (started_record (given_by c.parts.inside.number c.parts.inside.name c.parts.inside.log.max) (c.args.built.incarnation + 1)) c.started_bytes-record.ensures.record in
    let e = c.in-Ok-append_forced.ensures in
    is_raised c.args.built c.started_bytes-record.result c.make_room.new.log c.append_forced.new.self _ c.args.parts.now c.come_up.new.parts c.parts.view_is c.requires.fresh c.in-Ok.ensures.same c.in-Ok.ensures.aside e.appended e.ends e.later record_is long c.started_bytes-record.ensures.record c.come_up.ensures

pub returns-in-Err-append_forced-clause-raised : goal.returns-in-Err-append_forced-clause-raised
returns-in-Err-append_forced-clause-raised g c =
    let record_is = c.started_bytes-record.ensures.bytes in
    let whole = c.started_bytes-record.ensures.record in
    let long = ap length record_is ∙ record_whole (started_record (given_by c.parts.inside.number c.parts.inside.name c.parts.inside.log.max) (c.args.built.incarnation + 1)) whole in
    let e = c.in-Err-append_forced.ensures in
    is_unraised c.args.built c.started_bytes-record.result c.make_room.new.log c.append_forced.new.self c.in-Err-append_forced.stop _ _ c.args.parts.now c.parts.view_is c.in-Ok.ensures.same e.appended e.ends e.later (λ d. e.disk (ap (λ (s : Stop). Err s) d)) whole record_is long c.stop_fault-fault.ensures refl
