use Rattle.std.proofs.Common.{◌≡◌, ◌+◌, ap, ◌∙◌}
use Rattle.mq_calls.specs.Words.{Plain, is_up, connection_at, change_connection}
use Rattle.mq_calls.specs.declared.state.Connection.{Connection}
use Rattle.mq_spec_manager.specs.Words.{new_handle, open_step}
use Rattle.mq_core.specs.from_handles.Seats.{opened}
use Rattle.mq_core.specs.Views.{PartsValue, plain_of, frozen_of}
use Rattle.mq_core.proofs.SeatLaws.{tied_seated}
use Rattle.mq_core.proofs.MeetLaws.{some_is, if_some, mode_up, changed_view, opened_as}
use Rattle.mq_core.specs.Values.{CoreValue, manager_of, bodies_in}
use Rattle.mq_core.proofs.WriteLaws.{writes_at}
use Rattle.mq_mqi.proofs.connecting.open.Goals as goal

pub returns-clause-meets : goal.returns-clause-meets
returns-clause-meets g c =
    let v = c.core.view_is ∙ c.begin_call.ensures in
    let x : PartsValue = c.core.inside.parts in
    let plain = ap (λ (w : CoreValue). w.plain) v in
    let live = some_is _ c.requires.live in
    let found = ap (λ (p : Plain). connection_at c.args.number p.connections) plain ∙ live.1 in
    let up = mode_up (frozen_of x) x.mode (ap (λ (p : Plain). is_up p.running) plain ∙ c.requires.up) in
    let h = new_handle c.args.how.now c.args.route live.0 in
    let parts = if_some (λ (d : Connection). c.open.new.self ≡ record x { desk = record { live = change_connection c.args.number (opened (new_handle c.args.how.now c.args.route d)) x.desk.live; last = x.desk.last } }) _ live.0 found c.in-Ok.ensures.ok in
    let number = if_some (λ (d : Connection). c.in-Ok.ho.number ≡ d.last_handle + 1) _ live.0 found c.in-Ok.ensures.number in
    opened_as (manager_of c.args.core.now) _ c.args.number c.args.how.now c.args.route live.0 c.in-Ok.ho live.1 number
    (ap plain_of parts ∙ changed_view x _ c.args.number live.0 (opened h) up plain found)
    (ap (λ (w : CoreValue). w.delta) v) (ap (λ (w : CoreValue). w.stopped) v) (ap (λ (y : PartsValue). y.log.faults) parts ∙ ap (λ (w : CoreValue). w.faults) v)

pub invariant_of-core : goal.invariant_of-core
invariant_of-core g c = tied_seated c.core.inside.parts c.open.new.self c.open.ensures.seated.0 c.open.ensures.seated.1 c.core.invariant

pub invariant_of-core-2 : goal.invariant_of-core-2
invariant_of-core-2 g c = tied_seated c.core.inside.parts c.open.new.self c.open.ensures.seated.0 c.open.ensures.seated.1 c.core.invariant

pub returns-clause-told : goal.returns-clause-told
returns-clause-told g c =
    let v = c.core.view_is ∙ c.begin_call.ensures in
    let x : PartsValue = c.core.inside.parts in
    let live = some_is _ c.requires.live in
    let found = ap (λ (w : CoreValue). connection_at c.args.number w.plain.connections) v ∙ live.1 in
    let parts = if_some (λ (d : Connection). c.open.new.self ≡ record x { desk = record { live = change_connection c.args.number (opened (new_handle c.args.how.now c.args.route d)) x.desk.live; last = x.desk.last } }) _ live.0 found c.in-Ok.ensures.ok in
    writes_at c.args.core.now _ c.args.number live.0 (λ d. open_step d c.args.how.now c.args.route) _ live.1
    (ap (λ (y : PartsValue). bodies_in y.log) parts ∙ ap (λ (w : CoreValue). w.log) v, (tt, tt))
