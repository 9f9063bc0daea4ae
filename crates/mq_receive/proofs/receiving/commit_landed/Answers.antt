use Rattle.std.proofs.Common.{ap, sym, subst, ◌∙◌}
use Rattle.mq_calls.specs.Words.{Plain, is_up}
use Rattle.mq_core.proofs.PutLaws.{tied_roomier, roomier_view}
use Rattle.mq_core.proofs.WriteLaws.{roomier_bodies}
use Rattle.mq_core.specs.Counting.{CanCount}
use Rattle.mq_core.specs.Values.{CoreValue}
use Rattle.mq_core.specs.Views.{PartsValue, plain_of, frozen_of}
use Rattle.mq_core.proofs.MeetLaws.{mode_up}
use Rattle.mq_receive.specs.Standings.{AreFitting}
use Rattle.mq_receive.specs.Committed.{batch_record, batch_part}
use Rattle.mq_receive.proofs.EndingLaws.{commit_done, commit_wrote, commit_ends, commit_told, ends_tied}
use Rattle.mq_receive.proofs.receiving.commit_landed.Goals as goal

pub commit-requires-clause-up : goal.commit-requires-clause-up
commit-requires-clause-up g c =
    let v = c.core.view_is ∙ c.begin_call.ensures in
    mode_up (frozen_of c.aside.new.parts) c.aside.new.parts.mode (ap (λ (p : Plain). is_up p.running) (roomier_view c.core.inside.parts c.aside.new.parts c.aside.ensures.more ∙ ap (λ (w : CoreValue). w.plain) v) ∙ c.requires.up)

pub commit-requires-clause-tied : goal.commit-requires-clause-tied
commit-requires-clause-tied g c = tied_roomier c.core.inside.parts c.aside.new.parts c.aside.ensures.more c.core.invariant

pub commit-requires-clause-ends : goal.commit-requires-clause-ends
commit-requires-clause-ends g c =
    let x = c.core.inside.parts in
    c.in-Ok.ensures.ready (c.core.invariant.up (mode_up (frozen_of x) x.mode (ap (λ (w : CoreValue). is_up w.plain.running) (c.core.view_is ∙ c.begin_call.ensures) ∙ c.requires.up))).ends

pub invariant_of-core : goal.invariant_of-core
invariant_of-core g c = tied_roomier c.core.inside.parts c.aside.new.parts c.aside.ensures.more c.core.invariant

pub returns-in-Err-clause-meets : goal.returns-in-Err-clause-meets
returns-in-Err-clause-meets g c =
    let v = c.core.view_is ∙ c.begin_call.ensures in
    let m = c.aside.ensures.more in
    let plain = roomier_view c.core.inside.parts c.aside.new.parts m ∙ ap (λ (w : CoreValue). w.plain) v in
    let told = ap (λ (w : CoreValue). w.delta) v in
    let stopped = ap (λ (w : CoreValue). w.stopped) v in
    let faults = ap (λ (q : PartsValue). q.log.faults) m.same ∙ ap (λ (w : CoreValue). w.faults) v in
    λ i. record { plain = plain i; delta = told i; stopped = stopped i; faults = faults i }

pub returns-in-Err-clause-told : goal.returns-in-Err-clause-told
returns-in-Err-clause-told g c = roomier_bodies c.core.inside.parts c.aside.new.parts c.aside.ensures.more ∙ ap (λ (w : CoreValue). w.log) (c.core.view_is ∙ c.begin_call.ensures)

pub commit-requires-clause-low : goal.commit-requires-clause-low
commit-requires-clause-low g c = subst CanCount (sym (roomier_view c.core.inside.parts c.aside.new.parts c.aside.ensures.more ∙ ap (λ (w : CoreValue). w.plain) (c.core.view_is ∙ c.begin_call.ensures))) c.requires.low

pub commit-requires-clause-fits : goal.commit-requires-clause-fits
commit-requires-clause-fits g c = subst (AreFitting c.args.landed) (sym (roomier_view c.core.inside.parts c.aside.new.parts c.aside.ensures.more ∙ ap (λ (w : CoreValue). w.plain) (c.core.view_is ∙ c.begin_call.ensures))) c.requires.fits

pub invariant_of-core-in-Err-commit : goal.invariant_of-core-in-Err-commit
invariant_of-core-in-Err-commit g c =
    ends_tied c.in-Err-commit.unwritten (batch_part c.args.channel.now c.args.unit c.args.last c.args.landed (plain_of c.aside.new.parts)) (batch_record c.args.channel.now c.args.unit c.args.last c.args.landed)
    c.aside.new.parts c.commit.new.parts c.core.inside.effects.dids c.commit.new.effects.dids c.in-Err-commit.ensures

pub returns-in-Err-commit-clause-meets : goal.returns-in-Err-commit-clause-meets
returns-in-Err-commit-clause-meets g c =
    let v = c.core.view_is ∙ c.begin_call.ensures in
    commit_ends c.in-Err-commit.unwritten c.args.core.now c.args.channel.now c.args.unit c.args.last c.args.landed c.aside.new.parts c.commit.new.parts c.core.inside.effects.dids c.commit.new.effects.dids c.agent_of-agent.result c.stop_of-stopped.result
    c.agent_of-agent.ensures c.stop_of-stopped.ensures
    (record { plain = roomier_view c.core.inside.parts c.aside.new.parts c.aside.ensures.more ∙ ap (λ (w : CoreValue). w.plain) v; faults = ap (λ (q : PartsValue). q.log.faults) c.aside.ensures.more.same ∙ ap (λ (w : CoreValue). w.faults) v; log = roomier_bodies c.core.inside.parts c.aside.new.parts c.aside.ensures.more ∙ ap (λ (w : CoreValue). w.log) v; told = ap (λ (w : CoreValue). w.delta) v }) c.in-Err-commit.ensures

pub returns-in-Err-commit-clause-told : goal.returns-in-Err-commit-clause-told
returns-in-Err-commit-clause-told g c =
    let v = c.core.view_is ∙ c.begin_call.ensures in
    commit_told c.in-Err-commit.unwritten c.args.core.now c.args.channel.now c.args.unit c.args.last c.args.landed c.aside.new.parts c.commit.new.parts c.core.inside.effects.dids c.commit.new.effects.dids c.agent_of-agent.result c.stop_of-stopped.result
    c.agent_of-agent.ensures
    (record { plain = roomier_view c.core.inside.parts c.aside.new.parts c.aside.ensures.more ∙ ap (λ (w : CoreValue). w.plain) v; faults = ap (λ (q : PartsValue). q.log.faults) c.aside.ensures.more.same ∙ ap (λ (w : CoreValue). w.faults) v; log = roomier_bodies c.core.inside.parts c.aside.new.parts c.aside.ensures.more ∙ ap (λ (w : CoreValue). w.log) v; told = ap (λ (w : CoreValue). w.delta) v }) c.in-Err-commit.ensures

pub invariant_of-core-in-Ok-commit : goal.invariant_of-core-in-Ok-commit
invariant_of-core-in-Ok-commit g c = c.in-Ok-commit.ensures.tied

pub returns-clause-meets : goal.returns-clause-meets
returns-clause-meets g c =
    let v = c.core.view_is ∙ c.begin_call.ensures in
    commit_done c.args.core.now c.args.channel.now c.args.unit c.args.last c.args.landed c.aside.new.parts c.commit.new.parts c.core.inside.effects.dids c.commit.new.effects.dids c.core.inside.stopped
    (record { plain = roomier_view c.core.inside.parts c.aside.new.parts c.aside.ensures.more ∙ ap (λ (w : CoreValue). w.plain) v; faults = ap (λ (q : PartsValue). q.log.faults) c.aside.ensures.more.same ∙ ap (λ (w : CoreValue). w.faults) v; log = roomier_bodies c.core.inside.parts c.aside.new.parts c.aside.ensures.more ∙ ap (λ (w : CoreValue). w.log) v; told = ap (λ (w : CoreValue). w.delta) v }) (ap (λ (w : CoreValue). w.stopped) v) c.in-Ok-commit.ensures

pub returns-clause-told : goal.returns-clause-told
returns-clause-told g c =
    let v = c.core.view_is ∙ c.begin_call.ensures in
    commit_wrote c.args.core.now c.args.channel.now c.args.unit c.args.last c.args.landed c.aside.new.parts c.commit.new.parts c.core.inside.effects.dids c.commit.new.effects.dids c.core.inside.stopped
    (record { plain = roomier_view c.core.inside.parts c.aside.new.parts c.aside.ensures.more ∙ ap (λ (w : CoreValue). w.plain) v; faults = ap (λ (q : PartsValue). q.log.faults) c.aside.ensures.more.same ∙ ap (λ (w : CoreValue). w.faults) v; log = roomier_bodies c.core.inside.parts c.aside.new.parts c.aside.ensures.more ∙ ap (λ (w : CoreValue). w.log) v; told = ap (λ (w : CoreValue). w.delta) v }) c.in-Ok-commit.ensures
