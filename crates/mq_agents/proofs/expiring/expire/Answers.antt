use Rattle.std.proofs.Common.{◌≡◌, ◌∙◌, List, [], length, sym, ap, subst, arith}
use Rattle.std.specs.Prelude.{Option, None, Ok, Err}
use Rattle.mq_disk.specs.declared.cutter.Stop.{Stop}
use Rattle.mq_calls.specs.declared.deltas.Why.TheVariants as whys
use Rattle.mq_calls.specs.Words.{Part, Step, ManagerValue, MeetsOrWants, Do}
use Rattle.mq_calls.specs.declared.agents.AgentStop.{AgentStop}
use Rattle.mq_spec_manager.specs.Words.{Never, expired_parts}
use Rattle.mq_spec_manager.specs.Agents.{expire, expired_rows, queue_of_sender}
use Rattle.mq_get.specs.from_scan.{Met}
use Rattle.mq_core.specs.Values.{CoreValue, manager_of, begun_call, bodies_in, WritesLog}
use Rattle.mq_core.specs.Views.{PartsValue, plain_of}
use Rattle.mq_get.specs.Does.{seen}
use Rattle.mq_get.specs.Leaving.{gone_parts}
use Rattle.mq_get.proofs.GetLaws.{parts_are}
use Rattle.mq_get.proofs.PathLaws.{halt_tied}
use Rattle.mq_agents.specs.Ends.{halt_of}
use Rattle.mq_agents.specs.Expiring.{agent_of_halt}
use Rattle.mq_agents.proofs.ExpireLaws.{nothing, short_few, begun_meets, begun_told, cleared_meets, cleared_told, halted_meets, halted_told}
use Rattle.mq_agents.proofs.expiring.expire.Goals as goal

pub drop_expired-requires-clause-short : goal.drop_expired-requires-clause-short
drop_expired-requires-clause-short g c =
    let few = ap length c.as_slice.ensures in
    short_few c.queue_of_sender-queue.result c.as_slice.result.now (omega (arith, few, c.len.ensures, c.if-len-gt-MOST_ROWS.false))

pub invariant_of-core-in-Err-drop_expired : goal.invariant_of-core-in-Err-drop_expired
invariant_of-core-in-Err-drop_expired g c =
    halt_tied (gone_parts whys.Expired c.queue_of_sender-queue.result c.as_slice.result.now) c.core.inside.parts c.drop_expired.new.parts c.drop_expired.new.effects c.in-Err-drop_expired.halt c.core.invariant c.in-Err-drop_expired.ensures

pub returns-in-Ok-drop_expired-clause-meets : goal.returns-in-Ok-drop_expired-clause-meets
returns-in-Ok-drop_expired-clause-meets g c =
    let v = c.core.view_is ∙ c.begin_call.ensures in
    let plain = ap (λ (w : CoreValue). w.plain) v in
    let faults = ap (λ (w : CoreValue). w.faults) v in
    let log = ap (λ (w : CoreValue). w.log) v in
    let x : PartsValue = c.core.inside.parts in
    let y : PartsValue = c.drop_expired.new.parts in
    let channel = c.args.channel.now in
    let queue = c.queue_of_sender-queue.result in
    let mets : List Met = c.as_slice.result.now in
    let named : queue ≡ queue_of_sender channel c.args.core.now.plain = c.queue_of_sender-queue.ensures ∙ ap (queue_of_sender channel) plain in
    let parts : List Part = gone_parts whys.Expired queue mets in
    let step : Do nothing parts ≡ expire channel c.args.core.now.plain =
    ap (λ (ms : List Met). Do nothing (gone_parts whys.Expired queue ms)) (c.as_slice.ensures ∙ c.in-Ok.ensures)
    ∙ ap (λ (ps : List Part). Do nothing ps) (sym (parts_are whys.Expired queue (expired_rows queue (plain_of x))))
    ∙ (λ i. Do nothing (expired_parts (named i) (expired_rows (named i) (plain i))))
    in
    let base : seen x [] None ≡ begun_call c.args.core.now = λ i. record { plain = plain i; delta = []; stopped = None; faults = faults i; log = log i } in
    let none = sym (ap (λ (w : CoreValue). w.stopped) v) in
    let new : ManagerValue = record { plain = plain_of y; delta = c.drop_expired.new.effects.dids; stopped = c.core.inside.stopped; faults = y.log.faults } in
    subst (λ (s : Step Never (Unit {0})). MeetsOrWants (manager_of c.args.core.now) s (Ok nothing) new) step
    (begun_meets parts c.args.core.now new (Ok nothing)
    (subst (λ (w : CoreValue). MeetsOrWants {F = Never} (manager_of w) (Do nothing parts) (Ok nothing) new) base
    (subst (λ (o : Option Stop). MeetsOrWants {F = Never} (manager_of (seen x [] None)) (Do nothing parts) (Ok nothing) (manager_of (seen y c.drop_expired.new.effects.dids o))) none
    (cleared_meets queue mets x y c.drop_expired.new.effects c.in-Ok-drop_expired.ensures))))

pub returns-in-Ok-drop_expired-clause-told : goal.returns-in-Ok-drop_expired-clause-told
returns-in-Ok-drop_expired-clause-told g c =
    let v = c.core.view_is ∙ c.begin_call.ensures in
    let plain = ap (λ (w : CoreValue). w.plain) v in
    let faults = ap (λ (w : CoreValue). w.faults) v in
    let log = ap (λ (w : CoreValue). w.log) v in
    let x : PartsValue = c.core.inside.parts in
    let y : PartsValue = c.drop_expired.new.parts in
    let channel = c.args.channel.now in
    let queue = c.queue_of_sender-queue.result in
    let mets : List Met = c.as_slice.result.now in
    let named : queue ≡ queue_of_sender channel c.args.core.now.plain = c.queue_of_sender-queue.ensures ∙ ap (queue_of_sender channel) plain in
    let parts : List Part = gone_parts whys.Expired queue mets in
    let step : Do nothing parts ≡ expire channel c.args.core.now.plain =
    ap (λ (ms : List Met). Do nothing (gone_parts whys.Expired queue ms)) (c.as_slice.ensures ∙ c.in-Ok.ensures)
    ∙ ap (λ (ps : List Part). Do nothing ps) (sym (parts_are whys.Expired queue (expired_rows queue (plain_of x))))
    ∙ (λ i. Do nothing (expired_parts (named i) (expired_rows (named i) (plain i))))
    in
    let base : seen x [] None ≡ begun_call c.args.core.now = λ i. record { plain = plain i; delta = []; stopped = None; faults = faults i; log = log i } in
    let none = sym (ap (λ (w : CoreValue). w.stopped) v) in
    let new : CoreValue = record { plain = plain_of y; delta = c.drop_expired.new.effects.dids; stopped = c.core.inside.stopped; faults = y.log.faults; log = bodies_in y.log } in
    subst (λ (s : Step Never (Unit {0})). WritesLog c.args.core.now s (Ok nothing) new) step
    (begun_told parts c.args.core.now new (Ok nothing)
    (subst (λ (w : CoreValue). WritesLog {F = Never} w (Do nothing parts) (Ok nothing) new) base
    (subst (λ (o : Option Stop). WritesLog {F = Never} (seen x [] None) (Do nothing parts) (Ok nothing) (seen y c.drop_expired.new.effects.dids o)) none
    (cleared_told queue mets x y c.drop_expired.new.effects c.in-Ok-drop_expired.ensures))))

pub returns-clause-meets : goal.returns-clause-meets
returns-clause-meets g c =
    let v = c.core.view_is ∙ c.begin_call.ensures in
    let plain = ap (λ (w : CoreValue). w.plain) v in
    let faults = ap (λ (w : CoreValue). w.faults) v in
    let log = ap (λ (w : CoreValue). w.log) v in
    let x : PartsValue = c.core.inside.parts in
    let y : PartsValue = c.drop_expired.new.parts in
    let channel = c.args.channel.now in
    let queue = c.queue_of_sender-queue.result in
    let mets : List Met = c.as_slice.result.now in
    let named : queue ≡ queue_of_sender channel c.args.core.now.plain = c.queue_of_sender-queue.ensures ∙ ap (queue_of_sender channel) plain in
    let parts : List Part = gone_parts whys.Expired queue mets in
    let step : Do nothing parts ≡ expire channel c.args.core.now.plain =
    ap (λ (ms : List Met). Do nothing (gone_parts whys.Expired queue ms)) (c.as_slice.ensures ∙ c.in-Ok.ensures)
    ∙ ap (λ (ps : List Part). Do nothing ps) (sym (parts_are whys.Expired queue (expired_rows queue (plain_of x))))
    ∙ (λ i. Do nothing (expired_parts (named i) (expired_rows (named i) (plain i))))
    in
    let base : seen x [] None ≡ begun_call c.args.core.now = λ i. record { plain = plain i; delta = []; stopped = None; faults = faults i; log = log i } in
    let agent = sym c.agent_of_halt-agent.ensures in
    let stopped = sym c.stop_of_halt-stopped.ensures in
    let new : ManagerValue = record { plain = plain_of y; delta = c.drop_expired.new.effects.dids; stopped = c.stop_of_halt-stopped.result; faults = y.log.faults } in
    subst (λ (s : Step Never (Unit {0})). MeetsOrWants (manager_of c.args.core.now) s (Err (halt_of c.agent_of_halt-agent.result)) new) step
    (begun_meets parts c.args.core.now new (Err (halt_of c.agent_of_halt-agent.result))
    (subst (λ (w : CoreValue). MeetsOrWants {F = Never} (manager_of w) (Do nothing parts) (Err (halt_of c.agent_of_halt-agent.result)) new) base
    (subst (λ (a : AgentStop). MeetsOrWants {F = Never} (manager_of (seen x [] None)) (Do nothing parts) (Err (halt_of a)) new) agent
    (subst (λ (o : Option Stop). MeetsOrWants {F = Never} (manager_of (seen x [] None)) (Do nothing parts) (Err (halt_of (agent_of_halt c.in-Err-drop_expired.halt))) (manager_of (seen y c.drop_expired.new.effects.dids o))) stopped
    (halted_meets parts x y c.drop_expired.new.effects c.in-Err-drop_expired.halt c.in-Err-drop_expired.ensures)))))

pub returns-clause-told : goal.returns-clause-told
returns-clause-told g c =
    let v = c.core.view_is ∙ c.begin_call.ensures in
    let plain = ap (λ (w : CoreValue). w.plain) v in
    let faults = ap (λ (w : CoreValue). w.faults) v in
    let log = ap (λ (w : CoreValue). w.log) v in
    let x : PartsValue = c.core.inside.parts in
    let y : PartsValue = c.drop_expired.new.parts in
    let channel = c.args.channel.now in
    let queue = c.queue_of_sender-queue.result in
    let mets : List Met = c.as_slice.result.now in
    let named : queue ≡ queue_of_sender channel c.args.core.now.plain = c.queue_of_sender-queue.ensures ∙ ap (queue_of_sender channel) plain in
    let parts : List Part = gone_parts whys.Expired queue mets in
    let step : Do nothing parts ≡ expire channel c.args.core.now.plain =
    ap (λ (ms : List Met). Do nothing (gone_parts whys.Expired queue ms)) (c.as_slice.ensures ∙ c.in-Ok.ensures)
    ∙ ap (λ (ps : List Part). Do nothing ps) (sym (parts_are whys.Expired queue (expired_rows queue (plain_of x))))
    ∙ (λ i. Do nothing (expired_parts (named i) (expired_rows (named i) (plain i))))
    in
    let base : seen x [] None ≡ begun_call c.args.core.now = λ i. record { plain = plain i; delta = []; stopped = None; faults = faults i; log = log i } in
    let agent = sym c.agent_of_halt-agent.ensures in
    let stopped = sym c.stop_of_halt-stopped.ensures in
    let new : CoreValue = record { plain = plain_of y; delta = c.drop_expired.new.effects.dids; stopped = c.stop_of_halt-stopped.result; faults = y.log.faults; log = bodies_in y.log } in
    subst (λ (s : Step Never (Unit {0})). WritesLog c.args.core.now s (Err (halt_of c.agent_of_halt-agent.result)) new) step
    (begun_told parts c.args.core.now new (Err (halt_of c.agent_of_halt-agent.result))
    (subst (λ (w : CoreValue). WritesLog {F = Never} w (Do nothing parts) (Err (halt_of c.agent_of_halt-agent.result)) new) base
    (subst (λ (a : AgentStop). WritesLog {F = Never} (seen x [] None) (Do nothing parts) (Err (halt_of a)) new) agent
    (subst (λ (o : Option Stop). WritesLog {F = Never} (seen x [] None) (Do nothing parts) (Err (halt_of (agent_of_halt c.in-Err-drop_expired.halt))) (seen y c.drop_expired.new.effects.dids o)) stopped
    (halted_told parts x y c.drop_expired.new.effects c.in-Err-drop_expired.halt c.in-Err-drop_expired.ensures)))))
