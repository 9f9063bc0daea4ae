use Rattle.std.proofs.Common.{◌≡◌, ◌∙◌, sym, ap, subst, refl, arith}
use Rattle.std.specs.Prelude.{ℕ, List, [], ◌∷◌, ◌++◌, length, map, take, Ok}
use Rattle.mq_message.specs.declared.place.Holder.TheVariants as holders
use Rattle.mq_calls.specs.Words.{Ident, Holder, Plain, Step, ManagerValue, MeetsOrWants, Among, is_up, held_in, set_named, free_rows, apply_all}
use Rattle.mq_calls.specs.declared.state.Batch.{Batch}
use Rattle.mq_calls.specs.declared.deltas.Did.{Did}
use Rattle.mq_calls.specs.State.Change.{Hold, AddBatch}
use Rattle.mq_calls.specs.Meeting.Wants.{Anywhere}
use Rattle.mq_spec_manager.specs.Words.{Never, idents_of}
use Rattle.mq_spec_manager.specs.Agents.{hold_batch, hold_rows, queue_of_sender}
use Rattle.mq_get.specs.from_unit.Told.{Telling}
use Rattle.mq_core.specs.declared.parts.ChannelEnds.{ChannelEnds}
use Rattle.mq_core.specs.Views.{PartsValue, plain_of, frozen_of}
use Rattle.mq_core.specs.Ties.{Tied}
use Rattle.mq_core.proofs.MeetLaws.{mode_up}
use Rattle.mq_agents.specs.Ends.{held_did}
use Rattle.mq_agents.specs.Removing.{batch_held}
use Rattle.mq_agents.proofs.EndLaws.{with_rows, tied_rows, rows_view, times_held, free_as}
use Rattle.mq_core.specs.Values.{CoreValue, manager_of, bodies_in}
use Rattle.mq_agents.proofs.batches.hold_batch.Goals as goal

pub invariant_of-core-2 : goal.invariant_of-core-2
unfolding with_rows
invariant_of-core-2 g c =
    let v = c.core.view_is ∙ c.begin_call.ensures in
    let plain = ap (λ (w : CoreValue). w.plain) v in
    let x : PartsValue = c.core.inside.parts in
    let up = mode_up (frozen_of x) x.mode (ap (λ (p : Plain). is_up p.running) plain ∙ c.requires.up) in
    let channel = c.args.channel.now in
    let by : Holder = holders.Batch channel in
    let queue = c.queue_of_sender-queue.result in
    let ids : List Ident = c.in-Ok.idents in
    let batch : Batch = record { channel = channel; unit = c.args.unit.now; queue = queue; idents = ids } in
    let f = held_in (Among queue ids) by in
    let listed = c.in-Ok-copy_idents.ensures ∙ c.as_slice.ensures in
    let e : ChannelEnds = record x.ends { batches = set_named (λ (k : Batch). k.channel) batch x.ends.batches } in
    let same = c.in-Ok-put_batch.ensures.ok ∙ ap (λ (is : List Ident). batch_held (record { channel = channel; unit = c.args.unit.now; queue = queue; idents = is }) c.as_slice-2.result.now x) listed
    ∙ ap (λ (is : List Ident). batch_held batch is x) c.as_slice-2.ensures in
    subst Tied (sym same) (tied_rows f (λ q. refl) (λ i q. omega (arith, times_held i (Among queue ids) by q)) e x (λ w. record { log = w.log; rows = w.rows; senders = w.senders; receivers = w.receivers; seats = w.seats }) c.core.invariant)

pub returns-clause-meets : goal.returns-clause-meets
unfolding with_rows
returns-clause-meets g c =
    let v = c.core.view_is ∙ c.begin_call.ensures in
    let plain = ap (λ (w : CoreValue). w.plain) v in
    let x : PartsValue = c.core.inside.parts in
    let up = mode_up (frozen_of x) x.mode (ap (λ (p : Plain). is_up p.running) plain ∙ c.requires.up) in
    let channel = c.args.channel.now in
    let by : Holder = holders.Batch channel in
    let queue = c.queue_of_sender-queue.result in
    let ids : List Ident = c.in-Ok.idents in
    let batch : Batch = record { channel = channel; unit = c.args.unit.now; queue = queue; idents = ids } in
    let f = held_in (Among queue ids) by in
    let listed = c.in-Ok-copy_idents.ensures ∙ c.as_slice.ensures in
    let e : ChannelEnds = record x.ends { batches = set_named (λ (k : Batch). k.channel) batch x.ends.batches } in
    let same = c.in-Ok-put_batch.ensures.ok ∙ ap (λ (is : List Ident). batch_held (record { channel = channel; unit = c.args.unit.now; queue = queue; idents = is }) c.as_slice-2.result.now x) listed
    ∙ ap (λ (is : List Ident). batch_held batch is x) c.as_slice-2.ensures in
    let named : queue ≡ queue_of_sender channel c.args.core.now.plain = c.queue_of_sender-queue.ensures ∙ ap (queue_of_sender channel) plain in
    let chosen : ids ≡ idents_of (take c.args.most (free_rows (queue_of_sender channel c.args.core.now.plain) c.args.core.now.plain)) = c.in-Ok.ensures ∙ (λ i. idents_of (take c.args.most (free_rows (named i) (plain i)))) in
    let step : hold_rows channel c.args.unit.now queue ids ≡ hold_batch channel c.args.unit.now c.args.most c.args.core.now.plain = λ i. hold_rows channel c.args.unit.now (named i) (chosen i) in
    let done = ap plain_of same ∙ rows_view f e x up ∙ ap (λ (p : Plain). apply_all (Hold (Among queue ids) by ∷ AddBatch batch ∷ []) p) plain in
    let told = ap (λ (t : Telling). t.dids) c.tell_held.ensures ∙ ap (λ (ds : List Did). ds ++ map (held_did queue by) c.as_slice-3.result.now) (c.reserve.ensures.dids ∙ ap (λ (w : CoreValue). w.delta) v) ∙ ap (λ (is : List Ident). map (held_did queue by) is) c.as_slice-3.ensures in
    let faults = ap (λ (p : PartsValue). p.log.faults) same ∙ ap (λ (w : CoreValue). w.faults) v in
    let new : ManagerValue = record { plain = plain_of c.put_batch.new.parts; delta = c.tell_held.new.effects.dids; stopped = c.core.inside.stopped; faults = c.put_batch.new.parts.log.faults } in
    subst (λ (s : Step Never ℕ). MeetsOrWants (manager_of c.args.core.now) s (Ok c.len-2.result) new) step
    (free_as Never Anywhere (manager_of c.args.core.now) new (length ids) c.len-2.result (Hold (Among queue ids) by ∷ AddBatch batch ∷ []) (map (held_did queue by) ids) c.len-2.ensures done told (ap (λ (w : CoreValue). w.stopped) v) faults)

pub returns-clause-told : goal.returns-clause-told
returns-clause-told g c = (ap (λ (p : PartsValue). bodies_in p.log) c.in-Ok-put_batch.ensures.ok ∙ ap (λ (w : CoreValue). w.log) (c.core.view_is ∙ c.begin_call.ensures), (tt, tt))
