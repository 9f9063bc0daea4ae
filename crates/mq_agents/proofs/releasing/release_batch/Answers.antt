use Rattle.std.proofs.Common.{◌≡◌, ◌∙◌, false, sym, ap, subst, refl, arith}
use Rattle.std.specs.Prelude.{List, [], ◌∷◌, ◌++◌, map, Some, Ok}
use Rattle.mq_message.specs.declared.place.Holder.TheVariants as holders
use Rattle.mq_calls.specs.Words.{Ident, Plain, Step, ManagerValue, MeetsInRoom, HeldBy, is_up, released_in, batch_of, apply_all}
use Rattle.mq_calls.specs.declared.state.Batch.{Batch}
use Rattle.mq_calls.specs.declared.deltas.Did.{Did}
use Rattle.mq_calls.specs.State.Change.{Release, DropBatch}
use Rattle.mq_calls.specs.Meeting.Wants.{Nowhere}
use Rattle.mq_spec_manager.specs.Words.{Never}
use Rattle.mq_spec_manager.specs.Agents.{release_batch, release_of}
use Rattle.mq_get.specs.from_unit.Told.{Telling}
use Rattle.mq_core.specs.Views.{PartsValue, plain_of, frozen_of}
use Rattle.mq_core.specs.Ties.{Tied}
use Rattle.mq_core.specs.Values.{CoreValue, manager_of, bodies_in}
use Rattle.mq_core.proofs.MeetLaws.{mode_up}
use Rattle.mq_core.proofs.WriteLaws.{writes_as}
use Rattle.mq_agents.specs.Removing.{without_one}
use Rattle.mq_agents.specs.Releasing.{released_did}
use Rattle.mq_agents.proofs.EndLaws.{with_rows, tied_rows, rows_view, times_freed, free_as}
use Rattle.mq_agents.proofs.releasing.release_batch.Goals as goal

pub invariant_of-core-2 : goal.invariant_of-core-2
unfolding with_rows
invariant_of-core-2 g c =
    let x : PartsValue = c.core.inside.parts in
    let channel = c.args.channel.now in
    let f = released_in (HeldBy (holders.Batch channel)) false in
    subst Tied (sym c.take_batch.ensures.freed) (tied_rows f (λ q. refl) (λ i q. omega (arith, times_freed i (HeldBy (holders.Batch channel)) q)) (without_one channel x.ends) x (λ w. record { log = w.log; rows = w.rows; senders = w.senders; receivers = w.receivers; seats = w.seats }) c.core.invariant)

pub returns-clause-meets : goal.returns-clause-meets
unfolding with_rows
returns-clause-meets g c =
    let v = c.core.view_is ∙ c.begin_call.ensures in
    let plain = ap (λ (w : CoreValue). w.plain) v in
    let x : PartsValue = c.core.inside.parts in
    let up = mode_up (frozen_of x) x.mode (ap (λ (p : Plain). is_up p.running) plain ∙ c.requires.up) in
    let channel = c.args.channel.now in
    let b : Batch = c.into_parts-batch.result.0 in
    let f = released_in (HeldBy (holders.Batch channel)) false in
    let changes = Release (HeldBy (holders.Batch channel)) false ∷ DropBatch channel ∷ [] in
    let there : Some b ≡ batch_of channel c.args.core.now.plain.channels.batches = ap (λ (k : Batch). Some k) c.into_parts-batch.ensures.batch ∙ sym c.in-Some.is ∙ c.take_batch.ensures.batch ∙ ap (λ (p : Plain). batch_of channel p.channels.batches) plain in
    let step : release_of channel (Some b) ≡ release_batch channel c.args.core.now.plain = ap (release_of channel) there in
    let same = c.take_batch.ensures.freed in
    let done = ap plain_of same ∙ rows_view f (without_one channel x.ends) x up ∙ ap (λ (p : Plain). apply_all changes p) plain in
    let told =
    ap (λ (t : Telling). t.dids) c.tell_released.ensures
    ∙ ap (λ (ds : List Did). ds ++ map (released_did b.queue) c.as_slice.result.now) c.into_parts-batch.ensures.told
    ∙ ap (λ (is : List Ident). map (released_did b.queue) is) c.as_slice.ensures
    in
    let faults = ap (λ (p : PartsValue). p.log.faults) same ∙ ap (λ (w : CoreValue). w.faults) v in
    let new : ManagerValue = record { plain = plain_of c.take_batch.new.parts; delta = c.tell_released.new.effects.dids; stopped = c.core.inside.stopped; faults = c.take_batch.new.parts.log.faults } in
    let nothing : Unit {0} = tt in
    subst (λ (s : Step Never (Unit {0})). MeetsInRoom (manager_of c.args.core.now) s (Ok nothing) new) step
    (free_as Never Nowhere (manager_of c.args.core.now) new nothing nothing changes (map (released_did b.queue) b.idents) refl done told (ap (λ (w : CoreValue). w.stopped) v) faults)

pub returns-clause-told : goal.returns-clause-told
returns-clause-told g c =
    let v = c.core.view_is ∙ c.begin_call.ensures in
    let plain = ap (λ (w : CoreValue). w.plain) v in
    let channel = c.args.channel.now in
    let b : Batch = c.into_parts-batch.result.0 in
    let there : Some b ≡ batch_of channel c.args.core.now.plain.channels.batches = ap (λ (k : Batch). Some k) c.into_parts-batch.ensures.batch ∙ sym c.in-Some.is ∙ c.take_batch.ensures.batch ∙ ap (λ (p : Plain). batch_of channel p.channels.batches) plain in
    let step : release_of channel (Some b) ≡ release_batch channel c.args.core.now.plain = ap (release_of channel) there in
    let nothing : Unit {0} = tt in
    writes_as c.args.core.now _ (release_batch channel c.args.core.now.plain) (release_of channel (Some b)) (Ok nothing) (sym step)
    (ap (λ (p : PartsValue). bodies_in p.log) c.take_batch.ensures.freed ∙ ap (λ (w : CoreValue). w.log) v, (tt, tt))
