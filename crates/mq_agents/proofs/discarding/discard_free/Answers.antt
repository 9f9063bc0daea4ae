use Rattle.std.proofs.Common.{◌≡◌, ◌∙◌, Bool, false, sym, ap, subst, refl}
use Rattle.std.specs.Prelude.{List, [], ◌∷◌, ◌++◌, Some, Ok}
use Rattle.mq_calls.specs.declared.deltas.Did.TheVariants as did
use Rattle.mq_calls.specs.declared.deltas.Why.TheVariants as whys
use Rattle.mq_calls.specs.Words.{ManagerValue, Plain, Step, MeetsOrWants, Do, Among, is_up, stored, apply}
use Rattle.mq_calls.specs.declared.deltas.Did.{Did}
use Rattle.mq_calls.specs.State.Change.{Leave}
use Rattle.mq_calls.specs.Meeting.Wants.{Anywhere}
use Rattle.mq_spec_manager.specs.Words.{Never}
use Rattle.mq_spec_manager.specs.Agents.{HasFreeRow, row_with, discard}
use Rattle.mq_get.specs.from_unit.Told.{Telling}
use Rattle.mq_core.specs.Views.{PartsValue, plain_of, frozen_of}
use Rattle.mq_core.specs.Ties.{Tied}
use Rattle.mq_core.proofs.MeetLaws.{mode_up}
use Rattle.mq_agents.specs.Removing.{lasts}
use Rattle.mq_agents.proofs.EndLaws.{free_as}
use Rattle.mq_agents.proofs.RemoveLaws.{one_part, one_step, discards_as, tied_removed, removed_view}
use Rattle.mq_core.specs.Values.{CoreValue, manager_of, bodies_in}
use Rattle.mq_core.proofs.WriteLaws.{writes_as}
use Rattle.mq_agents.proofs.discarding.discard_free.Goals as goal

pub invariant_of-core-2 : goal.invariant_of-core-2
invariant_of-core-2 g c =
    let v = c.core.view_is ∙ c.begin_call.ensures in
    let plain = ap (λ (w : CoreValue). w.plain) v in
    let p : Plain = c.args.core.now.plain in
    let x : PartsValue = c.core.inside.parts in
    let queue = c.args.queue.now in
    let ident = c.args.ident.now in
    subst Tied (sym c.remove_row.ensures.parts) (tied_removed queue ident x c.core.invariant)

pub returns-clause-meets : goal.returns-clause-meets
unfolding one_step
returns-clause-meets g c =
    let v = c.core.view_is ∙ c.begin_call.ensures in
    let plain = ap (λ (w : CoreValue). w.plain) v in
    let p : Plain = c.args.core.now.plain in
    let x : PartsValue = c.core.inside.parts in
    let queue = c.args.queue.now in
    let ident = c.args.ident.now in
    let there = subst (HasFreeRow queue ident) (sym plain) c.requires.there in
    let step : discard queue ident p ≡ Do tt (one_part queue ident false ∷ []) =
    ap (discard queue ident) (sym plain) ∙ discards_as queue ident x c.core.invariant there
    ∙ ap (λ (b : Bool). one_step queue ident b) (ap (λ (q : Plain). lasts (row_with (Some ident) (stored queue q).rows)) plain ∙ c.requires.free) in
    let up = mode_up (frozen_of x) x.mode (ap (λ (q : Plain). is_up q.running) plain ∙ c.requires.up) in
    let done = ap plain_of c.remove_row.ensures.parts ∙ removed_view queue ident x up ∙ ap (λ (q : Plain). apply (Leave (Among queue (ident ∷ []))) q) plain in
    let told = ap (λ (t : Telling). t.dids) c.remove_row.ensures.told ∙ ap (λ (ds : List Did). ds ++ did.Removed queue ident whys.Discarded ∷ []) (c.reserve.ensures.dids ∙ ap (λ (k : CoreValue). k.delta) v) in
    let faults = ap (λ (q : PartsValue). q.log.faults) c.remove_row.ensures.parts ∙ ap (λ (k : CoreValue). k.faults) v in
    let new : ManagerValue = record { plain = plain_of c.remove_row.new.parts; delta = c.remove_row.new.effects.dids; stopped = c.core.inside.stopped; faults = c.remove_row.new.parts.log.faults } in
    let nothing : Unit {0} = tt in
    subst (λ (s : Step Never (Unit {0})). MeetsOrWants (manager_of c.args.core.now) s (Ok nothing) new) (sym step)
    (free_as Never Anywhere (manager_of c.args.core.now) new nothing nothing (Leave (Among queue (ident ∷ [])) ∷ []) (did.Removed queue ident whys.Discarded ∷ []) refl done told (ap (λ (k : CoreValue). k.stopped) v) faults)

pub returns-clause-told : goal.returns-clause-told
unfolding one_step
returns-clause-told g c =
    let v = c.core.view_is ∙ c.begin_call.ensures in
    let plain = ap (λ (w : CoreValue). w.plain) v in
    let p : Plain = c.args.core.now.plain in
    let x : PartsValue = c.core.inside.parts in
    let queue = c.args.queue.now in
    let ident = c.args.ident.now in
    let there = subst (HasFreeRow queue ident) (sym plain) c.requires.there in
    let step : discard queue ident p ≡ Do tt (one_part queue ident false ∷ []) =
    ap (discard queue ident) (sym plain) ∙ discards_as queue ident x c.core.invariant there
    ∙ ap (λ (b : Bool). one_step queue ident b) (ap (λ (q : Plain). lasts (row_with (Some ident) (stored queue q).rows)) plain ∙ c.requires.free) in
    let w = c.remove_row.new.parts in
    let new : CoreValue = record { plain = plain_of w; delta = c.remove_row.new.effects.dids; stopped = c.core.inside.stopped; faults = w.log.faults; log = bodies_in w.log } in
    let nothing : Unit {0} = tt in
    writes_as c.args.core.now new (discard queue ident p) (Do nothing (one_part queue ident false ∷ [])) (Ok nothing) step
    (ap (λ (q : PartsValue). bodies_in q.log) c.remove_row.ensures.parts ∙ ap (λ (k : CoreValue). k.log) v, (tt, tt))
