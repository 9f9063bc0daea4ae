use Rattle.std.proofs.Common.{◌≡◌, ◌∙◌, sym, ap, subst, refl, true}
use Rattle.std.specs.Prelude.{List, [], ◌∷◌, ◌++◌, IsSome}
use Rattle.mq_calls.specs.declared.deltas.Did.TheVariants as did
use Rattle.mq_calls.specs.Words.{ManagerValue, Plain, Ident, local_of, is_up}
use Rattle.mq_calls.specs.declared.deltas.Did.{Did}
use Rattle.mq_agents.specs.from_core.Counting.{CanCount}
use Rattle.mq_spec_manager.specs.Agents.{HasFreeRow}
use Rattle.mq_agents.specs.from_unit.Told.{Telling}
use Rattle.mq_agents.specs.from_core.Views.{PartsValue, plain_of, frozen_of}
use Rattle.mq_agents.specs.from_core.Ties.{Tied, mode_is_up}
use Rattle.mq_agents.specs.from_core.Values.{CoreValue, manager_of, bodies_in}
use Rattle.mq_agents.proofs.from_core.MeetLaws.{mode_up}
use Rattle.mq_agents.proofs.from_core.WriteLaws.{roomier_bodies, expected_bodies, placed_log}
use Rattle.mq_agents.proofs.from_core.PutLaws.{tied_roomier, roomier_view, expected_view, placed_faults}
use Rattle.mq_agents.specs.Removing.{removed_one}
use Rattle.mq_moves.proofs.MoveLaws.{move_free, move_ready, move_tied, moved_seen, free_moves, free_told}
use Rattle.mq_moves.proofs.moving.move_free.Goals as goal

pub invariant_of-core : goal.invariant_of-core
invariant_of-core g c = tied_roomier c.core.inside.parts c.make_put_room.new.parts c.in-Err.ensures.err c.core.invariant

pub returns-in-Err : goal.returns-in-Err
returns-in-Err g c =
    let v = c.core.view_is ∙ c.begin_call.ensures in
    let h = c.in-Err.ensures.err in
    let plain = roomier_view c.core.inside.parts c.make_put_room.new.parts h ∙ ap (λ (w : CoreValue). w.plain) v in
    let told = c.make_put_room.ensures.dids ∙ ap (λ (w : CoreValue). w.delta) v in
    let faults = ap (λ (x : PartsValue). x.log.faults) h.same ∙ ap (λ (w : CoreValue). w.faults) v in
    record {
      meets =
          λ i. record { plain = plain i; delta = told i; stopped = (v i).stopped; faults = faults i };
      told =
          roomier_bodies c.core.inside.parts c.make_put_room.new.parts c.in-Err.ensures.err ∙ ap (λ (w : CoreValue). w.log) (c.core.view_is ∙ c.begin_call.ensures);
    }

pub swap_rows-requires : goal.swap_rows-requires
swap_rows-requires g c =
    let plain = ap (λ (w : CoreValue). w.plain) (c.core.view_is ∙ c.begin_call.ensures) in
    let x : PartsValue = c.core.inside.parts in
    let y : PartsValue = c.make_put_room.new.parts in
    let from = c.args.from.now in
    let to = c.args.to.now in
    let ident : Ident = c.args.message.ident in
    let there = subst (λ (p : Plain). IsSome (local_of to p.definitions)) (sym plain) c.requires.may.there in
    let low = subst CanCount (sym plain) c.requires.may.low in
    let h = subst (HasFreeRow from ident) (sym plain) c.requires.may.row in
    move_ready from ident to c.args.message h.row x (removed_one from ident y) there h.found refl (move_free from ident to x y c.in-Ok.ensures.ok c.core.invariant) c.core.invariant low

pub invariant_of-core-2 : goal.invariant_of-core-2
invariant_of-core-2 g c =
    let plain = ap (λ (w : CoreValue). w.plain) (c.core.view_is ∙ c.begin_call.ensures) in
    let x : PartsValue = c.core.inside.parts in
    let y : PartsValue = c.make_put_room.new.parts in
    let from = c.args.from.now in
    let to = c.args.to.now in
    let ident : Ident = c.args.message.ident in
    let there = subst (λ (p : Plain). IsSome (local_of to p.definitions)) (sym plain) c.requires.may.there in
    let low = subst CanCount (sym plain) c.requires.may.low in
    let h = subst (HasFreeRow from ident) (sym plain) c.requires.may.row in
    subst Tied (sym c.swap_rows.ensures)
    (move_tied from ident to c.args.message h.row x (removed_one from ident y) there h.found refl (move_free from ident to x y c.in-Ok.ensures.ok c.core.invariant) c.core.invariant low)

pub returns : goal.returns
returns g c =
    let v = c.core.view_is ∙ c.begin_call.ensures in
    let plain = ap (λ (w : CoreValue). w.plain) v in
    let x : PartsValue = c.core.inside.parts in
    let y : PartsValue = c.make_put_room.new.parts in
    let from = c.args.from.now in
    let to = c.args.to.now in
    let m = c.args.message in
    let ident : Ident = m.ident in
    let up = mode_up (frozen_of x) x.mode (ap (λ (p : Plain). is_up p.running) plain ∙ c.requires.may.up) in
    let there = subst (λ (p : Plain). IsSome (local_of to p.definitions)) (sym plain) c.requires.may.there in
    let low = subst CanCount (sym plain) c.requires.may.low in
    let h = subst (HasFreeRow from ident) (sym plain) c.requires.may.row in
    let ready = move_ready from ident to m h.row x (removed_one from ident y) there h.found refl (move_free from ident to x y c.in-Ok.ensures.ok c.core.invariant) c.core.invariant low in
    let same = c.in-Ok.ensures.ok.same in
    let still : mode_is_up y.mode ≡ true = ap (λ (q : PartsValue). mode_is_up q.mode) same ∙ up in
    let done = ap plain_of c.swap_rows.ensures ∙ moved_seen from ident to m y c.args.core.now.plain still ready (expected_view to 0 x y c.in-Ok.ensures.ok ∙ plain) in
    let told =
    ap (λ (t : Telling). t.dids) c.tell.ensures
    ∙ ap (λ (ds : List Did). ds ++ did.Moved from ident to c.args.target.now c.args.bare ∷ []) (c.make_put_room.ensures.dids ∙ ap (λ (w : CoreValue). w.delta) v)
    in
    let faults =
    ap (λ (z : PartsValue). z.log.faults) c.swap_rows.ensures ∙ placed_faults to m (removed_one from ident y)
    ∙ ap (λ (z : PartsValue). z.log.faults) same ∙ ap (λ (w : CoreValue). w.faults) v
    in
    let new : ManagerValue = record { plain = plain_of c.swap_rows.new.parts; delta = c.tell.new.self.dids; stopped = c.core.inside.stopped; faults = c.swap_rows.new.parts.log.faults } in
    let both : CoreValue = record { plain = plain_of c.swap_rows.new.parts; delta = c.tell.new.self.dids; stopped = c.core.inside.stopped; faults = c.swap_rows.new.parts.log.faults; log = bodies_in c.swap_rows.new.parts.log } in
    record {
      meets =
          free_moves (manager_of c.args.core.now) new from c.args.target.now c.args.bare to m c.requires.free done told (ap (λ (w : CoreValue). w.stopped) v) faults;
      told =
          free_told c.args.core.now both from c.args.target.now c.args.bare to m c.requires.free
          (ap (λ (q : PartsValue). bodies_in q.log) c.swap_rows.ensures ∙ ap bodies_in (placed_log to m (removed_one from m.ident y))
          ∙ expected_bodies to 0 x y c.in-Ok.ensures.ok ∙ ap (λ (w : CoreValue). w.log) (c.core.view_is ∙ c.begin_call.ensures));
    }
