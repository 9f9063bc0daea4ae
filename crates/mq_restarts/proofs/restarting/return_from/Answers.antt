use Rattle.std.proofs.Common.{ℕ, ◌-◌, ap, refl, ◌∙◌}
use Rattle.std.specs.Prelude.{Some, None}
use Rattle.mq_restart.specs.from_unit.Told.{Telling}
use Rattle.mq_restart.specs.from_core.Values.{CoreValue}
use Rattle.mq_restart.specs.from_core.Views.{PartsValue, plain_of}
use Rattle.mq_restart.specs.Stands.{read_up}
use Rattle.mq_restarts.proofs.BackLaws.{coming_as, comes_own, comes_own_stands, comes_own_tied, comes_far, comes_far_stands, comes_far_tied, stays_starts, stays_tied, stays_stayed, stays_stands, stays_later}
use Rattle.mq_restarts.proofs.restarting.return_from.Goals as goal

pub fall-requires : goal.fall-requires
fall-requires g c = record { few = stays_starts g.D.Disk.tells c.core.inside.parts c.come_back.new.parts c.core.inside.effects.dids c.core.inside.stopped c.args.core.now c.args.read.now c.args.least c.in-Err.e c.core.view_is c.requires.down c.requires.stands c.requires.least c.in-Err.ensures }

pub invariant_of-core : goal.invariant_of-core
invariant_of-core g c =
    stays_tied g.D.Disk.tells c.core.inside.parts c.come_back.new.parts c.core.inside.effects.dids c.core.inside.stopped c.args.core.now c.args.read.now c.args.least c.in-Err.e c.core.view_is c.requires.down c.requires.stands c.requires.least c.in-Err.ensures
    c.fall.new.parts c.length_at_stop-length.result c.cut_left-armed.result c.core.invariant c.fall.ensures

pub returns-in-Err-clause-ends : goal.returns-in-Err-clause-ends
returns-in-Err-clause-ends g c =
    let z : PartsValue = c.fall.new.parts in
    let new : CoreValue = record { plain = plain_of z; delta = c.clear.new.self.dids; stopped = c.core.inside.stopped; faults = z.log.faults; log = record { bodies = z.log.bodies; pending = z.log.pending } } in
    stays_stayed g.D.Disk.tells c.core.inside.parts c.come_back.new.parts c.core.inside.effects.dids c.core.inside.stopped c.args.core.now c.args.read.now c.args.least c.in-Err.e c.core.view_is c.requires.down c.requires.stands c.requires.least c.in-Err.ensures
    z new c.length_at_stop-length.result c.cut_left-armed.result c.cut_left-left.result c.length_at_stop-length.ensures c.cut_left-armed.ensures c.fall.ensures c.cut_left-left.ensures refl (ap (λ (t : Telling). t.dids) c.clear.ensures) refl

pub returns-in-Err-clause-stands : goal.returns-in-Err-clause-stands
returns-in-Err-clause-stands g c =
    stays_stands g.D.Disk.tells c.core.inside.parts c.come_back.new.parts c.core.inside.effects.dids c.core.inside.stopped c.args.core.now c.args.read.now c.args.least c.in-Err.e c.core.view_is c.requires.down c.requires.stands c.requires.least c.in-Err.ensures
    c.fall.new.parts c.read_fallen.result c.length_at_stop-length.result c.cut_left-armed.result c.length_at_stop-length.ensures c.cut_left-armed.ensures c.fall.ensures c.read_fallen.ensures

pub returns-in-Err-clause-passes : goal.returns-in-Err-clause-passes
returns-in-Err-clause-passes g c = record {
  unstopped = ap (λ (o : CoreValue). o.stopped) c.core.view_is ∙ c.requires.unstopped;
  later = stays_later g.D.Disk.tells c.core.inside.parts c.come_back.new.parts c.core.inside.effects.dids c.core.inside.stopped c.args.core.now c.args.read.now c.args.least c.in-Err.e c.core.view_is c.requires.down c.requires.stands c.requires.least c.in-Err.ensures
      c.fall.new.parts c.length_at_stop-length.result c.cut_left-armed.result c.fall.ensures;
}

pub invariant_of-core-in-None : goal.invariant_of-core-in-None
invariant_of-core-in-None g c =
    comes_own_tied g.D.Disk.tells c.core.inside.parts c.come_back.new.parts c.core.inside.effects.dids c.core.inside.stopped c.args.core.now c.args.read.now c.args.least c.in-Ok.coming.length c.in-Ok.coming.found c.core.view_is c.requires.down c.requires.stands c.core.invariant c.requires.least
    (coming_as g.D.Disk.tells c.args.read.now c.args.least c.core.inside.parts c.come_back.new.parts c.in-Ok.coming None c.in-None.is c.in-Ok.ensures)

pub returns-in-None-clause-ends : goal.returns-in-None-clause-ends
returns-in-None-clause-ends g c =
    let x : PartsValue = c.core.inside.parts in
    let y : PartsValue = c.come_back.new.parts in
    let new : CoreValue = record { plain = plain_of y; delta = c.keep_if.new.effects.dids; stopped = c.core.inside.stopped; faults = y.log.faults; log = record { bodies = y.log.bodies; pending = y.log.pending } } in
    comes_own g.D.Disk.tells x y c.core.inside.effects.dids c.core.inside.stopped c.args.core.now c.args.read.now c.args.least c.in-Ok.coming.length c.in-Ok.coming.found c.core.view_is c.requires.down c.requires.stands c.core.invariant c.requires.least
    (coming_as g.D.Disk.tells c.args.read.now c.args.least x y c.in-Ok.coming None c.in-None.is c.in-Ok.ensures)
    new c.read_found-known.result c.is_kept-kept.result c.started_since-started.result c.requires.told c.read_found-known.ensures c.is_kept-kept.ensures
    (c.started_since-started.ensures ∙ ap (λ (n : ℕ). n - c.incarnation-before.result - 1) c.incarnation-now.ensures ∙ ap (λ (n : ℕ). y.incarnation - n - 1) c.incarnation-before.ensures)
    refl refl c.keep_if.ensures

pub returns-in-None-clause-stands : goal.returns-in-None-clause-stands
returns-in-None-clause-stands g c =
    comes_own_stands g.D.Disk.tells c.core.inside.parts c.come_back.new.parts c.core.inside.effects.dids c.core.inside.stopped c.args.core.now c.args.read.now c.args.least c.in-Ok.coming.length c.in-Ok.coming.found c.core.view_is c.requires.down c.requires.stands c.core.invariant c.requires.least
    (coming_as g.D.Disk.tells c.args.read.now c.args.least c.core.inside.parts c.come_back.new.parts c.in-Ok.coming None c.in-None.is c.in-Ok.ensures)
    c.read_found-known.result c.read_up.result c.read_found-known.ensures (c.read_up.ensures ∙ ap (λ (n : ℕ). read_up n c.read_found-known.result) c.incarnation-now.ensures)

pub invariant_of-core-in-Some : goal.invariant_of-core-in-Some
invariant_of-core-in-Some g c =
    comes_far_tied g.D.Disk.tells c.core.inside.parts c.come_back.new.parts c.core.inside.effects.dids c.core.inside.stopped c.args.core.now c.args.read.now c.args.least c.in-Ok.coming.length c.in-Ok.coming.found c.core.view_is c.requires.down c.requires.stands c.core.invariant c.requires.least
    c.in-Some.image (coming_as g.D.Disk.tells c.args.read.now c.args.least c.core.inside.parts c.come_back.new.parts c.in-Ok.coming (Some c.in-Some.image) c.in-Some.is c.in-Ok.ensures)

pub returns-in-Some-clause-ends : goal.returns-in-Some-clause-ends
returns-in-Some-clause-ends g c =
    let x : PartsValue = c.core.inside.parts in
    let y : PartsValue = c.come_back.new.parts in
    let new : CoreValue = record { plain = plain_of y; delta = c.clear-in-Some.new.self.dids; stopped = c.core.inside.stopped; faults = y.log.faults; log = record { bodies = y.log.bodies; pending = y.log.pending } } in
    comes_far g.D.Disk.tells x y c.core.inside.effects.dids c.core.inside.stopped c.args.core.now c.args.read.now c.args.least c.in-Ok.coming.length c.in-Ok.coming.found c.core.view_is c.requires.down c.requires.stands c.core.invariant c.requires.least
    c.in-Some.image (coming_as g.D.Disk.tells c.args.read.now c.args.least x y c.in-Ok.coming (Some c.in-Some.image) c.in-Some.is c.in-Ok.ensures)
    new c.cut_left-left-in-Some.result c.cut_left-left-in-Some.ensures refl (ap (λ (t : Telling). t.dids) c.clear-in-Some.ensures)

pub returns-in-Some-clause-stands : goal.returns-in-Some-clause-stands
returns-in-Some-clause-stands g c =
    comes_far_stands g.D.Disk.tells c.core.inside.parts c.come_back.new.parts c.core.inside.effects.dids c.core.inside.stopped c.args.core.now c.args.read.now c.args.least c.in-Ok.coming.length c.in-Ok.coming.found c.core.view_is c.requires.down c.requires.stands c.core.invariant c.requires.least
    c.in-Some.image (coming_as g.D.Disk.tells c.args.read.now c.args.least c.core.inside.parts c.come_back.new.parts c.in-Ok.coming (Some c.in-Some.image) c.in-Some.is c.in-Ok.ensures)
    c.read_found-known.result c.read_up.result c.read_found-known.ensures (c.read_up.ensures ∙ ap (λ (n : ℕ). read_up n c.read_found-known.result) c.incarnation-now.ensures)
