use Rattle.std.proofs.Common.{◌≡◌, ◌<◌, ◌^◌, ◌+◌, ◌-◌, ◌++◌, length-append, List, ℕ, Bool, [], ◌∷◌, length, true, false, ap, sym, ◌∙◌, arith, drop, if◌then◌else◌, None, slice_set}
use Rattle.std.proofs.lemmas.List.{take_rest}
use Rattle.mq_log.specs.State.{LogState, body_behind}
use Rattle.mq_log.proofs.Framed.{piece}
use Rattle.mq_log.proofs.Standing.{sound_opened, sound_stopped, front_opened, front_staged, behind_staged}
use Rattle.mq_log.proofs.log.Log.append_parts.Goals as goal

pub invariant_of-self : goal.invariant_of-self
unfolding piece
invariant_of-self g c =
    let body : List ℕ = c.args.head.now ++ c.args.adds.now ++ c.args.removes.now in
    let fit : length body < 2 ^ 32 = omega (arith, length-append (c.args.head.now ++ c.args.adds.now) c.args.removes.now, length-append c.args.head.now c.args.adds.now) in
    let is_live : c.self.inside.live ≡ true = ap (λ (v : LogState). v.live) c.self.view_is ∙ c.requires.live in
    let d = c.deref.result.now in
    let q_is = take_rest d (c.self.inside.end + 1) ∙ ap (λ (l : List ℕ). drop (c.self.inside.end + 1) l) c.deref.ensures.value in
    let n = c.in-Ok.ensures in (
      sound_opened _ _ _ _ _ _ _ body _ is_live c.self.invariant.0 _ c.stage.ensures.items _ q_is _ _ _ _ _
          fit n.ends.1 n.size n.written n.durable (omega (arith, c.len.ensures, ap length c.stage.ensures.items)),
      c.self.invariant.1,
      omega (arith, c.self.invariant.2, ap (λ (v : LogState). v.room) c.self.view_is, c.requires.room, c.stage.ensures.len, c.stage.ensures.capacity),
    )

pub invariant_of-self-in-Err : goal.invariant_of-self-in-Err
unfolding piece
invariant_of-self-in-Err g c =
    let body : List ℕ = c.args.head.now ++ c.args.adds.now ++ c.args.removes.now in
    let fit : length body < 2 ^ 32 = omega (arith, length-append (c.args.head.now ++ c.args.adds.now) c.args.removes.now, length-append c.args.head.now c.args.adds.now) in
    let is_live : c.self.inside.live ≡ true = ap (λ (v : LogState). v.live) c.self.view_is ∙ c.requires.live in
    let d = c.deref.result.now in
    let q_is = take_rest d (c.self.inside.end + 1) ∙ ap (λ (l : List ℕ). drop (c.self.inside.end + 1) l) c.deref.ensures.value in
    let n = c.in-Err.ensures in
    (sound_stopped _ _ _ _ _ _ _ body _ is_live c.self.invariant.0 _ c.stage.ensures.items _ q_is _ _ _ _ fit n.images, c.self.invariant.1, omega (arith, c.self.invariant.2, ap (λ (v : LogState). v.room) c.self.view_is, c.requires.room, c.stage.ensures.len, c.stage.ensures.capacity))

pub returns-in-Ok-clause-appended : goal.returns-in-Ok-clause-appended
unfolding piece
returns-in-Ok-clause-appended g c =
    let body : List ℕ = c.args.head.now ++ c.args.adds.now ++ c.args.removes.now in
    let fit : length body < 2 ^ 32 = omega (arith, length-append (c.args.head.now ++ c.args.adds.now) c.args.removes.now, length-append c.args.head.now c.args.adds.now) in
    let v = c.self.view_is in
    let is_live : c.self.inside.live ≡ true = ap (λ (v : LogState). v.live) c.self.view_is ∙ c.requires.live in
    let d = c.deref.result.now in
    let q_is = take_rest d (c.self.inside.end + 1) ∙ ap (λ (l : List ℕ). drop (c.self.inside.end + 1) l) c.deref.ensures.value in
    let bodies = front_opened _ _ _ _ _ _ _ body _ is_live c.self.invariant.0 _ c.stage.ensures.items _ q_is _ fit (omega (arith, c.len.ensures, ap length c.stage.ensures.items))
    ∙ ap (λ (v : LogState). v.bodies ++ body ∷ []) v in
    let pending =
    ap (λ (b : Bool). if b then None else body_behind (c.len.result - 1) (slice_set c.stage.new.bytes.items c.self.inside.end 165)) is_live
    ∙ sym (ap (λ (b : Bool). if b then None else body_behind c.self.inside.end c.self.inside.bytes.items) is_live) ∙ ap (λ (v : LogState). v.pending) v in
    λ i. record {
      bodies = bodies i;
      live = (v i).live;
      pending = pending i;
      reserved = (v i).reserved;
      room = c.stage.new.bytes.cap - c.stage.new.bytes.len - c.self.inside.spare;
      spare = (v i).spare;
      max = (v i).max;
      armed = c.force.new.disk.armed;
      faults = g.D.Disk.faults c.force.new.disk.inner;
    }

pub returns-in-Err-clause-appended : goal.returns-in-Err-clause-appended
unfolding piece
returns-in-Err-clause-appended g c =
    let body : List ℕ = c.args.head.now ++ c.args.adds.now ++ c.args.removes.now in
    let fit : length body < 2 ^ 32 = omega (arith, length-append (c.args.head.now ++ c.args.adds.now) c.args.removes.now, length-append c.args.head.now c.args.adds.now) in
    let v = c.self.view_is in
    let is_live : c.self.inside.live ≡ true = ap (λ (v : LogState). v.live) c.self.view_is ∙ c.requires.live in
    let whole = (c.self.invariant.0.settled is_live).whole in
    let bodies = front_staged _ _ body c.self.invariant.0.framed c.self.invariant.0.fits whole _ c.stage.ensures.items ∙ ap (λ (v : LogState). v.bodies) v in
    let pending = behind_staged _ _ body c.self.invariant.0.framed c.self.invariant.0.fits whole _ c.stage.ensures.items in
    λ i. record {
      bodies = bodies i;
      live = false;
      pending = pending i;
      reserved = (v i).reserved;
      room = c.stage.new.bytes.cap - c.stage.new.bytes.len - c.self.inside.spare;
      spare = (v i).spare;
      max = (v i).max;
      armed = c.force.new.disk.armed;
      faults = g.D.Disk.faults c.force.new.disk.inner;
    }
