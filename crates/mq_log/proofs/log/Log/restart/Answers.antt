use Rattle.std.proofs.Common.{◌≡◌, ◌-◌, ◌<◌, ℕ, List, Option, Err, take, sym, ap, subst, ◌∙◌, arith}
use Rattle.mq_log.specs.Bodies.{IsLog}
use Rattle.mq_log.specs.State.{LogState, front_bodies, body_behind, IsLogOf}
use Rattle.mq_log.specs.declared.images.Found.{Found}
use Rattle.mq_log.specs.Images.{IsImage, IsFound}
use Rattle.mq_log.specs.Open.{Front, RestartEnds}
use Rattle.mq_log.proofs.Counted.{refused_by_one, made_by_one, some_read}
use Rattle.mq_log.proofs.Logs.{before_or_after, no_bad_fault, long_log_of}
use Rattle.mq_log.proofs.Opened.{stands, dead, same_reads, reads_after, pending_is}
use Rattle.mq_log.proofs.Imaged.{found_of, not_other}
use Rattle.mq_log.proofs.log.Log.restart.Goals as goal

pub invariant_of-self : goal.invariant_of-self
invariant_of-self g c = (dead _ _ _ _ _ _ _ _ c.self.invariant.0 _ _ _ _ (λ t. same_reads _ _ (c.restart.ensures.crash t)), c.self.invariant.1, c.self.invariant.2)

pub invariant_of-self-in-Err : goal.invariant_of-self-in-Err
invariant_of-self-in-Err g c = (dead _ _ _ _ _ _ _ _ c.self.invariant.0 _ _ _ _ (λ t. reads_after _ _ _ (c.restart.ensures.crash t) (c.open_log.ensures.images t)), c.self.invariant.1, c.self.invariant.2)

pub returns-in-Ok-clause-found : goal.returns-in-Ok-clause-found
returns-in-Ok-clause-found g c =
    let was = c.self.invariant.0 in
    let old = c.self.inside.bytes.items in
    let at = c.len-end.result - 1 in
    let new = c.in-Ok.bytes.items in
    let f = c.compare-found.result in
    let sound = c.in-Ok.ensures.sound in
    let now : Front at new = subst (λ (n : ℕ). Front (n - 1) new) (sym c.len-end.ensures) (record { framed = sound.framed; fits = sound.fits }) in
    let read : c.split_at.result.0.now ≡ take at new = c.split_at.ensures.front ∙ ap (λ (l : List ℕ). take at l) c.deref.ensures.value in
    let bytes = c.deref-in-Ok.ensures.value in
    let is : IsImage (take c.self.inside.end old) (body_behind c.self.inside.end old) f (take at new) =
    subst (λ (l : List ℕ). IsImage (take c.self.inside.end old) (body_behind c.self.inside.end old) f l) read
    (subst (λ (l : List ℕ). IsImage (take c.self.inside.end l) (body_behind c.self.inside.end l) f c.split_at.result.0.now) bytes c.compare-found.ensures) in
    let of = found_of old new c.self.inside.end at (body_behind c.self.inside.end old) f (record { framed = was.framed; fits = was.fits }) now is in
    let pending = pending_is _ _ _ _ _ _ _ _ was in
    subst (λ (v : LogState). IsFound v.bodies v.pending f (front_bodies at new)) c.self.view_is
    (subst (λ (o : Option (List ℕ)). IsFound (front_bodies c.self.inside.end old) o f (front_bodies at new)) (sym pending) of)

pub returns-in-Ok-clause-known : goal.returns-in-Ok-clause-known
returns-in-Ok-clause-known g c t =
    let was = stands _ _ _ _ _ _ _ _ c.self.invariant.0 t _ (c.in_ok-restart.ensures.image t) in
    let there = subst (λ (v : LogState). IsLogOf v.bodies v.pending (g.D.Disk.seen c.restart.new.self.inner)) c.self.view_is was in
    let x = front_bodies (c.len-end.result - 1) c.in-Ok.bytes.items in
    let read : IsLog (g.D.Disk.seen c.restart.new.self.inner) x =
    subst (λ (n : ℕ). IsLog (g.D.Disk.seen c.restart.new.self.inner) (front_bodies (n - 1) c.in-Ok.bytes.items)) (sym c.len-end.ensures) (c.in-Ok.ensures.read t) in
    not_other _ x _ c.compare-found.result (returns-in-Ok-clause-found g c) (before_or_after _ _ _ x there read)

pub returns-in-Ok-clause-one : goal.returns-in-Ok-clause-one
returns-in-Ok-clause-one g c some =
    let armed = c.in_ok-restart.ensures.armed ∙ ap (λ (v : LogState). v.armed) c.self.view_is in
    let size = some_read _ _ (c.len-end.result - 1) c.in-Ok.bytes.items c.in-Ok.ensures.few (ap (λ (n : ℕ). n - 1) c.len-end.ensures) some in
    subst (λ (n : ℕ). (c.open_log.new.disk.armed ≡ n - 1) × (0 < n → 1 < n)) armed (made_by_one _ _ _ _ _ size c.in-Ok.ensures.ends)

pub returns-in-Ok-clause-told : goal.returns-in-Ok-clause-told
returns-in-Ok-clause-told g c t some =
    let armed = c.in_ok-restart.ensures.armed ∙ ap (λ (v : LogState). v.armed) c.self.view_is in
    let was = stands _ _ _ _ _ _ _ _ c.self.invariant.0 t _ (c.in_ok-restart.ensures.image t) in
    let there = subst (λ (v : LogState). IsLogOf v.bodies v.pending (g.D.Disk.seen c.restart.new.self.inner)) c.self.view_is was in
    let size : 1 < g.D.Disk.size c.restart.new.self.inner = omega (arith, long_log_of _ _ _ some there, g.met.D.Disk.size_is c.restart.new.self.inner t) in
    subst (λ (n : ℕ). (c.open_log.new.disk.armed ≡ n - 1) × (0 < n → 1 < n)) armed (made_by_one _ _ _ _ _ size c.in-Ok.ensures.ends)

pub returns-in-Err-clause-told : goal.returns-in-Err-clause-told
returns-in-Err-clause-told g c t some =
    let armed = c.in_ok-restart.ensures.armed ∙ ap (λ (v : LogState). v.armed) c.self.view_is in
    let was = stands _ _ _ _ _ _ _ _ c.self.invariant.0 t _ (c.in_ok-restart.ensures.image t) in
    let there = subst (λ (v : LogState). IsLogOf v.bodies v.pending (g.D.Disk.seen c.restart.new.self.inner)) c.self.view_is was in
    let size : 1 < g.D.Disk.size c.restart.new.self.inner = omega (arith, long_log_of _ _ _ some there, g.met.D.Disk.size_is c.restart.new.self.inner t) in
    subst (λ (n : ℕ). RestartEnds {T = Found} 1 n (Err c.in-Err.fault) c.open_log.new.disk.armed) armed (refused_by_one Found _ _ _ _ _ c.in-Err.fault size c.in_ok-restart.ensures.stopped c.in-Err.ensures.ends)

pub returns-in-Err-clause-good : goal.returns-in-Err-clause-good
returns-in-Err-clause-good g c t =
    let was = stands _ _ _ _ _ _ _ _ c.self.invariant.0 t _ (c.in_ok-restart.ensures.image t) in
    no_bad_fault _ _ _ _ was (c.in-Err.ensures.bad t)
