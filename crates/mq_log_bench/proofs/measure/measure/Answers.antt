use Rattle.std.proofs.Common.{◌+◌, ◌≤◌, ap, arith, length}
use Rattle.std.proofs.Math.Nat.{le-min}
use Rattle.mq_log_bench.proofs.Again.{none_at_first, no_fewer}
use Rattle.mq_log_bench.proofs.measure.measure.Goals as goal

pub returns : goal.returns
returns g c = record {
  again = λ t short.
      let seen = g.D.Disk.seen c.new.result.inner.inner in
      let empty : length seen ≤ 1 = omega (arith, ap (λ d. length (g.D.Disk.seen d.inner.inner)) c.new.ensures, short) in
      let none = none_at_first seen c.in-Ok.log.bodies empty (c.in-Ok.ensures.read t) in
      let left = c.end-disk.result.inner.inner in
      let stood = c.end-disk.ensures.images t (g.D.Disk.seen left) (g.met.D.Disk.present left t) in
      let fewer = no_fewer c.time_appends-second.new.log.bodies c.in-Ok-start.log.bodies _ _ stood (c.in-Ok-start.ensures.read t) in
      let counted = c.count_bodies-read.ensures.counted c.in-Ok-start.log.bodies c.bodies.ensures.fits c.bodies.ensures.framed in
      let sum = c.time_appends-first.result.appended + c.time_appends-second.result.appended in
      let few : sum ≤ length c.in-Ok-start.log.bodies =
      omega (arith, none, fewer, c.time_appends-first.ensures.appended, c.time_appends-second.ensures.appended) in
      let small : sum ≤ 4294967295 =
      omega (arith, c.time_appends-first.ensures.most, c.time_appends-second.ensures.most, c.ranges.count.fits) in
      omega (arith, counted, le-min few small);
}
