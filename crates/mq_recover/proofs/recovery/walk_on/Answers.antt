use Rattle.std.proofs.Common.{◌≡◌, true, refl, sym, ◌∙◌, arith}
use Rattle.mq_recover_read.specs.from_spec_log.Applies.{applies}
use Rattle.mq_recover_read.specs.from_spec_log.Records.{doing}
use Rattle.mq_recover_read.specs.from_spec_log.Bodies.{record_of}
use Rattle.mq_recover.specs.Recovering.{seen}
use Rattle.mq_recover.specs.Found.{start_in, given_as}
use Rattle.mq_recover.proofs.WalkLaws.{went_on, behind_on, did}
use Rattle.mq_recover.proofs.recovery.walk_on.Goals as goal

pub loop-split-preserved : goal.loop-split-preserved
loop-split-preserved c =
    let g = given_as c.args.manager c.args.name.now in
    let done : c.in_ok-follow.field-0 ≡ true = grind arith in
    let step = did (applies g (start_in c.args.start) c.in-Some-2.record (seen c.loop-split.told)) (doing c.in-Some-2.record (seen c.loop-split.told)) (seen c.follow.new.self) c.in_ok-follow.field-0 done c.in_ok-follow.ensures in
    let is = sym c.in_ok-record.ensures ∙ c.in-Some-2.is in
    record {
      goes = λ all fits e. went_on g (start_in c.args.start) c.args.place (seen c.args.told.now) all c.loop-split.place c.loop-split.left.framed.now (seen c.loop-split.told) c.in-Some.split
          (c.loop-split.invariant.goes all fits e) c.in-Some.ensures.walks (seen c.follow.new.self)
          (behind_on g (start_in c.args.start) (seen c.loop-split.told) (seen c.follow.new.self) (record_of c.in-Some.split.body.now) c.in-Some-2.record is step.0 step.1) _ refl;
      size = omega (arith, c.loop-split.invariant.size, c.in-Some.ensures.shorter);
    }
