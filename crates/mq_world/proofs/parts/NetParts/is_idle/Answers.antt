use Rattle.std.specs.Prelude.{length}
use Rattle.std.proofs.Common.{◌≡◌, ℕ, arith, subst, sym, ◌∙◌}
use Rattle.mq_world.specs.Worlds.{course_in}
use Rattle.mq_world.proofs.IdleLaws.{IdleTo, all_idle, none_yet, one_more, one_not, still_law}
use Rattle.mq_world.proofs.parts.NetParts.is_idle.Goals as goal

pub loop-cable-init : goal.loop-cable-init
loop-cable-init g c = none_yet (course_in c.args.self.now).net c.args.self.now.scenario.cables

pub idles_at-requires : goal.idles_at-requires
idles_at-requires g c = record { kept = c.requires.kept; there = omega (arith, c.loop-cable-test.true, c.cables-cable-end.ensures) }

pub loop-cable-preserved : goal.loop-cable-preserved
loop-cable-preserved g c =
    one_more (course_in c.args.self.now).net c.args.self.now.scenario.cables c.loop-cable.cable c.loop-cable.invariant (λ l at. sym (c.idles_at.ensures l at) ∙ c.if-not-idles_at.false)

pub returns-then-not-idles_at : goal.returns-then-not-idles_at
returns-then-not-idles_at g c = record {
  value = one_not (course_in c.args.self.now).net c.loop-cable.cable (omega (arith, c.loop-cable-test.true, c.cables-cable-end.ensures)) (λ l at. sym c.if-not-idles_at.true ∙ c.idles_at.ensures l at);
  law = still_law c.args.self.now c.requires.kept;
}

pub returns : goal.returns
returns g c =
    let end : c.loop-cable.cable ≡ length c.args.self.now.scenario.cables = omega (arith, c.loop-cable-test.false, c.loop-cable.auto.cable-end, c.cables-cable-end.ensures) in
    record {
      value = all_idle (course_in c.args.self.now).net (subst (λ (n : ℕ). IdleTo (course_in c.args.self.now).net c.args.self.now.scenario.cables n) end c.loop-cable.invariant);
      law = still_law c.args.self.now c.requires.kept;
    }
