use Rattle.std.proofs.Common.{Bool, subst}
use Rattle.std.specs.Prelude.{Ok}
use Rattle.mq_history.specs.declared.calls.Actor.TheVariants as actors
use Rattle.mq_spec_node.specs.Terms.{Call}
use Rattle.mq_progress.specs.Course.{until_in}
use Rattle.mq_acts.specs.Asks.{Comes, MayWait}
use Rattle.mq_acts.proofs.LineLaws.{waits_some}
use Rattle.mq_acts.proofs.advancing.do_line.Goals as goal

pub wait-requires : goal.wait-requires
wait-requires g c =
    let B : Bool → Type 0 = λ b. Comes (actors.Script c.args.number) c.in-Ok.call c.args.node.now (Ok b) c.ask.new.node in
    let M : Call → Type 0 = λ x. MayWait (actors.Script c.args.number) x c.args.node.now c.ask.new.node in
    record {
      waits = waits_some (actors.Script c.args.number) c.args.part.now.label c.args.progress.now.memory (until_in c.args.progress.now c.moment-moment.result c.args.line.now) c.args.line.now c.args.node.now c.ask.new.node
          (subst M c.in-Ok.ensures (subst B c.in-Ok-false.field-0-test c.in-Ok-false.ensures.came));
    }
