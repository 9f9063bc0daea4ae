use Rattle.std.proofs.Common.{Bool, [], subst, sym}
use Rattle.std.specs.Prelude.{slice_set}
use Rattle.mq_takes.specs.from_turn_parts.Unseen.{IsUnseen, turn_deed}
use Rattle.mq_ruled.specs.Ends.{PipeEmpty, PipeEnds, PipeFull, PipeTook}
use Rattle.mq_split.specs.Ends.{end_actor}
use Rattle.mq_shared.specs.Held.{Kept}
use Rattle.mq_shared.proofs.KeptLaws.{served_at}
use Rattle.mq_shared.proofs.OwnKept.{turn_own}
use Rattle.mq_shared.proofs.TurnKept.{turn_kept}
use Rattle.mq_shared.proofs.locked.Locked.turn.Goals as goal

pub invariant_of-self : goal.invariant_of-self
invariant_of-self g c = (
  subst (λ (w : Bool). Kept g.P.PhaseName.begun (record { manager = c.self.inside.manager; node = c.try_turn-turn.new.node; ends = slice_set c.self.inside.ends c.args.at c.try_turn-turn.new.end; scripts = c.self.inside.scripts; wants = w })) (sym c.is_err-self-inside.ensures.value)
      (turn_kept _ _ _ c.self.invariant.0 c.facts.ensures.kept c.facts-2.ensures.kept c.if-not-may_go.ensures.0 c.args.at _ _ c.at_mut.ensures.value c.if-not-may_go.ensures.1 (IsUnseen ((m : PipeEnds) × PipeEmpty c.at_mut.result.now.wire m × PipeTook m [] c.try_turn-turn.new.end.wire) (turn_deed (end_actor c.at_mut.result.now.cable c.at_mut.result.now.sends) c.self.inside.node)) (PipeFull c.at_mut.result.now.wire c.try_turn-turn.new.end.wire) c.try_turn-turn.result (served_at _ _ c.self.invariant.0 c.if-not-may_go.ensures.0 c.if-not-may_go.ensures.1) c.try_turn-turn.ensures.tried c.try_turn-turn.ensures.free),
  λ is none. turn_own (IsUnseen ((m : PipeEnds) × PipeEmpty c.at_mut.result.now.wire m × PipeTook m [] c.try_turn-turn.new.end.wire) (turn_deed (end_actor c.at_mut.result.now.cable c.at_mut.result.now.sends) c.self.inside.node)) (PipeFull c.at_mut.result.now.wire c.try_turn-turn.new.end.wire) _ _ _ _ c.try_turn-turn.result c.facts-2.ensures.kept c.try_turn-turn.ensures.tried (c.self.invariant.1 is none),
)
