use Rattle.std.proofs.Common.{Bool, subst, sym}
use Rattle.std.specs.Prelude.{slice_set}
use Rattle.mq_shared.specs.Held.{Kept}
use Rattle.mq_shared.proofs.KeptLaws.{few_at, served_at, short_at, texts_at}
use Rattle.mq_shared.proofs.LineKept.{line_kept}
use Rattle.mq_shared.proofs.locked.Locked.advance.Goals as goal

pub try_line-tried-requires-clause-texts : goal.try_line-tried-requires-clause-texts
try_line-tried-requires-clause-texts g c = texts_at _ _ c.args.at _ c.self.invariant.0 c.at_mut.ensures.value

pub try_line-tried-requires-clause-few : goal.try_line-tried-requires-clause-few
try_line-tried-requires-clause-few g c = few_at _ _ c.args.at _ c.self.invariant.0 c.at_mut.ensures.value

pub try_line-tried-requires-clause-short : goal.try_line-tried-requires-clause-short
try_line-tried-requires-clause-short g c = short_at _ _ c.args.at _ c.self.invariant.0 c.at_mut.ensures.value

pub invariant_of-self : goal.invariant_of-self
invariant_of-self g c = (
  subst (λ (w : Bool). Kept g.P.PhaseName.begun (record { manager = c.self.inside.manager; node = c.try_line-tried.new.node; ends = c.self.inside.ends; scripts = slice_set c.self.inside.scripts c.args.at c.try_line-tried.new.script; wants = w })) (sym c.is_err-self-inside.ensures.value)
      (line_kept _ _ c.args.at _ _ _ c.self.invariant.0 c.at_mut.ensures.value c.facts.ensures.kept c.facts-2.ensures.kept c.if-not-may_go.ensures.0 c.try_line-tried.result (served_at _ _ c.self.invariant.0 c.if-not-may_go.ensures.0 c.if-not-may_go.ensures.1) c.try_line-tried.ensures.tried),
  λ is none. c.try_line-tried.ensures.own is (c.self.invariant.1 is none),
)
