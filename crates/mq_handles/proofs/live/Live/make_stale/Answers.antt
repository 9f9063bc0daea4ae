use Rattle.std.proofs.Common.{List, ◌∙◌, sym, subst}
use Rattle.mq_calls.specs.declared.state.Connection.{Connection}
use Rattle.mq_handles.specs.Desks.{IsDesk}
use Rattle.mq_handles.proofs.DeskLaws.{desk_stale, none_stale}
use Rattle.mq_handles.proofs.live.Live.make_stale.Goals as goal

pub returns-then-not-has_step-clause-live : goal.returns-then-not-has_step-clause-live
returns-then-not-has_step-clause-live c = sym (none_stale c.args.step.now c.args.self.now.live (sym c.has_step.ensures ∙ c.if-not-has_step.true))

pub invariant_of-self : goal.invariant_of-self
invariant_of-self c = subst (λ (cs : List Connection). IsDesk cs c.self.inside.last c.self.inside.users) (sym c.stale_seats.ensures) (desk_stale c.self.inside.live c.self.inside.last c.self.inside.users c.args.step.now c.self.invariant)
