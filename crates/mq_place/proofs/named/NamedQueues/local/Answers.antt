use Rattle.std.proofs.Common.{subst, ap, sym, ◌∙◌, arith}
use Rattle.mq_place.specs.States.{QueueStates, state_in, AreApart}
use Rattle.mq_place.proofs.FiledLaws.{found_within, state_found_or, state_none}
use Rattle.mq_place.proofs.StateLaws.{apart}
use Rattle.mq_place.proofs.named.NamedQueues.local.Goals as goal

pub returns-in_default-clause-value : goal.returns-in_default-clause-value
returns-in_default-clause-value g c =
    sym (state_none _ _ _ c.self.invariant c.args.name.now (sym c.in_default.ensures.value)) ∙ ap (λ (v : QueueStates). state_in c.args.name.now v.states) c.self.view_is

pub index-requires : goal.index-requires
index-requires g c = omega (arith, found_within _ _ _ c.self.invariant c.args.name.now c.in-Some.place.now (sym c.in-Some.ensures.value), c.self.inside.slots.ok)

pub returns-clause-value : goal.returns-clause-value
returns-clause-value g c =
    c.as_ref.ensures.value ∙ c.index.ensures ∙ sym (state_found_or _ _ _ c.self.invariant c.args.name.now c.in-Some.place.now c.index.result.now (sym c.in-Some.ensures.value))
    ∙ ap (λ (v : QueueStates). state_in c.args.name.now v.states) c.self.view_is

pub returns-in_default-clause-named : goal.returns-in_default-clause-named
returns-in_default-clause-named g c = subst (λ (v : QueueStates). AreApart v.states) c.self.view_is (apart c.self.inside.slots.items c.self.invariant.distinct)

pub returns-clause-named : goal.returns-clause-named
returns-clause-named g c = subst (λ (v : QueueStates). AreApart v.states) c.self.view_is (apart c.self.inside.slots.items c.self.invariant.distinct)
