use Rattle.std.proofs.Common.{◌-◌, List, Option, refl, sym, ap, ◌∙◌, arith}
use Rattle.std.specs.Prelude.{min}
use Rattle.std.specs.Str.{bytes_eq}
use Rattle.indexmap.specs.IndexMap.{get, spare, index_map_len}
use Rattle.mq_place.specs.States.{QueueState, change_state, expecting}
use Rattle.mq_place.specs.Slots.{present, IsFiled}
use Rattle.mq_place.proofs.FiledLaws.{found_within, filed_change, present_change, present_same}
use Rattle.mq_place.proofs.CallLaws.{call_none, call_some, on_ok, on_err, either}
use Rattle.mq_place.proofs.named.NamedQueues.expect.Goals as goal

pub expect_at-requires : goal.expect_at-requires
expect_at-requires g c = record { at = omega (arith, found_within _ _ _ c.self.invariant c.args.name.now c.in-Some.place.now (sym c.in-Some.ensures.value), c.self.inside.slots.ok) }

pub invariant_of-self : goal.invariant_of-self
invariant_of-self g c =
    either (λ (slots : List (Option QueueState)). IsFiled slots (get bytes_eq c.self.inside.places) (index_map_len c.self.inside.places)) c.expect_at.result _ _ _
    c.expect_at.ensures.ok c.expect_at.ensures.err (filed_change _ _ _ c.self.invariant expecting (λ s. refl) c.in-Some.place.now) c.self.invariant

pub returns-in-None-clause-ok : goal.returns-in-None-clause-ok
returns-in-None-clause-ok g c =
    call_none _ _ c.self.view_is (change_state c.args.name.now expecting) (present_same _ _ _ c.self.invariant expecting (λ s. refl) c.args.name.now (sym c.in-None.ensures.value))

pub returns-in-Some-clause-ok : goal.returns-in-Some-clause-ok
returns-in-Some-clause-ok g c =
    on_ok c.expect_at.result (λ slots.
    call_some _ _ _ c.self.view_is (change_state c.args.name.now expecting)
    (ap present slots ∙ present_change _ _ _ c.self.invariant expecting (λ s. refl) c.args.name.now c.in-Some.place.now (sym c.in-Some.ensures.value))
    (λ i. min (spare c.self.inside.places) (c.expect_at.ensures.capacity i - c.expect_at.ensures.len i))) c.expect_at.ensures.ok

pub returns-in-Some-clause-err : goal.returns-in-Some-clause-err
returns-in-Some-clause-err g c =
    on_err c.expect_at.result (λ slots.
    call_some _ _ _ c.self.view_is (λ states. states) (ap present slots)
    (λ i. min (spare c.self.inside.places) (c.expect_at.ensures.capacity i - c.expect_at.ensures.len i))) c.expect_at.ensures.err
