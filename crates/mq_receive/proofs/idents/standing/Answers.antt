use Rattle.std.proofs.Common.{sym, ap, subst, ◌∙◌}
use Rattle.std.specs.Prelude.{option_map, option_copied}
use Rattle.mq_core.specs.from_place.States.{Located, row_at, state_in, AreApart}
use Rattle.mq_core.specs.Views.{PartsValue}
use Rattle.mq_receive.proofs.HomeLaws.{stands_apart, no_state, no_row, stands_in_row}
use Rattle.mq_receive.proofs.idents.standing.Goals as goal

pub returns-in_default : goal.returns-in_default
returns-in_default g c =
    let m = c.args.message.now in
    c.standing_apart.ensures ∙ stands_apart m c.args.parts.now (sym c.in_default.is ∙ c.home.ensures ∙ ap (λ (x : PartsValue). option_map (λ (l : Located). l.name) (row_at m.ident x.queues.states)) c.parts.view_is)

pub unreachable-requires : goal.unreachable-requires
unreachable-requires g c =
    no_state c.args.message.now.ident c.in-Some.queue c.parts.inside.queues.states c.local.ensures.named (sym c.in-Some.is ∙ c.home.ensures)
    (sym c.local.ensures.value ∙ ap (λ o. option_copied o) c.in_default-local.is)

pub unreachable-requires-in_default-row : goal.unreachable-requires-in_default-row
unreachable-requires-in_default-row g c =
    no_row c.args.message.now.ident c.in-Some.queue c.parts.inside.queues.states c.in-Some-local.local.now c.local.ensures.named (sym c.in-Some.is ∙ c.home.ensures)
    (sym c.local.ensures.value ∙ ap (λ o. option_copied o) c.in-Some-local.is)
    (sym c.row.ensures ∙ ap (λ o. option_copied o) c.in_default-row.is)

pub returns : goal.returns
returns g c =
    let m = c.args.message.now in
    let seen = c.parts.view_is in
    c.standing_in_row.ensures
    ∙ stands_in_row m c.args.parts.now c.in-Some.queue c.in-Some-local.local.now c.in-Some-row.row.now
    (subst (λ (x : PartsValue). AreApart x.queues.states) seen c.local.ensures.named)
    (sym c.in-Some.is ∙ c.home.ensures ∙ ap (λ (x : PartsValue). option_map (λ (l : Located). l.name) (row_at m.ident x.queues.states)) seen)
    (ap (λ (x : PartsValue). state_in c.in-Some.queue x.queues.states) (sym seen) ∙ sym c.local.ensures.value ∙ ap (λ o. option_copied o) c.in-Some-local.is)
    (sym c.row.ensures ∙ ap (λ o. option_copied o) c.in-Some-row.is)
