use Rattle.std.proofs.Common.{sym, ap, ◌∙◌}
use Rattle.std.specs.Prelude.{Option, is_some, option_map, find, not}
use Rattle.mq_message.specs.declared.message.Message.{Message}
use Rattle.mq_queue.specs.Rows.{has_ident}
use Rattle.mq_place.specs.States.{QueueState, QueueStates, Located, row_at}
use Rattle.mq_place.specs.Slots.{rows_of_slot}
use Rattle.mq_place.specs.Homes.{home_of}
use Rattle.mq_place.proofs.HomeLaws.{no_home, home_without, home_with, found_there, no_message, some_message, copied_none, copied_some}
use Rattle.mq_place.proofs.queues.Queues.home.Goals as goal

pub returns-in_default : goal.returns-in_default
returns-in_default g c = sym (no_home (home_of c.self.inside.homes) c.args.ident.now _ c.self.invariant.0.0 (sym c.in_default.ensures)) ∙ ap (λ (v : QueueStates). option_map (λ (r : Located). r.name) (row_at c.args.ident.now v.states)) c.self.view_is

pub returns-in_default-local : goal.returns-in_default-local
returns-in_default-local g c =
    let none =
    found_there c.args.ident.now c.in-Some.name c.self.inside.named.states c.in_default-local.ensures.named
    ∙ ap (λ (o : Option QueueState). is_some (find (has_ident c.args.ident.now) (rows_of_slot o))) (sym c.in_default-local.ensures.value) in
    sym (home_without (home_of c.self.inside.homes) c.args.ident.now c.in-Some.name _ c.self.invariant.0.0 (sym c.in-Some.ensures) none) ∙ ap (λ (v : QueueStates). option_map (λ (r : Located). r.name) (row_at c.args.ident.now v.states)) c.self.view_is

pub returns-then-is_none : goal.returns-then-is_none
returns-then-is_none g c =
    let gone = copied_none c.message.result (c.is_none.ensures ∙ ap not c.if-is_none.true) in
    let none =
    found_there c.args.ident.now c.in-Some.name c.self.inside.named.states c.in-Some-local.ensures.named
    ∙ ap (λ (o : Option QueueState). is_some (find (has_ident c.args.ident.now) (rows_of_slot o))) (sym c.in-Some-local.ensures.value) ∙ no_message c.args.ident.now c.in-Some-local.local.now.queue.rows (sym c.message.ensures ∙ gone) in
    sym (home_without (home_of c.self.inside.homes) c.args.ident.now c.in-Some.name _ c.self.invariant.0.0 (sym c.in-Some.ensures) none) ∙ ap (λ (v : QueueStates). option_map (λ (r : Located). r.name) (row_at c.args.ident.now v.states)) c.self.view_is

pub returns : goal.returns
returns g c =
    let stands = copied_some c.message.result (c.is_none.ensures ∙ ap not c.if-is_none.false) in
    let there =
    found_there c.args.ident.now c.in-Some.name c.self.inside.named.states c.in-Some-local.ensures.named
    ∙ ap (λ (o : Option QueueState). is_some (find (has_ident c.args.ident.now) (rows_of_slot o))) (sym c.in-Some-local.ensures.value) ∙ some_message c.args.ident.now c.in-Some-local.local.now.queue.rows (ap (λ (o : Option Message). is_some o) (sym c.message.ensures) ∙ stands) in
    sym (home_with (home_of c.self.inside.homes) c.args.ident.now c.in-Some.name _ c.self.invariant.0.0 (sym c.in-Some.ensures) there) ∙ ap (λ (v : QueueStates). option_map (λ (r : Located). r.name) (row_at c.args.ident.now v.states)) c.self.view_is
