use Rattle.std.proofs.Common.{ℕ, true, false, ap, sym, subst, arith, ◌∙◌}
use Rattle.std.specs.Prelude.{List, length, IsSome}
use Rattle.mq_resolve.specs.Resolved.{resolve}
use Rattle.mq_calls.specs.Words.{Message, PathStep, Route, refusal, local_of}
use Rattle.mq_spec_manager.specs.Words.{queue_at}
use Rattle.mq_spec_manager.specs.Agents.{route_tests}
use Rattle.mq_agents.specs.from_core.Views.{PartsValue, plain_of}
use Rattle.mq_moves.specs.Moving.{moved_step}
use Rattle.mq_moves.specs.Landed.{route_by}
use Rattle.mq_moves.proofs.LandLaws.{unresolved, move_refused, move_at_last, defined_at, message_there, same_ident_there}
use Rattle.mq_moves.proofs.rules.can_move.Goals as goal

pub returns-in-Err : goal.returns-in-Err
returns-in-Err g c =
    let p = plain_of c.args.parts.now in
    let found = ap (λ (x : PartsValue). resolve x.defs.definitions x.name c.args.to.now.queue c.args.to.now.qmgr) (sym c.parts.view_is) ∙ sym c.in-Err.ensures.answer in
    unresolved c.args.from.now c.args.ident.now c.args.to.now c.args.bare p c.in-Err.reason (message_there c.args.from.now c.args.ident.now c.args.bare p c.requires.can) found

pub is_move_full-requires-clause-small : goal.is_move_full-requires-clause-small
is_move_full-requires-clause-small g c = let short = c.refused_at.ensures.small c.in-None.is in omega (arith, short, c.len.ensures)

pub returns-in-Some : goal.returns-in-Some
returns-in-Some g c =
    let p = plain_of c.args.parts.now in
    let route : Route = c.in-Ok.route in
    let found = ap (λ (x : PartsValue). resolve x.defs.definitions x.name c.args.to.now.queue c.args.to.now.qmgr) (sym c.parts.view_is) ∙ sym c.in-Ok.ensures.answer in
    let refused = ap (λ (n : ℕ). refusal (route_tests route n p)) (sym c.len.ensures) ∙ ap (λ (path : List PathStep). refusal (route_tests (route_by route.end path) c.len.result p)) (sym c.as_slice.ensures.steps) ∙ sym c.refused_at.ensures.value ∙ c.in-Some.is in
    move_refused c.args.from.now c.args.ident.now c.args.to.now c.args.bare route c.in-Ok-moved_message.message p c.in-Some.reason c.in-Ok-moved_message.ensures found refused

pub returns-then-is_move_full : goal.returns-then-is_move_full
returns-then-is_move_full g c =
    let p = plain_of c.args.parts.now in
    let route : Route = c.in-Ok.route in
    let found = ap (λ (x : PartsValue). resolve x.defs.definitions x.name c.args.to.now.queue c.args.to.now.qmgr) (sym c.parts.view_is) ∙ sym c.in-Ok.ensures.answer in
    let passed = ap (λ (n : ℕ). refusal (route_tests route n p)) (sym c.len.ensures) ∙ ap (λ (path : List PathStep). refusal (route_tests (route_by route.end path) c.len.result p)) (sym c.as_slice.ensures.steps) ∙ sym c.refused_at.ensures.value ∙ c.in-None.is in
    move_at_last c.args.from.now c.args.ident.now c.args.to.now c.args.bare route c.in-Ok-moved_message.message p true c.in-Ok-moved_message.ensures found passed
    (sym (c.is_move_full.ensures c.args.from.now (queue_at route.end)) ∙ c.if-is_move_full.true)

pub returns : goal.returns
returns g c =
    let p = plain_of c.args.parts.now in
    let route : Route = c.in-Ok.route in
    let m : Message = c.in-Ok-moved_message.message in
    let found = ap (λ (x : PartsValue). resolve x.defs.definitions x.name c.args.to.now.queue c.args.to.now.qmgr) (sym c.parts.view_is) ∙ sym c.in-Ok.ensures.answer in
    let passed = ap (λ (n : ℕ). refusal (route_tests route n p)) (sym c.len.ensures) ∙ ap (λ (path : List PathStep). refusal (route_tests (route_by route.end path) c.len.result p)) (sym c.as_slice.ensures.steps) ∙ sym c.refused_at.ensures.value ∙ c.in-None.is in
    let at = sym c.queue_at.ensures in
    record {
      is = move_at_last c.args.from.now c.args.ident.now c.args.to.now c.args.bare route m p false c.in-Ok-moved_message.ensures found passed
          (sym (c.is_move_full.ensures c.args.from.now (queue_at route.end)) ∙ c.if-is_move_full.false)
          ∙ ap (λ (q : List ℕ). moved_step c.args.from.now c.args.to.now c.args.bare q m) at;
      there = subst (λ (q : List ℕ). IsSome (local_of q p.definitions)) at (defined_at route (length m.body) p passed);
      same = same_ident_there c.args.from.now c.args.ident.now c.args.bare p route.end m c.requires.can c.in-Ok-moved_message.ensures;
    }
