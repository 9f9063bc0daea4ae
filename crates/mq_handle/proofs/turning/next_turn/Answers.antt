use Rattle.std.proofs.Common.{List, sym, ap, ◌∙◌}
use Rattle.std.specs.Prelude.{position, slice_get}
use Rattle.mq_core.specs.Values.{CoreValue}
use Rattle.mq_spec_node.specs.Words.{Handler}
use Rattle.mq_events.specs.States.{node_in}
use Rattle.mq_handle.specs.Letters.{letter_by}
use Rattle.mq_handle.specs.Turns.{is_number}
use Rattle.mq_handle.proofs.TurnLaws.{none_placed, never_past, found_none, found_one, can_at}
use Rattle.mq_handle.proofs.turning.next_turn.Goals as goal

pub returns-in_default : goal.returns-in_default
returns-in_default g c = none_placed c.args.number (node_in c.args.parts.now) (c.in_default.ensures ∙ ap (position (is_number c.args.number)) c.handlers_of-handlers.ensures)

pub returns-in_default-handler_at : goal.returns-in_default-handler_at
returns-in_default-handler_at g c =
    never_past c.args.number (node_in c.args.parts.now) c.in-Some.at (c.in-Some.ensures ∙ ap (position (is_number c.args.number)) c.handlers_of-handlers.ensures)
    (c.in_default-handler_at.ensures ∙ ap (λ (hs : List Handler). slice_get hs c.in-Some.at) c.handlers_of-handlers.ensures)

pub returns-in-None : goal.returns-in-None
returns-in-None g c =
    found_none c.args.number (node_in c.args.parts.now) c.in-Some.at c.in-Some-handler_at.handler.now (c.in-Some.ensures ∙ ap (position (is_number c.args.number)) c.handlers_of-handlers.ensures)
    (sym (c.in-Some-handler_at.ensures ∙ ap (λ (hs : List Handler). slice_get hs c.in-Some.at) c.handlers_of-handlers.ensures))
    (c.in-None.ensures.letter ∙ ap (λ (v : CoreValue). letter_by c.in-Some-handler_at.handler.now v.plain) c.manager_of.ensures)

pub returns-in-Some-letter_at : goal.returns-in-Some-letter_at
returns-in-Some-letter_at g c =
    found_one c.args.number (node_in c.args.parts.now) c.in-Some.at c.in-Some-handler_at.handler.now c.in-Some-letter_at.letter (c.in-Some.ensures ∙ ap (position (is_number c.args.number)) c.handlers_of-handlers.ensures)
    (sym (c.in-Some-handler_at.ensures ∙ ap (λ (hs : List Handler). slice_get hs c.in-Some.at) c.handlers_of-handlers.ensures))
    (c.in-Some-letter_at.ensures.letter ∙ ap (λ (v : CoreValue). letter_by c.in-Some-handler_at.handler.now v.plain) c.manager_of.ensures)
    (can_at c.manager_of.result.now c.args.parts.now.manager c.in-Some-letter_at.letter c.manager_of.ensures c.in-Some-letter_at.ensures.can)
