use Rattle.std.proofs.Common.{ℕ, List, [], ◌∷◌, sym, ap, ◌∙◌, filter}
use Rattle.mq_objects.specs.Names.{is_object}
use Rattle.mq_objects.specs.Names.Space.{Queues}
use Rattle.mq_core.specs.Views.{PartsValue}
use Rattle.mq_steer.proofs.DueLaws.{one_due}
use Rattle.mq_steer.proofs.triggers.due_named.Goals as goal

pub returns-in-None : goal.returns-in-None
returns-in-None g c =
    sym (one_due c.args.name.now c.args.parts.now [] c.requires.only (ap (λ (n : List ℕ). filter (is_object Queues n) c.args.parts.now.defs.definitions.objects) (sym c.text.ensures.text) ∙ ap (λ (x : PartsValue). filter (is_object Queues c.text.result.now) x.defs.definitions.objects) (sym c.parts.view_is) ∙ c.in-None.ensures.only))

pub returns-in-Some : goal.returns-in-Some
returns-in-Some g c =
    c.due_object.ensures
    ∙ sym (one_due c.args.name.now c.args.parts.now (c.in-Some.object.now ∷ []) c.requires.only (ap (λ (n : List ℕ). filter (is_object Queues n) c.args.parts.now.defs.definitions.objects) (sym c.text.ensures.text) ∙ ap (λ (x : PartsValue). filter (is_object Queues c.text.result.now) x.defs.definitions.objects) (sym c.parts.view_is) ∙ c.in-Some.ensures.only))
