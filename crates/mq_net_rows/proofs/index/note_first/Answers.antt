use Rattle.std.proofs.Common.{ℕ, [], ◌∷◌, ◌++◌, Some, cond, refl, sym, ap, ◌∙◌}
use Rattle.std.specs.Prelude.{is_some}
use Rattle.std.specs.Str.{bytes_eq}
use Rattle.indexmap.specs.IndexMap.{get}
use Rattle.mq_net_rows.specs.Rolls.{shelf_name}
use Rattle.mq_net_rows.proofs.RollLaws.{known, fresh}
use Rattle.mq_net_rows.proofs.QueueLaws.{ok_then}
use Rattle.mq_net_rows.proofs.index.note_first.Goals as goal

pub returns-then-is_some : goal.returns-then-is_some
returns-then-is_some c = λ before long found.
    known shelf_name (get bytes_eq c.args.places.now) before (before ++ c.args.shelf.now ∷ []) c.args.shelf.now found
    (ap is_some (sym (found c.args.shelf.now.name) ∙ sym c.found.ensures) ∙ sym c.is_some.ensures ∙ c.if-is_some.true) refl

pub returns : goal.returns
returns c = ok_then c.note_name.result c.note_name.ensures.noted (λ noted before long found.
    fresh shelf_name (get bytes_eq c.args.places.now) (get bytes_eq c.note_name.new.places) before (before ++ c.args.shelf.now ∷ []) c.args.shelf.now found
    (ap is_some (sym (found c.args.shelf.now.name) ∙ sym c.found.ensures) ∙ sym c.is_some.ensures ∙ c.if-is_some.false)
    (λ other. noted other ∙ ap (λ (n : ℕ). cond (bytes_eq c.args.shelf.now.name other) (Some n) (get bytes_eq c.args.places.now other)) (sym long)) refl)
