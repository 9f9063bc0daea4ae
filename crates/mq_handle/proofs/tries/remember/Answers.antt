use Rattle.std.proofs.Common.{rules, ◌++◌, ◌∷◌, [], not, List, ap, ◌∙◌}
use Rattle.std.proofs.lemmas.Fn.{filter_same}
use Rattle.mq_spec_node.specs.Words.{Tried, is_tried}
use Rattle.mq_handle.proofs.tries.remember.Goals as goal

pub returns : goal.returns
returns c =
    c.push_reserved.ensures.items
    ∙ ap (λ (l : List Tried). l ++ c.args.new ∷ []) (filter_same _ (λ (t : Tried). not (is_tried c.args.new.queue c.args.new.ident t)) _ (λ x b f h. search rules) _ _ c.retain.ensures.filtered)
