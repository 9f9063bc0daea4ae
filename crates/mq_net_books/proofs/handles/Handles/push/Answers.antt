use Rattle.std.specs.Prelude.{Bool, List, [], ◌∷◌, ◌++◌}
use Rattle.std.proofs.Common.{subst, sym, ◌∙◌}
use Rattle.mq_calls.specs.declared.state.Handle.{Handle}
use Rattle.mq_net_books.specs.Handles.{RiseSo}
use Rattle.mq_net_books.proofs.HandleLaws.{kept_there, so_more}
use Rattle.mq_net_books.proofs.handles.Handles.push.Goals as goal

pub invariant_of-self-2 : goal.invariant_of-self-2
invariant_of-self-2 c =
    let items = c.push.ensures.items ∙ kept_there c.push.result (c.self.inside.list.items ++ c.args.handle ∷ []) c.self.inside.list.items (sym c.is_err.ensures.value ∙ c.if-is_err.false) in
    subst (λ (hs : List Handle). RiseSo c.rises-self-inside.result c.args.handle.number hs) (sym items)
    (subst (λ (b : Bool). RiseSo b c.args.handle.number (c.self.inside.list.items ++ c.args.handle ∷ [])) (sym c.rises-self-inside.ensures)
    (so_more c.self.inside.rising c.args.handle c.self.inside.list.items c.self.inside.last c.self.invariant))
