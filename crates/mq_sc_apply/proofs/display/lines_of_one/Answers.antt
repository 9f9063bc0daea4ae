use Rattle.std.proofs.Common.{◌≡◌, ℕ, List, Some, None, [], ◌∷◌, ◌++◌, filter, sym, ap, ◌∙◌}
use Rattle.mq_calls.specs.from_objects.Names.{space_in, is_object}
use Rattle.mq_sc_apply.specs.Displayed.{searched_space, lines_of}
use Rattle.mq_sc_apply.proofs.LineLemmas.{lines_of-named}
use Rattle.mq_sc_apply.proofs.display.lines_of_one.Goals as goal

pub returns-in_default : goal.returns-in_default
returns-in_default g c =
    let d = c.args.command.now in
    let u = g.U.InUse.facts c.args.uses.now in
    let os = c.args.defs.now.definitions.objects in
    let only : filter (is_object (space_in (searched_space d.subjects)) d.name) os ≡ [] =
    (λ i. filter (is_object (space_in (sym c.searched_space-space.ensures i)) (sym c.as_slice.ensures i)) os) ∙ c.in_default.ensures.only in
    c.new-lines.ensures ∙ sym (lines_of-named d u os None c.requires only)

pub returns : goal.returns
returns g c =
    let d = c.args.command.now in
    let u = g.U.InUse.facts c.args.uses.now in
    let os = c.args.defs.now.definitions.objects in
    let o = c.in-Some.object.now in
    let only : filter (is_object (space_in (searched_space d.subjects)) d.name) os ≡ o ∷ [] =
    (λ i. filter (is_object (space_in (sym c.searched_space-space.ensures i)) (sym c.as_slice.ensures i)) os) ∙ c.in-Some.ensures.only in
    c.in_ok-push_line.ensures ∙ ap (λ (ls : List (List ℕ)). ls ++ lines_of d u (o ∷ [])) c.new-lines.ensures ∙ sym (lines_of-named d u os (Some o) c.requires only)
