use Rattle.std.proofs.Common.{◌≡◌, ℕ, List, Some, refl, sym, ap, subst, ◌∙◌, ◌∷◌, length, ◌<◌}
use Rattle.std.specs.Prelude.{map, filter, slice_get, position}
use Rattle.std.proofs.lemmas.Option.{slice_get_read}
use Rattle.std.specs.List.{position_or_len, remove}
use Rattle.mq_cable.specs.declared.push.Kept.{Kept}
use Rattle.mq_cable.specs.Offers.{due_of, is_due, is_left, item_of}
use Rattle.mq_cable.proofs.Taking.{place_some, place_none, none_pass, due_first, left_first}
use Rattle.mq_cable.proofs.push.take_due.Goals as goal

pub returns-in-None-clause-due : goal.returns-in-None-clause-due
returns-in-None-clause-due c =
    let kept = c.args.kept.now.items in
    (ap (map item_of) (none_pass (is_due c.args.frame) kept (place_none (is_due c.args.frame) kept (ap (position (is_due c.args.frame)) (sym c.as_slice.ensures.value) ∙ sym c.due_place.ensures ∙ c.in-None.is))), refl)

pub returns-in-Some-clause-due : goal.returns-in-Some-clause-due
returns-in-Some-clause-due c =
    let kept = c.args.kept.now.items in
    let p = place_some (is_due c.args.frame) kept c.in-Some.at (ap (position (is_due c.args.frame)) (sym c.as_slice.ensures.value) ∙ sym c.due_place.ensures ∙ c.in-Some.is) in
    let got : slice_get kept (position_or_len (is_due c.args.frame) kept) ≡ Some c.remove.result = subst (λ (i : ℕ). slice_get kept i ≡ Some c.remove.result) p.0 (slice_get_read kept (length kept) c.in-Some.at c.remove.result refl p.1 c.remove.ensures.value) in
    ap (map item_of) (due_first c.args.frame c.remove.result kept got)
    ∙ ap (λ (l : List Kept). c.remove.result.item ∷ due_of c.args.frame l) (ap (remove kept) (sym p.0) ∙ sym c.remove.ensures.items)

pub returns-in-Some-clause-left : goal.returns-in-Some-clause-left
returns-in-Some-clause-left c =
    let kept = c.args.kept.now.items in
    let p = place_some (is_due c.args.frame) kept c.in-Some.at (ap (position (is_due c.args.frame)) (sym c.as_slice.ensures.value) ∙ sym c.due_place.ensures ∙ c.in-Some.is) in
    ap (filter (is_left c.args.frame)) (c.remove.ensures.items ∙ ap (remove kept) p.0)
    ∙ left_first c.args.frame kept (subst (λ (i : ℕ). i < length kept) p.0 p.1)
