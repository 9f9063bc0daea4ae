use Rattle.std.proofs.Common.{◌≡◌, ℕ, List, ap, ◌∙◌}
use Rattle.mq_calls.specs.from_objects.StyleVariants.{Shown}
use Rattle.mq_calls.specs.from_objects.Names.{name_of}
use Rattle.mq_calls.specs.from_objects.Attributes.{in_brackets, kind_word}
use Rattle.mq_calls.proofs.from_objects.WrittenLemmas.{put_all-styled}
use Rattle.mq_sc_apply.specs.Displayed.{line_of, shown_attributes}
use Rattle.mq_sc_apply.proofs.display.object_line.Goals as goal

pub returns : goal.returns
returns g c =
    let o = c.args.object.now in
    let u = g.U.InUse.facts c.args.uses.now in
    let kind = c.kind_word.ensures in
    let name = c.name.ensures in
    let start : c.in_ok-text.text ≡ in_brackets (kind_word o) (name_of o) = c.in_ok-text.ensures ∙ (λ i. in_brackets (kind i) (name i)) in
    c.in_ok-write_shown.ensures
    ∙ put_all-styled Shown c.args.asked.now c.in_ok-text.text (shown_attributes o u)
    ∙ ap (λ (t : List ℕ). line_of t c.args.asked.now (shown_attributes o u)) start
