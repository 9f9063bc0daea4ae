use Rattle.std.proofs.Common.{◌≡◌, ℕ, List, ap, ◌∙◌}
use Rattle.std.specs.Prelude.{codes}
use Rattle.mq_calls.specs.from_objects.StyleVariants.{Shown}
use Rattle.mq_calls.specs.from_objects.Attributes.{in_brackets}
use Rattle.mq_calls.proofs.from_objects.WrittenLemmas.{put_all-styled}
use Rattle.mq_sc_apply.specs.Displayed.{line_of, manager_shown}
use Rattle.mq_sc_apply.proofs.display.manager_line.Goals as goal

pub returns : goal.returns
returns c =
    let m = c.args.attributes.now in
    let start : c.in_ok-text.text ≡ in_brackets (codes "QMGR") c.args.own.now = c.in_ok-text.ensures ∙ ap (in_brackets (codes "QMGR")) c.text.ensures.text in
    c.in_ok-write_manager.ensures
    ∙ put_all-styled Shown c.args.asked.now c.in_ok-text.text (manager_shown m)
    ∙ ap (λ (t : List ℕ). line_of t c.args.asked.now (manager_shown m)) start
