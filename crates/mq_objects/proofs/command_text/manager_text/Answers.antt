use Rattle.std.proofs.Common.{ℕ, List, ◌++◌, ap, ◌∙◌}
use Rattle.std.specs.Prelude.{flat_map}
use Rattle.mq_objects.specs.Attributes.{Attribute, manager_attributes, command_attribute, kept_attribute}
use Rattle.mq_objects.proofs.WrittenLemmas.{put_object}
use Rattle.mq_objects.proofs.command_text.manager_text.Goals as goal

pub returns : goal.returns
returns c =
    let m = c.args.attributes.now in
    c.in_ok-write_manager.ensures
    ∙ put_object c.in_ok-text.text (manager_attributes m) m.kept
    ∙ ap (λ (t : List ℕ). t ++ flat_map (λ (a : Attribute). command_attribute a.word a.value) (manager_attributes m) ++ flat_map kept_attribute m.kept) c.in_ok-text.ensures
