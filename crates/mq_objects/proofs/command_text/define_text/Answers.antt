use Rattle.std.proofs.Common.{◌≡◌, ℕ, List, ◌++◌, ap, ◌∙◌}
use Rattle.std.specs.Prelude.{codes, flat_map}
use Rattle.mq_objects.specs.Attributes.{Attribute, attributes, kept_of, command_attribute, kept_attribute, in_brackets, quoted, kind_word}
use Rattle.mq_objects.specs.Names.{name_of}
use Rattle.mq_objects.proofs.WrittenLemmas.{put_object}
use Rattle.mq_objects.proofs.command_text.define_text.Goals as goal

pub returns : goal.returns
returns c =
    let o = c.args.object.now in
    let kind = c.kind_word.ensures in
    let name = c.name.ensures in
    let start : c.in_ok-text.text ≡ codes "DEFINE " ++ in_brackets (kind_word o) (quoted (name_of o)) =
    c.in_ok-text.ensures ∙ (λ i. codes "DEFINE " ++ in_brackets (kind i) (quoted (name i))) in
    c.in_ok-write_object.ensures
    ∙ put_object c.in_ok-text.text (attributes o) (kept_of o)
    ∙ ap (λ (t : List ℕ). t ++ flat_map (λ (a : Attribute). command_attribute a.word a.value) (attributes o) ++ flat_map kept_attribute (kept_of o)) start
