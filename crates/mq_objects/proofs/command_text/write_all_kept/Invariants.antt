use Rattle.std.proofs.Common.{◌≡◌, drop}
use Rattle.mq_objects.specs.Written.{put_kept}
use Rattle.mq_objects.proofs.command_text.write_all_kept.Given as goal

abbrev pub invariant-loop-attribute : goal.invariant-loop-attribute
invariant-loop-attribute l = put_kept l.text (drop l.attribute-index l.kept) ≡ put_kept l.fn.text l.kept
