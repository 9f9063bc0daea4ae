use Rattle.std.proofs.Common.{◌≡◌, map, take}
use Rattle.mq_disk.specs.Files.{in_file_name}
use Rattle.mq_disk.proofs.file.file_name.Given as goal

abbrev pub invariant-loop-byte : goal.invariant-loop-byte
invariant-loop-byte l = l.text.items ≡ map in_file_name (take l.byte-index l.byte-items)
