-- The line of an end, by what is hardened of it.
use Rattle.std.specs.Prelude.{ℕ, List, ◌++◌, Option, codes}
use Rattle.std.specs.Fmt.{decimal}
use Rattle.mq_objects.specs.Attributes.{in_brackets}
use Rattle.mq_sync.specs.declared.data.InDoubt.{InDoubt}
use Rattle.mq_sync.specs.declared.unit.Unit.{Unit as Luw}
use Rattle.mq_sync.specs.Units.{no_unit, unit_text}
use Rattle.mq_sync.specs.declared.data.SenderData.{SenderData}
use Rattle.mq_sync.specs.declared.data.ReceiverData.{ReceiverData}
use Rattle.mq_sync.specs.Settlement.{sender_or, receiver_or}
use Rattle.mq_spec_node.specs.Node.{SenderEnd, ReceiverEnd}
use Rattle.mq_spec_node.specs.Status.{sender_word, sender_words, receiver_word, receiver_words}

-- a unit in doubt, or none
abbrev pub unsettled_words : Luw → List ℕ
unsettled_words unit = in_brackets (codes " INDOUBT") (codes "YES") ++ in_brackets (codes " CURLUWID") (unit_text unit)

abbrev pub known_words : InDoubt → List ℕ
known_words d = unsettled_words d.unit ++ in_brackets (codes " CURSEQNO") (decimal d.last)

abbrev pub none_words : ℕ → List ℕ
none_words last = in_brackets (codes " INDOUBT") (codes "NO") ++ in_brackets (codes " CURLUWID") (unit_text no_unit) ++ in_brackets (codes " CURSEQNO") (decimal last)

-- a sender's
abbrev pub sender_line : SenderEnd → Option SenderData → List ℕ
sender_line e kept = in_brackets (codes "CHSTATUS") e.channel ++ in_brackets (codes " STATUS") (sender_word e.machine.state) ++ sender_words (sender_or kept)

-- a receiver's
abbrev pub receiver_line : ReceiverEnd → Option ReceiverData → List ℕ
receiver_line e kept = in_brackets (codes "CHSTATUS") e.channel ++ in_brackets (codes " STATUS") (receiver_word e.machine.state) ++ receiver_words (receiver_or kept)
