use Rattle.std.proofs.Common.{◌≡◌, drop}
use Rattle.mq_sc_parse.specs.Asking.{asked_of}
use Rattle.mq_sc_parse.proofs.AskLaws.{behind}
use Rattle.mq_sc_parse.proofs.asking.asked_of.Given as goal

abbrev pub invariant-loop-item : goal.invariant-loop-item
invariant-loop-item l = behind l.keywords (asked_of l.verb l.kind (drop l.item-index l.items)) ≡ asked_of l.verb l.kind l.items
