use Rattle.std.proofs.Common.{◌≡◌, ◌++◌, length}
use Rattle.mq_scn_lines.specs.Words.{texts_of, words_from}
use Rattle.mq_scn_lines.proofs.words.words_of.Given as goal

abbrev pub invariant-reading : goal.invariant-reading
invariant-reading l = words_from 0 l.line ≡ texts_of l.words ++ words_from 0 l.rest

abbrev pub decreases-reading : goal.decreases-reading
decreases-reading l = length l.rest
