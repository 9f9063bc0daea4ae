-- The dead letter that a handler takes next, with what is to be done with it.
use Rattle.std.specs.Prelude.{ℕ, ◌&&◌, Bool, true, false, List, Option, Some, None, codes}
use Rattle.std.specs.Str.{bytes_eq}
use Rattle.mq_spec_node.specs.Terms.{Message, Plain, Row, is_dead, is_up, local_of}
use Rattle.mq_spec_node.specs.Words.{Handler, input_queue, is_readable, is_due, tries_of, next_letter, failed_of}
use Rattle.mq_handle.specs.declared.finding.DueLetter.{DueLetter}
use Rattle.mq_handle.specs.Rulings.{ruling}

-- a free row's message is a dead letter that is due
abbrev pub is_dead_letter : Message → Bool
is_dead_letter m = bytes_eq m.md.format (codes "MQDEAD  ") && is_dead m.body

abbrev pub takes : List ℕ → Handler → ℕ → Message → Bool
takes queue h moment m = is_dead_letter m && is_due moment (tries_of queue m.ident h)

abbrev pub letter_of : List ℕ → Handler → Message → DueLetter
letter_of q h m = record {
  queue = q;
  ident = m.ident;
  failed = failed_of (tries_of q m.ident h);
  ruling = ruling h.table m (tries_of q m.ident h);
}

-- the first row that is handled
abbrev pub letter_at : List ℕ → Handler → Option Row → Option DueLetter
letter_at q h None = None
letter_at q h (Some row) = Some (letter_of q h row.message)

-- where the queue may be read
abbrev pub letter_on : Bool → List ℕ → Handler → Plain → Option DueLetter
letter_on false q h p = None
letter_on true q h p = letter_at q h (next_letter q h p)

-- and the manager is up
abbrev pub letter_up : Bool → Handler → Plain → Option DueLetter
letter_up false h p = None
letter_up true h p = letter_on (is_readable (local_of (input_queue h.table p) p.definitions)) (input_queue h.table p) h p

abbrev pub letter_by : Handler → Plain → Option DueLetter
letter_by h p = letter_up (is_up p.running) h p
