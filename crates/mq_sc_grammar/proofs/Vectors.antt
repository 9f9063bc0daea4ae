-- Worked rows: texts of one command, and the command that each is, or why it is none; texts that are none of commands.
use Rattle.std.proofs.Common.{◌≡◌, ℕ, false, List, [], ◌∷◌, refl}
use Rattle.std.specs.Prelude.{Option, Some, None, Result, Ok, Err, codes}
use Rattle.mq_text.specs.Numbers.{number_in}
use Rattle.mq_text.specs.Pieces.{pieces_of}
use Rattle.mq_objects.specs.declared.setting.Setting.TheVariants as settings
use Rattle.mq_objects.specs.declared.setting.Keyword.TheVariants as keywords
use Rattle.mq_objects.specs.declared.command.Subject.TheVariants as subjects
use Rattle.mq_objects.specs.declared.command.Subjects.TheVariants as shown
use Rattle.mq_objects.specs.declared.command.Command.TheVariants as objects
use Rattle.mq_sc_lex.specs.declared.token.Line.{Line}
use Rattle.mq_sc_lex.specs.declared.fault.LexFault.{LexFault}
use Rattle.mq_sc_lex.specs.declared.fault.LexFault.TheVariants as texts
use Rattle.mq_sc_lex.specs.Joining.{joined_of}
use Rattle.mq_sc_lex.specs.Tokens.{commands_of_marks}
use Rattle.mq_sc_lex.specs.Commands.{commands_of}
use Rattle.mq_sc_keys.specs.Keys.{key_in}
use Rattle.mq_sc_keys.specs.Attributes.{key_of}
use Rattle.mq_sc_keys.specs.Verbs.{verb_of, object_of}
use Rattle.mq_sc_parse.specs.declared.command.Op.TheVariants as ops
use Rattle.mq_sc_parse.specs.declared.command.Command.{Command}
use Rattle.mq_sc_parse.specs.declared.command.Command.TheVariants as commands
use Rattle.mq_sc_parse.specs.declared.fault.ScFault.{ScFault}
use Rattle.mq_sc_parse.specs.declared.fault.ScFault.TheVariants as faults
use Rattle.mq_sc_parse.specs.Splitting.{items_of}
use Rattle.mq_sc_parse.specs.Checks.{first_unknown, first_repeated, channel_kind}
use Rattle.mq_sc_parse.specs.Parsing.{named_at, fault_of, define_of, alter_object_of, delete_of, show_objects, show_named, reset_of, resolve_of, checked_command, parse_of}
use Rattle.mq_sc_grammar.specs.Texts.{IsCommands}
use Rattle.mq_sc_grammar.specs.Spelling.{kinds_of}
use Rattle.mq_sc_grammar.specs.Commands.{IsCommand}
use Rattle.mq_sc_grammar.specs.Faults.{IsFault}
use Rattle.mq_sc_grammar.specs.TextFaults.{IsTextFault}
use Rattle.mq_sc_grammar.proofs.Whole.{text_found, text_fault_found}
use Rattle.mq_sc_grammar.proofs.Readings.{command_found}
use Rattle.mq_sc_grammar.proofs.Faulted.{fault_found}

-- the text is one command, this one
record Is (text : List ℕ) (c : Command) : Type 0 where
  pub line : Line
  pub written : IsCommands text (line ∷ [])
  pub means : IsCommand (kinds_of line.tokens) c

-- the text is one line, which is no command for this cause
record Isnt (text : List ℕ) (fault : ScFault) : Type 0 where
  pub line : Line
  pub written : IsCommands text (line ∷ [])
  pub told : IsFault line fault

-- the text is none of commands for this cause
record HasNone (text : List ℕ) (fault : LexFault) : Type 0 where
  pub told : IsTextFault text fault

abbrev of_lines : Result (List Line) LexFault → Option (Result Command ScFault)
of_lines (Ok (line ∷ [])) = Some (parse_of line)
of_lines _ = None

abbrev answer : List ℕ → Option (Result Command ScFault)
answer text = of_lines (commands_of text)

is_by : (text : List ℕ) (c : Command) (r : Result (List Line) LexFault) → commands_of text ≡ r → of_lines r ≡ Some (Ok c) → Is text c
is_by text c (Ok []) e h = absurd cc
is_by text c (Ok (line ∷ [])) e h = let f : parse_of line ≡ Ok c = cc in record { line = line; written = text_found text (line ∷ []) e; means = command_found line c f }
is_by text c (Ok (line ∷ other ∷ lines)) e h = absurd cc
is_by text c (Err fault) e h = absurd cc

is : (text : List ℕ) (c : Command) → answer text ≡ Some (Ok c) → Is text c
is text c h = is_by text c (commands_of text) refl h

isnt_by : (text : List ℕ) (fault : ScFault) (r : Result (List Line) LexFault) → commands_of text ≡ r → of_lines r ≡ Some (Err fault) → Isnt text fault
isnt_by text fault (Ok []) e h = absurd cc
isnt_by text fault (Ok (line ∷ [])) e h = let f : parse_of line ≡ Err fault = cc in record { line = line; written = text_found text (line ∷ []) e; told = fault_found line fault f }
isnt_by text fault (Ok (line ∷ other ∷ lines)) e h = absurd cc
isnt_by text fault (Err other) e h = absurd cc

isnt : (text : List ℕ) (fault : ScFault) → answer text ≡ Some (Err fault) → Isnt text fault
isnt text fault h = isnt_by text fault (commands_of text) refl h

none : (text : List ℕ) (fault : LexFault) → commands_of text ≡ Err fault → HasNone text fault
none text fault e = record { told = text_fault_found text fault e }

-- ---- commands

defined : Is (codes "def ql(q1) descr('It''s') maxdepth(10)")
    (commands.Objects (objects.Define (record { subject = subjects.Local (codes "Q1"); replace = false; settings = settings.Kept (codes "DESCR") (codes "It's") ∷ settings.MaxDepth 10 ∷ [] })))
unfolding commands_of joined_of commands_of_marks pieces_of parse_of verb_of object_of named_at items_of checked_command fault_of first_unknown first_repeated key_of key_in define_of number_in
defined = is _ _ refl

altered : Is (codes "alter qlocal(Q1) +\n  put(disabled)") (commands.Objects (objects.Alter (record { subject = subjects.Local (codes "Q1"); force = false; settings = settings.PutEnabled false ∷ [] })))
unfolding commands_of joined_of commands_of_marks pieces_of parse_of verb_of object_of named_at items_of checked_command fault_of first_unknown first_repeated key_of key_in alter_object_of
altered = is _ _ refl

displayed : Is (codes "dis ql(Q1) put maxdepth") (commands.Objects (objects.Display (record { subjects = shown.Locals; name = codes "Q1"; any_end = false; asked = keywords.Put ∷ keywords.MaxDepth ∷ [] })))
unfolding commands_of joined_of commands_of_marks pieces_of parse_of verb_of object_of named_at items_of checked_command fault_of first_unknown first_repeated key_of key_in show_named show_objects
displayed = is _ _ refl

deleted : Is (codes "delete qalias(q1)") (commands.Objects (objects.Delete (record { subject = subjects.Alias (codes "Q1") })))
unfolding commands_of joined_of commands_of_marks pieces_of parse_of verb_of object_of named_at items_of checked_command fault_of first_unknown first_repeated delete_of
deleted = is _ _ refl

-- SEQNUM is 1 where it is not given
reset : Is (codes "RESET CHANNEL(C)") (commands.Operate (ops.Reset (codes "C") 1))
unfolding commands_of joined_of commands_of_marks pieces_of parse_of verb_of object_of named_at items_of checked_command fault_of first_unknown first_repeated channel_kind reset_of
reset = is _ _ refl

-- ---- faults

no_verb_here : Isnt (codes "MAKE QLOCAL(A)") (faults.UnknownVerb (record { line = 1; start = 0; end = 4 }))
unfolding commands_of joined_of commands_of_marks pieces_of parse_of verb_of
no_verb_here = isnt _ _ refl

not_defined : Isnt (codes "DEFINE QMGR") (faults.UnknownObject (record { line = 1; start = 7; end = 11 }))
unfolding commands_of joined_of commands_of_marks pieces_of parse_of verb_of object_of
not_defined = isnt _ _ refl

no_name : Isnt (codes "DEFINE QLOCAL") (faults.MissingName (record { line = 1; start = 7; end = 13 }))
unfolding commands_of joined_of commands_of_marks pieces_of parse_of verb_of object_of named_at
no_name = isnt _ _ refl

force_of_define : Isnt (codes "DEFINE QLOCAL(A) FORCE") (faults.UnknownKeyword (record { line = 1; start = 17; end = 22 }))
unfolding commands_of joined_of commands_of_marks pieces_of parse_of verb_of object_of named_at items_of checked_command fault_of first_unknown first_repeated key_of key_in
force_of_define = isnt _ _ refl

of_a_receiver : Isnt (codes "DEFINE CHANNEL(C) CHLTYPE(SDR) USEDLQ(NO)") (faults.UnknownKeyword (record { line = 1; start = 31; end = 37 }))
unfolding commands_of joined_of commands_of_marks pieces_of parse_of verb_of object_of named_at items_of checked_command fault_of first_unknown first_repeated channel_kind key_of key_in
of_a_receiver = isnt _ _ refl

twice : Isnt (codes "DEFINE QLOCAL(A) MAXDEPTH(1) MAXDEPTH(2)") (faults.Repeated (record { line = 1; start = 29; end = 37 }))
unfolding commands_of joined_of commands_of_marks pieces_of parse_of verb_of object_of named_at items_of checked_command fault_of first_unknown first_repeated key_of key_in
twice = isnt _ _ refl

too_high : Isnt (codes "DEFINE QLOCAL(A) DEFPRTY(10)") (faults.BadValue (record { line = 1; start = 17; end = 24 }))
unfolding commands_of joined_of commands_of_marks pieces_of parse_of verb_of object_of named_at items_of checked_command fault_of first_unknown first_repeated key_of key_in define_of number_in
too_high = isnt _ _ refl

-- ACTION is missing, which is told at the last token
no_action : Isnt (codes "RESOLVE CHANNEL(C)") (faults.BadValue (record { line = 1; start = 17; end = 18 }))
unfolding commands_of joined_of commands_of_marks pieces_of parse_of verb_of object_of named_at items_of checked_command fault_of first_unknown first_repeated channel_kind resolve_of
no_action = isnt _ _ refl

-- ---- texts that are none of commands

-- a quote on the second physical line of a joined one
on_the_second : HasNone (codes "DEFINE QLOCAL(A) +\n  DESCR('one)\n") (texts.OpenQuote 2)
unfolding commands_of joined_of commands_of_marks pieces_of
on_the_second = none _ _ refl

-- a quote that its line's end and the next line leave open, behind a whole command; a semicolon behind it ends nothing
on_the_first : HasNone (codes "STOP CHANNEL(C)\nDEFINE QLOCAL(A) DESCR('it''s -\n one); DELETE QLOCAL(B)") (texts.OpenQuote 2)
unfolding commands_of joined_of commands_of_marks pieces_of
on_the_first = none _ _ refl

-- only a comment stands behind a line that goes on
goes_on : HasNone (codes "DEFINE QLOCAL(A) +\n* and no more\n") texts.OpenContinuation
unfolding commands_of joined_of commands_of_marks pieces_of
goes_on = none _ _ refl

-- both at once: the quote is told
both : HasNone (codes "DELETE QLOCAL('A) +") (texts.OpenQuote 1)
unfolding commands_of joined_of commands_of_marks pieces_of
both = none _ _ refl
