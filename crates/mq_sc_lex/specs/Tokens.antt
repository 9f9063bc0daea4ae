-- The tokens of a line, and the commands that they make.
use Rattle.std.specs.Prelude.{◌≡◌, ℕ, ◌-◌, List, [], ◌∷◌, ◌++◌, take, drop, map, slice_get, Option, Some, None, Result, Ok, Err}
use Rattle.std.specs.List.{onto_first}
use Rattle.std.specs.Str.{str_to_ascii_uppercase}
use Rattle.mq_text.specs.Quoting.{unquoted}
use Rattle.mq_text.specs.Pieces.{pieces_of}
use Rattle.mq_text.specs.declared.piece.PieceKind.{PieceKind}
use Rattle.mq_text.specs.declared.piece.PieceKind.TheVariants as kinds
use Rattle.mq_text.specs.declared.piece.Piece.{Piece}
use Rattle.mq_sc_lex.specs.declared.joining.Mark.{Mark}
use Rattle.mq_sc_lex.specs.declared.token.Span.{Span}
use Rattle.mq_sc_lex.specs.declared.token.Token.{Token}
use Rattle.mq_sc_lex.specs.declared.token.TokenKind.TheVariants as tokens
use Rattle.mq_sc_lex.specs.declared.token.Line.{Line}
use Rattle.mq_sc_lex.specs.declared.tokens.Meaning.{Meaning}
use Rattle.mq_sc_lex.specs.declared.tokens.Meaning.TheVariants as meanings
use Rattle.mq_sc_lex.specs.declared.tokens.Commanding.{Commanding}
use Rattle.mq_sc_lex.specs.declared.fault.LexFault.{LexFault}
use Rattle.mq_sc_lex.specs.declared.fault.LexFault.TheVariants as faults

abbrev pub bytes_of : List Mark → List ℕ
bytes_of marks = map (λ (m : Mark). m.byte) marks

-- the bytes of a piece
abbrev pub slice_of : List ℕ → Piece → List ℕ
slice_of bytes p = drop p.start (take p.end bytes)

-- from the first byte up to the last, on the line of the first
abbrev pub span_between : Option Mark → Option Mark → Span
span_between (Some first) (Some last) = record { line = first.line; start = first.start; end = last.end }
span_between (Some first) None = record { line = first.line; start = first.start; end = first.end }
span_between None last = record { line = 0; start = 0; end = 0 }

abbrev pub span_of : List Mark → Piece → Span
span_of marks p = span_between (slice_get marks p.start) (slice_get marks (p.end - 1))

-- what a piece is: words are folded to upper case, and what stands in quotes keeps its case; a comma parts words, and
-- a semicolon ends a command
abbrev pub meaning_of : PieceKind → List ℕ → Meaning
meaning_of kinds.Word text = meanings.Token (tokens.Word (str_to_ascii_uppercase text))
meaning_of kinds.Quoted text = meanings.Token (tokens.Quoted (unquoted text))
meaning_of kinds.Open text = meanings.Token tokens.Open
meaning_of kinds.Close text = meanings.Token tokens.Close
meaning_of kinds.Comma text = meanings.Gap
meaning_of kinds.Semicolon text = meanings.End

-- a piece before the commands of what follows
abbrev pub put_meaning : Meaning → Span → List (List Token) → List (List Token)
put_meaning (meanings.Token kind) span commands = onto_first (record { span = span; kind = kind }) commands
put_meaning meanings.Gap span commands = commands
put_meaning meanings.End span commands = [] ∷ commands

abbrev pub commands_in : List Mark → List Piece → List (List Token)
commands_in marks [] = [] ∷ []
commands_in marks (p ∷ ps) = put_meaning (meaning_of p.kind (slice_of (bytes_of marks) p)) (span_of marks p) (commands_in marks ps)

-- the commands that have tokens, each with the number of its first line
abbrev pub numbered : List (List Token) → List Line
numbered [] = []
numbered ([] ∷ commands) = numbered commands
numbered ((t ∷ ts) ∷ commands) = record { number = t.span.line; tokens = t ∷ ts } ∷ numbered commands

abbrev pub line_at : Option Mark → ℕ
line_at None = 0
line_at (Some m) = m.line

-- the pieces of a line, or the line of the quote that it leaves open
abbrev pub GivesPieces : List Mark → Result (List Piece) LexFault → Result (List Piece) ℕ → Type 0
GivesPieces marks (Ok ps) read = read ≡ Ok ps
GivesPieces marks (Err (faults.OpenQuote line)) read = (at : ℕ) × (read ≡ Err at) × (line ≡ line_at (slice_get marks at))
GivesPieces marks (Err faults.OpenContinuation) read = ⊥
GivesPieces marks (Err faults.NoMemory) read = Unit {0}

abbrev pub commands_of_pieces : List Mark → Result (List Piece) ℕ → Result (List Line) LexFault
commands_of_pieces marks (Ok ps) = Ok (numbered (commands_in marks ps))
commands_of_pieces marks (Err at) = Err (faults.OpenQuote (line_at (slice_get marks at)))

-- the commands of a line, or the quote that it leaves open
unfoldable pub commands_of_marks : List Mark → Result (List Line) LexFault
commands_of_marks marks = commands_of_pieces marks (pieces_of (bytes_of marks))

-- The commands one by one: those that are whole, and the tokens of the next.
abbrev pub meaning_added : Meaning → Span → Commanding → Commanding
meaning_added (meanings.Token kind) span s = record s { current = s.current ++ (record { span = span; kind = kind }) ∷ [] }
meaning_added meanings.Gap span s = s
meaning_added meanings.End span s = record { lines = s.lines ++ numbered (s.current ∷ []); current = [] }
