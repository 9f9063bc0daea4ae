-- The commands of a text.
use Rattle.std.specs.Prelude.{◌≡◌, ℕ, Bool, List, [], ◌∷◌, ◌++◌, if◌then◌else◌, Result, Ok, Err}
use Rattle.mq_sc_lex.specs.declared.joining.Mark.{Mark}
use Rattle.mq_sc_lex.specs.declared.token.Line.{Line}
use Rattle.mq_sc_lex.specs.declared.fault.LexFault.{LexFault}
use Rattle.mq_sc_lex.specs.declared.fault.LexFault.TheVariants.{OpenQuote, OpenContinuation, NoMemory}
use Rattle.mq_sc_lex.specs.Joining.{joined_of}
use Rattle.mq_sc_lex.specs.Tokens.{commands_of_marks}

-- lines before those that are read
abbrev pub behind_lines : List Line → Result (List Line) LexFault → Result (List Line) LexFault
behind_lines front (Ok lines) = Ok (front ++ lines)
behind_lines front (Err fault) = Err fault

abbrev pub then_lines : Result (List Line) LexFault → Result (List Line) LexFault → Result (List Line) LexFault
then_lines (Ok first) rest = behind_lines first rest
then_lines (Err fault) rest = Err fault

-- the commands of all lines, or the first fault
abbrev pub commands_of_lines : List (List Mark) → Result (List Line) LexFault
commands_of_lines [] = Ok []
commands_of_lines (marks ∷ rest) = then_lines (commands_of_marks marks) (commands_of_lines rest)

-- the last line is not to go on
abbrev pub unless_open : Bool → Result (List Line) LexFault → Result (List Line) LexFault
unless_open b (Ok lines) = if b then Err OpenContinuation else Ok lines
unless_open b (Err fault) = Err fault

-- the commands of a text: its physical lines without comments are joined, each joined line is cut into pieces,
-- and its pieces make commands; or the first quote that its command leaves open; or a last line that goes on
unfoldable pub commands_of : List ℕ → Result (List Line) LexFault
commands_of text = unless_open (joined_of text).unfinished (commands_of_lines (joined_of text).lines)

-- what a reader answers is what reading gives, unless memory ran out
abbrev pub Fails : LexFault → Result (List Line) LexFault → Type 0
Fails (OpenQuote line) read = read ≡ Err (OpenQuote line)
Fails OpenContinuation read = read ≡ Err OpenContinuation
Fails NoMemory read = Unit {0}

abbrev pub Gives : Result (List Line) LexFault → Result (List Line) LexFault → Type 0
Gives (Ok lines) read = read ≡ Ok lines
Gives (Err fault) read = Fails fault read

-- what is read was added to the lines
abbrev pub Adds : List Line → List Line → Result (Unit {0}) LexFault → Result (List Line) LexFault → Type 0
Adds old new (Ok done) read = behind_lines old read ≡ Ok new
Adds old new (Err fault) read = Fails fault read
