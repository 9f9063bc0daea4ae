-- The pieces of a text: words, texts in quotes and the signs that part them.
use Rattle.std.specs.Prelude.{◌≡◌, ℕ, zero, suc, ◌+◌, ◌-◌, ◌<◌, ◌≤◌, ◌==◌, ◌||◌, Bool, List, [], ◌∷◌, if◌then◌else◌, Option, Some, None, Result, Ok, Err}
use Rattle.std.specs.List.{position_or_len}
use Rattle.mq_text.specs.declared.piece.PieceKind.TheVariants as kinds
use Rattle.mq_text.specs.declared.piece.Piece.{Piece}
use Rattle.mq_text.specs.declared.piece.Front.{Front}
use Rattle.mq_text.specs.declared.piece.Front.TheVariants as fronts
use Rattle.mq_text.specs.declared.piece.PieceFault.{PieceFault}
use Rattle.mq_text.specs.declared.piece.PieceFault.TheVariants as faults
use Rattle.mq_text.specs.Quoting.{quoted_len}

-- a blank, a quote, a bracket, a comma or a semicolon ends a word
abbrev pub is_break : ℕ → Bool
is_break b = b == 32 || b == 39 || b == 40 || b == 41 || b == 44 || b == 59

abbrev pub closed : Option ℕ → Front
closed None = fronts.Unclosed
closed (Some len) = fronts.Piece kinds.Quoted (1 + len)

-- what stands at the front of some bytes, and how long it is
abbrev pub front_of : List ℕ → Front
front_of [] = fronts.Gap
front_of (b ∷ bs) =
    if b == 32 then fronts.Gap
    else if b == 40 then fronts.Piece kinds.Open 1
    else if b == 41 then fronts.Piece kinds.Close 1
    else if b == 44 then fronts.Piece kinds.Comma 1
    else if b == 59 then fronts.Piece kinds.Semicolon 1
    else if b == 39 then closed (quoted_len bs)
    else fronts.Piece kinds.Word (1 + position_or_len is_break bs)

-- a piece at the front has a byte or more, and no more than there are
abbrev pub FrontFits : Front → ℕ → Type 0
FrontFits fronts.Gap len = Unit {0}
FrontFits (fronts.Piece kind n) len = (0 < n) × (n ≤ len)
FrontFits fronts.Unclosed len = Unit {0}

abbrev pub onto_pieces : Piece → Result (List Piece) ℕ → Result (List Piece) ℕ
onto_pieces p (Ok ps) = Ok (p ∷ ps)
onto_pieces p (Err at) = Err at

-- a piece that begins at a place, before the pieces of what follows; or the place of a quote that nothing closes
abbrev pub put_front : ℕ → Front → (ℕ → Result (List Piece) ℕ) → Result (List Piece) ℕ
put_front place fronts.Gap rest = rest 0
put_front place (fronts.Piece kind len) rest = onto_pieces (record { kind = kind; start = place; end = place + len }) (rest (len - 1))
put_front place fronts.Unclosed rest = Err place

-- the pieces of the bytes from a place on, of which the first few belong to the piece before
abbrev pub pieces_from : List ℕ → ℕ → ℕ → Result (List Piece) ℕ
pieces_from [] place inside = Ok []
pieces_from (b ∷ bs) place zero = put_front place (front_of (b ∷ bs)) (pieces_from bs (place + 1))
pieces_from (b ∷ bs) place (suc inside) = pieces_from bs (place + 1) inside

unfoldable pub pieces_of : List ℕ → Result (List Piece) ℕ
pieces_of text = pieces_from text 0 0

-- what a reader answers is what reading gives, unless memory ran out
abbrev pub Fails : PieceFault → Result (List Piece) ℕ → Type 0
Fails (faults.OpenQuote at) read = read ≡ Err at
Fails faults.NoMemory read = Unit {0}

abbrev pub Gives : Result (List Piece) PieceFault → Result (List Piece) ℕ → Type 0
Gives (Ok pieces) read = read ≡ Ok pieces
Gives (Err fault) read = Fails fault read

-- the pieces are slices of the text, one behind the other
abbrev pub AreSlices : ℕ → List Piece → ℕ → Type 0
AreSlices from [] len = from ≤ len
AreSlices from (p ∷ ps) len = (from ≤ p.start) × (p.start < p.end) × AreSlices p.end ps len
