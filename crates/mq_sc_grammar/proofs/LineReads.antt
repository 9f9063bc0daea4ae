-- Lines by their parts, and what the reader makes of them; where one leaves a quote open, and where the reader stops.
use Rattle.std.proofs.Common.{◌≡◌, ℕ, zero, suc, ◌+◌, ◌-◌, ◌<◌, ◌≤◌, List, [], ◌∷◌, ◌++◌, length, take, drop, Result, Ok, Err, refl, sym, ap, subst, ◌∙◌, append_assoc, arith, inl, inr, slice_get}
use Rattle.std.specs.List.{drop-map}
use Rattle.std.specs.Prelude.{◌⊎◌, Option, Some, None}
use Rattle.std.proofs.lemmas.List.{take-append-drop, take-map, map-append, length-map, length-append, length-drop}
use Rattle.mq_text.specs.declared.piece.PieceKind.{PieceKind}
use Rattle.mq_text.specs.declared.piece.Piece.{Piece}
use Rattle.mq_text.specs.declared.piece.Front.{Front}
use Rattle.mq_text.specs.declared.piece.Front.TheVariants as fronts
use Rattle.mq_text.specs.Pieces.{front_of, closed, put_front, onto_pieces, pieces_from, pieces_of}
use Rattle.mq_text.specs.Quoting.{doubled, quoted_len}
use Rattle.mq_text.proofs.PieceLaws.{passed}
use Rattle.mq_sc_lex.specs.declared.joining.Mark.{Mark}
use Rattle.mq_sc_lex.specs.declared.token.Span.{Span}
use Rattle.mq_sc_lex.specs.declared.token.Token.{Token}
use Rattle.mq_sc_lex.specs.declared.token.Line.{Line}
use Rattle.mq_sc_lex.specs.declared.fault.LexFault.{LexFault}
use Rattle.mq_sc_lex.specs.declared.fault.LexFault.TheVariants.{OpenQuote}
use Rattle.mq_sc_lex.specs.declared.tokens.Meaning.{Meaning}
use Rattle.mq_sc_lex.specs.declared.tokens.Meaning.TheVariants as meanings
use Rattle.mq_sc_lex.specs.Tokens.{bytes_of, span_between, span_of, meaning_of, put_meaning, commands_in, commands_of_pieces, commands_of_marks, numbered, line_at}
use Rattle.mq_sc_lex.specs.Commands.{behind_lines, then_lines, commands_of_lines}
use Rattle.mq_sc_grammar.specs.Written.{IsText, EndsAt, Part, BeginsWith, IsLine, span_of_marks, commands_of_parts, AreOfLine, AreOfLines}
use Rattle.mq_sc_grammar.specs.TextFaults.{IsUnclosed, LeavesOpen}
use Rattle.mq_sc_grammar.proofs.Fronts.{quoted_ends, quoted_front}
use Rattle.mq_sc_grammar.proofs.Lines.{blank, sign, quote, word, fronted, FrontText, front_text, Opens, gap, piece, opens}

-- ---- a part at its place in a line

get_behind : (before marks : List Mark) (i : ℕ) → slice_get (before ++ marks) (length before + i) ≡ slice_get marks i
get_behind [] marks i = ap (slice_get marks) (omega arith)
get_behind (m ∷ before) marks i =
    let k : length (m ∷ before) + i ≡ suc (length before + i) = omega arith in
    ap (slice_get (m ∷ (before ++ marks))) k ∙ get_behind before marks i

get_front : (front rest : List Mark) (i : ℕ) → i < length front → slice_get (front ++ rest) i ≡ slice_get front i
get_front [] rest i lt = absurd (omega arith)
get_front (m ∷ front) rest zero lt = refl
get_front (m ∷ front) rest (suc i) lt = get_front front rest i (omega arith)

bytes_front : (front rest : List Mark) → take (length front) (bytes_of (front ++ rest)) ≡ bytes_of front
bytes_front [] rest = refl
bytes_front (m ∷ front) rest = ap (λ (l : List ℕ). m.byte ∷ l) (bytes_front front rest)

bytes_rest : (front rest : List Mark) → drop (length front) (bytes_of (front ++ rest)) ≡ bytes_of rest
bytes_rest [] rest = refl
bytes_rest (m ∷ front) rest = bytes_rest front rest

slice_at : (before front rest : List Mark) → drop (length before) (take (length before + length front) (bytes_of (before ++ (front ++ rest)))) ≡ bytes_of front
slice_at [] front rest = ap (λ (k : ℕ). take k (bytes_of (front ++ rest))) (omega arith) ∙ bytes_front front rest
slice_at (m ∷ before) front rest =
    let k : length (m ∷ before) + length front ≡ suc (length before + length front) = omega arith in
    ap (λ (n : ℕ). drop (length (m ∷ before)) (take n (bytes_of ((m ∷ before) ++ (front ++ rest))))) k ∙ slice_at before front rest

span_at : (kind : PieceKind) (before front rest : List Mark) → 0 < length front → span_of (before ++ (front ++ rest)) (record { kind = kind; start = length before; end = length before + length front }) ≡ span_of_marks front
span_at kind before front rest some =
    let zero_at : length before ≡ length before + 0 = omega arith in
    let last_at : (length before + length front) - 1 ≡ length before + (length front - 1) = omega arith in
    let first : slice_get (before ++ (front ++ rest)) (length before) ≡ slice_get front 0 =
    ap (slice_get (before ++ (front ++ rest))) zero_at ∙ get_behind before (front ++ rest) 0 ∙ get_front front rest 0 some in
    let last : slice_get (before ++ (front ++ rest)) ((length before + length front) - 1) ≡ slice_get front (length front - 1) =
    ap (slice_get (before ++ (front ++ rest))) last_at ∙ get_behind before (front ++ rest) (length front - 1) ∙ get_front front rest (length front - 1) (omega arith) in
    ap (λ (o : Option Mark). span_between o (slice_get (before ++ (front ++ rest)) ((length before + length front) - 1))) first ∙ ap (span_between (slice_get front 0)) last

-- ---- what is written is read

-- a piece at the front, and then what is behind it
piece_step : (before front rest : List Mark) (kind : PieceKind) → 0 < length front → front_of (bytes_of (front ++ rest)) ≡ fronts.Piece kind (length front)
    → pieces_from (bytes_of (front ++ rest)) (length before) 0 ≡ onto_pieces (record { kind = kind; start = length before; end = length before + length front }) (pieces_from (bytes_of rest) (length (before ++ front)) 0)
piece_step before [] rest kind some e = absurd (omega arith)
piece_step before (m ∷ ms) rest kind some e =
    let front : List Mark = m ∷ ms in
    let p : Piece = record { kind = kind; start = length before; end = length before + length front } in
    let k : length front - 1 ≡ length ms = omega arith in
    let within : length ms ≤ length (bytes_of (ms ++ rest)) = omega (arith, length-map (ms ++ rest) (λ (x : Mark). x.byte), length-append ms rest) in
    let place : (length before + 1) + length ms ≡ length (before ++ front) = omega (arith, length-append before front) in
    let next : pieces_from (bytes_of (ms ++ rest)) (length before + 1) (length front - 1) ≡ pieces_from (bytes_of rest) (length (before ++ front)) 0 =
    ap (pieces_from (bytes_of (ms ++ rest)) (length before + 1)) k ∙ passed (bytes_of (ms ++ rest)) (length before + 1) (length ms) within
    ∙ ap (λ (l : List ℕ). pieces_from l ((length before + 1) + length ms) 0) (bytes_rest ms rest) ∙ ap (λ (n : ℕ). pieces_from (bytes_of rest) n 0) place in
    ap (λ (f : Front). put_front (length before) f (pieces_from (bytes_of (ms ++ rest)) (length before + 1))) e ∙ ap (onto_pieces p) next

one_byte : (marks : List Mark) (c : ℕ) → bytes_of marks ≡ c ∷ [] → (m : Mark) × (marks ≡ m ∷ []) × (m.byte ≡ c)
one_byte [] c e = absurd cc
one_byte (m ∷ []) c e = (m, refl, cc)
one_byte (m ∷ n ∷ ms) c e = absurd (let n : length (bytes_of (m ∷ n ∷ ms)) ≡ 1 = ap length e in omega (arith, n))

gap_step : (before front rest : List Mark) → bytes_of front ≡ 32 ∷ [] → pieces_from (bytes_of (front ++ rest)) (length before) 0 ≡ pieces_from (bytes_of rest) (length (before ++ front)) 0
gap_step before front rest e =
    let one = one_byte front 32 e in
    let place : length before + 1 ≡ length (before ++ front) = omega (arith, length-append before front, ap length one.1) in
    let bytes : bytes_of (front ++ rest) ≡ 32 ∷ bytes_of rest = ap (λ (l : List Mark). bytes_of (l ++ rest)) one.1 ∙ ap (λ (c : ℕ). c ∷ bytes_of rest) one.2 in
    ap (λ (l : List ℕ). pieces_from l (length before) 0) bytes ∙ ap (λ (n : ℕ). pieces_from (bytes_of rest) n 0) place

-- the pieces of a rest of a line, and what they make
record Read (before rest : List Mark) (commands : List (List Token)) : Type 0 where
  pub pieces : List Piece
  pub read : pieces_from (bytes_of rest) (length before) 0 ≡ Ok pieces
  pub makes : commands_in (before ++ rest) pieces ≡ commands

read_piece : (before front rest : List Mark) (kind : PieceKind) (commands : List (List Token)) → 0 < length front → front_of (bytes_of (front ++ rest)) ≡ fronts.Piece kind (length front)
    → Read (before ++ front) rest commands → Read before (front ++ rest) (put_meaning (meaning_of kind (bytes_of front)) (span_of_marks front) commands)
read_piece before front rest kind commands some e r =
    let p : Piece = record { kind = kind; start = length before; end = length before + length front } in
    let whole : before ++ (front ++ rest) ≡ (before ++ front) ++ rest = sym (append_assoc before front rest) in
    record {
      pieces = p ∷ r.pieces;
      read = piece_step before front rest kind some e ∙ ap (onto_pieces p) r.read;
      makes = ap (λ (l : List ℕ). put_meaning (meaning_of kind l) (span_of (before ++ (front ++ rest)) p) (commands_in (before ++ (front ++ rest)) r.pieces)) (slice_at before front rest)
          ∙ ap (λ (s : Span). put_meaning (meaning_of kind (bytes_of front)) s (commands_in (before ++ (front ++ rest)) r.pieces)) (span_at kind before front rest some)
          ∙ ap (λ (marks : List Mark). put_meaning (meaning_of kind (bytes_of front)) (span_of_marks front) (commands_in marks r.pieces)) whole
          ∙ ap (put_meaning (meaning_of kind (bytes_of front)) (span_of_marks front)) r.makes;
    }

read_gap : (before front rest : List Mark) (commands : List (List Token)) → bytes_of front ≡ 32 ∷ [] → Read (before ++ front) rest commands → Read before (front ++ rest) commands
read_gap before front rest commands e r =
    record {
      pieces = r.pieces;
      read = gap_step before front rest e ∙ r.read;
      makes = ap (λ (l : List Mark). commands_in l r.pieces) (sym (append_assoc before front rest)) ∙ r.makes;
    }

-- a piece of some bytes is one of their marks
piece_front : (front rest : List Mark) (kind : PieceKind) → front_of (bytes_of front ++ bytes_of rest) ≡ fronts.Piece kind (length (bytes_of front)) → 0 < length (bytes_of front)
    → (front_of (bytes_of (front ++ rest)) ≡ fronts.Piece kind (length front)) × (0 < length front)
piece_front front rest kind f some =
    let long : length (bytes_of front) ≡ length front = length-map front (λ (x : Mark). x.byte) in
    (ap front_of (map-append (λ (x : Mark). x.byte) front rest) ∙ f ∙ ap (λ (k : ℕ). fronts.Piece kind k) long, omega (arith, some, long))

read_part : (p : Part) (before rest : List Mark) (commands : List (List Token)) → Opens p.meaning (bytes_of p.marks) (bytes_of rest) → Read (before ++ p.marks) rest commands
    → Read before (p.marks ++ rest) (put_meaning p.meaning (span_of_marks p.marks) commands)
read_part p before rest commands o r =
    elim o [
      | gap e f ↦ subst (λ (m : Meaning). Read before (p.marks ++ rest) (put_meaning m (span_of_marks p.marks) commands)) (sym e) (read_gap before p.marks rest commands f r)
      | piece kind f e some ↦
          let at = piece_front p.marks rest kind f some in
          subst (λ (m : Meaning). Read before (p.marks ++ rest) (put_meaning m (span_of_marks p.marks) commands)) e (read_piece before p.marks rest kind commands at.1 at.0 r)
    ]

line_reads : (ps : List Part) (before marks : List Mark) → IsLine ps marks → Read before marks (commands_of_parts ps)
line_reads [] before marks h = subst (λ (l : List Mark). Read before l ([] ∷ [])) (sym h) (record { pieces = []; read = refl; makes = refl })
line_reads (p ∷ ps) before marks (rest, e, text, ends, line) =
    subst (λ (l : List Mark). Read before l (commands_of_parts (p ∷ ps))) (sym e)
    (read_part p before rest (commands_of_parts ps) (opens p.meaning (bytes_of p.marks) (bytes_of rest) text ends) (line_reads ps (before ++ p.marks) rest line))

-- ---- a quote that is left open is told where it stands

-- behind some of a line's bytes, the reader stops at this quote
record Stopped (before marks : List Mark) (mark : Mark) : Type 0 where
  pub at : ℕ
  pub read : pieces_from (bytes_of marks) (length before) 0 ≡ Err at
  pub there : slice_get (before ++ marks) at ≡ Some mark

unclosed_len : (mark : Mark) (behind : List Mark) → IsUnclosed mark behind → (o : Option ℕ) → quoted_len (bytes_of behind) ≡ o → o ≡ None
unclosed_len mark behind h None e = refl
unclosed_len mark behind h (Some n) e =
    let f = quoted_front (bytes_of behind) n e in
    let whole : bytes_of behind ≡ (doubled f.text ++ 39 ∷ []) ++ drop n (bytes_of behind) = sym (take-append-drop n (bytes_of behind)) ∙ ap (λ (l : List ℕ). l ++ drop n (bytes_of behind)) f.front in
    absurd (h.1 f.text (drop n (bytes_of behind)) (ap (λ (c : ℕ). c ∷ bytes_of behind) h.0 ∙ ap (λ (l : List ℕ). 39 ∷ l) whole) f.apart)

stopped_here : (before behind : List Mark) (mark : Mark) → IsUnclosed mark behind → Stopped before (mark ∷ behind) mark
stopped_here before behind mark h =
    let front : front_of (mark.byte ∷ bytes_of behind) ≡ fronts.Unclosed = ap (λ (c : ℕ). front_of (c ∷ bytes_of behind)) h.0 ∙ ap closed (unclosed_len mark behind h (quoted_len (bytes_of behind)) refl) in
    let place : length before ≡ length before + 0 = omega arith in
    record {
      at = length before;
      read = ap (λ (f : Front). put_front (length before) f (pieces_from (bytes_of behind) (length before + 1))) front;
      there = ap (slice_get (before ++ (mark ∷ behind))) place ∙ get_behind before (mark ∷ behind) 0;
    }

stopped_part : (p : Part) (before rest : List Mark) (mark : Mark) → Opens p.meaning (bytes_of p.marks) (bytes_of rest) → Stopped (before ++ p.marks) rest mark → Stopped before (p.marks ++ rest) mark
stopped_part p before rest mark o s =
    let there : slice_get (before ++ (p.marks ++ rest)) s.at ≡ Some mark = ap (λ (l : List Mark). slice_get l s.at) (sym (append_assoc before p.marks rest)) ∙ s.there in
    elim o [
      | gap e f ↦ record { at = s.at; read = gap_step before p.marks rest f ∙ s.read; there = there }
      | piece kind f e some ↦
          let at = piece_front p.marks rest kind f some in
          record { at = s.at; read = piece_step before p.marks rest kind at.1 at.0 ∙ ap (onto_pieces (record { kind = kind; start = length before; end = length before + length p.marks })) s.read; there = there }
    ]

line_stops : (ps : List Part) (before marks behind : List Mark) (mark : Mark) → BeginsWith ps (mark ∷ behind) marks → IsUnclosed mark behind → Stopped before marks mark
line_stops [] before marks behind mark h u = subst (λ (l : List Mark). Stopped before l mark) (sym h) (stopped_here before behind mark u)
line_stops (p ∷ ps) before marks behind mark (rest, e, text, ends, line) u =
    subst (λ (l : List Mark). Stopped before l mark) (sym e)
    (stopped_part p before rest mark (opens p.meaning (bytes_of p.marks) (bytes_of rest) text ends) (line_stops ps (before ++ p.marks) rest behind mark line u))

-- ---- each line is its parts, or leaves a quote open

-- what stands behind the parts of a line: nothing, or a quote that isn't closed
abbrev IsStop : List Mark → Type 0
IsStop [] = Unit {0}
IsStop (mark ∷ behind) = IsUnclosed mark behind

record Cut (marks : List Mark) : Type 0 where
  pub parts : List Part
  pub rest : List Mark
  pub front : BeginsWith parts rest marks
  pub stop : IsStop rest

cut_gap : (m : Mark) (ms : List Mark) → m.byte ≡ 32 → Cut ms → Cut (m ∷ ms)
cut_gap m ms e c = record { parts = (record { meaning = meanings.Gap; marks = m ∷ [] }) ∷ c.parts; rest = c.rest; front = (ms, refl, inl (ap (λ (b : ℕ). b ∷ []) e), tt, c.front); stop = c.stop }

cut_piece : (kind : PieceKind) (k : ℕ) (marks : List Mark) → FrontText (bytes_of marks) kind k → Cut (drop k marks) → Cut marks
cut_piece kind k marks f c =
    let m : Meaning = meaning_of kind (take k (bytes_of marks)) in
    let front : take k (bytes_of marks) ≡ bytes_of (take k marks) = take-map (λ (x : Mark). x.byte) k marks in
    let rest : drop k (bytes_of marks) ≡ bytes_of (drop k marks) = drop-map (λ (x : Mark). x.byte) k marks in
    record { parts = (record { meaning = m; marks = take k marks }) ∷ c.parts; rest = c.rest; front = (drop k marks, sym (take-append-drop k marks), subst (IsText m) front f.text, subst (EndsAt m) rest f.ends, c.front); stop = c.stop }

-- no text in quotes stands where the reader finds no end of one
unclosed_found : (mark : Mark) (behind : List Mark) → mark.byte ≡ 39 → quoted_len (bytes_of behind) ≡ None → IsUnclosed mark behind
unclosed_found mark behind q e = (
  q,
  λ text rest whole apart.
      let same : bytes_of behind ≡ (doubled text ++ 39 ∷ []) ++ rest = cc in
      let some : quoted_len (bytes_of behind) ≡ Some (length (doubled text) + 1) = ap quoted_len (same ∙ append_assoc (doubled text) (39 ∷ []) rest) ∙ quoted_ends text rest apart in
      let f : None ≡ Some (length (doubled text) + 1) = sym e ∙ some in
      absurd cc,
)

closed_none : (o : Option ℕ) → closed o ≡ fronts.Unclosed → o ≡ None
closed_none None e = refl
closed_none (Some n) e = absurd cc

closed_gap : (o : Option ℕ) → closed o ≡ fronts.Gap → ⊥
closed_gap None e = absurd cc
closed_gap (Some n) e = absurd cc

piece_gap : (kind : PieceKind) (k : ℕ) → fronts.Piece kind k ≡ fronts.Gap → ⊥
piece_gap kind k e = absurd cc

piece_unclosed : (kind : PieceKind) (k : ℕ) → fronts.Piece kind k ≡ fronts.Unclosed → ⊥
piece_unclosed kind k e = absurd cc

-- so many marks at most, where what stands behind a front is cut too
cut_front : (n : ℕ) (m : Mark) (ms : List Mark) → length ms ≤ n → ((marks : List Mark) → length marks ≤ n → Cut marks) → (f : Front) → front_of (m.byte ∷ bytes_of ms) ≡ f → Cut (m ∷ ms)
cut_front n m ms le more fronts.Unclosed e =
    elim (fronted m.byte (bytes_of ms)) [
      | blank p q ↦ absurd (let c : fronts.Gap ≡ fronts.Unclosed = sym q ∙ e in cc)
      | sign s p q ↦ absurd (piece_unclosed s 1 (sym q ∙ e))
      | quote p q ↦ record { parts = []; rest = m ∷ ms; front = refl; stop = unclosed_found m ms p (closed_none (quoted_len (bytes_of ms)) (sym q ∙ e)) }
      | word p q ↦ absurd (piece_unclosed _ _ (sym q ∙ e))
    ]
cut_front n m ms le more fronts.Gap e =
    elim (fronted m.byte (bytes_of ms)) [
      | blank p q ↦ cut_gap m ms p (more ms le)
      | sign s p q ↦ absurd (piece_gap s 1 (sym q ∙ e))
      | quote p q ↦ absurd (closed_gap (quoted_len (bytes_of ms)) (sym q ∙ e))
      | word p q ↦ absurd (piece_gap _ _ (sym q ∙ e))
    ]
cut_front n m ms le more (fronts.Piece kind k) e =
    let f = front_text m.byte (bytes_of ms) kind k e in
    let less : length (drop k (m ∷ ms)) ≤ n = omega (arith, length-drop k (m ∷ ms), f.some, le) in
    cut_piece kind k (m ∷ ms) f (more (drop k (m ∷ ms)) less)

cut : (n : ℕ) (marks : List Mark) → length marks ≤ n → Cut marks
cut n [] le = record { parts = []; rest = []; front = refl; stop = tt }
cut zero (m ∷ ms) le = absurd (omega arith)
cut (suc n) (m ∷ ms) le = cut_front n m ms (omega arith) (λ marks l. cut n marks l) (front_of (m.byte ∷ bytes_of ms)) refl

-- ---- the commands of a line, and of lines

abbrev pub ok_lines : List Line → Result (List Line) LexFault
ok_lines lines = Ok lines

abbrev pub err_lines : LexFault → Result (List Line) LexFault
err_lines fault = Err fault

line_read : (marks : List Mark) (lines : List Line) → AreOfLine marks lines → commands_of_marks marks ≡ ok_lines lines
unfolding commands_of_marks pieces_of
line_read marks lines (ps, line, e) =
    let r = line_reads ps [] marks line in
    ap (commands_of_pieces marks) r.read ∙ ap (λ (cs : List (List Token)). ok_lines (numbered cs)) r.makes ∙ ap ok_lines (sym e)

open_read : (marks : List Mark) (line : ℕ) → LeavesOpen marks line → commands_of_marks marks ≡ err_lines (OpenQuote line)
unfolding commands_of_marks pieces_of
open_read marks line h =
    let s = line_stops h.parts [] marks h.behind h.quote h.front h.unclosed in
    ap (commands_of_pieces marks) s.read ∙ ap (λ (o : Option Mark). err_lines (OpenQuote (line_at o))) s.there ∙ ap (λ (n : ℕ). err_lines (OpenQuote n)) (sym h.stands)

line_stop : (marks : List Mark) (ps : List Part) (rest : List Mark) → BeginsWith ps rest marks → IsStop rest → ((lines : List Line) × AreOfLine marks lines) ⊎ ((line : ℕ) × LeavesOpen marks line)
line_stop marks ps [] front stop = inl (numbered (commands_of_parts ps), (ps, front, refl))
line_stop marks ps (mark ∷ behind) front stop = inr (mark.line, record { parts = ps; quote = mark; behind = behind; front = front; unclosed = stop; stands = refl })

-- a line is one of commands, or leaves a quote open
line_either : (marks : List Mark) → ((lines : List Line) × AreOfLine marks lines) ⊎ ((line : ℕ) × LeavesOpen marks line)
line_either marks =
    let c = cut (length marks) marks (omega arith) in
    line_stop marks c.parts c.rest c.front c.stop

pub lines_read : (joined : List (List Mark)) (lines : List Line) → AreOfLines joined lines → commands_of_lines joined ≡ ok_lines lines
lines_read [] lines h = ap ok_lines (sym h)
lines_read (marks ∷ rest) lines (first, later, of_first, of_later, e) =
    ap (λ (r : Result (List Line) LexFault). then_lines r (commands_of_lines rest)) (line_read marks first of_first) ∙ ap (behind_lines first) (lines_read rest later of_later) ∙ ap ok_lines (sym e)

-- lines up to one that leaves a quote open
pub opens_read : (front : List (List Mark)) (marks : List Mark) (later : List (List Mark)) (lines : List Line) (line : ℕ) → AreOfLines front lines → LeavesOpen marks line → commands_of_lines (front ++ marks ∷ later) ≡ err_lines (OpenQuote line)
opens_read [] marks later lines line h o = ap (λ (r : Result (List Line) LexFault). then_lines r (commands_of_lines later)) (open_read marks line o)
opens_read (m ∷ front) marks later lines line (first, others, of_first, of_others, e) o =
    ap (λ (r : Result (List Line) LexFault). then_lines r (commands_of_lines (front ++ marks ∷ later))) (line_read m first of_first) ∙ ap (behind_lines first) (opens_read front marks later others line of_others o)

pub record OpenLines (joined : List (List Mark)) : Type 0 where
  pub front : List (List Mark)
  pub marks : List Mark
  pub later : List (List Mark)
  pub lines : List Line
  pub line : ℕ
  pub whole : joined ≡ front ++ marks ∷ later
  pub are : AreOfLines front lines
  pub open_at : LeavesOpen marks line

-- lines are all of commands, or a first of them leaves a quote open
pub lines_either : (joined : List (List Mark)) → ((lines : List Line) × AreOfLines joined lines) ⊎ OpenLines joined
lines_either [] = inl ([], refl)
lines_either (marks ∷ rest) =
    elim (line_either marks) [
      | inl a ↦ elim (lines_either rest) [
        | inl b ↦ inl (a.0 ++ b.0, (a.0, b.0, a.1, b.1, refl))
        | inr o ↦ inr (record { front = marks ∷ o.front; marks = o.marks; later = o.later; lines = a.0 ++ o.lines; line = o.line; whole = ap (λ (l : List (List Mark)). marks ∷ l) o.whole; are = (a.0, o.lines, a.1, o.are, refl); open_at = o.open_at })
      ]
      | inr a ↦ inr (record { front = []; marks = marks; later = rest; lines = []; line = a.0; whole = refl; are = refl; open_at = a.1 })
    ]
