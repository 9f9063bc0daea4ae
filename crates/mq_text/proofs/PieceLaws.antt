-- Pieces one after the other, as the reader meets them.
use Rattle.std.proofs.Common.{◌≡◌, ℕ, zero, suc, ◌+◌, ◌-◌, ◌<◌, ◌≤◌, List, [], ◌∷◌, ◌++◌, length, drop, refl, sym, ap, ◌∙◌, append_assoc, arith}
use Rattle.std.specs.Prelude.{Result, Ok, Err}
use Rattle.std.proofs.lemmas.List.{append-nil, drop-drop, length-drop}
use Rattle.std.proofs.Math.ListN.{drop_of_length-le}
use Rattle.mq_text.specs.declared.piece.PieceKind.{PieceKind}
use Rattle.mq_text.specs.declared.piece.Piece.{Piece}
use Rattle.mq_text.specs.declared.piece.Front.{Front}
use Rattle.mq_text.specs.declared.piece.Front.TheVariants as fronts
use Rattle.mq_text.specs.Pieces.{front_of, put_front, onto_pieces, pieces_from, AreSlices}

-- pieces before those that are read
abbrev pub with_front : List Piece → Result (List Piece) ℕ → Result (List Piece) ℕ
with_front front (Ok ps) = Ok (front ++ ps)
with_front front (Err at) = Err at

with_onto : (front : List Piece) (p : Piece) (read : Result (List Piece) ℕ) → with_front front (onto_pieces p read) ≡ with_front (front ++ p ∷ []) read
with_onto front p (Ok ps) = ap (λ (qs : List Piece). Ok qs) (simp append_assoc)
with_onto front p (Err at) = refl

-- the bytes of a piece are passed
pub passed : (bytes : List ℕ) (place n : ℕ) → n ≤ length bytes → pieces_from bytes place n ≡ pieces_from (drop n bytes) (place + n) 0
passed [] place zero le = refl
passed [] place (suc n) le = absurd (omega arith)
passed (b ∷ bs) place zero le = ap (λ (k : ℕ). pieces_from (b ∷ bs) k 0) (omega arith)
passed (b ∷ bs) place (suc n) le = passed bs (place + 1) n (omega arith) ∙ ap (λ (k : ℕ). pieces_from (drop n bs) k 0) (omega arith)

front_step : (bytes : List ℕ) (place : ℕ) → 0 < length bytes → pieces_from bytes place 0 ≡ put_front place (front_of bytes) (pieces_from (drop 1 bytes) (place + 1))
front_step [] place lt = absurd (omega arith)
front_step (b ∷ bs) place lt = refl

next_step : (text : List ℕ) (at : ℕ) → at < length text → pieces_from (drop at text) at 0 ≡ put_front at (front_of (drop at text)) (pieces_from (drop (at + 1) text) (at + 1))
next_step text at lt =
    let less : 0 < length (drop at text) = omega (arith, length-drop at text) in
    front_step (drop at text) at less ∙ ap (λ (bs : List ℕ). put_front at (front_of (drop at text)) (pieces_from bs (at + 1))) (drop-drop 1 at text)

pub gap_passed : (front : List Piece) (text : List ℕ) (at : ℕ) (total : Result (List Piece) ℕ) → at < length text → front_of (drop at text) ≡ fronts.Gap
    → with_front front (pieces_from (drop at text) at 0) ≡ total → with_front front (pieces_from (drop (at + 1) text) (at + 1) 0) ≡ total
gap_passed front text at total lt e h =
    let one : pieces_from (drop at text) at 0 ≡ pieces_from (drop (at + 1) text) (at + 1) 0 = next_step text at lt ∙ ap (λ (f : Front). put_front at f (pieces_from (drop (at + 1) text) (at + 1))) e in
    rw one at h

pub unclosed : (front : List Piece) (text : List ℕ) (at : ℕ) (total : Result (List Piece) ℕ) → at < length text → front_of (drop at text) ≡ fronts.Unclosed
    → with_front front (pieces_from (drop at text) at 0) ≡ total → total ≡ Err at
unclosed front text at total lt e h =
    let one : pieces_from (drop at text) at 0 ≡ Err at = next_step text at lt ∙ ap (λ (f : Front). put_front at f (pieces_from (drop (at + 1) text) (at + 1))) e in
    sym (rw one at h)

pub piece_passed : (front : List Piece) (text : List ℕ) (at n : ℕ) (kind : PieceKind) (total : Result (List Piece) ℕ) → at < length text → front_of (drop at text) ≡ fronts.Piece kind n → 0 < n → at + n ≤ length text
    → with_front front (pieces_from (drop at text) at 0) ≡ total → with_front (front ++ (record { kind = kind; start = at; end = at + n }) ∷ []) (pieces_from (drop (at + n) text) (at + n) 0) ≡ total
piece_passed front text at n kind total lt e some le h =
    let p : Piece = record { kind = kind; start = at; end = at + n } in
    let one : pieces_from (drop at text) at 0 ≡ onto_pieces p (pieces_from (drop (at + 1) text) (at + 1) (n - 1)) = next_step text at lt ∙ ap (λ (f : Front). put_front at f (pieces_from (drop (at + 1) text) (at + 1))) e in
    let room : n - 1 ≤ length (drop (at + 1) text) = omega (arith, length-drop (at + 1) text) in
    let sum : (at + 1) + (n - 1) ≡ at + n = omega arith in
    let rest : pieces_from (drop (at + 1) text) (at + 1) (n - 1) ≡ pieces_from (drop (at + n) text) (at + n) 0 =
    passed (drop (at + 1) text) (at + 1) (n - 1) room ∙ ap (λ (bs : List ℕ). pieces_from bs ((at + 1) + (n - 1)) 0) (drop-drop (n - 1) (at + 1) text) ∙ ap (λ (k : ℕ). pieces_from (drop k text) k 0) sum in
    let whole : with_front front (pieces_from (drop at text) at 0) ≡ with_front (front ++ p ∷ []) (pieces_from (drop (at + n) text) (at + n) 0) =
    ap (with_front front) (one ∙ ap (onto_pieces p) rest) ∙ with_onto front p (pieces_from (drop (at + n) text) (at + n) 0) in
    sym whole ∙ h

pub all_passed : (front : List Piece) (text : List ℕ) (at : ℕ) (total : Result (List Piece) ℕ) → length text ≤ at → with_front front (pieces_from (drop at text) at 0) ≡ total → total ≡ Ok front
all_passed front text at total le h =
    let none : drop at text ≡ [] = drop_of_length-le text le in
    let one : with_front front (pieces_from (drop at text) at 0) ≡ Ok front = ap (λ (bs : List ℕ). with_front front (pieces_from bs at 0)) none ∙ ap (λ (ps : List Piece). Ok ps) (append-nil front) in
    sym h ∙ one

-- one more slice behind those before it
pub slices_more : (from : ℕ) (ps : List Piece) (p : Piece) (len : ℕ) → AreSlices from ps p.start → p.start < p.end → p.end ≤ len → AreSlices from (ps ++ p ∷ []) len
slices_more from [] p len h some le = (h, some, le)
slices_more from (q ∷ qs) p len h some le = (h.0, h.1, slices_more q.end qs p len h.2 some le)

-- the slices end where the text does
pub slices_within : (from : ℕ) (ps : List Piece) (at len : ℕ) → AreSlices from ps at → at ≤ len → AreSlices from ps len
slices_within from [] at len h le = omega arith
slices_within from (q ∷ qs) at len h le = (h.0, h.1, slices_within q.end qs at len h.2 le)
