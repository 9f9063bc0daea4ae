-- The rule of a table of fields, over all of it: the values are read back from the bytes, and the bytes from the values.
use Rattle.std.proofs.Common.{◌≡◌, ℕ, zero, suc, ◌+◌, ◌^◌, ◌<◌, ◌≤◌, ◌==◌, ℤ, Bool, true, false, List, [], ◌∷◌, ◌++◌, length, take, drop, slice_index, refl, sym, ap, ◌∙◌, arith, FitsSigned, w32, Fits as FitsBits, of_z}
use Rattle.std.specs.Prelude.{◌&&◌}
use Rattle.std.specs.Int.{cast_signed, cast_unsigned}
use Rattle.std.proofs.Math.Facts.{Fits-of_z}
use Rattle.std.proofs.Math.Seq.{take-add}
use Rattle.std.proofs.lemmas.Int.{to_z-of_z}
use Rattle.std.proofs.lemmas.Bool.{eqb-true}
use Rattle.std.proofs.lemmas.List.{append_assoc, append-nil, length-append, length-take-le, length-drop, take_at, drop_at, drop-drop, get_or-take, get_or-drop}
use Rattle.byteorder.specs.Endian.{big_number, big_bytes}
use Rattle.byteorder.specs.Numbers.{big_number-reads_back, length-bytes_high_first}
use Rattle.mq_base.proofs.Numbers.{AreBytes, big_number_gives_back, big_signed_gives_back}
use Rattle.mq_message.specs.Layout.{Kind, Long, Unsigned, Characters, Raw, Field, Holds, Values, long_bytes, long_of, unsigned_bytes, unsigned_of, value_bytes, value_in, part, written, values_in, has_width, stand_from, size, Fits, AllFit}

both : (a b : Bool) → (a && b) ≡ true → (a ≡ true) × (b ≡ true)
both true b e = (refl, e)
both false b e = absurd cc

-- a signed number is read back from its bytes
pub long_back : (z : ℤ) → FitsSigned w32 z → long_of (long_bytes z) ≡ z
unfolding long_of long_bytes
long_back z fits =
    let small : FitsBits w32 (of_z w32 z) = Fits-of_z fits in
    let whole : big_number 4 (big_bytes 4 (cast_unsigned w32 z)) ≡ cast_unsigned w32 z = ap (big_number 4) (sym (append-nil (big_bytes 4 (cast_unsigned w32 z)))) ∙ big_number-reads_back 4 (cast_unsigned w32 z) [] (omega arith) in
    ap (cast_signed w32) whole ∙ to_z-of_z w32 z fits

-- so is an unsigned one
pub unsigned_back : (width n : ℕ) → n < 256 ^ width → unsigned_of width (unsigned_bytes width n) ≡ n
unfolding unsigned_of unsigned_bytes
unsigned_back width n fits = ap (big_number width) (sym (append-nil (big_bytes width n))) ∙ big_number-reads_back width n [] fits

pub length-long_bytes : (z : ℤ) → length (long_bytes z) ≡ 4
unfolding long_bytes
length-long_bytes z = length-bytes_high_first 4 (cast_unsigned w32 z)

pub length-unsigned_bytes : (width n : ℕ) → length (unsigned_bytes width n) ≡ width
unfolding unsigned_bytes
length-unsigned_bytes width n = length-bytes_high_first width n

-- four bytes are written again from the number that they are
pub long_gives_back : (bytes : List ℕ) → length bytes ≡ 4 → AreBytes bytes → long_bytes (long_of bytes) ≡ bytes
unfolding long_bytes long_of
long_gives_back bytes len small = big_signed_gives_back bytes len small

pub unsigned_gives_back : (width : ℕ) (bytes : List ℕ) → length bytes ≡ width → AreBytes bytes → unsigned_bytes width (unsigned_of width bytes) ≡ bytes
unfolding unsigned_bytes unsigned_of
unsigned_gives_back width bytes len small = big_number_gives_back width bytes len small

-- a value that fits has its field's width
value_length : (kind : Kind) (width : ℕ) (x : Holds kind) → has_width kind width ≡ true → Fits kind width x → length (value_bytes kind width x) ≡ width
value_length Long width x e fits = length-long_bytes x ∙ sym (eqb-true width 4 e)
value_length Unsigned width x e fits = length-unsigned_bytes width x
value_length Characters width x e fits = fits
value_length Raw width x e fits = fits

-- a value that fits is read back
value_back : (kind : Kind) (width : ℕ) (x : Holds kind) → Fits kind width x → value_in kind width (value_bytes kind width x) ≡ x
value_back Long width x fits = long_back x fits
value_back Unsigned width x fits = unsigned_back width x fits
value_back Characters width x fits = refl
value_back Raw width x fits = refl

-- a field's bytes are written again
bytes_back : (kind : Kind) (width : ℕ) (bytes : List ℕ) → has_width kind width ≡ true → length bytes ≡ width → AreBytes bytes → value_bytes kind width (value_in kind width bytes) ≡ bytes
bytes_back Long width bytes e len small = long_gives_back bytes (len ∙ eqb-true width 4 e) small
bytes_back Unsigned width bytes e len small = unsigned_gives_back width bytes len small
bytes_back Characters width bytes e len small = refl
bytes_back Raw width bytes e len small = refl

pair : {A B : Type 0} (a a' : A) (b b' : B) → a ≡ a' → b ≡ b' → ◌≡◌ {A = A × B} (a, b) (a', b')
pair a a' b b' p q = λ i. (p i, q i)

-- values that fit take the size of the table
pub length-written : (fields : List Field) (place : ℕ) (values : Values fields) → stand_from place fields ≡ true → AllFit fields values → length (written fields values) ≡ size fields
length-written [] place values e fit = refl
length-written (f ∷ fs) place values e fit =
    let whole = both (f.offset == place && has_width f.kind f.width) (stand_from (place + f.width) fs) e in
    let first = both (f.offset == place) (has_width f.kind f.width) whole.0 in
    let here = value_length f.kind f.width values.0 first.1 fit.0 in
    let more = length-written fs (place + f.width) values.1 whole.1 fit.1 in
    length-append (value_bytes f.kind f.width values.0) (written fs values.1) ∙ (omega arith)

part_behind : (before piece rest : List ℕ) (place width : ℕ) → length before ≡ place → length piece ≡ width → part place width (before ++ (piece ++ rest)) ≡ piece
part_behind before piece rest place width e w =
    ap (take width) (drop_at before (piece ++ rest) place e) ∙ take_at piece rest width w

-- values that fit are read back from their bytes, wherever the structure stands
pub values_back : (fields : List Field) (place : ℕ) (before rest : List ℕ) (values : Values fields) → length before ≡ place → stand_from place fields ≡ true → AllFit fields values → values_in fields (before ++ (written fields values ++ rest)) ≡ values
values_back [] place before rest values len e fit = refl
values_back (f ∷ fs) place before rest values len e fit =
    let whole = both (f.offset == place && has_width f.kind f.width) (stand_from (place + f.width) fs) e in
    let first = both (f.offset == place) (has_width f.kind f.width) whole.0 in
    let at : f.offset ≡ place = eqb-true f.offset place first.0 in
    let piece : List ℕ = value_bytes f.kind f.width values.0 in
    let others : List ℕ = written fs values.1 in
    let width = value_length f.kind f.width values.0 first.1 fit.0 in
    let joined : piece ++ others ++ rest ≡ piece ++ (others ++ rest) = append_assoc piece others rest in
    let found : part f.offset f.width (before ++ (piece ++ others ++ rest)) ≡ piece = ap (λ (x : List ℕ). part f.offset f.width (before ++ x)) joined ∙ part_behind before piece (others ++ rest) f.offset f.width (len ∙ sym at) width in
    let moved : before ++ (piece ++ others ++ rest) ≡ (before ++ piece) ++ (others ++ rest) = ap (λ (x : List ℕ). before ++ x) joined ∙ sym (append_assoc before piece (others ++ rest)) in
    let longer : length (before ++ piece) ≡ place + f.width = length-append before piece ∙ (omega arith) in
    pair (value_in f.kind f.width (part f.offset f.width (before ++ (piece ++ others ++ rest)))) values.0 (values_in fs (before ++ (piece ++ others ++ rest))) values.1 (ap (value_in f.kind f.width) found ∙ value_back f.kind f.width values.0 fit.0) (ap (values_in fs) moved ∙ values_back fs (place + f.width) (before ++ piece) rest values.1 longer whole.1 fit.1)

pub part_are_bytes : (place width : ℕ) (bytes : List ℕ) → AreBytes bytes → (i : ℕ) → i < width → slice_index (part place width bytes) i < 256
part_are_bytes place width bytes small i lt =
    let h = small (place + i) in
    rw (get_or-take width (drop place bytes) i 0 lt, get_or-drop place bytes i 0) h

past_are_bytes : (xs : List ℕ) (n : ℕ) → length xs ≡ n → ((i : ℕ) → i < n → slice_index xs i < 256) → AreBytes xs
past_are_bytes [] n len below i = omega arith
past_are_bytes (x ∷ xs) zero len below i = absurd (omega arith)
past_are_bytes (x ∷ xs) (suc n) len below zero = below 0 (omega arith)
past_are_bytes (x ∷ xs) (suc n) len below (suc i) = past_are_bytes xs n (omega arith) (λ j lt. below (suc j) (omega arith)) i

pub length-part : (place width : ℕ) (bytes : List ℕ) → place + width ≤ length bytes → length (part place width bytes) ≡ width
length-part place width bytes le = length-take-le width (drop place bytes) (simp length-drop (omega arith))

-- a part, and the part behind it
part_more : (place a b : ℕ) (bytes : List ℕ) → part place a bytes ++ part (place + a) b bytes ≡ part place (a + b) bytes
part_more place a b bytes = ap (λ (x : List ℕ). take a (drop place bytes) ++ take b x) (sym (drop-drop a place bytes)) ∙ sym (take-add a b (drop place bytes))

-- the structure's bytes are written again from the values that stand in them
pub bytes_again : (fields : List Field) (place : ℕ) (bytes : List ℕ) → stand_from place fields ≡ true → AreBytes bytes → place + size fields ≤ length bytes → written fields (values_in fields bytes) ≡ part place (size fields) bytes
bytes_again [] place bytes e small le = refl
bytes_again (f ∷ fs) place bytes e small le =
    let whole = both (f.offset == place && has_width f.kind f.width) (stand_from (place + f.width) fs) e in
    let first = both (f.offset == place) (has_width f.kind f.width) whole.0 in
    let at : f.offset ≡ place = eqb-true f.offset place first.0 in
    let len = length-part f.offset f.width bytes (omega arith) in
    let here : value_bytes f.kind f.width (value_in f.kind f.width (part f.offset f.width bytes)) ≡ part f.offset f.width bytes = bytes_back f.kind f.width (part f.offset f.width bytes) first.1 len (past_are_bytes (part f.offset f.width bytes) f.width len (part_are_bytes f.offset f.width bytes small)) in
    let there : written fs (values_in fs bytes) ≡ part (place + f.width) (size fs) bytes = bytes_again fs (place + f.width) bytes whole.1 small (omega arith) in
    let moved : part f.offset f.width bytes ≡ part place f.width bytes = ap (λ (n : ℕ). part n f.width bytes) at in
    rw (here, there, moved) (part_more place f.width (size fs) bytes)
