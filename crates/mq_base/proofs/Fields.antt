-- A field that holds a name.
use Rattle.std.proofs.Common.{◌≡◌, ℕ, ◌≤◌, ◌<◌, Bool, true, false, cond, List, [], ◌∷◌, length, take, refl, ap, arith, replicate, ◌-◌}
use Rattle.std.specs.Prelude.{Some, None, Err, position, not, nat_lt, ◌&&◌}
use Rattle.std.specs.Str.{IsAscii, IsUtf8}
use Rattle.std.proofs.lemmas.Str.{IsUtf8-from_ascii}
use Rattle.std.proofs.lemmas.Str.Ascii.{IsAscii-nil, IsAscii-cons}
use Rattle.std.specs.List.{list_all, position_or_len}
use Rattle.std.proofs.Math.Seq.{take-append_seam}
use Rattle.std.proofs.lemmas.Bool.Decides.{nat_tests}
use Rattle.std.proofs.lemmas.List.Sums.{fails_before_first, list_all-from_AllPass}
use Rattle.mq_base.specs.declared.fault.NameFault.{NameFault}
use Rattle.mq_base.specs.declared.fault.NameFault.TheVariants.{TooLong}
use Rattle.mq_base.specs.Name.{is_name_byte, is_label_byte, padded, HoldsText, IsName, name_or_bad, name_of, label_of}

-- a text whose bytes stand in names, in a field
pub holds_padded : (test : ℕ → Bool) (width : ℕ) (text field : List ℕ) → length text ≤ width → list_all test text ≡ true → field ≡ padded width text → HoldsText test width field (length text)
holds_padded test width text field le all e =
    let t : take (length text) field ≡ text = rw e (take-append_seam text (replicate (width - length text) 32)) in
    record {
      within = le;
      counted = ap length t;
      bytes = rw t all;
      whole = rw t e;
    }

double : (b : Bool) → not b ≡ false → b ≡ true
double true e = refl
double false e = absurd cc

-- where no byte is bad each stands in names
pub no_bad : (text : List ℕ) → position (λ b. not (is_name_byte b)) text ≡ None → list_all is_name_byte text ≡ true
no_bad text e =
    let past : length text ≤ position_or_len (λ b. not (is_name_byte b)) text = grind (arith, nat_tests) in
    list_all-from_AllPass is_name_byte text (λ k d lt. double _ (fails_before_first (λ b. not (is_name_byte b)) text k d (omega arith)))

both : (a b : Bool) → (a && b) ≡ true → (a ≡ true) × (b ≡ true)
both true b e = (refl, e)
both false b e = absurd cc

byte_ascii : (b : ℕ) → is_name_byte b ≡ true → b < 128
byte_ascii b e = grind (arith, nat_tests)

name_ascii : (text : List ℕ) → list_all is_name_byte text ≡ true → IsAscii text
name_ascii [] e = IsAscii-nil
name_ascii (b ∷ bs) e =
    let h = both (is_name_byte b) (list_all is_name_byte bs) e in
    IsAscii-cons b bs (byte_ascii b h.0) (name_ascii bs h.1)

-- a name is text
pub name_utf8 : (width : ℕ) (text : List ℕ) → IsName width text → IsUtf8 text
name_utf8 width text h = IsUtf8-from_ascii text (name_ascii text h.bytes)

-- Labels are names.

label_byte_stands : (b : ℕ) → is_label_byte b ≡ true → is_name_byte b ≡ true
label_byte_stands b e = grind (arith, nat_tests)

none_is_bad : (text : List ℕ) → list_all is_label_byte text ≡ true → position_or_len (λ b. not (is_name_byte b)) text ≡ length text
none_is_bad [] e = refl
none_is_bad (b ∷ bs) e =
    let h = both (is_label_byte b) (list_all is_label_byte bs) e in
    rw (label_byte_stands b h.0) (omega (arith, none_is_bad bs h.1))

refused_step : (text : List ℕ) (f : NameFault) → position (λ b. not (is_name_byte b)) text ≡ None → (long : Bool) → Err f ≡ cond long (Err TooLong) (name_or_bad text (position (λ b. not (is_name_byte b)) text))
    → None ≡ cond long None (cond (list_all is_label_byte text) (Some text) None)
refused_step text f none true e = refl
refused_step text f none false e = absurd (let ok : Err f ≡ name_or_bad text None = (rw none at e) in cc)

-- a text of label bytes that is no name is no label
pub label_refused : (text : List ℕ) (f : NameFault) → list_all is_label_byte text ≡ true → Err f ≡ name_of 8 text → None ≡ label_of text
label_refused [] f all e = refl
label_refused (b ∷ bs) f all e =
    let none : position (λ b. not (is_name_byte b)) (b ∷ bs) ≡ None = let past = none_is_bad (b ∷ bs) all in grind (arith, nat_tests) in
    refused_step (b ∷ bs) f none (nat_lt 8 (length (b ∷ bs))) e
