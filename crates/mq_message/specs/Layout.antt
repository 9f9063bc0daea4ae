-- A structure as a table of named fields, the bytes of its values, and the values in its bytes.
use Rattle.std.specs.Prelude.{◌≡◌, ℕ, ◌+◌, ◌^◌, ◌<◌, ◌==◌, ℤ, Bool, true, ◌&&◌, List, [], ◌∷◌, ◌++◌, length, take, drop, FitsSigned}
use Rattle.std.specs.Int.{w32, cast_unsigned, cast_signed}
use Rattle.byteorder.specs.Endian.{big_bytes, big_number}

-- what a field holds
pub data Kind : Type 0 where
  -- a signed number of four bytes, two's complement, highest byte first
  Long : Kind
  -- an unsigned number, highest byte first
  Unsigned : Kind
  -- characters, padded with blanks by whoever fills them in
  Characters : Kind
  -- bytes as they are
  Raw : Kind

-- a row of the table: the manual's name, the first byte, how many, and what they are
pub record Field : Type 0 where
  pub name : List ℕ
  pub offset : ℕ
  pub width : ℕ
  pub kind : Kind

-- what stands in a field of a kind
abbrev pub Holds : Kind → Type 0
Holds Long = ℤ
Holds Unsigned = ℕ
Holds Characters = List ℕ
Holds Raw = List ℕ

-- a value for each field
abbrev pub Values : List Field → Type 0
Values [] = Unit {0}
Values (f ∷ fs) = Holds f.kind × Values fs

-- the four bytes of a signed number
unfoldable pub long_bytes : ℤ → List ℕ
long_bytes z = big_bytes 4 (cast_unsigned w32 z)

-- the signed number that four bytes are
unfoldable pub long_of : List ℕ → ℤ
long_of bytes = cast_signed w32 (big_number 4 bytes)

-- so many bytes of an unsigned number
unfoldable pub unsigned_bytes : ℕ → ℕ → List ℕ
unsigned_bytes width n = big_bytes width n

-- the unsigned number that so many bytes are
unfoldable pub unsigned_of : ℕ → List ℕ → ℕ
unsigned_of width bytes = big_number width bytes

-- the bytes of a value, so many
abbrev pub value_bytes : (kind : Kind) → ℕ → Holds kind → List ℕ
value_bytes Long width z = long_bytes z
value_bytes Unsigned width n = unsigned_bytes width n
value_bytes Characters width text = text
value_bytes Raw width bytes = bytes

-- the value that so many bytes are
abbrev pub value_in : (kind : Kind) → ℕ → List ℕ → Holds kind
value_in Long width bytes = long_of bytes
value_in Unsigned width bytes = unsigned_of width bytes
value_in Characters width bytes = bytes
value_in Raw width bytes = bytes

-- so many bytes from a place
abbrev pub part : ℕ → ℕ → List ℕ → List ℕ
part place width bytes = take width (drop place bytes)

-- the structure's bytes
abbrev pub written : (fields : List Field) → Values fields → List ℕ
written [] values = []
written (f ∷ fs) values = value_bytes f.kind f.width values.0 ++ written fs values.1

-- the values in a structure's bytes, each at its field's place
abbrev pub values_in : (fields : List Field) → List ℕ → Values fields
values_in [] bytes = tt
values_in (f ∷ fs) bytes = (value_in f.kind f.width (part f.offset f.width bytes), values_in fs bytes)

-- a width that the kind may have
abbrev pub has_width : Kind → ℕ → Bool
has_width Long width = width == 4
has_width Unsigned width = true
has_width Characters width = true
has_width Raw width = true

-- the fields stand one behind another from a place
abbrev pub stand_from : ℕ → List Field → Bool
stand_from place [] = true
stand_from place (f ∷ fs) = f.offset == place && has_width f.kind f.width && stand_from (place + f.width) fs

-- all bytes of the fields
abbrev pub size : List Field → ℕ
size [] = 0
size (f ∷ fs) = f.width + size fs

-- a value that a field of that width has room for
abbrev pub Fits : (kind : Kind) → ℕ → Holds kind → Type 0
Fits Long width z = FitsSigned w32 z
Fits Unsigned width n = n < 256 ^ width
Fits Characters width text = length text ≡ width
Fits Raw width bytes = length bytes ≡ width

-- each value fits its field
abbrev pub AllFit : (fields : List Field) → Values fields → Type 0
AllFit [] values = Unit {0}
AllFit (f ∷ fs) values = Fits f.kind f.width values.0 × AllFit fs values.1
