-- Names: the letters, digits and four signs that stand in one, and the fixed field that holds it.
use Rattle.std.specs.Prelude.{◌≡◌, ℕ, ◌-◌, ◌≤◌, ◌<◌, Bool, true, ◌&&◌, ◌||◌, not, nat_le, nat_lt, ◌==◌, if◌then◌else◌, List, [], ◌∷◌, ◌++◌, length, take, replicate, position, Option, Some, None, Result, Ok, Err}
use Rattle.std.specs.List.{list_all}
use Rattle.mq_base.specs.declared.fault.NameFault.{NameFault}
use Rattle.mq_base.specs.declared.fault.NameFault.TheVariants.{Empty, TooLong, BadByte}

-- A-Z, a-z, 0-9, and . / _ %
abbrev pub is_name_byte : ℕ → Bool
is_name_byte b = (nat_le 65 b && nat_le b 90) || (nat_le 97 b && nat_le b 122) || (nat_le 48 b && nat_le b 57) || b == 46 || b == 47 || b == 95 || b == 37

-- the text with blanks behind it
abbrev pub padded : ℕ → List ℕ → List ℕ
padded width text = text ++ replicate (width - length text) 32

-- a field's text without the blanks at its end
abbrev pub onto_text : ℕ → List ℕ → List ℕ
onto_text b [] = if b == 32 then [] else b ∷ []
onto_text b (c ∷ cs) = b ∷ c ∷ cs

abbrev pub trimmed : List ℕ → List ℕ
trimmed [] = []
trimmed (b ∷ bs) = onto_text b (trimmed bs)

-- a text of name bytes, no longer than the field; the empty one is the blank name
pub record IsName (width : ℕ) (text : List ℕ) : Type 0 where
  pub fits : length text ≤ width
  pub bytes : list_all is_name_byte text ≡ true

-- A-Z and 0-9
abbrev pub is_label_byte : ℕ → Bool
is_label_byte b = (nat_le 65 b && nat_le b 90) || (nat_le 48 b && nat_le b 57)

-- one to eight letters and digits
pub record IsLabel (text : List ℕ) : Type 0 where
  pub some : 0 < length text
  pub fits : length text ≤ 8
  pub bytes : list_all is_label_byte text ≡ true

-- the field holds a text of that length whose bytes pass, and blanks
pub record HoldsText (test : ℕ → Bool) (width : ℕ) (field : List ℕ) (len : ℕ) : Type 0 where
  pub within : len ≤ width
  pub counted : length (take len field) ≡ len
  pub bytes : list_all test (take len field) ≡ true
  pub whole : field ≡ padded width (take len field)

-- the name, unless a byte is bad
abbrev pub name_or_bad : List ℕ → Option ℕ → Result (List ℕ) NameFault
name_or_bad text None = Ok text
name_or_bad text (Some place) = Err (BadByte place)

-- the name that a text is, or the first fault
abbrev pub name_of : ℕ → List ℕ → Result (List ℕ) NameFault
name_of width [] = Err Empty
name_of width (b ∷ bs) = if nat_lt width (length (b ∷ bs)) then Err TooLong else name_or_bad (b ∷ bs) (position (λ b. not (is_name_byte b)) (b ∷ bs))

-- the label that a text is
abbrev pub label_of : List ℕ → Option (List ℕ)
label_of [] = None
label_of (b ∷ bs) = if nat_lt 8 (length (b ∷ bs)) then None else (if list_all is_label_byte (b ∷ bs) then Some (b ∷ bs) else None)
