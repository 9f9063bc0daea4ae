-- Numbers in decimal digits, of any length.
use Rattle.std.specs.Prelude.{ℕ, ℤ, pos, negsuc, ◌+◌, ◌-◌, ◌*◌, ◌^◌, ◌==◌, ◌&&◌, nat_le, nat_lt, Bool, false, List, [], ◌∷◌, if◌then◌else◌, fold, Result, Ok, Err}
use Rattle.std.specs.List.{list_all}
use Rattle.mq_text.specs.declared.numbers.NumberFault.{NumberFault}
use Rattle.mq_text.specs.declared.numbers.NumberFault.TheVariants.{NoNumber, OutOfRange}

abbrev pub is_digit : ℕ → Bool
is_digit b = nat_le 48 b && nat_le b 57

-- one digit or more
abbrev pub is_number : List ℕ → Bool
is_number [] = false
is_number (b ∷ bs) = list_all is_digit (b ∷ bs)

abbrev pub value_of : List ℕ → ℕ
value_of text = fold (λ n b. 10 * n + (b - 48)) 0 text

-- a minus and a number
abbrev pub is_negative : List ℕ → Bool
is_negative [] = false
is_negative (b ∷ bs) = if b == 45 then is_number bs else false

abbrev pub within : ℕ → ℕ → ℕ → Result ℕ NumberFault
within low high n = if nat_le low n && nat_le n high then Ok n else Err OutOfRange

-- the number that a text is, in its range: one with a minus is in none
unfoldable pub number_in : ℕ → ℕ → List ℕ → Result ℕ NumberFault
number_in low high text = if is_number text then within low high (value_of text) else if is_negative text then Err OutOfRange else Err NoNumber

abbrev pub after_sign : List ℕ → List ℕ
after_sign [] = []
after_sign (b ∷ bs) = bs

abbrev pub negated : ℕ → ℤ
negated n = if n == 0 then pos 0 else negsuc (n - 1)

abbrev pub small : ℕ → Result ℤ NumberFault
small n = if nat_lt n (2 ^ 31) then Ok (pos n) else Err OutOfRange

abbrev pub small_negative : ℕ → Result ℤ NumberFault
small_negative n = if nat_le n (2 ^ 31) then Ok (negated n) else Err OutOfRange

-- the number that a text is, a minus before it or none, in 32 signed bits
unfoldable pub signed_of : List ℕ → Result ℤ NumberFault
signed_of text = if is_number text then small (value_of text) else if is_negative text then small_negative (value_of (after_sign text)) else Err NoNumber
