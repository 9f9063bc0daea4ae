-- The words of a line: blanks outside quotes part them.
use Rattle.std.specs.Prelude.{ℕ, zero, suc, ◌+◌, ◌-◌, ◌==◌, ◌&&◌, not, Bool, true, false, List, [], ◌∷◌, if◌then◌else◌, take, drop, map, Option, Some, None}
use Rattle.std.specs.Borrow.{Bor}

-- words as texts
abbrev pub texts_of : List (Bor (List ℕ)) → List (List ℕ)
texts_of words = map (λ (w : Bor (List ℕ)). w.now) words

-- a quote opens a text in quotes or closes it; two of them in it do both
abbrev pub toggled : Bool → ℕ → Bool
toggled quoted b = if b == 39 then not quoted else quoted

-- how many bytes stand in front of the first blank outside quotes
abbrev pub word_len : Bool → List ℕ → ℕ
word_len quoted [] = 0
word_len quoted (b ∷ bs) = if b == 32 && not quoted then 0 else 1 + word_len (toggled quoted b) bs

-- a quote that nothing closes
abbrev pub is_open : Bool → List ℕ → Bool
is_open quoted [] = quoted
is_open quoted (b ∷ bs) = is_open (toggled quoted b) bs

-- the words of bytes of which the first few belong to the word before
abbrev pub words_from : ℕ → List ℕ → List (List ℕ)
words_from inside [] = []
words_from (suc inside) (b ∷ bs) = words_from inside bs
words_from zero (b ∷ bs) = if b == 32 then words_from 0 bs else take (word_len false (b ∷ bs)) (b ∷ bs) ∷ words_from (word_len false (b ∷ bs) - 1) bs

unfoldable pub words_of : List ℕ → List (List ℕ)
words_of line = words_from 0 line

-- the first word, and what stands behind it
abbrev pub first_word : List ℕ → Option (List ℕ × List ℕ)
first_word [] = None
first_word (b ∷ bs) = if b == 32 then first_word bs else Some (take (word_len false (b ∷ bs)) (b ∷ bs), drop (word_len false (b ∷ bs)) (b ∷ bs))
