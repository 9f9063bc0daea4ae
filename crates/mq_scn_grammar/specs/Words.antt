-- The words of a line: what a word is, and what stands between words.
use Rattle.std.specs.Prelude.{◌≡◌, ◌⊎◌, ℕ, List, [], ◌∷◌, ◌++◌}
pub use Rattle.mq_base.specs.Members.{Mem}

-- blanks alone
abbrev pub AreBlanks : List ℕ → Type 0
AreBlanks [] = Unit {0}
AreBlanks (b ∷ bs) = (b ≡ 32) × AreBlanks bs

-- nothing, or bytes of which the first is a blank
abbrev pub BeginsBlank : List ℕ → Type 0
BeginsBlank [] = Unit {0}
BeginsBlank (b ∷ bs) = b ≡ 32

-- a byte that is no blank and no quote
abbrev pub IsPlain : List ℕ → Type 0
IsPlain bytes = (b : ℕ) × (bytes ≡ b ∷ []) × (b ≡ 32 → ⊥) × (b ≡ 39 → ⊥)

-- two quotes with bytes between them that are no quotes; blanks may be among them
abbrev pub IsInQuotes : List ℕ → Type 0
IsInQuotes bytes = (inner : List ℕ) × (bytes ≡ 39 ∷ (inner ++ 39 ∷ [])) × (Mem 39 inner → ⊥)

-- pieces of a word, one behind the other
abbrev pub ArePieces : List (List ℕ) → List ℕ → Type 0
ArePieces [] bytes = bytes ≡ []
ArePieces (p ∷ ps) bytes = (rest : List ℕ) × (bytes ≡ p ++ rest) × (IsPlain p ⊎ IsInQuotes p) × ArePieces ps rest

-- a word is one piece or more, so that its blanks stand in quotes and its quotes are closed
abbrev pub IsWord : List ℕ → Type 0
IsWord bytes = (piece : List ℕ) × (pieces : List (List ℕ)) × ArePieces (piece ∷ pieces) bytes

-- a text is blanks and words with blanks between
abbrev pub AreWords : List (List ℕ) → List ℕ → Type 0
AreWords [] text = AreBlanks text
AreWords (w ∷ ws) text = (blanks : List ℕ) × (rest : List ℕ) × (text ≡ blanks ++ (w ++ rest)) × AreBlanks blanks × IsWord w × BeginsBlank rest × AreWords ws rest

-- a word whose last quote nothing closes, so that it goes on to the end
abbrev pub IsOpenWord : List ℕ → Type 0
IsOpenWord bytes = (front : List ℕ) × (pieces : List (List ℕ)) × (inner : List ℕ) × (bytes ≡ front ++ 39 ∷ inner) × ArePieces pieces front × (Mem 39 inner → ⊥)

-- the first word of a text, and what stands behind it
abbrev pub IsFirstWord : (word rest text : List ℕ) → Type 0
IsFirstWord word rest text = (blanks : List ℕ) × (text ≡ blanks ++ (word ++ rest)) × AreBlanks blanks × ((IsWord word × BeginsBlank rest) ⊎ (IsOpenWord word × (rest ≡ [])))

-- a text that is this one word
abbrev pub IsOnly : (word text : List ℕ) → Type 0
IsOnly word text = (front : List ℕ) × (back : List ℕ) × (text ≡ front ++ (word ++ back)) × AreBlanks front × AreBlanks back
