-- Text in single quotes: a quote in it is doubled.
use Rattle.std.specs.Prelude.{ℕ, ◌+◌, ◌==◌, List, [], ◌∷◌, ◌++◌, if◌then◌else◌, Option, Some, None}
use Rattle.std.specs.Option.{option_map}

abbrev pub doubled : List ℕ → List ℕ
doubled [] = []
doubled (b ∷ bs) = if b == 39 then 39 ∷ 39 ∷ doubled bs else b ∷ doubled bs

abbrev pub quoted : List ℕ → List ℕ
quoted text = 39 ∷ doubled text ++ 39 ∷ []

abbrev pub longer : ℕ → Option ℕ → Option ℕ
longer n len = option_map (λ k. n + k) len

-- behind an opening quote: how many bytes there are up to the closing one and with it, where there is one
abbrev pub quoted_len : List ℕ → Option ℕ
quoted_len [] = None
quoted_len (b ∷ []) = if b == 39 then Some 1 else None
quoted_len (b ∷ c ∷ bs) = if b == 39 then (if c == 39 then longer 2 (quoted_len bs) else Some 1) else longer 1 (quoted_len (c ∷ bs))

-- behind an opening quote: the text up to the closing one
abbrev pub undoubled : List ℕ → List ℕ
undoubled [] = []
undoubled (b ∷ []) = if b == 39 then [] else b ∷ []
undoubled (b ∷ c ∷ bs) = if b == 39 then (if c == 39 then 39 ∷ undoubled bs else []) else b ∷ undoubled (c ∷ bs)

-- the text of a piece that begins with a quote
abbrev pub unquoted : List ℕ → List ℕ
unquoted [] = []
unquoted (b ∷ bs) = undoubled bs
