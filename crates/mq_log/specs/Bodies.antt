-- The bodies that the bytes of a log stand for.
use Rattle.std.specs.Prelude.{◌≡◌, ◌≢◌, ◌⊎◌, ◌<◌, ◌≤◌, ◌^◌, ℕ, suc, zero, ◌+◌, List, [], ◌∷◌, ◌++◌, length, take, drop, if◌then◌else◌, ◌==◌, ◌&&◌, nat_lt}
use Rattle.std.specs.Int.{to_be_bytes, from_be_bytes, w32}

-- a number in four bytes, the high ones first
unfoldable pub number_bytes : ℕ → List ℕ
number_bytes n = to_be_bytes w32 n

-- the number that four bytes are
unfoldable pub number_of : List ℕ → ℕ
number_of bytes = from_be_bytes w32 bytes

-- an open gate, the length and the body
abbrev pub frame : List ℕ → List ℕ
frame body = 165 ∷ (number_bytes (length body) ++ body)

-- the bytes of bodies one behind the other
abbrev pub frames : List (List ℕ) → List ℕ
frames [] = []
frames (body ∷ bodies) = frame body ++ frames bodies

-- a body whose length stands in four bytes
abbrev pub Fits : List ℕ → Type 0
Fits body = length body < 2 ^ 32

-- each of them does
abbrev pub AllFit : List (List ℕ) → Type 0
AllFit [] = Unit {0}
AllFit (body ∷ bodies) = Fits body × AllFit bodies

-- These bodies stand behind open gates, and then comes a gate that isn't open, and anything.
pub record Shut (bytes : List ℕ) (bodies : List (List ℕ)) (gate : ℕ) (rest : List ℕ) : Type 0 where
  pub whole : bytes ≡ frames bodies ++ gate ∷ rest
  pub shut : gate ≢ 165
  pub fits : AllFit bodies

-- The log of these bytes has these bodies. Fewer than two bytes are an empty log.
abbrev pub IsLog : List ℕ → List (List ℕ) → Type 0
IsLog bytes bodies = ((length bytes ≤ 1) × (bodies ≡ [])) ⊎ ((gate : ℕ) × (rest : List ℕ) × Shut bytes bodies gate rest)

-- Bodies stand behind open gates up to this place, and the gate there is open too, but the length, the body or the next
-- gate don't fit behind it.
pub record CutShort (bytes : List ℕ) (place : ℕ) (bodies : List (List ℕ)) (rest : List ℕ) : Type 0 where
  pub some : 1 < length bytes
  pub whole : bytes ≡ frames bodies ++ 165 ∷ rest
  pub at : place ≡ length (frames bodies)
  pub fits : AllFit bodies
  pub short : length rest ≤ 4 + number_of (take 4 rest)

-- These bytes are no log, by the gate at this place.
abbrev pub IsNoLog : List ℕ → ℕ → Type 0
IsNoLog bytes place = (bodies : List (List ℕ)) × (rest : List ℕ) × CutShort bytes place bodies rest

-- the bodies up to the first gate that isn't open or whose body doesn't fit, of which at most k
unfoldable pub bodies_within : ℕ → List ℕ → List (List ℕ)
bodies_within zero bytes = []
bodies_within (suc k) [] = []
bodies_within (suc k) (gate ∷ rest) =
    let n = number_of (take 4 rest) in
    if (gate == 165) && nat_lt (4 + n) (length rest) then take n (drop 4 rest) ∷ bodies_within k (drop (4 + n) rest) else []

-- the bodies of any bytes, those of the log where they are a log
unfoldable pub bodies_of : List ℕ → List (List ℕ)
bodies_of bytes = bodies_within (length bytes) bytes
