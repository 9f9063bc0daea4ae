-- Which receivers are bound, with a place for each that may be.
use Rattle.std.specs.Prelude.{◌≡◌, ℕ, zero, suc, Bool, true, false, List, [], ◌∷◌, map, if◌then◌else◌}
use Rattle.std.specs.List.{list_any}
use Rattle.std.specs.Str.{bytes_eq}
use Rattle.mq_sides.specs.declared.bonds.Bond.{Bond}

-- the channels that are bound, in order
abbrev pub bound_of : List Bond → List (List ℕ)
bound_of [] = []
bound_of (b ∷ bs) = if b.bound then b.channel ∷ bound_of bs else bound_of bs

-- the channels that have a place, in order
abbrev pub seats_of : List Bond → List (List ℕ)
seats_of bs = map (λ (b : Bond). b.channel) bs

-- the channel at a place isn't bound any more
abbrev pub unbound_at : ℕ → List Bond → List Bond
unbound_at n [] = []
unbound_at zero (b ∷ bs) = record b { bound = false } ∷ bs
unbound_at (suc n) (b ∷ bs) = b ∷ unbound_at n bs

-- the channels that are bound, and those that have a place
pub record BondsKept : Type 0 where
  pub bound : List (List ℕ)
  pub seats : List (List ℕ)

-- a channel has a place
abbrev pub has_seat : List ℕ → List (List ℕ) → Bool
has_seat channel seats = list_any (bytes_eq channel) seats

-- each that had a place has one
abbrev pub KeepsSeats : List (List ℕ) → List (List ℕ) → Type 0
KeepsSeats old new = (name : List ℕ) → has_seat name old ≡ true → has_seat name new ≡ true
