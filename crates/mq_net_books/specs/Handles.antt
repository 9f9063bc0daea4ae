-- Handles that are found by halving, while their numbers rise.
use Rattle.std.specs.Prelude.{ℕ, Bool, true, false, List}
use Rattle.mq_calls.specs.declared.state.Handle.{Handle}
use Rattle.mq_handles.specs.Seats.{HasHandles}

-- the numbers rose so far, up to the last one; or they didn't
abbrev pub RiseSo : Bool → ℕ → List Handle → Type 0
RiseSo true last hs = HasHandles hs last
RiseSo false last hs = Unit {0}
