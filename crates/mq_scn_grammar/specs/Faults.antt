-- Which of the faults that there are is told.
use Rattle.std.specs.Prelude.{◌≡◌, ◌≤◌}
use Rattle.mq_scn_lines.specs.declared.fault.LineFault.{LineFault}
use Rattle.mq_scn_lines.specs.Faults.{rank}

-- the one fault of what is none of these
abbrev pub IsMissed : {A : Type 0} → LineFault → (A → Type 0) → LineFault → Type 0
IsMissed fault Is f = (f ≡ fault) × ((x : _) → Is x → ⊥)

-- one that there is, where none that there is stands before it
abbrev pub IsTold : (LineFault → Type 0) → LineFault → Type 0
IsTold Has f = Has f × ((g : LineFault) → Has g → rank f ≤ rank g)
