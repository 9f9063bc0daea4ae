-- What a restart and a first start make of an image: rows are numbered 1..n by place, no trigger is due; and which ends of a
-- restart there are, by the device calls before an armed cut.
use Rattle.std.specs.Prelude.{◌≡◌, ℕ, Bool, true, false, List, [], ◌∷◌, Some, None, map, codes, refl}
use Rattle.std.proofs.Common.{arith, inl, inr}
use Rattle.mq_sc_apply.specs.from_calls.Words.{Row, Plain, stored, with_queue, lasting, next}
use Rattle.mq_sc_apply.specs.from_calls.ReturnVariants.{Comes, Fails}
use Rattle.mq_sc_apply.specs.from_calls.RestartFaultVariants as faults
use Rattle.mq_spec_manager.specs.Put.{mqput}
use Rattle.mq_spec_manager.specs.Stops.{stop, restart, CanReturn, CanReturnTold, first_start, next_started}
use Rattle.mq_sc_apply.specs.from_calls.LogRecordVariants as records
use Rattle.mq_spec_manager.proofs.Script.{london_with, local, connect, connection, handle, shared_output, open_at, plain_md, persistent_md}

abbrev q1 : List ℕ
q1 = codes "Q1"

abbrev opened : Plain
opened = open_at 1 q1 shared_output (connect (london_with 268435456 (local q1 [] ∷ [])))

abbrev put : Bool → Plain → Plain
put true p = next (mqput (connection 1) (handle 1) persistent_md (codes "A") false p) p
put false p = next (mqput (connection 1) (handle 1) plain_md (codes "A") false p) p

-- four puts, of which the second and the fourth last
abbrev filled : Plain
filled = put true (put false (put true (put false opened)))

abbrev arrivals : Plain → List ℕ
arrivals p = map (λ (row : Row). row.place.arrival) (stored q1 p).rows

abbrev again : Plain → Plain
again p = (restart (Comes false 0) (stop p).next).next

before_numbers : arrivals filled ≡ 1 ∷ 2 ∷ 3 ∷ 4 ∷ []
before_numbers = refl

again_numbers : arrivals (again filled) ≡ 1 ∷ 2 ∷ []
again_numbers = refl

again_arrivals : (stored q1 (again filled)).arrivals ≡ 2
again_arrivals = refl

-- a first start of the same image numbers them so too
abbrev anew : Plain
anew = first_start filled.given (lasting filled) filled.log.length 0

anew_numbers : arrivals anew ≡ 1 ∷ 2 ∷ []
anew_numbers = refl

anew_incarnation : anew.numbers.incarnation ≡ (again filled).numbers.incarnation
anew_incarnation = refl

anew_length : anew.log.length ≡ (again filled).log.length
anew_length = refl

-- a trigger that was due is due no more, and the queue counts as TRIGGER again
abbrev due : Plain
due = with_queue (record (stored q1 filled) { due = 2; last_due = Some 7; switched_off = true }) filled

due_none : (stored q1 (again due)).due ≡ 0
due_none = refl

due_on : (stored q1 (again due)).switched_off ≡ false
due_on = refl

-- the record that a restart forces, behind one of a restart that was stopped
started : next_started 1 opened ≡ records.Started 1 (codes "LONDON") 3
started = refl

-- with a cut armed at the fourth call: a fault in the Started write leaves at most two
in_write : CanReturn (Fails faults.Disk true 3) None 0 4 → ⊥
in_write (inl none) = omega (arith, none.0)
in_write (inr made) = omega (arith, made.1)

-- a cut at the seventh call: only where the file was emptied, which a disk that tells never is
emptied : CanReturn (Fails faults.Cut true 0) None 0 7
emptied = (refl, omega arith, omega arith)

not_told : CanReturnTold (Fails faults.Cut true 0) None 0 7 → ⊥
not_told h = omega (arith, h.2)

-- it comes up only where the cut is behind its five calls
comes_up : CanReturn (Comes false 0) None 0 5 → ⊥
comes_up h = omega (arith, h.2 (omega arith))
