-- Where a delta tells idents as placed, noted from its end on.
use Rattle.std.specs.Prelude.{◌≡◌, ℕ, List, if◌then◌else◌, Option, Some, None, slice_get, drop}
use Rattle.mq_codes.specs.declared.reason.Reason.{Reason}
use Rattle.mq_message.specs.declared.message.Ident.{Ident}
use Rattle.mq_queue.specs.Rows.{same_ident}
use Rattle.mq_calls.specs.declared.deltas.Did.{Did}
use Rattle.mq_calls.specs.declared.deltas.Did.TheVariants as did
use Rattle.mq_spec_network.specs.Ledger.{dead_reason}

-- where an ident is told, behind one entry more
abbrev pub now_told : Did → ℕ → Ident → Option ℕ → Option ℕ
now_told (did.Placed queue other dead) at i before = if same_ident other i then Some at else before
now_told _ at i before = before

abbrev pub told_by : Option Did → ℕ → Ident → Option ℕ → Option ℕ
told_by None at i before = before
told_by (Some d) at i before = now_told d at i before

abbrev pub told_if : List Did → ℕ → Ident → Option ℕ → Option ℕ
told_if ds at i before = told_by (slice_get ds at) at i before

-- the reason that an entry tells
abbrev pub reason_of : Option Did → Option Reason
reason_of None = None
reason_of (Some (did.Placed queue other dead)) = dead
reason_of (Some _) = None

abbrev pub reason_by : List Did → Option ℕ → Option Reason
reason_by ds None = None
reason_by ds (Some at) = reason_of (slice_get ds at)

-- from a place on, and of all, the reason of each ident is found
abbrev pub AreTo : ℕ → (Ident → Option ℕ) → List Did → Type 0
AreTo n home ds = (i : Ident) → reason_by ds (home i) ≡ dead_reason i (drop n ds)

abbrev pub AreTold : (Ident → Option ℕ) → List Did → Type 0
AreTold home ds = (i : Ident) → reason_by ds (home i) ≡ dead_reason i ds
