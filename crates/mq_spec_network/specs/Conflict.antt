-- Which settlements of an operator the receivers of a story bear out.
use Rattle.std.specs.Prelude.{ℕ, ◌==◌, nat_lt, Bool, true, false, not, ◌&&◌, ◌||◌, List, [], ◌∷◌, if◌then◌else◌, Option, Some, None, flat_map, slice_get, ◌+◌, ◌≡◌}
use Rattle.std.specs.List.{list_any}
use Rattle.std.specs.Str.{bytes_eq}
pub use Rattle.std.specs.Option.{option_or as or_else}
use Rattle.mq_spec_network.specs.Terms.{Luw, ReceiverData, no_unit, same_unit, Did, History, CableLine, Scenario, Conflict, Plain, receiver_data}
use Rattle.mq_spec_node.specs.from_calls.NoteVariants as notes
use Rattle.mq_spec_node.specs.from_calls.DidVariants as did
use Rattle.mq_spec_network.specs.Story.{Line}
use Rattle.mq_spec_network.specs.Standing.{opening_managers, last_unit, cable_named}

-- What was done, in order, with the manager at which it was done. A settlement whose write was stopped is told by the
-- restart that found it, and not before.
pub record Deed : Type 0 where
  pub manager : ℕ
  pub did : Did

abbrev pub deeds_in : ℕ → List Did → List Deed
deeds_in m [] = []
deeds_in m (d ∷ ds) = record { manager = m; did = d } ∷ deeds_in m ds

abbrev pub deeds : List Line → List Deed
deeds p = flat_map (λ (x : Line). deeds_in x.manager x.entry.effect.delta) p

-- A receiver as a story tells it: its session, whether that is closed, and whether it committed a unit.
pub record Told : Type 0 where
  pub session : ℕ
  pub closed : Bool

abbrev pub told_by : List ℕ → Did → Told → Told
told_by channel (did.Hardened other (notes.Bound partner session last)) t = if bytes_eq channel other then record { session = session; closed = false } else t
told_by channel (did.Hardened other (notes.Closed session)) t = if bytes_eq channel other then record t { closed = true } else t
told_by channel _ t = t

abbrev pub told_after : List ℕ → List Deed → Told → Told
told_after channel [] t = t
told_after channel (d ∷ ds) t = told_after channel ds (told_by channel d.did t)

abbrev pub commits : List ℕ → Luw → Did → Bool
commits channel u (did.Received other v) = bytes_eq channel other && same_unit u v
commits channel u _ = false

abbrev pub committed_in : List ℕ → Luw → List Deed → Bool
committed_in channel u ds = list_any (λ (d : Deed). commits channel u d.did) ds

-- at its opening, the receiver's last unit, and its session
abbrev pub was_last : Scenario → List Plain → List ℕ → Luw → Bool
was_last s ps channel u = not (same_unit u no_unit) && same_unit u (last_unit ps channel (cable_named channel s.cables))

abbrev pub told_of : Option ReceiverData → Told
told_of None = record { session = 0; closed = false }
told_of (Some d) = record { session = d.session; closed = d.closed }

abbrev pub first_told_at : List ℕ → Option Plain → Told
first_told_at channel None = told_of None
first_told_at channel (Some p) = told_of (receiver_data channel p)

abbrev pub first_told_by : List ℕ → List Plain → Option CableLine → Told
first_told_by channel ps None = told_of None
first_told_by channel ps (Some c) = first_told_at channel (slice_get ps c.receiver)

abbrev pub first_told : Scenario → List ℕ → List Plain → Told
first_told s channel ps = first_told_by channel ps (cable_named channel s.cables)

-- RESOLVE COMMIT agrees where the receiver's last unit was this one at its opening or after some entry. RESOLVE BACKOUT
-- agrees where it was at neither, and at the end the receiver takes no more of the unit's session.
abbrev pub is_committed : Scenario → List Plain → List Deed → List ℕ → Luw → Bool
is_committed s ps ds channel u = was_last s ps channel u || committed_in channel u ds

abbrev pub is_past : Luw → Told → Bool
is_past u t = nat_lt u.session t.session || (u.session == t.session && t.closed)

abbrev pub agrees : Scenario → List Plain → List Deed → List ℕ → Luw → Bool → Bool
agrees s ps ds channel u true = is_committed s ps ds channel u
agrees s ps ds channel u false = not (is_committed s ps ds channel u) && is_past u (told_after channel ds (first_told s channel ps))

-- the settlement of an operator that a deed is, if it does not agree over the whole prefix
abbrev pub conflict_of : ℕ → List ℕ → Luw → Bool → Option Conflict
conflict_of m channel u true = None
conflict_of m channel u false = Some (record { manager = m + 1; channel = channel; unit = u })

abbrev pub conflict_did : Scenario → List Plain → List Deed → ℕ → Did → Option Conflict
conflict_did s ps whole m (did.Hardened channel (notes.Resolved u commit true)) = conflict_of m channel u (agrees s ps whole channel u commit)
conflict_did s ps whole m _ = None

abbrev pub conflict_in : Scenario → List Plain → List Deed → Deed → Option Conflict
conflict_in s ps whole d = conflict_did s ps whole d.manager d.did

abbrev pub first_conflict : Scenario → List Plain → List Deed → List Deed → Option Conflict
first_conflict s ps whole [] = None
first_conflict s ps whole (d ∷ ds) = or_else (conflict_in s ps whole d) (first_conflict s ps whole ds)

-- The first accepted RESOLVE of a prefix that does not agree over that prefix.
abbrev pub conflict : Scenario → List History → List Line → Option Conflict
conflict s hs p = first_conflict s (opening_managers s hs) (deeds p) (deeds p)

abbrev pub NoConflict : Scenario → List History → List Line → Type 0
NoConflict s hs p = conflict s hs p ≡ None
