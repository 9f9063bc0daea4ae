-- A unit in doubt that is settled: its rows go, or are free again.
use Rattle.std.proofs.Common.{◌≡◌, ℕ, ◌+◌, ◌-◌, ◌≤◌, Bool, true, false, List, [], ◌∷◌, length, map, refl, ap, arith, sym, subst, ◌∙◌}
use Rattle.std.specs.Prelude.{Option, Some, None, Err, find, is_some, not, option_map}
use Rattle.mq_calls.specs.Recovery.{listed}
use Rattle.mq_message.specs.declared.place.Holder.{Holder}
use Rattle.mq_message.specs.declared.place.Holder.TheVariants as holders
use Rattle.mq_calls.specs.declared.agents.Note.TheVariants as notes
use Rattle.mq_calls.specs.declared.records.LogRecord.TheVariants as records
use Rattle.mq_calls.specs.State.{Queue as StateQueue}
use Rattle.mq_calls.specs.Words.{Ident, Row, Luw, Plain, Part, Do, SenderData, data_settled, settle_by, HeldBy, selects, sender_or, sender_data, apply, apply_all}
use Rattle.mq_calls.specs.declared.records.Remove.{Remove}
use Rattle.mq_calls.specs.State.Change.{SetSender}
use Rattle.mq_spec_manager.specs.Agents.{CanHarden, harden, held_rows, settle_change, unit_of}
use Rattle.mq_core.specs.declared.parts.StoppedWrite.TheVariants as writes
use Rattle.mq_core.specs.Views.{PartsValue, plain_of, frozen_of, noted}
use Rattle.mq_core.specs.Ties.{EndsReady, Tied, mode_is_up, times_in_rows}
use Rattle.mq_core.proofs.ForceLaws.{times_keep}
use Rattle.mq_agents.specs.Settling.{IsShortOf, freed_room, settled_in, rows_settled, settled_changes, settled_told, with_named}
use Rattle.mq_agents.proofs.EndLaws.{with_rows, tied_rows, rows_view, times_freed}
use Rattle.std.specs.Str.{bytes_eq}
use Rattle.mq_sync.specs.declared.data.InDoubt.{InDoubt}
use Rattle.mq_calls.specs.Reads.{in_doubt_of, sender_in}
use Rattle.mq_calls.specs.declared.state.SenderSide.{SenderSide}
use Rattle.mq_place.specs.Rooms.{RoomStays}
use Rattle.mq_sides.specs.Kept.{told_need}
use Rattle.mq_sides.specs.Places.{AreByName}
use Rattle.mq_core.specs.declared.parts.ChannelEnds.{ChannelEnds}
use Rattle.mq_core.specs.Forced.{HasMoreRoom}
use Rattle.mq_agents.specs.declared.hardening.Unwritten.{Unwritten}
use Rattle.mq_agents.specs.declared.hardening.Unwritten.TheVariants as unwritten
use Rattle.mq_agents.specs.Written.{IsAside, Lacks, drawn_if, drawn_need, with_senders}
use Rattle.mq_agents.proofs.WriteLaws.{aside_trans, drawn_if_aside, more_aside, not_wanted, roomed_more}
use Rattle.mq_agents.proofs.ReadyLaws.{doubt_found, sender_left}
use Rattle.mq_core.proofs.PutLaws.{tied_roomier}
use Rattle.mq_calls.specs.Words.{set_sender}

settled_named : (commit : Bool) (by : Holder) (q : StateQueue) → (settled_in commit by q).name ≡ q.name
settled_named true by q = refl
settled_named false by q = refl

settled_times : (commit : Bool) (by : Holder) (i : Ident) (q : StateQueue) → times_in_rows i (settled_in commit by q).rows ≤ times_in_rows i q.rows
settled_times true by i q = times_keep i (λ (row : Row). not (selects (HeldBy by) q.name row)) q.rows
settled_times false by i q = omega (arith, times_freed i (HeldBy by) q)

pub settled_tied : (commit : Bool) (by : Holder) (x : PartsValue) → Tied x → Tied (rows_settled commit by x)
unfolding with_rows
settled_tied commit by x t = tied_rows (settled_in commit by) (settled_named commit by) (settled_times commit by) x.ends x (λ w. w) t

with_queues : Plain → List StateQueue → Plain
with_queues p qs = record p { queues = qs }

pub settled_view : (commit : Bool) (by : Holder) (x : PartsValue) → mode_is_up x.mode ≡ true → plain_of (rows_settled commit by x) ≡ record (plain_of x) { queues = map (settled_in commit by) (plain_of x).queues }
unfolding with_rows
settled_view commit by x up = rows_view (settled_in commit by) x.ends x up

settle_by_rows : Bool → Holder → Plain → Plain
settle_by_rows commit by p = record p { queues = map (settled_in commit by) p.queues }

rows_first : (commit : Bool) (channel : List ℕ) (d : SenderData) (p : Plain) → settle_by_rows commit (holders.Batch channel) (apply (SetSender channel d) p) ≡ apply_all (settle_change commit channel ∷ SetSender channel d ∷ []) p
unfolding settle_by_rows
rows_first true channel d p = refl
rows_first false channel d p = refl

-- what the plain manager then is
pub settled_done : (commit : Bool) (channel : List ℕ) (d : SenderData) (z : PartsValue) (p : Plain) → mode_is_up z.mode ≡ true → plain_of z ≡ apply (SetSender channel d) p
    → plain_of (rows_settled commit (holders.Batch channel) z) ≡ apply_all (settle_change commit channel ∷ SetSender channel d ∷ []) p
unfolding settle_by_rows
settled_done commit channel d z p up e = settled_view commit (holders.Batch channel) z up ∙ ap (settle_by_rows commit (holders.Batch channel)) e ∙ rows_first commit channel d p

abbrev pub settled_part : Bool → Bool → List ℕ → Luw → List Remove → SenderData → Part
settled_part commit operator channel unit rows d = record {
  forced = Some (records.Resolved channel unit commit operator);
  changes = settled_changes commit channel d;
  delta = settled_told commit operator channel unit rows;
}

-- nothing is in doubt then
pub settled_none : (commit : Bool) (d : SenderData) → (data_settled (Some (settle_by commit)) d).in_doubt ≡ None
settled_none true d = refl
settled_none false d = refl

-- the step
pub settles_as : (commit operator : Bool) (channel : List ℕ) (unit : Luw) (rows : List Remove) (old : SenderData) (p : Plain) → rows ≡ held_rows (holders.Batch channel) p → old ≡ sender_or (sender_data channel p)
    → harden channel (notes.Resolved unit commit operator) p ≡ Do tt (settled_part commit operator channel unit rows old ∷ [])
settles_as commit operator channel unit rows old p listed was = λ i. Do tt (settled_part commit operator channel unit (sym listed i) (sym was i) ∷ [])

-- what is noted where its write is stopped
pub settled_noted : (commit operator : Bool) (channel : List ℕ) (unit : Luw) (rows : List Remove) (old : SenderData) (x : PartsValue) → old ≡ sender_or (sender_data channel (plain_of x))
    → noted (frozen_of x) (Some (writes.Settled channel unit commit operator rows))
    ≡ Some (record { written = records.Resolved channel unit commit operator; changes = settled_changes commit channel old; delta = settled_told commit operator channel unit rows })
settled_noted commit operator channel unit rows old x was =
    λ i. Some (record { written = records.Resolved channel unit commit operator; changes = settled_changes commit channel (sym was i); delta = settled_told commit operator channel unit rows })

-- Rows were named, and bytes that were set aside are room again.
pub listed_more : (x k : PartsValue) → k ≡ with_named k.ends.rows x → RoomStays x.ends.rows k.ends.rows → HasMoreRoom x k
listed_more x k same room = roomed_more x k k.ends.rows x.log.room x.log.spare x.body same (omega arith) (omega arith) room (omega arith)

pub drawn_more : (had : Bool) (x k y : PartsValue) → HasMoreRoom x k → y ≡ drawn_if had k → had ≡ false → HasMoreRoom x y
drawn_more had x k y m e no_ = subst (HasMoreRoom x) (sym (e ∙ ap (λ (b : Bool). drawn_if b k) no_)) m

pub drawn_aside_if : (had : Bool) (x k y : PartsValue) → HasMoreRoom x k → y ≡ drawn_if had k → IsAside x y
drawn_aside_if had x k y m e = aside_trans x k y (more_aside x k m) (drawn_if_aside had k y e)

pub drawn_ends : (had : Bool) (k y : PartsValue) → y ≡ drawn_if had k → y.ends ≡ k.ends
drawn_ends true k y e = ap (λ (p : PartsValue). p.ends) e
drawn_ends false k y e = ap (λ (p : PartsValue). p.ends) e

pub drawn_spare : (had : Bool) (k y : PartsValue) → y ≡ drawn_if had k → y.log.spare ≡ k.log.spare - drawn_need had
drawn_spare true k y e = ap (λ (p : PartsValue). p.log.spare) e
drawn_spare false k y e = let a = ap (λ (p : PartsValue). p.log.spare) e in omega (arith, a)

drawn_roomy : (k y : PartsValue) (n : ℕ) → y ≡ drawn_if true k → n ≤ 39 → k.log.reserved ≤ k.log.room → y.log.reserved + (5 + n) ≤ y.log.room
drawn_roomy k y n e small room =
    let a = ap (λ (p : PartsValue). p.log.room) e in
    let b = ap (λ (p : PartsValue). p.log.reserved) e in
    omega (arith, a, b, small, room)

pub unless : (b : Bool) → (b ≡ true → ⊥) → b ≡ false
unless true no_ = absurd (no_ refl)
unless false no_ = refl

-- So a call stands before its write: rows are named in k, and what was set aside is drawn in y.
pub record IsSettling (had : Bool) (channel : List ℕ) (x k y : PartsValue) : Type 0 where
  pub up : mode_is_up x.mode ≡ true
  pub tied : Tied x
  pub more : HasMoreRoom x k
  pub drawn : y ≡ drawn_if had k
  pub doubt : had ≡ is_some (in_doubt_of (sender_in channel k.ends.senders))

module _ (had : Bool) (channel : List ℕ) (x k y : PartsValue) (f : IsSettling had channel x k y) where
  pub settling_aside : IsAside x y
  settling_aside = drawn_aside_if had x k y f.more f.drawn

  named_up : mode_is_up k.mode ≡ true
  named_up = ap (λ (p : PartsValue). mode_is_up p.mode) f.more.same ∙ f.up

  pub settling_up : mode_is_up y.mode ≡ true
  settling_up = ap (λ (p : PartsValue). mode_is_up p.mode) settling_aside.same ∙ f.up

  pub settling_ready : EndsReady k.ends k.log.spare
  settling_ready = ((tied_roomier x k f.more f.tied).up named_up).ends

  pub settling_live : y.log.live ≡ true
  settling_live = ap (λ (p : PartsValue). p.log.live) settling_aside.same ∙ (f.tied.up f.up).live

  pub settling_ends : (side : SenderSide) → side.channel ≡ channel → side.hardened.in_doubt ≡ None → EndsReady (with_senders (set_sender side y.ends.senders) y.ends) y.log.spare
  settling_ends side named none =
      let ends : y.ends ≡ k.ends = drawn_ends had k y f.drawn in
      let w = sender_left had side channel k.ends k.log.spare settling_ready named none f.doubt in
      subst (λ (n : ℕ). EndsReady (with_senders (set_sender side y.ends.senders) y.ends) n) (sym (drawn_spare had k y f.drawn))
      (subst (λ (e : ChannelEnds). EndsReady (with_senders (set_sender side e.senders) e) (k.log.spare - drawn_need had)) (sym ends) w)

  -- no memory was wanted for a unit that was in doubt
  pub settling_none : (side : List ℕ) (n : ℕ) (u : Unwritten) → had ≡ true → n ≤ 39 → side ≡ channel
      → Lacks {T = Option SenderSide} (AreByName (λ (s : SenderSide). s.channel) y.ends.senders → find (λ (s : SenderSide). bytes_eq side s.channel) y.ends.senders ≡ None) (5 + n) y.log (Err u) → u ≡ unwritten.NoMemory → ⊥
  settling_none side n u yes_ small named l =
      let same : y.ends.senders ≡ k.ends.senders = ap (λ (d : ChannelEnds). d.senders) (drawn_ends had k y f.drawn) in
      let some : is_some (in_doubt_of (sender_in side y.ends.senders)) ≡ true = (λ i. is_some (in_doubt_of (sender_in (named i) (same i)))) ∙ sym f.doubt ∙ yes_ in
      not_wanted (Option SenderSide) (AreByName (λ (s : SenderSide). s.channel) y.ends.senders → find (λ (s : SenderSide). bytes_eq side s.channel) y.ends.senders ≡ None) (5 + n) y.log u l
      (drawn_roomy k y n (f.drawn ∙ ap (λ (b : Bool). drawn_if b k) yes_) small ((tied_roomier x k f.more f.tied).up named_up).room)
      (λ none. doubt_found side y.ends.senders some (none (subst (AreByName (λ (s : SenderSide). s.channel)) (sym same) settling_ready.senders)))

  pub settling_more : (side : List ℕ) (n : ℕ) (u : Unwritten) → n ≤ 39 → side ≡ channel
      → Lacks {T = Option SenderSide} (AreByName (λ (s : SenderSide). s.channel) y.ends.senders → find (λ (s : SenderSide). bytes_eq side s.channel) y.ends.senders ≡ None) (5 + n) y.log (Err u) → u ≡ unwritten.NoMemory → HasMoreRoom x y
  settling_more side n u small named l none = drawn_more had x k y f.more f.drawn (unless had (λ yes_. settling_none side n u yes_ small named l none))

-- what is named is not more than what the unit lists
pub no_short : (o : Option InDoubt) (room : ℕ) → IsShortOf room o → length (listed o) ≤ room → is_some o ≡ true → ⊥
no_short None room short le some = cc some
no_short (Some d) room short le some = let a = short d refl in omega (arith, a, le)

-- there is room for all that is told
pub told_enough : (o : Option InDoubt) (had : Bool) (count room now : ℕ) → had ≡ is_some o → ((d : InDoubt) → o ≡ Some d → count ≤ length d.idents) → (had ≡ false → count + 1 ≤ room) → told_need o ≤ now → (o ≡ None → now ≡ room) → count + 1 ≤ now
told_enough None had count room now is few some need same = let a = some is in let b = same refl in omega (arith, a, b)
told_enough (Some d) had count room now is few some need same = let a = few d refl in omega (arith, a, need)

-- the rows of a note are those that are held
pub freed_ready : (less : ℕ) (q y : PartsValue) → y ≡ with_named (freed_room less q.ends.rows) q → EndsReady (record q.ends { rows = freed_room less q.ends.rows }) q.log.spare → EndsReady y.ends y.log.spare
freed_ready less q y e w = subst (λ (p : PartsValue). EndsReady p.ends p.log.spare) (sym e) w

-- a unit that is settled by its number is in doubt
doubt_there : (o : Option InDoubt) (unit : Luw) → option_map unit_of o ≡ Some unit → is_some o ≡ true
doubt_there None unit e = absurd cc
doubt_there (Some d) unit e = refl

pub is_doubted : (channel : List ℕ) (unit : Luw) (commit operator : Bool) (p : Plain) → CanHarden channel (notes.Resolved unit commit operator) p → is_some (in_doubt_of (sender_data channel p)) ≡ true
is_doubted channel unit commit operator p can = doubt_there (in_doubt_of (sender_data channel p)) unit can.0
