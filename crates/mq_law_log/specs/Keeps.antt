-- The law of a part: what is forced does to the image what the part does to what lasts.
use Rattle.std.specs.Prelude.{◌≡◌, ℕ, nat_le, Bool, true, false, List, [], ◌∷◌, Option, Some, None, Ok}
use Rattle.std.specs.List.{AllByRecursion}
use Rattle.std.specs.Str.{bytes_eq}
use Rattle.mq_message.specs.declared.message.Ident.{Ident}
use Rattle.mq_queue.specs.declared.row.Row.{Row}
use Rattle.mq_queue.specs.Rows.{held_by}
use Rattle.mq_message.specs.declared.place.Holder.TheVariants as holders
use Rattle.mq_queue.specs.Queues.{Lacks}
use Rattle.mq_calls.specs.declared.records.LogRecord.{LogRecord}
use Rattle.mq_calls.specs.State.{Plain, Queue, Change}
use Rattle.mq_calls.specs.declared.state.Batch.{Batch}
use Rattle.mq_calls.specs.declared.state.SenderSide.{SenderSide}
use Rattle.mq_calls.specs.State.Which.{Among}
use Rattle.mq_message.specs.declared.message.Message.{Message}
use Rattle.mq_calls.specs.declared.state.Item.{Item}
use Rattle.mq_calls.specs.declared.state.Item.TheVariants.{Put, Take}
use Rattle.mq_calls.specs.Reads.{stored, is_persistent}
use Rattle.mq_calls.specs.Changes.{apply_all, selects}
use Rattle.mq_calls.specs.Steps.{Part, Step, do_part}
use Rattle.mq_calls.specs.Steps.Step.{Refuse, Do}
use Rattle.mq_spec_manager.specs.Put.{placed}
use Rattle.mq_objects.specs.declared.object.Definitions.{Definitions}
use Rattle.mq_objects.specs.declared.change.ObjectChange.{ObjectChange}
use Rattle.mq_objects.specs.declared.change.ObjectChange.TheVariants as changes
use Rattle.mq_objects.specs.Names.{name_of}
use Rattle.mq_spec_manager.specs.from_sc_apply.{ThePlanned as Planned}
use Rattle.mq_spec_manager.specs.Commands.{renewed}
use Rattle.mq_calls.specs.State.Change.{Connect, Disconnect, OpenHandle, CloseHandle, SetCursor, Pend, EndUnit, MakeStale, CountIdent, Seize, Unseize, SetBound, SetMoment}
use Rattle.mq_spec_manager.specs.Agents.{doubts, Landing, Standing, standing_at, is_present, land, land_changes}
pub use Rattle.mq_spec_manager.specs.Receiving.{received_part}
pub use Rattle.mq_law_manager.specs.Facts.{has_queue}
use Rattle.mq_calls.specs.Images.{lasting}
use Rattle.mq_calls.specs.declared.image.Image.{Image}
use Rattle.mq_calls.specs.declared.image.Shelf.{Shelf}
use Rattle.mq_spec_log.specs.Applies.{suits, fits, stands_on, can_add, can_remove}
use Rattle.mq_spec_log.specs.Records.{doing}
use Rattle.mq_spec_log.specs.Shelves.{added, removed}

-- what a forced record, or none, must say of a change of what lasts
abbrev pub Told : Option LogRecord → Plain → Image → Type 0
Told None p new = new ≡ lasting p
Told (Some r) p new = (suits p.given r (lasting p) ≡ true) × (new ≡ doing r (lasting p))

-- what is done behind the record, wherever the log stands
abbrev pub Does : Part → Plain → Type 0
Does part p = Told part.forced p (lasting (apply_all part.changes p))

abbrev pub Keeps : Part → Plain → Type 0
Keeps part p = Told part.forced p (lasting (do_part part p))

-- each row stands in its lane or behind it
abbrev pub AreLaned : List Row → Type 0
AreLaned [] = Unit {0}
AreLaned (row ∷ rows) = AllByRecursion (λ (other : Row). nat_le row.place.lane other.place.lane ≡ true) rows × AreLaned rows

-- no unit in doubt lists the ident
abbrev pub AreUnlisted : Ident → Plain → Type 0
AreUnlisted ident p = AllByRecursion (λ (s : SenderSide). doubts ident s.hardened.in_doubt ≡ false) p.channels.senders

-- nor has a row it
pub record IsNew (ident : Ident) (p : Plain) : Type 0 where
  pub rows : AllByRecursion (λ (q : Queue). Lacks ident q.rows) p.queues
  pub lists : AreUnlisted ident p

abbrev pub AllKeep : List Part → Plain → Type 0
AllKeep [] p = Unit {0}
AllKeep (part ∷ parts) p = Keeps part p × AllKeep parts (do_part part p)

abbrev pub StepKeeps : {F T : Type 0} → Step F T → Plain → Type 0
StepKeeps (Refuse reason) p = Unit {0}
StepKeeps (Do reply parts) p = AllKeep parts p

-- a message can be placed: the queue is there, fits it, and the ident is new
pub record IsPlaceable (queue : List ℕ) (m : Message) (p : Plain) : Type 0 where
  pub there : has_queue queue p.queues ≡ true
  pub laned : AreLaned (stored queue p).rows
  pub fit : is_persistent m ≡ true → fits queue m p.definitions ≡ true
  pub fresh : is_persistent m ≡ true → IsNew m.ident p

-- each at the state that it meets
abbrev pub ArePlaceable : List Item → Plain → Type 0
ArePlaceable [] p = Unit {0}
ArePlaceable (Put queue m ∷ items) p = IsPlaceable queue m p × ArePlaceable items (apply_all (placed queue m) p)
ArePlaceable (Take queue ident persistent ∷ items) p = ArePlaceable items p

-- a row can be removed: one that lasts is there and free; of one that doesn't no lasting row has the ident
abbrev pub IsTakeable : Bool → List ℕ → Ident → Image → Type 0
IsTakeable true queue ident i = can_remove (record { queue = queue; ident = ident }) i ≡ true
IsTakeable false queue ident i = AllByRecursion (λ (s : Shelf). Lacks ident s.rows) i.shelves

abbrev pub less_item : Bool → List ℕ → Ident → Image → Image
less_item true queue ident i = removed (record { queue = queue; ident = ident }) i
less_item false queue ident i = i

abbrev pub AreTakeable : List Item → Image → Type 0
AreTakeable [] i = Unit {0}
AreTakeable (Put queue m ∷ items) i = AreTakeable items i
AreTakeable (Take queue ident persistent ∷ items) i = IsTakeable persistent queue ident i × AreTakeable items (less_item persistent queue ident i)

abbrev pub AreGone : List ℕ → List Row → Image → Type 0
AreGone queue [] i = Unit {0}
AreGone queue (row ∷ rows) i = IsTakeable (is_persistent row.message) queue row.message.ident i × AreGone queue rows (less_item (is_persistent row.message) queue row.message.ident i)

-- the rows that a batch holds are those that it lists
abbrev pub HoldsJust : Batch → Queue → Type 0
HoldsJust b q = AllByRecursion (λ (row : Row). held_by (holders.Batch b.channel) row.by ≡ selects (Among b.queue b.idents) q.name row) q.rows

abbrev pub HoldsNone : List ℕ → Queue → Type 0
HoldsNone channel q = AllByRecursion (λ (row : Row). held_by (holders.Batch channel) row.by ≡ false) q.rows

-- a queue whose triggers are switched on is there
abbrev pub SwitchesAt : ObjectChange → Planned → Definitions → Plain → Type 0
SwitchesAt (changes.Set new) planned d p = planned.switches_on ≡ true → has_queue (name_of new) (apply_all (renewed new d) p).queues ≡ true
SwitchesAt (changes.SetManager m) planned d p = Unit {0}
SwitchesAt (changes.Delete subject) planned d p = Unit {0}

-- A message that a receiver's commit places, at the state that it meets.
abbrev pub LandTold : Bool → Landing → Standing → Plain → Type 0
LandTold true l s p = (can_add (record { queue = l.queue; message = l.message }) (lasting p) ≡ true)
    × (lasting (apply_all (land_changes l s) p) ≡ added (record { queue = l.queue; message = l.message }) (lasting p))
LandTold false l s p = lasting (apply_all (land_changes l s) p) ≡ lasting p

abbrev pub AllLand : List ℕ → List Message → Plain → Type 0
AllLand channel [] p = Unit {0}
AllLand channel (m ∷ ms) p = ((l : Landing) → is_present (standing_at m p) ≡ false → land channel m p ≡ Ok l → LandTold (is_persistent l.message) l (standing_at m p) p × AllLand channel ms (apply_all (land_changes l (standing_at m p)) p))
    × (is_present (standing_at m p) ≡ true → AllLand channel ms p)

-- changes of what no log keeps
abbrev pub is_aside : Change → Bool
is_aside (Connect c) = true
is_aside (Disconnect number) = true
is_aside (OpenHandle number h) = true
is_aside (CloseHandle number handle) = true
is_aside (SetCursor number handle place) = true
is_aside (Pend number item) = true
is_aside (EndUnit number) = true
is_aside (MakeStale step) = true
is_aside CountIdent = true
is_aside (Seize s) = true
is_aside (Unseize channel) = true
is_aside (SetBound channel bound) = true
is_aside (SetMoment moment) = true
is_aside _ = false

-- A message that can land where no row has its ident; lists of units in doubt may have it.
pub record IsLandable (queue : List ℕ) (m : Message) (p : Plain) : Type 0 where
  pub there : has_queue queue p.queues ≡ true
  pub laned : AreLaned (stored queue p).rows
  pub fit : is_persistent m ≡ true → fits queue m p.definitions ≡ true
  pub rows : is_persistent m ≡ true → AllByRecursion (λ (q : Queue). Lacks m.ident q.rows) p.queues

-- A message that came back to where a unit in doubt holds its ident: nobody else has it.
pub record CameBack (queue : List ℕ) (l : Landing) (p : Plain) : Type 0 where
  pub elsewhere : AllByRecursion (λ (s : Shelf). bytes_eq s.name queue ≡ false → Lacks l.message.ident s.rows) (lasting p).shelves
  pub held : stands_on l.message.ident (lasting p).shelves ≡ false
  pub there : has_queue l.queue p.queues ≡ true
  pub laned : AllByRecursion (λ (q : Queue). AreLaned q.rows) p.queues
  pub fit : fits l.queue l.message p.definitions ≡ true
