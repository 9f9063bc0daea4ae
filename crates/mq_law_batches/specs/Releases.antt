-- What ends ask of a manager on their batches: rows are held, released, and settled; and a stop releases all that are not prepared.
use Rattle.std.specs.Prelude.{ℕ, Bool, ◌≡◌, ◌≢◌, ◌==◌, false, List, [], ◌∷◌, None, Some}
use Rattle.mq_message.specs.declared.message.Ident.{Ident}
use Rattle.mq_message.specs.declared.place.Holder.TheVariants as holders
use Rattle.mq_sync.specs.declared.unit.Unit.{Unit as Luw}
use Rattle.mq_sync.specs.declared.data.SenderData.{SenderData}
use Rattle.mq_sync.specs.Settlement.{data_settled, settle_by}
use Rattle.mq_calls.specs.declared.agents.Note.{Note}
use Rattle.mq_calls.specs.declared.agents.Note.TheVariants as notes
use Rattle.mq_history.specs.declared.scenario.Scenario.{Scenario}
use Rattle.mq_calls.specs.State.{Change, Plain}
use Rattle.mq_calls.specs.declared.state.Batch.{Batch}
use Rattle.mq_calls.specs.State.Which.{Among, HeldBy}
use Rattle.mq_calls.specs.State.Change.{AddBatch, DropBatch, Hold, Release, SetSender}
use Rattle.mq_calls.specs.Reads.{batch_of, in_doubt_of, sender_data}
use Rattle.mq_calls.specs.Changes.{apply_all}
use Rattle.mq_spec_manager.specs.Hardening.{settle_change}
use Rattle.mq_law_events.specs.from_spec_network.Story.{Mem}
use Rattle.mq_law_events.specs.from_law_rows.World.{Book, Ghost, Inv}
use Rattle.mq_law_events.specs.from_spec_network.Ledger.{Ledger, stop}
use Rattle.mq_law_events.specs.from_law_seen.Seen.{book_of, last_of, world_of}
use Rattle.mq_law_events.specs.Tied.{IsFresh, IsTold}

-- the channel's batch is released, as its end asks of the manager
abbrev pub release_changes : List ℕ → List Change
release_changes channel = Release (HeldBy (holders.Batch channel)) false ∷ DropBatch channel ∷ []

-- free rows are held as the channel's batch
abbrev pub held_changes : List ℕ → Luw → List ℕ → List Ident → List Change
held_changes channel unit queue idents = Hold (Among queue idents) (holders.Batch channel) ∷ AddBatch (record { channel = channel; unit = unit; queue = queue; idents = idents }) ∷ []

-- a unit in doubt is settled, as its end asks of the manager
abbrev pub settled_changes : (commit : Bool) → List ℕ → SenderData → List Change
settled_changes commit channel d = settle_change commit channel ∷ SetSender channel (data_settled (Some (settle_by commit)) d) ∷ []

-- what ends harden beside settlements
abbrev pub IsWord : Note → Type 0
IsWord (notes.Session partner session) = Unit {0}
IsWord (notes.Resolved unit commit operator) = ⊥
IsWord (notes.Bound partner session last) = Unit {0}
IsWord (notes.Closed session) = Unit {0}
IsWord (notes.SeqSet end last) = Unit {0}

-- batches are released, one after another
abbrev pub let_go : List Batch → Plain → Plain
let_go [] p = p
let_go (b ∷ bs) p = let_go bs (apply_all (release_changes b.channel) p)

-- No channel has both a batch and a unit in doubt, and no batch is its receiver's last unit: none was prepared.
pub record AreUnprepared (s : Scenario) (ps : List Plain) (p : Plain) : Type 0 where
  pub alone : (b : Batch) → Mem b p.channels.batches → in_doubt_of (sender_data b.channel p) ≡ None
  pub apart : (c : List ℕ) (b : Batch) → batch_of c p.channels.batches ≡ Some b → last_of s ps c (Some p) ≢ b.unit

-- the network has the facts, wherever idents belong by now
pub record Stands (s : Scenario) (given : Ident → Bool) (ps : List Plain) (g : Ghost) (b : Book) : Type 0 where
  pub ghost : Ghost
  pub sent : ghost.sent ≡ g.sent
  pub source : ghost.source ≡ g.source
  pub operated : ghost.operated ≡ g.operated
  pub loose : ghost.loose ≡ g.loose
  pub inv : Inv (world_of s given ps) ghost b

-- After a stop or a restart of manager m the network stands, and the ledger tells the manager again.
pub record Rested (s : Scenario) (given : Ident → Bool) (m : ℕ) (p q : Plain) (qs : List Plain) (g : Ghost) (l : Ledger) : Type 0 where
  pub now : Ident → Bool
  pub known : (i : Ident) → (i.manager == p.given.number) ≡ false → now i ≡ given i
  pub fresh : IsFresh now q
  pub told : IsTold m q (stop m l)
  pub stands : Stands s now qs g (book_of (stop m l))
