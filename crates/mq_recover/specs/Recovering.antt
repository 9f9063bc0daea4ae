-- What stands for an image while a log is read, and how a step of it ends.
use Rattle.std.specs.Prelude.{◌≡◌, ℕ, ◌==◌, nat_le, Bool, true, false, not, ◌||◌, ◌&&◌, List}
use Rattle.mq_message.specs.declared.message.Ident.{Ident}
use Rattle.mq_recover.specs.declared.recovering.Recovering.{Recovering}
use Rattle.std.specs.Str.{bytes_eq}
use Rattle.mq_queue.specs.Rows.{same_ident}
use Rattle.mq_calls.specs.declared.records.Add.{Add}
use Rattle.mq_calls.specs.declared.image.Image.{Image}
use Rattle.mq_calls.specs.Changes.{comes_before}
use Rattle.mq_recover_read.specs.from_spec_log.Shelves.{removed}
use Rattle.mq_recover_read.specs.from_spec_log.Applies.{can_add, can_remove}

-- the image so far
abbrev pub seen : Recovering → Image
seen r = record { definitions = r.defs.definitions; shelves = r.shelves; senders = r.senders; receivers = r.receivers; incarnation = r.incarnation }

-- What may be done is done, and the answer says whether it may.
abbrev pub Does : {A : Type 0} → Bool → A → Bool → A → Type 0
Does may made true now = (may ≡ true) × (now ≡ made)
Does may made false now = may ≡ false

-- an ident is another manager's, or of an incarnation of this one that has begun
abbrev pub was_given_by : ℕ → ℕ → Ident → Bool
was_given_by manager incarnation ident = not (ident.manager == manager) || nat_le ident.incarnation incarnation

-- a row may leave a queue and its message may be placed on another
abbrev pub can_move : List ℕ → Ident → Add → Image → Bool
can_move from ident a i =
    same_ident ident a.message.ident && can_remove (record { queue = from; ident = ident }) i
    && can_add a (removed (record { queue = from; ident = ident }) i)

-- the first name that this is, or comes before
abbrev pub is_spot : List ℕ → List ℕ → Bool
is_spot name there = bytes_eq name there || comes_before name there
