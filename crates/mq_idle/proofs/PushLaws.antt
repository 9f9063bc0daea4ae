-- What a turn of an end pushes, and where an end has none.
use Rattle.std.proofs.Common.{◌≡◌, ℕ, zero, suc, ◌+◌, Bool, true, false, List, [], ◌∷◌, length, map, refl, sym, ap, ◌∙◌, arith, inl, inr}
use Rattle.std.specs.Prelude.{◌⊎◌, ◌&&◌, ◌==◌, nat_lt, min, if◌then◌else◌, Option, Some, None, is_some, find, filter, take}
use Rattle.std.specs.Option.{option_map}
use Rattle.std.specs.Str.{bytes_eq}
use Rattle.std.proofs.lemmas.Bool.Decides.{nat_tests}
use Rattle.mq_frame.specs.declared.frame.Seen.{Seen}
use Rattle.mq_frame.specs.declared.frame.Seen.TheVariants as items
use Rattle.mq_frame.specs.Sight.{waits}
use Rattle.mq_calls.specs.declared.agents.PrepareFault.{PrepareFault}
use Rattle.mq_calls.specs.declared.state.Batch.{Batch}
use Rattle.mq_codes.specs.declared.reason.Reason.{Reason}
use Rattle.mq_message.specs.declared.message.Ident.{Ident}
use Rattle.mq_message.specs.declared.message.Message.{Message}
use Rattle.mq_message.specs.declared.place.Holder.{Holder}
use Rattle.mq_message.specs.declared.place.Holder.TheVariants as holders
use Rattle.mq_queue.specs.declared.row.Row.{Row}
use Rattle.mq_queue.specs.Rows.{has_ident, is_free, retag, same_ident}
use Rattle.mq_queue.proofs.Edits.{same_self}
use Rattle.mq_receiver.specs.declared.turns.ReceiverDoes.{ReceiverDoes}
use Rattle.mq_receiver.specs.declared.turns.ReceiverDoes.TheVariants as takes
use Rattle.mq_receiver.specs.After.{last_by}
use Rattle.mq_receiver.specs.Table.{receiver_lines, receiver_next, unit_seen}
use Rattle.mq_sender.specs.declared.state.SenderState.{SenderState}
use Rattle.mq_sender.specs.declared.state.SenderState.TheVariants as states
use Rattle.mq_sender.specs.declared.turns.SenderDoes.{SenderDoes}
use Rattle.mq_sender.specs.declared.turns.SenderDoes.TheVariants as does
use Rattle.mq_sender.specs.After.{number_sent}
use Rattle.mq_sender.specs.States.{awaits}
use Rattle.mq_sender.specs.Table.{sender_lines, sender_next}
use Rattle.mq_sync.specs.declared.data.Stock.{Stock}
use Rattle.mq_sync.specs.declared.unit.Unit.{Unit as Luw}
use Rattle.mq_sync.specs.Units.{unit_named}
use Rattle.mq_calls.specs.State.{Plain, Queue}
use Rattle.mq_calls.specs.State.Which.{Among}
use Rattle.mq_calls.specs.Changes.{held_in, retag_if, selects}
use Rattle.mq_calls.specs.Reads.{batch_of, free_rows, queue_in, stored}
use Rattle.mq_calls.specs.Steps.{Step, do_all}
use Rattle.mq_calls.specs.Steps.Step.{Do, Refuse}
use Rattle.mq_spec_manager.specs.Words.{idents_of}
use Rattle.mq_spec_manager.specs.Agents.{at_number, batch_idents, batch_queue, batch_row, hold_batch, prepare, queue_of_sender, receive, row_with, stock}
use Rattle.mq_spec_node.specs.Words.{Node, ReceiverEnd, SenderEnd, carried, parts_of}
use Rattle.mq_spec_node.specs.Receivers.{is_receiver_defined, place_deed, receiver_deed_by}
use Rattle.mq_spec_node.specs.Senders.{prepare_deed, sender_deed_by}
use Rattle.mq_spec_network.specs.Steps.{pushed_of}
use Rattle.mq_spec_network.specs.Turns.{rests}
use Rattle.mq_law_channel.proofs.Told.{by_lines}
use Rattle.mq_law_manager.proofs.Named.{batch_set, name_self}
use Rattle.mq_idle.specs.Idle.{begins_unit, pushes_in}

-- A BATCH THAT IS BEGUN

-- a row that is retagged keeps its message
kept_message : (b : Bool) (o : Option Holder) (row : Row) → (retag_if b o row).message ≡ row.message
kept_message true o row = refl
kept_message false o row = refl

abbrev found_if : Bool → Row → Option Row → Option Row
found_if b row rest = if b then Some row else rest

abbrev has_in : Ident → (Row → Row) → List Row → Bool
has_in ident change rows = is_some (find (has_ident ident) (retag change rows))

some_found : (b : Bool) (row : Row) (rest : Option Row) → (b ≡ false → is_some rest ≡ true) → is_some (found_if b row rest) ≡ true
some_found true row rest h = refl
some_found false row rest h = h refl

-- the first free row is found by its ident, whoever holds it then
first_found : (change : Row → Row) (rows rest : List Row) (first : Row) → ((row : Row) → (change row).message ≡ row.message) → filter is_free rows ≡ first ∷ rest → has_in first.message.ident change rows ≡ true
first_found change [] rest first keeps e = absurd cc
first_found change (row ∷ rows) rest first keeps e = by (is_free row) e (λ f. first_found change rows rest first keeps f)
  where
    by : (b : Bool) → (if b then row ∷ filter is_free rows else filter is_free rows) ≡ first ∷ rest → (filter is_free rows ≡ first ∷ rest → has_in first.message.ident change rows ≡ true) → has_in first.message.ident change (row ∷ rows) ≡ true
    by true f later =
        let same : row ≡ first = cc in
        some_found (has_ident first.message.ident (change row)) (change row) (find (has_ident first.message.ident) (retag change rows)) (λ no_.
        let z : true ≡ false = sym (same_self first.message.ident) ∙ ap (λ (m : Message). same_ident m.ident first.message.ident) (ap (λ (x : Row). x.message) (sym same) ∙ sym (keeps row)) ∙ no_ in absurd cc)
    by false f later = some_found (has_ident first.message.ident (change row)) (change row) (find (has_ident first.message.ident) (retag change rows)) (λ z. later f)

some_map : {A B : Type 0} (f : A → B) (o : Option A) → is_some (option_map f o) ≡ is_some o
some_map f None = refl
some_map f (Some x) = refl

no_more : (b : Bool) → (b && false) ≡ false
no_more true = refl
no_more false = refl

some_more : (n m : ℕ) → true ≡ (nat_lt 0 (suc n) && nat_lt 0 (suc m))
some_more n m = grind (arith, nat_tests)

first_row : (count : ℕ) (change : Row → Row) (rows : List Row) → ((row : Row) → (change row).message ≡ row.message) → is_some (row_with (at_number 1 (idents_of (take count (filter is_free rows)))) (retag change rows)) ≡ (nat_lt 0 count && nat_lt 0 (length (filter is_free rows)))
first_row count change rows keeps = by count (filter is_free rows) refl
  where
    by : (n : ℕ) (free : List Row) → filter is_free rows ≡ free → is_some (row_with (at_number 1 (idents_of (take n free))) (retag change rows)) ≡ (nat_lt 0 n && nat_lt 0 (length free))
    by zero free e = refl
    by (suc n) [] e = sym (no_more (nat_lt 0 (suc n)))
    by (suc n) (first ∷ rest) e = some_map (λ (row : Row). row.message) (find (has_ident first.message.ident) (retag change rows)) ∙ first_found change rows rest first keeps e ∙ some_more n (length rest)

held_rows : (queue : List ℕ) (idents : List Ident) (by : Holder) (name : List ℕ) (qs : List Queue)
    → (queue_in name (map (held_in (Among queue idents) by) qs)).rows ≡ retag (λ (row : Row). retag_if (selects (Among queue idents) (queue_in name qs).name row && is_free row) (Some by) row) (queue_in name qs).rows
held_rows queue idents by name [] = refl
held_rows queue idents by name (q ∷ qs) = at (bytes_eq name q.name) (held_rows queue idents by name qs)
  where
    tag : Queue → Row → Row
    tag x row = retag_if (selects (Among queue idents) x.name row && is_free row) (Some by) row

    at : (b : Bool) → (queue_in name (map (held_in (Among queue idents) by) qs)).rows ≡ retag (tag (queue_in name qs)) (queue_in name qs).rows
        → (if b then held_in (Among queue idents) by q else queue_in name (map (held_in (Among queue idents) by) qs)).rows ≡ retag (tag (if b then q else queue_in name qs)) (if b then q else queue_in name qs).rows
    at true h = refl
    at false h = h

module _ (channel : List ℕ) (unit : Luw) (count : ℕ) (p : Plain) where
  abbrev queue : List ℕ
  queue = queue_of_sender channel p

  abbrev idents : List Ident
  idents = idents_of (take count (free_rows queue p))

  abbrev batch : Batch
  batch = record { channel = channel; unit = unit; queue = queue; idents = idents }

  abbrev after : Plain
  after = do_all (parts_of (hold_batch channel unit count p)) p

  abbrev first_of : Option Batch → Option Message
  first_of o = row_with (at_number 1 (batch_idents o)) (stored (batch_queue o) after).rows

  is_batch : batch_of channel after.channels.batches ≡ Some batch
  is_batch = batch_set channel batch p.channels.batches ∙ ap (λ (t : Bool). if t then Some batch else batch_of channel p.channels.batches) (name_self channel)

  -- the first message of a batch that is held
  pub begun_row : is_some (batch_row channel 1 after) ≡ (nat_lt 0 count && nat_lt 0 (length (free_rows queue p)))
  begun_row =
      ap (λ (o : Option Batch). is_some (first_of o)) is_batch
      ∙ ap (λ (rows : List Row). is_some (row_with (at_number 1 idents) rows)) (held_rows queue idents (holders.Batch channel) queue p.queues)
      ∙ first_row count (λ (row : Row). retag_if (selects (Among queue idents) (stored queue p).name row && is_free row) (Some (holders.Batch channel)) row) (stored queue p).rows
      (λ row. kept_message (selects (Among queue idents) (stored queue p).name row && is_free row) (Some (holders.Batch channel)) row)

-- SENDERS
prepared_silent : (e : SenderEnd) (s : Step PrepareFault (Unit {0})) (n : Node) → (prepare_deed e s n).pushed ≡ None
prepared_silent e (Refuse fault) n = refl
prepared_silent e (Do reply parts) n = refl

clash : {P : Type 0} (b : Bool) → b ≡ true → b ≡ false → P
clash b e f = absurd cc

-- Where nothing waits: whether its turn pushes; and where it has none, it rests or awaits an answer.
abbrev OwnTurn : ℕ → SenderEnd → Node → SenderState → Stock → SenderDoes → Type 0
OwnTurn stamp e n st s d =
    (is_some (pushed_of (sender_deed_by stamp e d n)) ≡ pushes_in st e n.manager)
    × (is_some (sender_deed_by stamp e d n) ≡ false → (rests st s ≡ true) ⊎ (awaits st ≡ true))

module _ (stamp : ℕ) (e : SenderEnd) (n : Node) where
  abbrev free : ℕ
  free = length (free_rows (queue_of_sender e.channel n.manager) n.manager)

  abbrev size : ℕ
  size = e.machine.limits.batch_size

  abbrev next : SenderState → Stock → SenderDoes
  next st s = sender_next (record e.machine { state = st }) items.Nothing s

  abbrev Turns : SenderState → SenderDoes → Type 0
  Turns st d = OwnTurn stamp e n st (stock e.channel n.manager) d

  few : (a m : ℕ) → nat_lt 0 m ≡ true → (nat_lt 0 (min a m) && nat_lt 0 m) ≡ (nat_lt 0 m && nat_lt 0 a)
  few a m h = grind (arith, nat_tests)

  zero_is : (m : ℕ) → nat_lt 0 m ≡ false → (m == 0) ≡ true
  zero_is m h = grind (arith, nat_tests)

  -- a running sender
  abbrev Runs : Bool → Bool → SenderDoes → Type 0
  Runs en ex d =
      (is_some (pushed_of (sender_deed_by stamp e d n)) ≡ begins_unit size (record { enabled = en; expired = ex; free = free }))
      × (is_some (sender_deed_by stamp e d n) ≡ false → (rests states.Running (record { enabled = en; expired = ex; free = free }) ≡ true) ⊎ (awaits states.Running ≡ true))

  begins : (b : Bool) → nat_lt 0 free ≡ b → Runs true false (if b then does.Begin (e.machine.begun + 1) (min size free) else does.Still)
  begins true h = (
    some_map (carried stamp e (e.machine.begun + 1) 1) (batch_row e.channel 1 (do_all (parts_of (hold_batch e.channel (unit_named e.machine.kept.session (e.machine.begun + 1)) (min size free) n.manager)) n.manager))
        ∙ begun_row e.channel (unit_named e.machine.kept.session (e.machine.begun + 1)) (min size free) n.manager ∙ few size free h,
    λ z. absurd cc,
  )
  begins false h = (sym (ap (λ (t : Bool). t && nat_lt 0 size) h), λ z. inl (zero_is free h))

  runs : (en ex : Bool) → Runs en ex (next states.Running (record { enabled = en; expired = ex; free = free }))
  runs false ex = (refl, λ z. inl refl)
  runs true true = (refl, λ z. absurd cc)
  runs true false = begins (nat_lt 0 free) refl

  -- one that sends a batch
  sends : (sent number : ℕ) (b : Bool) → nat_lt sent e.machine.count ≡ b → Turns (states.Sending sent number) (if b then does.PushMsg (sent + 1) else does.Prepare)
  sends sent number true h = (
    some_map (carried stamp e e.machine.begun (sent + 1)) (batch_row e.channel (sent + 1) n.manager) ∙ sym (ap (λ (t : Bool). t && is_some (batch_row e.channel (sent + 1) n.manager)) h),
    λ z. absurd cc,
  )
  sends sent number false h = (
    ap is_some (prepared_silent e (prepare e.channel (number_sent e.machine.state e.machine.kept.last) n.manager) n) ∙ sym (ap (λ (t : Bool). t && is_some (batch_row e.channel (sent + 1) n.manager)) h),
    λ z. absurd cc,
  )

  in_state : (st : SenderState) → Turns st (next st (stock e.channel n.manager))
  in_state states.Inactive = (refl, λ z. inl refl)
  in_state (states.Stopped cause) = (refl, λ z. inl refl)
  in_state states.Starting = (refl, λ z. absurd cc)
  in_state states.Hailing = (refl, λ z. absurd cc)
  in_state states.Binding = (refl, λ z. inr refl)
  in_state states.Running = runs (stock e.channel n.manager).enabled (stock e.channel n.manager).expired
  in_state (states.Sending sent number) = sends sent number (nat_lt sent e.machine.count) refl
  in_state states.Ready = (refl, λ z. absurd cc)
  in_state states.Waiting = (refl, λ z. inr refl)

  pub own_turn : OwnTurn stamp e n e.machine.state (stock e.channel n.manager) (sender_next e.machine items.Nothing (stock e.channel n.manager))
  own_turn = in_state e.machine.state

-- Where an item waits there is a turn, and it pushes nothing.
abbrev Answers : ℕ → SenderEnd → Node → SenderDoes → Type 0
Answers stamp e n d = (is_some (pushed_of (sender_deed_by stamp e d n)) ≡ false) × (is_some (sender_deed_by stamp e d n) ≡ true)

pub answers : (stamp : ℕ) (e : SenderEnd) (seen : Seen) (n : Node) → waits seen ≡ true → Answers stamp e n (sender_next e.machine seen (stock e.channel n.manager))
answers stamp e seen n h = by_lines (Answers stamp e n) does.Still (sender_lines e.machine seen (stock e.channel n.manager)) (
  (λ z. (refl, refl)),
  λ e0. ((λ z. (refl, refl)), λ e1. ((λ z. (refl, refl)), λ e2. ((λ z. (refl, refl)), λ e3. clash (waits seen) h e3))),
)

-- RECEIVERS
placed_silent : (e : ReceiverEnd) (unit : Luw) (seen : Seen) (s : Step Reason (Unit {0})) (n : Node) → (place_deed e unit seen s n).pushed ≡ None
placed_silent e unit seen (Refuse reason) n = refl
placed_silent e unit seen (Do reply parts) n = refl

abbrev Pays : ℕ → ReceiverEnd → Seen → Node → ReceiverDoes → Type 0
Pays stamp e seen n d = is_some (pushed_of (receiver_deed_by stamp e seen d n)) ≡ is_some e.machine.owes

-- its turn pushes exactly where it owes
pub pays : (stamp : ℕ) (e : ReceiverEnd) (seen : Seen) (n : Node) → Pays stamp e seen n (receiver_next e.machine seen (is_receiver_defined e.channel n.manager.definitions))
pays stamp e seen n = by_lines (Pays stamp e seen n) takes.Still (receiver_lines e.machine seen (is_receiver_defined e.channel n.manager.definitions)) (
  (λ z. some_map _ e.machine.owes),
  λ e0. (
    (λ z. sym e0),
    λ e1. (
      (λ z. sym e0),
      λ e2. (
        (λ z. sym e0),
        λ e3. (
          (λ z. ap is_some (placed_silent e (unit_seen seen) seen (receive e.channel (unit_seen seen) (last_by seen e.machine.last) e.kept n.manager) n) ∙ sym e0),
          λ e4. ((λ z. sym e0), λ e5. ((λ z. sym e0), λ e6. sym e0)),
        ),
      ),
    ),
  ),
)

-- where it has none, it owes nothing and nothing waits
abbrev HasNone : ℕ → ReceiverEnd → Seen → Node → ReceiverDoes → Type 0
HasNone stamp e seen n d = is_some (receiver_deed_by stamp e seen d n) ≡ false → (is_some e.machine.owes ≡ false) × (waits seen ≡ false)

pub has_none : (stamp : ℕ) (e : ReceiverEnd) (seen : Seen) (n : Node) → HasNone stamp e seen n (receiver_next e.machine seen (is_receiver_defined e.channel n.manager.definitions))
has_none stamp e seen n = by_lines (HasNone stamp e seen n) takes.Still (receiver_lines e.machine seen (is_receiver_defined e.channel n.manager.definitions)) (
  (λ z f. absurd cc),
  λ e0. ((λ z f. absurd cc), λ e1. ((λ z f. absurd cc), λ e2. ((λ z f. absurd cc), λ e3. ((λ z f. absurd cc), λ e4. ((λ z f. absurd cc), λ e5. ((λ z f. absurd cc), λ e6. (λ f. (e0, e6)))))))),
)
