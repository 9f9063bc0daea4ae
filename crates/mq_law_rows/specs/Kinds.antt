-- The kinds of change of rows: what each does to the managers and to the ledger.
use Rattle.std.specs.Prelude.{ℕ, ◌≡◌, ◌≢◌, Bool, true, false, not, List, [], ◌∷◌, ◌++◌, Some, None, ◌==◌, ◌&&◌, ◌||◌, if◌then◌else◌}
use Rattle.std.specs.List.{list_any}
use Rattle.mq_message.specs.declared.message.Ident.{Ident}
use Rattle.mq_message.specs.declared.place.Holder.TheVariants as holders
use Rattle.mq_queue.specs.declared.row.Row.{Row}
use Rattle.mq_queue.specs.Rows.{same_ident, insert_row, keep, retag, held_by}
use Rattle.mq_calls.specs.Changes.{retag_if, release_if}
use Rattle.mq_sync.specs.declared.unit.Unit.{Unit as Luw}
use Rattle.mq_sync.specs.Units.{same_unit}
use Rattle.mq_calls.specs.declared.state.Item.{Item}
use Rattle.mq_calls.specs.declared.state.Item.TheVariants.{Put, Take}
use Rattle.mq_calls.specs.Reads.{is_persistent}
use Rattle.mq_law_rows.specs.Families.{is_here, put_at, is_at, put_by}
use Rattle.mq_law_rows.specs.World.{World, Book, Ghost, Mark, Tag, Owner, Unborn, At, HeldBy, InBatch, Forced, InUnit, InHand, Gone, mark_of, tag_of, tag_idents, is_last, away}
use Rattle.mq_spec_network.specs.Story.{Mem}
use Rattle.mq_spec_network.specs.Promised.{AreDistinct}
use Rattle.mq_spec_network.specs.Standing.{row_told}

-- the owners after a change: by ident and owner before
abbrev pub after : Ghost → (Ident → Owner → Owner) → Ghost
after g f = record { sent = g.sent; source = g.source; operated = g.operated; loose = g.loose; owner = λ j. f j (g.owner j) }

abbrev pub owned : Ident → Owner → Ident → Owner → Owner
owned i new j o = if same_ident j i then new else o

-- an ident is given, and its message in its manager's hands
abbrev pub give : World → Ident → World
give w i = record { rows = w.rows; units = w.units; given = λ j. same_ident j i || w.given j; holds = w.holds; doubt = w.doubt; last = w.last }

-- what is in hand is placed
abbrev pub place_row : World → ℕ → List ℕ → Row → World
place_row w m q row = record { rows = put_at w.rows m q (insert_row row (w.rows m q)); units = w.units; given = w.given; holds = w.holds; doubt = w.doubt; last = w.last }

abbrev pub book_place : Book → ℕ → List ℕ → Row → Book
book_place b m q row = record { rows = put_at b.rows m q (insert_row row (b.rows m q)); units = b.units; gone = b.gone; got = b.got }

-- a row is taken off its queue, and is in hand
abbrev pub with_rows : World → (ℕ → List ℕ → List Row) → World
with_rows w rows = record { rows = rows; units = w.units; given = w.given; holds = w.holds; doubt = w.doubt; last = w.last }

abbrev pub book_with : Book → (ℕ → List ℕ → List Row) → Book
book_with b rows = record { rows = rows; units = b.units; gone = b.gone; got = b.got }

abbrev pub is_row : ℕ → List ℕ → Ident → ℕ → List ℕ → Row → Bool
is_row m q i a b h = is_here m q a b && same_ident h.message.ident i

abbrev pub is_told_row : ℕ → Ident → ℕ → Row → Bool
is_told_row m i a r = (a == m) && same_ident r.message.ident i

abbrev pub lift_row : World → ℕ → List ℕ → Ident → World
lift_row w m q i = with_rows w (λ a b. keep (λ h. not (is_row m q i a b h)) (w.rows a b))

abbrev pub book_lift : Book → ℕ → Ident → Book
book_lift k m i = book_with k (λ a b. keep (λ r. not (is_told_row m i a r)) (k.rows a b))

-- what is in hand is gone for good: expired, discarded, or got
abbrev pub book_bury : Book → Bool → Ident → Book
book_bury b true i = record { rows = b.rows; units = b.units; gone = i ∷ b.gone; got = i ∷ b.got }
book_bury b false i = record { rows = b.rows; units = b.units; gone = i ∷ b.gone; got = b.got }

abbrev pub among : List Ident → Ident → Bool
among is i = list_any (same_ident i) is

-- A receiver's commit: where each message lands.
pub record Landing : Type 0 where
  pub queue : List ℕ
  pub row : Row

abbrev pub landing_told : Landing → Landing
landing_told l = record { queue = l.queue; row = row_told l.row }

abbrev pub landing_mark : Landing → Mark
landing_mark l = mark_of l.row.message

abbrev pub place_all : ℕ → List Landing → ℕ → List ℕ → List Row → List Row
place_all t [] a d xs = xs
place_all t (l ∷ ls) a d xs = place_all t ls a d (if is_here t l.queue a d then insert_row l.row xs else xs)

-- where the message of an ident lands
abbrev pub lands_on : List Landing → Ident → List ℕ
lands_on [] j = []
lands_on (l ∷ ls) j = if same_ident j l.row.message.ident then l.queue else lands_on ls j

abbrev pub unit_at : ℕ → List ℕ → Luw → ℕ → List ℕ → Luw → Bool
unit_at m c u a d v = is_here m c a d && same_unit v u

-- the unit u of the channel that manager m sends is committed at manager t
abbrev pub receive : World → ℕ → List ℕ → Luw → ℕ → List Ident → List Landing → World
receive w m c u t ids ls = record {
  rows = λ a d. place_all t ls a d (keep (λ h. not ((a == t) && among ids h.message.ident)) (w.rows a d));
  units = w.units;
  given = w.given;
  holds = w.holds;
  doubt = w.doubt;
  last = put_at w.last m c u;
}

abbrev pub book_receive : Book → ℕ → List Ident → List Landing → Book
book_receive b t ids ls = book_with b (λ a d. place_all t ls a d (keep (λ r. not (among ids r.message.ident)) (b.rows a d)))

abbrev pub received : ℕ → List Ident → List Landing → Ident → Owner → Owner
received t ids ls j o = if among ids j then At t (lands_on ls j) else o

abbrev pub ghost_receive : Ghost → ℕ → List ℕ → Luw → ℕ → List Ident → List Landing → Ghost
ghost_receive g m c u t ids ls = record {
  sent = g.sent;
  source = g.source;
  operated = λ a d v. if unit_at m c u a d v then false else g.operated a d v;
  loose = g.loose;
  owner = λ j. received t ids ls j (g.owner j);
}

-- the unit is held and prepared, and becomes the receiver's last
abbrev pub awaits : World → ℕ → List ℕ → Luw → Bool
awaits w m c u = w.doubt m c && is_last (w.holds m c) u

-- What a commit rests on: its messages are in the batch, or an operator has committed it there.
pub record Commits (w : World) (g : Ghost) (m : ℕ) (c : List ℕ) (u : Luw) (t : ℕ) : Type 0 where
  pub apart : t ≢ m
  pub new : away w m c ≡ false
  pub mine : (i : Ident) → Mem i (tag_idents (g.sent m c u)) → g.owner i ≡ (if awaits w m c u then InBatch m c else Forced m c u)
  pub others : (v : Luw) → w.holds m c ≡ Some v → w.last m c ≢ v
  pub once : AreDistinct (tag_idents (g.sent m c u))

-- Batches. Which rows the batch of a channel has.
abbrev pub has_batch : ℕ → List ℕ → ℕ → Row → Bool
has_batch m c a y = (a == m) && held_by (holders.Batch c) y.by

-- the batch is released: before it was prepared, or as an operator or the receiver's word has it
abbrev pub release_batch : World → ℕ → List ℕ → Bool → World
release_batch w m c back = record {
  rows = λ a d. retag (λ y. release_if (has_batch m c a y) back y) (w.rows a d);
  units = w.units;
  given = w.given;
  holds = put_at w.holds m c None;
  doubt = put_at w.doubt m c false;
  last = w.last;
}

abbrev pub freed : Ghost → ℕ → List ℕ → Ident → Owner → Owner
freed g m c j (InBatch a d) = if is_here m c a d then At m (g.source m c) else InBatch a d
freed g m c j (At a q) = At a q
freed g m c j (HeldBy a q k) = HeldBy a q k
freed g m c j (Forced a d u) = Forced a d u
freed g m c j (InUnit a k) = InUnit a k
freed g m c j (InHand a) = InHand a
freed g m c j Unborn = Unborn
freed g m c j Gone = Gone

-- the batch goes: its receiver has committed it
abbrev pub drop_batch : World → ℕ → List ℕ → World
drop_batch w m c = record {
  rows = λ a d. keep (λ y. not (has_batch m c a y)) (w.rows a d);
  units = w.units;
  given = w.given;
  holds = put_at w.holds m c None;
  doubt = put_at w.doubt m c false;
  last = w.last;
}

-- the batch goes, since an operator says that its receiver has committed it; the ledger has its rows until that is so
abbrev pub ghost_force : Ghost → ℕ → List ℕ → Luw → Ghost
ghost_force g m c u = record {
  sent = g.sent;
  source = g.source;
  operated = λ a d v. if unit_at m c u a d v then true else g.operated a d v;
  loose = g.loose;
  owner = λ j. if among (tag_idents (g.sent m c u)) j then Forced m c u else g.owner j;
}

-- free rows are held as the next unit
abbrev pub hold_batch : World → ℕ → List ℕ → List ℕ → Luw → List Ident → World
hold_batch w m q c u ids = record {
  rows = λ a d. retag (λ y. retag_if (is_here m q a d && among ids y.message.ident) (Some (holders.Batch c)) y) (w.rows a d);
  units = w.units;
  given = w.given;
  holds = put_at w.holds m c (Some u);
  doubt = put_at w.doubt m c false;
  last = w.last;
}

-- (`front`: they are known to be the front of their queue)
abbrev pub ghost_take : Ghost → ℕ → List ℕ → List ℕ → Luw → List Tag → Bool → Ghost
ghost_take g m q c u ts front = record {
  sent = λ a d v. if unit_at m c u a d v then ts else g.sent a d v;
  source = put_at g.source m c q;
  operated = g.operated;
  loose = λ a d v. if unit_at m c u a d v then not front else g.loose a d v;
  owner = λ j. if among (tag_idents ts) j then InBatch m c else g.owner j;
}

abbrev pub ghost_hold : Ghost → ℕ → List ℕ → List ℕ → Luw → List Tag → Ghost
ghost_hold g m q c u ts = ghost_take g m q c u ts false

-- the unit that is held is in doubt from now on
abbrev pub prepare : World → ℕ → List ℕ → World
prepare w m c = record { rows = w.rows; units = w.units; given = w.given; holds = w.holds; doubt = put_at w.doubt m c true; last = w.last }

-- nonpersistent rows of a manager go
abbrev pub is_lost : ℕ → ℕ → Row → Bool
is_lost m a y = (a == m) && not (is_persistent y.message)

abbrev pub lose : World → ℕ → World
lose w m = with_rows w (λ a d. keep (λ y. not (is_lost m a y)) (w.rows a d))

abbrev pub book_lose : Book → ℕ → Book
book_lose b m = book_with b (λ a d. keep (λ y. not (is_lost m a y)) (b.rows a d))

-- Units of connections. A put in a unit; the next pending put of a commit is in hand.
abbrev pub with_units : World → ℕ → ℕ → List Item → World
with_units w m k items = record { rows = w.rows; units = put_by w.units m k items; given = w.given; holds = w.holds; doubt = w.doubt; last = w.last }

abbrev pub book_units : Book → ℕ → ℕ → List Item → Book
book_units b m k items = record { rows = b.rows; units = put_by b.units m k items; gone = b.gone; got = b.got }

-- a get in a unit holds the row
abbrev pub hold_row : World → ℕ → List ℕ → ℕ → Ident → Bool → World
hold_row w m q k i lasting = record {
  rows = λ a d. retag (λ y. retag_if (is_row m q i a d y) (Some (holders.Unit k)) y) (w.rows a d);
  units = put_by w.units m k (w.units m k ++ Take q i lasting ∷ []);
  given = w.given;
  holds = w.holds;
  doubt = w.doubt;
  last = w.last;
}

abbrev pub book_hold : Book → ℕ → ℕ → Ident → Book
book_hold b m k i = book_units b m k (b.units m k ++ Take [] i false ∷ [])

-- the first half of a commit: what the unit has got is gone
abbrev pub has_unit : ℕ → ℕ → ℕ → Row → Bool
has_unit m k a y = (a == m) && held_by (holders.Unit k) y.by

abbrev pub puts_of : List Item → List Item
puts_of [] = []
puts_of (Put queue message ∷ items) = Put queue message ∷ puts_of items
puts_of (Take queue ident persistent ∷ items) = puts_of items

abbrev pub bury_all : List Ident → List Ident → List Ident
bury_all [] gone = gone
bury_all (i ∷ is) gone = bury_all is (i ∷ gone)

abbrev pub take_gets : World → ℕ → ℕ → World
take_gets w m k = record {
  rows = λ a d. keep (λ y. not (has_unit m k a y)) (w.rows a d);
  units = put_by w.units m k (puts_of (w.units m k));
  given = w.given;
  holds = w.holds;
  doubt = w.doubt;
  last = w.last;
}

-- (what is gone is given, since rows that a stop has lost meanwhile were got and were in no place)
abbrev pub book_take_gets : Book → ℕ → ℕ → List Ident → List Ident → Book
book_take_gets b m k is gone = record {
  rows = λ a d. keep (λ r. not ((a == m) && among is r.message.ident)) (b.rows a d);
  units = put_by b.units m k (puts_of (b.units m k));
  gone = gone;
  got = bury_all is b.got;
}

-- a unit is backed out
abbrev pub back_out : World → ℕ → ℕ → Bool → World
back_out w m k back = record {
  rows = λ a d. retag (λ y. release_if (has_unit m k a y) back y) (w.rows a d);
  units = put_by w.units m k [];
  given = w.given;
  holds = w.holds;
  doubt = w.doubt;
  last = w.last;
}

abbrev pub backed_out : ℕ → ℕ → Ident → Owner → Owner
backed_out m k j (HeldBy a q e) = if is_at m k a e then At a q else HeldBy a q e
backed_out m k j (InUnit a e) = if is_at m k a e then Gone else InUnit a e
backed_out m k j (At a q) = At a q
backed_out m k j (InBatch a d) = InBatch a d
backed_out m k j (Forced a d u) = Forced a d u
backed_out m k j (InHand a) = InHand a
backed_out m k j Unborn = Unborn
backed_out m k j Gone = Gone

-- a batch is held: its rows are free rows of one queue
pub record Chosen (w : World) (m : ℕ) (q : List ℕ) (ts : List Tag) : Type 0 where
  pub rows : (t : Tag) → Mem t ts → (x : Row) × Mem x (w.rows m q) × (x.by ≡ None) × (tag_of x.message ≡ t)
  pub once : AreDistinct (tag_idents ts)

-- what a unit has got, once it is committed
abbrev pub spent : List Ident → Ident → Owner → Owner
spent is j o = if among is j then Gone else o

-- each unit that an operator has committed was committed by its receiver
abbrev pub AllBorne : Ghost → Type 0
AllBorne g = (m : ℕ) (c : List ℕ) (u : Luw) → g.operated m c u ≡ false
