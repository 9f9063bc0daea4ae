-- A message that a channel brings: it stands nowhere at the manager, or in a row of a unit in doubt, which goes.
use Rattle.std.proofs.Common.{ℕ, ◌≡◌, Bool, true, false, not, List, [], ◌∷◌, refl, ap, sym, ◌∙◌, inl, inr}
use Rattle.std.specs.Prelude.{Option, Some, None, if◌then◌else◌, ◌&&◌, ◌||◌}
use Rattle.std.specs.List.{list_any}
use Rattle.std.specs.Str.{bytes_eq}
use Rattle.mq_message.specs.declared.message.Ident.{Ident}
use Rattle.mq_message.specs.declared.message.Message.{Message}
use Rattle.mq_queue.specs.declared.row.Row.{Row}
use Rattle.mq_queue.specs.Rows.{same_ident, keep}
use Rattle.mq_sync.specs.declared.data.InDoubt.{InDoubt}
use Rattle.mq_sync.specs.declared.unit.Unit.{Unit as Luw}
use Rattle.mq_calls.specs.declared.state.Connection.{Connection}
use Rattle.mq_calls.specs.State.{Plain}
use Rattle.mq_calls.specs.declared.state.Batch.{Batch}
use Rattle.mq_calls.specs.State.Which.{Among}
use Rattle.mq_calls.specs.State.Change.{Leave, Undoubt}
use Rattle.mq_calls.specs.Reads.{batch_of, in_doubt_of, is_persistent, sender_data, sender_in, stored}
use Rattle.mq_calls.specs.Changes.{apply, apply_all, less_ident}
use Rattle.mq_spec_manager.specs.Agents.{RowAt, row_of, doubts, is_doubted_by, Standing, Absent, InDoubtAt, Present, same_flag, standing_by, has_put, standing_at, is_present, undoubted, drop_changes}
use Rattle.mq_spec_network.specs.Story.{Mem}
use Rattle.mq_law_events.specs.from_law_rows.Kinds.{among}
use Rattle.mq_law_events.proofs.from_law_rows.Lists.{bool_case, is_false, ident_yes, name_self, and_false, keep_same, keep_all, true_false}
use Rattle.mq_law_events.proofs.from_law_rows.Receiving.{any_mem, mem_any}
use Rattle.mq_law_manager.specs.Facts.{AreNamed, IsOf, Sound}
use Rattle.mq_law_receipts.specs.Receipts.{Comes}
use Rattle.mq_law_manager.proofs.Named.{doubt_less}
use Rattle.mq_law_manager.proofs.Receiving.{IsStanding, row_there}
use Rattle.mq_law_events.proofs.Putting.{IsBeside, rows_after, unborn_by}

pub flag_self : (b : Bool) → same_flag b b ≡ true
flag_self true = refl
flag_self false = refl

is_named : (i : Ident) (q : List ℕ) (b : Option Batch) (o : Option InDoubt) → b ≡ None → IsOf q i b o → doubts i o ≡ true
is_named i q (Some b) o e n = absurd cc
is_named i q None None e n = absurd n
is_named i q None (Some d) e n = mem_any i d.idents n

doubted_row : (x : Message) (p : Plain) (q : List ℕ) (h : Row) → Sound p → Comes p x → Mem h (stored q p).rows → h.message.ident ≡ x.ident → (is_doubted_by x.ident h.by p && same_flag (is_persistent x) (is_persistent h.message)) ≡ true
doubted_row x p q h sound comes n e =
    let k = comes.rows q h n e in
    let lists : doubts h.message.ident (in_doubt_of (sender_data k.0 p)) ≡ true = is_named h.message.ident q (batch_of k.0 p.channels.batches) (in_doubt_of (sender_data k.0 p)) k.2 (sound.batched.of q h k.0 n k.1) in
    let named : doubts x.ident (in_doubt_of (sender_data k.0 p)) ≡ true = ap (λ j. doubts j (in_doubt_of (sender_data k.0 p))) (sym e) ∙ lists in
    (λ i. is_doubted_by x.ident (k.1 i) p && same_flag (is_persistent x) (k.3 i)) ∙ (λ i. named i && flag_self (is_persistent x) i)

pub not_present : (x : Message) (p : Plain) → Sound p → AreNamed p.queues → Comes p x → is_present (standing_at x p) ≡ false
not_present x p sound names comes = at (row_of x.ident p.queues) refl
  where
    at : (o : Option RowAt) → row_of x.ident p.queues ≡ o → is_present (standing_by x o p) ≡ false
    at None e = λ i. is_present (if comes.pending i || comes.unborn i then Present else Absent)
    at (Some z) e = let k = row_there x.ident p.queues z names e in ap (λ t. is_present (if t then InDoubtAt z.queue else Present)) (doubted_row x p z.queue z.row sound comes k.0 k.1)

-- What goes for it: the row of its ident, on whatever queue

undoubted_rows : (b : Bool) (i : Ident) (p : Plain) (d : List ℕ) → (stored d (apply_all (undoubted b i) p)).rows ≡ (stored d p).rows
undoubted_rows true i p d = rows_after (Undoubt i) p d tt
undoubted_rows false i p d = refl

-- its standing says where rows of an ident go
abbrev pub drops_at : Standing → List ℕ → Bool
drops_at Absent d = false
drops_at (InDoubtAt q) d = bytes_eq d q
drops_at Present d = false

-- and there are no others (at a manager that is down those that don't last are gone, this one maybe among them)
abbrev pub Goes : Standing → Ident → Plain → Type 0
Goes s i p = (d : List ℕ) (h : Row) → Mem h (stored d p).rows → h.message.ident ≡ i → drops_at s d ≡ true

pub goes_is : (i : Ident) (s : Standing) (p : Plain) → Sound p → IsStanding s i p → is_present s ≡ false → Goes s i p
goes_is i Present p sound st e d h n f = absurd cc
goes_is i Absent p sound st e d h n f = absurd (st.no_row d h n (sym f))
goes_is i (InDoubtAt q) p sound st e d h n f = ap (λ z. bytes_eq z q) (sound.apart.alone d q h st.row n st.there (f ∙ sym st.is)) ∙ name_self q

none_goes : (m : Message) (p : Plain) → ((d : List ℕ) (h : Row) → Mem h (stored d p).rows → h.message.ident ≡ m.ident → false ≡ true) → (d : List ℕ)
    → (stored d (apply_all (undoubted (is_persistent m) m.ident) p)).rows ≡ keep (λ h. not (among (m.ident ∷ []) h.message.ident)) (stored d p).rows
none_goes m p goes d = undoubted_rows (is_persistent m) m.ident p d
    ∙ sym (keep_all (λ h. not (among (m.ident ∷ []) h.message.ident)) (stored d p).rows (λ x n. ap (λ t. not (t || false)) (is_false (same_ident x.message.ident m.ident) (λ t. true_false (sym (goes d x n (ident_yes x.message.ident m.ident t)))))))

pub drop_rows : (m : Message) (s : Standing) (p : Plain) → Goes s m.ident p → (d : List ℕ)
    → (stored d (apply_all (drop_changes m s) p)).rows ≡ keep (λ h. not (among (m.ident ∷ []) h.message.ident)) (stored d p).rows
drop_rows m Present p goes d = none_goes m p goes d
drop_rows m Absent p goes d = none_goes m p goes d
drop_rows m (InDoubtAt q) p goes d =
    let r : Plain = apply (Leave (Among q (m.ident ∷ []))) p in
    undoubted_rows (is_persistent m) m.ident r d ∙ rows_after (Leave (Among q (m.ident ∷ []))) p d tt
    ∙ keep_same (λ h. not (bytes_eq d q && among (m.ident ∷ []) h.message.ident)) (λ h. not (among (m.ident ∷ []) h.message.ident)) (stored d p).rows (λ x n.
    bool_case (among (m.ident ∷ []) x.message.ident) (λ t. among (m.ident ∷ []) x.message.ident ≡ t → not (bytes_eq d q && t) ≡ not t)
    (λ z w. ap (λ t. not (t && true)) (here x n (any_mem x.message.ident (m.ident ∷ []) w))) (λ z w. ap not (and_false (bytes_eq d q))) refl)
  where
    here : (x : Row) → Mem x (stored d p).rows → Mem x.message.ident (m.ident ∷ []) → bytes_eq d q ≡ true
    here x n (inl e) = goes d x n e
    here x n (inr k) = absurd k

-- What it leaves

abbrev pub doubt_unit : Option InDoubt → Option Luw
doubt_unit None = None
doubt_unit (Some d) = Some d.unit

pub record IsAside (p r : Plain) : Type 0 where
  pub given : r.given ≡ p.given
  pub definitions : r.definitions ≡ p.definitions
  pub connections : r.connections ≡ p.connections
  pub moment : r.moment ≡ p.moment
  pub numbers : r.numbers ≡ p.numbers
  pub batches : r.channels.batches ≡ p.channels.batches
  pub receivers : r.channels.receivers ≡ p.channels.receivers
  pub doubts : (d : List ℕ) → doubt_unit (in_doubt_of (sender_data d r)) ≡ doubt_unit (in_doubt_of (sender_data d p))

pub aside_none : (p : Plain) → IsAside p p
aside_none p = record { given = refl; definitions = refl; connections = refl; moment = refl; numbers = refl; batches = refl; receivers = refl; doubts = λ d. refl }

pub aside_then : (p q r : Plain) → IsAside p q → IsAside q r → IsAside p r
aside_then p q r a b = record {
  given = b.given ∙ a.given;
  definitions = b.definitions ∙ a.definitions;
  connections = b.connections ∙ a.connections;
  moment = b.moment ∙ a.moment;
  numbers = b.numbers ∙ a.numbers;
  batches = b.batches ∙ a.batches;
  receivers = b.receivers ∙ a.receivers;
  doubts = λ d. b.doubts d ∙ a.doubts d;
}

pub beside_aside : (p r : Plain) → IsBeside p r → IsAside p r
beside_aside p r b = record {
  given = b.given;
  definitions = b.definitions;
  connections = b.connections;
  moment = b.moment;
  numbers = b.numbers;
  batches = λ i. (b.channels i).batches;
  receivers = λ i. (b.channels i).receivers;
  doubts = λ d. λ i. doubt_unit (in_doubt_of (sender_in d (b.channels i).senders));
}

less_unit : (i : Ident) (o : Option InDoubt) → doubt_unit (less_ident i o) ≡ doubt_unit o
less_unit i None = refl
less_unit i (Some d) = refl

undoubted_aside : (b : Bool) (i : Ident) (p : Plain) → IsAside p (apply_all (undoubted b i) p)
undoubted_aside false i p = aside_none p
undoubted_aside true i p = record {
  given = refl;
  definitions = refl;
  connections = refl;
  moment = refl;
  numbers = refl;
  batches = refl;
  receivers = refl;
  doubts = λ d. ap doubt_unit (doubt_less d i p.channels.senders) ∙ less_unit i (in_doubt_of (sender_in d p.channels.senders));
}

pub drop_aside : (m : Message) (s : Standing) (p : Plain) → IsAside p (apply_all (drop_changes m s) p)
drop_aside m Absent p = undoubted_aside (is_persistent m) m.ident p
drop_aside m Present p = undoubted_aside (is_persistent m) m.ident p
drop_aside m (InDoubtAt q) p =
    let r : Plain = apply (Leave (Among q (m.ident ∷ []))) p in
    let k = undoubted_aside (is_persistent m) m.ident r in
    record { given = k.given; definitions = k.definitions; connections = k.connections; moment = k.moment; numbers = k.numbers; batches = k.batches; receivers = k.receivers; doubts = k.doubts }

pub comes_on : (p q : Plain) (x : Message) → IsAside p q → Comes p x → ((d : List ℕ) (h : Row) → Mem h (stored d q).rows → h.message.ident ≡ x.ident → Mem h (stored d p).rows) → Comes q x
comes_on p q x a k old = record {
  rows = λ d h n e. let r = k.rows d h (old d h n e) e in (r.0, r.1, ap (batch_of r.0) a.batches ∙ r.2, r.3);
  pending = ap (λ (cs : List Connection). list_any (λ (c : Connection). list_any (has_put x.ident) c.unit) cs) a.connections ∙ k.pending;
  unborn = (λ i. unborn_by (a.given i) (a.numbers i) x.ident) ∙ k.unborn;
}
