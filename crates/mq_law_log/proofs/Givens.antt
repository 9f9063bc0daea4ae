-- Each ident in a record that a sound manager writes was given: its manager's own are of incarnations that have begun.
use Rattle.std.proofs.Common.{ℕ, ◌≡◌, Bool, true, false, List, [], ◌∷◌, refl, ap, sym, ◌∙◌, subst, map, arith, inl, inr}
use Rattle.std.specs.Prelude.{Option, Some, None, not, ◌==◌, ◌&&◌, ◌||◌, nat_lt, nat_le, if◌then◌else◌}
use Rattle.std.specs.List.{list_all}
use Rattle.std.proofs.lemmas.Bool.Decides.{nat_tests}
use Rattle.mq_message.specs.declared.message.Ident.{Ident}
use Rattle.mq_message.specs.declared.message.Message.{Message}
use Rattle.mq_queue.specs.declared.row.Row.{Row}
use Rattle.mq_calls.specs.declared.agents.Note.{Note}
use Rattle.mq_calls.specs.declared.agents.Note.TheVariants as notes
use Rattle.mq_calls.specs.declared.records.Add.{Add}
use Rattle.mq_calls.specs.declared.records.Remove.{Remove}
use Rattle.mq_calls.specs.declared.records.LogRecord.TheVariants as records
use Rattle.mq_calls.specs.declared.state.Item.{Item}
use Rattle.mq_calls.specs.declared.state.Item.TheVariants.{Put, Take}
use Rattle.mq_calls.specs.State.{Plain}
use Rattle.mq_calls.specs.declared.state.Connection.{Connection}
use Rattle.mq_calls.specs.declared.state.Batch.{Batch}
use Rattle.mq_calls.specs.Reads.{connection_at, is_persistent, batch_of}
use Rattle.mq_calls.specs.Images.{lasting}
use Rattle.mq_spec_manager.specs.Put.{next_ident, unit_record}
use Rattle.mq_spec_manager.specs.Get.{removal_record}
use Rattle.mq_spec_manager.specs.Units.{adds_of, removes_of, record_of}
use Rattle.mq_spec_manager.specs.Agents.{is_unborn, harden_part}
use Rattle.mq_spec_log.specs.Applies.{was_given}
use Rattle.mq_law_manager.specs.View.{puts_in, items_of}
use Rattle.mq_law_manager.specs.Facts.{Mem, IsSound}
use Rattle.mq_law_manager.proofs.Lists.{bool_case}
use Rattle.mq_law_log.specs.Restarts.{IsGivenIn}

-- an ident that isn't still to be given

pub given_of : (m n k : ℕ) (i : Ident) → ((i.manager == m) && (nat_lt n i.incarnation || ((i.incarnation == n) && nat_lt k i.number))) ≡ false → (not (i.manager == m) || nat_le i.incarnation n) ≡ true
given_of m n k i e = grind (arith, nat_tests)

pub born_given : (i : Ident) (p : Plain) → is_unborn i p ≡ false → was_given p.given (lasting p) i ≡ true
born_given i p e = given_of p.given.number p.numbers.incarnation p.numbers.idents i e

next_of : (m n : ℕ) → (not (m == m) || nat_le n n) ≡ true
next_of m n = grind (arith, nat_tests)

pub next_given : (p : Plain) → was_given p.given (lasting p) (next_ident p) ≡ true
next_given p = next_of p.given.number p.numbers.incarnation

one_given : (i : Ident) (p : Plain) → was_given p.given (lasting p) i ≡ true → list_all (was_given p.given (lasting p)) (i ∷ []) ≡ true
one_given i p e = ap (λ (b : Bool). b && true) e

-- puts and removals

pub put_given : (queue : List ℕ) (m : Message) (p : Plain) → was_given p.given (lasting p) m.ident ≡ true → IsGivenIn (unit_record queue m) p
put_given queue m p e = bool_case (is_persistent m) (λ b. IsGivenIn (if b then Some (records.Unit (record { queue = queue; message = m } ∷ []) []) else None) p) (λ z. one_given m.ident p e) (λ z. tt)

pub removal_given : (queue : List ℕ) (rows : List Row) (p : Plain) → IsGivenIn (removal_record queue rows) p
removal_given queue [] p = tt
removal_given queue (row ∷ rows) p = refl

-- a unit

abbrev pub AllBorn : Plain → List Add → Type 0
AllBorn p as_ = list_all (was_given p.given (lasting p)) (map (λ (a : Add). a.message.ident) as_) ≡ true

unit_born : (p : Plain) (items : List Item) → ((a : Add) → Mem a (puts_in items) → is_unborn a.message.ident p ≡ false) → AllBorn p (adds_of items)
unit_born p [] f = refl
unit_born p (Put queue m ∷ items) f = bool_case (is_persistent m) (λ b. AllBorn p (if b then record { queue = queue; message = m } ∷ adds_of items else adds_of items))
    (λ e. ap (λ (b : Bool). b && list_all (was_given p.given (lasting p)) (map (λ (a : Add). a.message.ident) (adds_of items))) (born_given m.ident p (f (record { queue = queue; message = m }) (inl refl))) ∙ unit_born p items (λ a k. f a (inr k)))
    (λ e. unit_born p items (λ a k. f a (inr k)))
unit_born p (Take queue ident persistent ∷ items) f = unit_born p items f

record_given : (adds : List Add) (removes : List Remove) (p : Plain) → AllBorn p adds → IsGivenIn (record_of adds removes) p
record_given [] [] p e = tt
record_given [] (r ∷ rs) p e = refl
record_given (a ∷ as_) rs p e = e

pub commit_given : (c : Connection) (p : Plain) → IsSound p → connection_at c.number p.connections ≡ Some c → IsGivenIn (record_of (adds_of c.unit) (removes_of c.unit)) p
commit_given c p h live = record_given (adds_of c.unit) (removes_of c.unit) p (unit_born p c.unit (λ a m.
    h.facts.apart.put_given c.number a (subst (λ (o : Option Connection). Mem a (puts_in (items_of o))) (sym live) m)))

-- a batch

all_given : (p : Plain) (is : List Ident) → ((i : Ident) → Mem i is → is_unborn i p ≡ false) → list_all (was_given p.given (lasting p)) is ≡ true
all_given p [] f = refl
all_given p (i ∷ is) f = ap (λ (b : Bool). b && list_all (was_given p.given (lasting p)) is) (born_given i p (f i (inl refl))) ∙ all_given p is (λ j m. f j (inr m))

pub batch_given : (channel : List ℕ) (b : Batch) (p : Plain) → IsSound p → batch_of channel p.channels.batches ≡ Some b → list_all (was_given p.given (lasting p)) b.idents ≡ true
batch_given channel b p h e = all_given p b.idents (λ i m.
    let full = h.facts.batched.full channel b i e m in
    ap (λ (x : Ident). is_unborn x p) (sym full.is) ∙ h.facts.apart.given b.queue full.row full.there)

-- what a channel's end hardens has no idents
pub note_given : (channel : List ℕ) (note : Note) (p : Plain) → IsGivenIn (harden_part channel note p).forced p
note_given channel (notes.Session partner session) p = refl
note_given channel (notes.Resolved unit commit operator) p = refl
note_given channel (notes.Bound partner session last) p = refl
note_given channel (notes.Closed session) p = refl
note_given channel (notes.SeqSet end last) p = refl
