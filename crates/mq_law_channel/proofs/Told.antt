-- What tests say, and what the frames that were seen tell.
use Rattle.std.proofs.Common.{ℕ, ◌≡◌, ◌≢◌, Bool, true, false, List, [], ◌∷◌, refl, ap, sym, subst, arith, inl, inr}
use Rattle.std.specs.Prelude.{Option, Some, None, ◌==◌, ◌&&◌, if◌then◌else◌}
use Rattle.std.proofs.lemmas.Bool.Decides.{nat_tests}
use Rattle.mq_frame.specs.declared.frame.Frame.{Frame}
use Rattle.mq_frame.specs.declared.frame.FrameKind.{FrameKind}
use Rattle.mq_frame.specs.declared.frame.FrameKind.TheVariants.{Status, Ack, Err}
use Rattle.mq_frame.specs.declared.frame.Seen.{Seen}
use Rattle.mq_frame.specs.declared.frame.Seen.TheVariants as items
use Rattle.mq_sync.specs.declared.unit.Unit.{Unit as Luw}
use Rattle.mq_sync.specs.declared.data.InDoubt.{InDoubt}
use Rattle.mq_sync.specs.Units.{unit_named, same_unit}
use Rattle.mq_sync.specs.Turns.{Line, first_line}
use Rattle.mq_sync.specs.declared.data.Doubt.{Doubt}
use Rattle.mq_sender.specs.States.{doubt_of}
use Rattle.mq_sender.specs.Table.{kind_is_status, is_status, kind_unit, kind_last, status_unit, status_last, names_doubt, kind_is_ack, kind_is_err, is_ack, is_err}
use Rattle.mq_law_channel.specs.Facts.{Letter, Tale, Sends, Ends, Tells, Acks, Errs, Mem, given}
use Rattle.mq_law_channel.specs.Channel.{tale_of, tale, tales}
use Rattle.mq_law_channel.specs.Turns.{SeenIn}

pub bool_case : (t : Bool) (P : Bool → Type 0) → (t ≡ true → P true) → (t ≡ false → P false) → P t
bool_case true P a b = a refl
bool_case false P a b = b refl

-- what holds of each line that applies, with no earlier one that does, holds of the first line that applies
abbrev pub EachLine : {A : Type 0} → (A → Type 0) → A → List (Line A) → Type 0
EachLine P otherwise [] = P otherwise
EachLine P otherwise (l ∷ ls) = (l.applies ≡ true → P l.does) × (l.applies ≡ false → EachLine P otherwise ls)

pub by_lines : {A : Type 0} (P : A → Type 0) (otherwise : A) (ls : List (Line A)) → EachLine P otherwise ls → P (first_line otherwise ls)
by_lines P otherwise [] h = h
by_lines P otherwise (l ∷ ls) h = bool_case l.applies (λ b. P (if b then l.does else first_line otherwise ls)) h.0 (λ e. by_lines P otherwise ls (h.1 e))

pub and_both : (a b : Bool) → (a && b) ≡ true → (a ≡ true) × (b ≡ true)
and_both true b e = (refl, e)
and_both false b e = absurd cc

pub nat_yes : (m n : ℕ) → (m == n) ≡ true → m ≡ n
nat_yes m n e = grind (arith, nat_tests)

pub unit_yes : (u v : Luw) → same_unit u v ≡ true → u ≡ v
unit_yes u v e = grind (arith, nat_tests)

pub unit_self : (u : Luw) → same_unit u u ≡ true
unit_self u = grind (arith, nat_tests)

pub unit_no : (u v : Luw) → same_unit u v ≡ false → u ≢ v
unit_no u v e q = grind (arith, nat_tests)

pub given_self : (content : Luw → List Letter) (u : Luw) (letters : List Letter) → given content u letters u ≡ letters
given_self content u letters = ap (λ t. if t then letters else content u) (unit_self u)

pub mem_tale : (f : Frame) (fs : List Frame) → Mem f fs → Mem (tale f) (tales fs)
mem_tale f [] m = absurd m
mem_tale f (g ∷ fs) (inl e) = inl (ap tale e)
mem_tale f (g ∷ fs) (inr m) = inr (mem_tale f fs m)

pub sends_as : (x y n k i j : ℕ) (l : Letter) → x ≡ y → n ≡ k → i ≡ j → Sends (unit_named x n) i l ≡ Sends (unit_named y k) j l
sends_as x y n k i j l a b d = λ z. Sends (unit_named (a z) (b z)) (d z) l

pub ends_as : (x y n k count last : ℕ) → x ≡ y → n ≡ k → Ends (unit_named x n) count last ≡ Ends (unit_named y k) count last
ends_as x y n k count last a b = λ z. Ends (unit_named (a z) (b z)) count last

-- STATUS
pub status_kind : (x : ℕ) (session : ℕ) (k : FrameKind) → (kind_is_status k && (session == x)) ≡ true → tale_of session k ≡ Tells x (kind_unit k) (kind_last k)
status_kind x session (Status s n last) e = ap (λ (y : ℕ). Tells y (unit_named s n) last) (nat_yes session x e)
status_kind x session k e = absurd cc

pub status_told : (x : ℕ) (seen : Seen) (back : List Frame) → is_status x seen ≡ true → SeenIn seen back → Mem (Tells x (status_unit seen) (status_last seen)) (tales back)
status_told x items.Nothing back e m = absurd cc
status_told x items.Spoiled back e m = absurd cc
status_told x (items.Frame f) back e m = subst (λ (t : Tale). Mem t (tales back)) (status_kind x f.session f.kind e) (mem_tale f back m)

-- ACK and ERR of the unit in doubt
pub record Told (o : Option Doubt) (of_unit : Luw → Tale) (back : List Tale) : Type 0 where
  pub doubt : Doubt
  pub is : o ≡ Some doubt
  pub told : Mem (of_unit doubt.unit) back

pub record Kind (o : Option Doubt) (of_unit : Luw → Tale) (t : Tale) : Type 0 where
  pub doubt : Doubt
  pub is : o ≡ Some doubt
  pub told : t ≡ of_unit doubt.unit

pub named : (o : Option Doubt) (session n : ℕ) (of_unit : Luw → Tale) → names_doubt o session n ≡ true → Kind o of_unit (of_unit (unit_named session n))
named None session n of_unit e = absurd cc
named (Some d) session n of_unit e = record { doubt = d; is = refl; told = ap of_unit (sym (unit_yes d.unit (unit_named session n) e)) }

pub ack_kind : (o : Option Doubt) (session : ℕ) (k : FrameKind) → kind_is_ack o session k ≡ true → Kind o Acks (tale_of session k)
ack_kind o session (Ack n) e = named o session n Acks e
ack_kind o session k e = absurd cc

pub err_kind : (o : Option Doubt) (session : ℕ) (k : FrameKind) → kind_is_err o session k ≡ true → Kind o Errs (tale_of session k)
err_kind o session (Err n reason) e = named o session n Errs e
err_kind o session k e = absurd cc

pub told_of_kind : (o : Option Doubt) (of_unit : Luw → Tale) (t : Tale) (back : List Tale) → Kind o of_unit t → Mem t back → Told o of_unit back
told_of_kind o of_unit t back k m = record { doubt = k.doubt; is = k.is; told = subst (λ (a : Tale). Mem a back) k.told m }

pub ack_told : (o : Option Doubt) (seen : Seen) (back : List Frame) → is_ack o seen ≡ true → SeenIn seen back → Told o Acks (tales back)
ack_told o items.Nothing back e m = absurd cc
ack_told o items.Spoiled back e m = absurd cc
ack_told o (items.Frame f) back e m = told_of_kind o Acks (tale f) (tales back) (ack_kind o f.session f.kind e) (mem_tale f back m)

pub err_told : (o : Option Doubt) (seen : Seen) (back : List Frame) → is_err o seen ≡ true → SeenIn seen back → Told o Errs (tales back)
err_told o items.Nothing back e m = absurd cc
err_told o items.Spoiled back e m = absurd cc
err_told o (items.Frame f) back e m = told_of_kind o Errs (tale f) (tales back) (err_kind o f.session f.kind e) (mem_tale f back m)

-- the unit in doubt, as the machine and as the data have it
pub record Doubted (o : Option InDoubt) (q : Doubt) : Type 0 where
  pub data_ : InDoubt
  pub is : o ≡ Some data_
  pub unit : data_.unit ≡ q.unit

pub doubt_is : (o : Option InDoubt) (q : Doubt) → doubt_of o ≡ Some q → Doubted o q
doubt_is None q e = absurd cc
doubt_is (Some d) q e = record { data_ = d; is = refl; unit = ap unit_in e }
  where
    unit_in : Option Doubt → Luw
    unit_in None = q.unit
    unit_in (Some x) = x.unit

pub no_doubt : (o : Option InDoubt) → doubt_of o ≡ None → o ≡ None
no_doubt None e = refl
no_doubt (Some d) e = absurd cc
