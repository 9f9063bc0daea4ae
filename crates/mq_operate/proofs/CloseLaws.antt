-- A receiver's session that is closed at its manager, and the end unbound.
use Rattle.std.proofs.Common.{◌≡◌, ℕ, zero, suc, ◌+◌, ◌<◌, ◌≤◌, refl, sym, subst, ◌∙◌, List, [], ◌∷◌, ◌++◌, Bool, true, false, not, arith}
use Rattle.std.specs.Prelude.{Option, Some, None, Result, Ok, ◌&&◌, if◌then◌else◌, nat_lt}
use Rattle.mq_base.specs.declared.want.NoMemory.{NoMemory as Want}
use Rattle.mq_calls.specs.declared.agents.Note.TheVariants as notes
use Rattle.mq_calls.specs.declared.choices.Choice.{Choice}
use Rattle.mq_calls.specs.declared.choices.Choice.TheVariants.{Runs, NoMemory, Stopped}
use Rattle.mq_sync.specs.declared.data.ReceiverData.{ReceiverData}
use Rattle.mq_sync.specs.Settlement.{receiver_or}
use Rattle.mq_calls.specs.Words.{MeetsOrWants, receiver_data}
use Rattle.mq_calls.specs.Meeting.Wants.{Anywhere}
use Rattle.mq_spec_manager.specs.Agents.{CanHarden, IsUp, harden, set_bound}
use Rattle.mq_spec_node.specs.Terms.{Did, Part, Plain}
use Rattle.mq_spec_node.specs.Words.{is_open, parts_of}
use Rattle.mq_core.specs.Values.{CoreValue, manager_of}
use Rattle.mq_turn_parts.specs.from_events.{Told}
use Rattle.mq_turn_parts.specs.Turns.{IsBehind, Made, MadeOr, has_run}
use Rattle.mq_turn_parts.proofs.PartLaws.{AreSilent, behind_if, behind_none, behind_ran, made_behind}
use Rattle.mq_turn_parts.proofs.QuietLaws.{BringNone, harden_brings}
use Rattle.mq_operate.specs.Receivers.{close_named, unbound_if}

-- ---- whether a session is open

pub open_or : (o : Option ReceiverData) → (nat_lt 0 (receiver_or o).session && not (receiver_or o).closed) ≡ is_open o
open_or None = refl
open_or (Some d) = refl

both_true : (b c : Bool) → (b && not c) ≡ true → (b ≡ true) × (c ≡ false)
both_true true true e = absurd cc
both_true true false e = (refl, refl)
both_true false c e = absurd cc

above_zero : (n : ℕ) → nat_lt 0 n ≡ true → 0 < n
above_zero zero e = absurd cc
above_zero (suc n) e = omega arith

open_both : (n : ℕ) (c : Bool) → (nat_lt 0 n && not c) ≡ true → (0 < n) × (c ≡ false)
open_both n c e = let k = both_true (nat_lt 0 n) c e in (above_zero n k.0, k.1)

open_can : (o : Option ReceiverData) (session : ℕ) → is_open o ≡ true → session ≡ (receiver_or o).session → (0 < session) × (session ≡ (receiver_or o).session) × ((receiver_or o).closed ≡ false)
open_can o session e s =
    let k = open_both (receiver_or o).session (receiver_or o).closed (open_or o ∙ e) in
    (subst (λ (n : ℕ). 0 < n) (sym s) k.0, s, k.1)

pub close_can : (channel : List ℕ) (session : ℕ) (p : Plain) → is_open (receiver_data channel p) ≡ true → session ≡ (receiver_or (receiver_data channel p)).session → CanHarden channel (notes.Closed session) p
close_can channel session p e s = open_can (receiver_data channel p) session e s

-- ---- unbound behind what was done

unbound_is : (choice : Choice) (channel : List ℕ) (p q : Plain) → unbound_if choice channel p ≡ behind_if choice (parts_of (set_bound channel false q))
unbound_is Runs channel p q = refl
unbound_is NoMemory channel p q = refl
unbound_is (Stopped by n left) channel p q = refl

unbound_silent : (channel : List ℕ) (p : Plain) → AreSilent (parts_of (set_bound channel false p))
unbound_silent channel p = (refl, refl, tt)

pub made_unbound : (ps : List Part) (channel : List ℕ) (choice : Choice) (delta : List Did) (old mid new : CoreValue) → Made ps choice delta old mid → IsBehind (unbound_if choice channel mid.plain) mid new
    → Made (ps ++ parts_of (set_bound channel false old.plain)) choice delta old new
made_unbound ps channel choice delta old mid new m h =
    let B : List Part → Type 0 = λ qs. IsBehind qs mid new in
    made_behind ps (parts_of (set_bound channel false old.plain)) choice delta old mid new (unbound_silent channel old.plain) m (subst B (unbound_is choice channel mid.plain old.plain) h)

pub unbound_done : (channel : List ℕ) (choice : Choice) (old new : CoreValue) → has_run choice ≡ true → MeetsOrWants (manager_of old) (set_bound channel false old.plain) (Ok tt) (manager_of new) → IsBehind (unbound_if choice channel old.plain) old new
unbound_done channel Runs old new h m = behind_ran Anywhere (set_bound channel false old.plain) tt old new m
unbound_done channel NoMemory old new h m = absurd cc
unbound_done channel (Stopped by n left) old new h m = absurd cc

pub unbound_undone : (channel : List ℕ) (choice : Choice) (v : CoreValue) → has_run choice ≡ false → IsBehind (unbound_if choice channel v.plain) v v
unbound_undone channel Runs v h = absurd cc
unbound_undone channel NoMemory v h = behind_none v
unbound_undone channel (Stopped by n left) v h = behind_none v

pub up_ran : (choice : Choice) (p : Plain) → (choice ≡ Runs → IsUp p) → has_run choice ≡ true → IsUp p
up_ran Runs p f h = f refl
up_ran NoMemory p f h = absurd cc
up_ran (Stopped by n left) p f h = absurd cc

-- ---- what STOP closes

abbrev session_parts : List ℕ → ℕ → Plain → List Part
session_parts channel session p = parts_of (harden channel (notes.Closed session) p) ++ parts_of (set_bound channel false p)

either : (b : Bool) (xs ys : List Part) → b ≡ true → (if b then xs else ys) ≡ xs
either true xs ys e = refl
either false xs ys e = absurd cc

other : (b : Bool) (xs ys : List Part) → b ≡ false → (if b then xs else ys) ≡ ys
other true xs ys e = absurd cc
other false xs ys e = refl

pub closed_open : (channel : List ℕ) (session : ℕ) (result : Result Told Want) (old new : CoreValue) → is_open (receiver_data channel old.plain) ≡ true → session ≡ (receiver_or (receiver_data channel old.plain)).session
    → MadeOr (parts_of (harden channel (notes.Closed session) old.plain) ++ parts_of (set_bound channel false old.plain)) result old new → MadeOr (close_named channel old.plain) result old new
closed_open channel session result old new e s m =
    let hardened : ℕ = (receiver_or (receiver_data channel old.plain)).session in
    let S : ℕ → Type 0 = λ n. MadeOr (session_parts channel n old.plain) result old new in
    let M : List Part → Type 0 = λ ps. MadeOr ps result old new in
    subst M (sym (either (is_open (receiver_data channel old.plain)) (session_parts channel hardened old.plain) (parts_of (set_bound channel false old.plain)) e)) (subst S s m)

pub closed_shut : (channel : List ℕ) (result : Result Told Want) (old new : CoreValue) → is_open (receiver_data channel old.plain) ≡ false → MadeOr (parts_of (set_bound channel false old.plain)) result old new → MadeOr (close_named channel old.plain) result old new
closed_shut channel result old new e m =
    let hardened : ℕ = (receiver_or (receiver_data channel old.plain)).session in
    let M : List Part → Type 0 = λ ps. MadeOr ps result old new in
    subst M (sym (other (is_open (receiver_data channel old.plain)) (session_parts channel hardened old.plain) (parts_of (set_bound channel false old.plain)) e)) m

-- ---- it raises no counter

zero_one : 0 + 0 ≤ 0
zero_one = omega arith

some_bring : (xs ys : List Part) → BringNone xs → BringNone ys → BringNone (xs ++ ys)
some_bring [] ys a b = b
some_bring (x ∷ xs) ys a b = (a.0, some_bring xs ys a.1 b)

unbound_brings : (channel : List ℕ) (p : Plain) → BringNone (parts_of (set_bound channel false p))
unbound_brings channel p = (zero_one, tt)

if_bring : (b : Bool) (xs ys : List Part) → BringNone xs → BringNone ys → BringNone (if b then xs else ys)
if_bring true xs ys x y = x
if_bring false xs ys x y = y

pub close_brings : (channel : List ℕ) (p : Plain) → BringNone (close_named channel p)
close_brings channel p =
    let session : ℕ = (receiver_or (receiver_data channel p)).session in
    if_bring (is_open (receiver_data channel p)) (session_parts channel session p) (parts_of (set_bound channel false p))
    (some_bring (parts_of (harden channel (notes.Closed session) p)) (parts_of (set_bound channel false p)) (harden_brings channel (notes.Closed session) p) (unbound_brings channel p)) (unbound_brings channel p)
