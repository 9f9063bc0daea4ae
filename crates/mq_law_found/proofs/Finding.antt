-- What finds of all kinds rest on: a step as it is read, ledgers at another moment, managers whose log stands elsewhere.
use Rattle.std.proofs.Common.{ℕ, zero, suc, ◌≡◌, Bool, List, [], ◌∷◌, refl, ap, sym, subst, ◌∙◌}
use Rattle.std.specs.Prelude.{Option, Some, None, Result, Ok, Err, slice_get}
use Rattle.mq_message.specs.declared.message.Ident.{Ident}
use Rattle.mq_codes.specs.declared.reason.Reason.{Reason}
use Rattle.mq_disk.specs.declared.cutter.Stop.{Stop}
use Rattle.mq_calls.specs.declared.deltas.Did.{Did}
use Rattle.mq_calls.specs.declared.records.LogRecord.{LogRecord}
use Rattle.mq_calls.specs.declared.state.Connection.{Connection}
use Rattle.mq_calls.specs.declared.state.Handle.{Handle}
use Rattle.mq_history.specs.declared.calls.Call.{Call}
use Rattle.mq_history.specs.declared.calls.Chance.{Chance}
use Rattle.mq_history.specs.declared.calls.Entry.{Entry}
use Rattle.mq_calls.specs.State.{Plain, Running, LogState, Noted}
use Rattle.mq_calls.specs.Steps.{Step, Part, Test, tested, refusal, refused_or, freeze, note_of, volatile_gone}
use Rattle.mq_calls.specs.Steps.Step.{Refuse, Do}
use Rattle.mq_spec_manager.specs.Handles.{for_connection, for_handle}
use Rattle.mq_spec_network.specs.Ledger as ledgers
use Rattle.mq_spec_network.specs.Ledger.{Ledger, Users, users_or, users_at, at_moment, change_at}
use Rattle.mq_law_events.specs.Tied.{IsTold, Follow}
use Rattle.mq_law_events.specs.Posting.{IsTimed}
use Rattle.mq_law_events.proofs.Telling.{here_changed, else_users, else_then}
use Rattle.mq_law_found.specs.Finds.{since, IsNoted, stopped_call, PartNotes, StepNotes}

-- A step as it is read

pub tested_with : {F T : Type 0} (P : Step F T → Type 0) → ((r : F) → P (Refuse r)) → (ts : List (Test F)) (s : Step F T) → (refusal ts ≡ None → P s) → P (tested ts s)
tested_with P no_ ts s k = at (refusal ts) refl
  where
    at : (o : Option _) → refusal ts ≡ o → P (refused_or o s)
    at None e = k e
    at (Some reason) e = no_ reason

pub live_with : {T : Type 0} (P : Step Reason T → Type 0) → ((r : Reason) → P (Refuse r)) → (r : Result Connection Reason) (f : Connection → Step Reason T) → ((c : Connection) → r ≡ Ok c → P (f c)) → P (for_connection r f)
live_with P no_ (Ok c) f k = k c refl
live_with P no_ (Err e) f k = no_ e

pub open_with : {T : Type 0} (P : Step Reason T → Type 0) → ((r : Reason) → P (Refuse r)) → (o : Option Handle) (f : Handle → Step Reason T) → ((h : Handle) → o ≡ Some h → P (f h)) → P (for_handle o f)
open_with P no_ (Some h) f k = k h refl
open_with P no_ None f k = no_ _

-- a note of what is left, wherever the manager froze
pub frozen_noted : (m : ℕ) (s : ledgers.Stopped) (n : Noted) (note : Option Noted) (left : ℕ) (p : Plain) → IsNoted m s n (volatile_gone p) → IsNoted m s n (freeze note left p)
frozen_noted m s n noted left p h = record { followed = h.followed; sound = h.sound; quiet = h.quiet }

pub part_noted : (m : ℕ) (call : Call) (moment : ℕ) (p : Plain) (part : Part) (left : ℕ) (e : Entry) (chance : Chance) (by_ : Stop) (ds : List Did) (note : Noted) → PartNotes m call moment p part → note_of part part.forced ≡ Some note
    → IsNoted m (stopped_call e call chance by_ ds moment) note (freeze (note_of part part.forced) left p)
part_noted m call moment p part left e chance by_ ds note h is = frozen_noted m (stopped_call e call chance by_ ds moment) note (note_of part part.forced) left p (go part.forced refl is)
  where
    go : (o : Option LogRecord) → part.forced ≡ o → note_of part o ≡ Some note → IsNoted m (stopped_call e call chance by_ ds moment) note (volatile_gone p)
    go None f w = absurd cc
    go (Some r) f w = let same : record { written = r; changes = part.changes; delta = part.delta } ≡ note = cc in subst (λ (n : Noted). IsNoted m (stopped_call e call chance by_ ds moment) n (volatile_gone p)) same (h r e chance by_ ds f)

pub one_noted : (F : Type 0) {T : Type 0} (m : ℕ) (call : Call) (p : Plain) (reply : T) (part : Part) → PartNotes m call p.moment p part → StepNotes {F = F} m call p (Do reply (part ∷ []))
one_noted F m call p reply part h zero left e chance by_ ds note w is = part_noted m call p.moment p part left e chance by_ ds note h is
one_noted F m call p reply part h (suc n) left e chance by_ ds note w is = absurd w

-- a part that forces nothing
pub none_noted : (F : Type 0) {T : Type 0} (m : ℕ) (call : Call) (p : Plain) (reply : T) → StepNotes {F = F} {T = T} m call p (Do reply [])
none_noted F m call p reply n left e chance by_ ds note w is = absurd w

-- Moments

abbrev set_moment : ℕ → Users → Users
set_moment t u = record u { moment = t }

moments_there : (m t : ℕ) (us : List Users) → change_at m (set_moment (users_or (slice_get us m)).moment) (change_at m (set_moment t) us) ≡ us
moments_there m t [] = refl
moments_there zero t (u ∷ us) = refl
moments_there (suc m) t (u ∷ us) = ap (λ (x : List Users). u ∷ x) (moments_there m t us)

pub moments_back : (m t : ℕ) (l : Ledger) → at_moment m (users_at m l).moment (at_moment m t l) ≡ l
moments_back m t l = ap (λ (us : List Users). record l { users = us }) (moments_there m t l.users)

-- what is told is told at another moment, of the manager at any
pub told_since : (m : ℕ) (p : Plain) (running : Running) (moment : ℕ) (log : LogState) (l : Ledger) → IsTold m p l → IsTold m (since p running moment log) l
told_since m p running moment log l t = record { places = t.places; placed = t.placed; name = t.name; definitions = t.definitions; shelved = t.shelved; users = t.users; used = t.used; connections = t.connections }

pub told_then : (m t : ℕ) (p : Plain) (l : Ledger) → IsTold m p l → IsTold m p (at_moment m t l)
told_then m t p l h = record { places = h.places; placed = h.placed; name = h.name; definitions = h.definitions; shelved = h.shelved; users = set_moment t h.users; used = here_changed m (set_moment t) l.users h.users h.used; connections = h.connections }

pub timed_then : (m : ℕ) (p : Plain) (l : Ledger) → IsTold m p l → IsTimed m p (at_moment m p.moment l)
timed_then m p l h = record { users = set_moment p.moment h.users; used = here_changed m (set_moment p.moment) l.users h.users h.used; moment = refl }

-- what rows and ledger have in common goes by the rows that are persistent alone
pub told_gone : (m : ℕ) (p : Plain) (running : Running) (moment : ℕ) (log : LogState) (l : Ledger) → IsTold m (since (volatile_gone p) running moment log) l → IsTold m p l
told_gone m p running moment log l t = record { places = t.places; placed = t.placed; name = t.name; definitions = t.definitions; shelved = t.shelved; users = t.users; used = t.used; connections = t.connections }

pub in_moment : (m t : ℕ) (given : Ident → Bool) (p q : Plain) (l k : Ledger) → IsTold m p l → Follow m given p (at_moment m t l) q k → Follow m given p l q (at_moment m (users_at m l).moment k)
in_moment m t given p q l k told f =
    let now : ℕ = (users_at m l).moment in
    let end : Ledger = at_moment m now k in
    let used : slice_get end.users m ≡ Some (set_moment now f.told.users) = here_changed m (set_moment now) k.users f.told.users f.told.used in
    record {
      now = f.now;
      leads = f.leads;
      fresh = f.fresh;
      known = f.known;
      told = told_then m now q k f.told;
      same = f.same;
      steady = f.steady;
      other = else_then m l (at_moment m t l) end (else_users m (set_moment t) l) (else_then m (at_moment m t l) k end f.other (else_users m (set_moment now) k));
      kept = λ u x a b.
          let is : x ≡ set_moment now f.told.users = ap users_or (sym b ∙ used) in
          let was : (users_at m l).moment ≡ u.moment = ap (λ o. (users_or o).moment) a in
          let inner = f.kept (set_moment t u) f.told.users (here_changed m (set_moment t) l.users u a) f.told.used in
          record { cut = ap (λ (y : Users). y.cut) is ∙ inner.cut; moment = ap (λ (y : Users). y.moment) is ∙ was };
    }
