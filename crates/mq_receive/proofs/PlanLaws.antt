-- The plan of a batch, message by message.
use Rattle.std.proofs.Common.{◌≡◌, ℕ, suc, ◌+◌, ◌<◌, length, get_or, drop, add-one, drop-cons, Bool, true, false, List, [], ◌∷◌, ◌++◌, refl, ap, sym, subst, ◌∙◌}
use Rattle.std.specs.Prelude.{Option, Some, None, Result, Ok, Err, ◌||◌, ◌&&◌, if◌then◌else◌, flat_map}
use Rattle.std.proofs.lemmas.List.{append-nil}
use Rattle.mq_calls.specs.declared.agents.PlaceFault.TheVariants as place_faults
use Rattle.mq_calls.specs.Words.{Change, Refuse, Ident, Message, Reason, Plain, Luw, Step, same_ident, is_persistent, apply_all}
use Rattle.mq_calls.specs.declared.agents.PlaceFault.{PlaceFault}
use Rattle.mq_calls.specs.declared.records.Add.{Add}
use Rattle.mq_calls.specs.declared.deltas.Did.{Did}
use Rattle.mq_spec_manager.specs.Agents.{Landed, RowAt, Standing, Absent, InDoubtAt, Present, standing_by, standing_at, is_present, row_of, is_pending, is_unborn, is_doubted_by, same_flag, land, landed, receive, receive_landed}
use Rattle.mq_law_manager.specs.Facts.{Sound, AreNamed}
use Rattle.mq_law_manager.proofs.Lists.{ident_yes, same_self}
use Rattle.mq_law_manager.proofs.Receiving.{IsStanding, IsLanding, standing_is, land_is, land_sound}
use Rattle.mq_law_manager.proofs.QueueNames.{all_named}
use Rattle.mq_law_manager.proofs.Units.{behind}
use Rattle.mq_core.specs.declared.parts.Arrival.{Arrival}
use Rattle.mq_core.specs.Writes.{landing_of, standing_of, arrival_changes, all_landed}
use Rattle.mq_receive.specs.Ahead.{IsAhead}
use Rattle.mq_receive.specs.Leading.{Leads}
use Rattle.mq_receive.specs.Standings.{has_landed, standing_among, FitsAt, AreFitting, behind_all}
use Rattle.mq_receive.specs.Arriving.{Lands}
use Rattle.mq_receive.specs.Planned.{IsPlan, Goes, Plans}
use Rattle.mq_receive.proofs.AheadLaws.{ahead_first, ahead_more}
use Rattle.mq_receive.proofs.LeadLaws.{leads_first, leads_over, leads_refused, leads_more, leads_last, state_more}
use Rattle.mq_receive.proofs.StandLaws.{standing_other, standing_own}

-- a standing is told by the ident and by whether the message lasts
standing_from : Ident → Bool → Option RowAt → Plain → Standing
standing_from i b None p = if is_pending i p || is_unborn i p then Present else Absent
standing_from i b (Some at) p = if is_doubted_by i at.row.by p && same_flag b (is_persistent at.row.message) then InDoubtAt at.queue else Present

from_is : (m : Message) (o : Option RowAt) (p : Plain) → standing_by m o p ≡ standing_from m.ident (is_persistent m) o p
unfolding standing_from
from_is m None p = refl
from_is m (Some at) p = refl

pub standing_same : (m k : Message) (p : Plain) → m.ident ≡ k.ident → is_persistent m ≡ is_persistent k → standing_at m p ≡ standing_at k p
standing_same m k p e f =
    from_is m (row_of m.ident p.queues) p ∙ ap (λ (i : Ident). standing_from i (is_persistent m) (row_of i p.queues) p) e ∙ ap (λ (b : Bool). standing_from k.ident b (row_of k.ident p.queues) p) f
    ∙ sym (from_is k (row_of k.ident p.queues) p)

-- before any message has landed
pub plan_first : (channel : List ℕ) (batch : List Message) (p : Plain) → Sound p → AreNamed p.queues → IsPlan (landed channel batch p) channel [] batch p
plan_first channel batch p sound named = record {
  leads = leads_first (landed channel batch p);
  ahead = ahead_first p;
  sound = sound;
  named = named;
  stands = λ m. refl;
  fits = tt;
}

-- a message that stands here is left out
pub plan_over : (whole : Result Landed Reason) (channel : List ℕ) (done : List Arrival) (m : Message) (rest : List Message) (p : Plain) → standing_among done m p ≡ Present → IsPlan whole channel done (m ∷ rest) p → IsPlan whole channel done rest p
plan_over whole channel done m rest p e h = record {
  leads = leads_over whole done channel m rest (behind_all done p) h.leads (ap is_present (h.stands m ∙ e));
  ahead = h.ahead;
  sound = h.sound;
  named = h.named;
  stands = h.stands;
  fits = h.fits;
}

not_present : (o : Option (List ℕ)) → is_present (standing_of o) ≡ false
not_present None = refl
not_present (Some queue) = refl

-- one that is refused refuses its batch
pub plan_refused : (whole : Result Landed Reason) (channel : List ℕ) (done : List Arrival) (m : Message) (rest : List Message) (p : Plain) (dropped : Option (List ℕ)) (reason : Reason) → standing_among done m p ≡ standing_of dropped
    → land channel m (behind_all done p) ≡ Err reason → IsPlan whole channel done (m ∷ rest) p → whole ≡ Err reason
plan_refused whole channel done m rest p dropped reason e is h =
    leads_refused whole done channel m rest (behind_all done p) reason h.leads (ap is_present (h.stands m ∙ e) ∙ not_present dropped) is

-- one that lands is one more
behind_more : (done : List Arrival) (a : Arrival) (p : Plain) → behind_all (done ++ a ∷ []) p ≡ apply_all (arrival_changes a) (behind_all done p)
behind_more done a p = state_more done a p

fits_more : (done : List Arrival) (a : Arrival) (p : Plain) → AreFitting done p → FitsAt a (behind_all done p) → AreFitting (done ++ a ∷ []) p
fits_more [] a p h f = (f, tt)
fits_more (b ∷ done) a p h f = (h.0, fits_more done a (apply_all (arrival_changes b) p) h.1 (subst (FitsAt a) (behind (arrival_changes b) (flat_map arrival_changes done) p) f))

-- it is among those that have landed
any_more : (i : Ident) (done : List Arrival) (a : Arrival) → has_landed i (done ++ a ∷ []) ≡ (same_ident i a.message.ident || has_landed i done)
any_more i [] a = refl
any_more i (b ∷ done) a = ap (λ (x : Bool). same_ident i b.message.ident || x) (any_more i done a) ∙ turned (same_ident i b.message.ident) (same_ident i a.message.ident) (has_landed i done)
  where
    turned : (x y z : Bool) → (x || (y || z)) ≡ (y || (x || z))
    turned true true z = refl
    turned true false z = refl
    turned false y z = refl

among_by : Bool → Message → Plain → Standing
among_by b m p = if b then Present else standing_at m p

abbrev next_at : List Arrival → Arrival → Plain → Plain
next_at done a p = apply_all (arrival_changes a) (behind_all done p)

stands_more : (done : List Arrival) (a : Arrival) (p : Plain) (k : Message) → Sound (behind_all done p) → AreNamed (behind_all done p).queues → IsStanding (standing_of a.dropped) a.message.ident (behind_all done p)
    → standing_at k (behind_all done p) ≡ standing_among done k p → standing_at k (next_at done a p) ≡ standing_among (done ++ a ∷ []) k p
unfolding among_by
stands_more done a p k sound named st before =
    by (same_ident k.ident a.message.ident) refl ∙ ap (λ (b : Bool). among_by b k p) (sym (any_more k.ident done a))
  where
    by : (b : Bool) → same_ident k.ident a.message.ident ≡ b → standing_at k (next_at done a p) ≡ (if (b || has_landed k.ident done) then Present else standing_at k p)
    by true e = standing_own k a.message (standing_of a.dropped) a.queue (behind_all done p) sound named st (not_present a.dropped) (ident_yes k.ident a.message.ident e)
    by false e = standing_other k a.message (standing_of a.dropped) a.queue (behind_all done p) (λ is. cc (e, ap (same_ident k.ident) (sym is), same_self k.ident)) ∙ before

lands_as : (channel : List ℕ) (m : Message) (a : Arrival) (p : Plain) → land channel m p ≡ Ok (landing_of a) → IsLanding m p (Ok (landing_of a))
lands_as channel m a p e = subst (IsLanding m p) e (land_is channel m p)

pub plan_more : (whole : Result Landed Reason) (channel : List ℕ) (done : List Arrival) (m : Message) (rest : List Message) (p : Plain) (a : Arrival) → standing_among done m p ≡ standing_of a.dropped → land channel m (behind_all done p) ≡ Ok (landing_of a)
    → IsPlan whole channel done (m ∷ rest) p → IsPlan whole channel (done ++ a ∷ []) rest p
plan_more whole channel done m rest p a e is h =
    let q : Plain = behind_all done p in
    let l = lands_as channel m a q is in
    let here : standing_at m q ≡ standing_of a.dropped = h.stands m ∙ e in
    let own : standing_at a.message q ≡ standing_of a.dropped = standing_same a.message m q l.0 l.2 ∙ here in
    let st : IsStanding (standing_of a.dropped) a.message.ident q = subst (λ (s : Standing). IsStanding s a.message.ident q) own (standing_is a.message q h.named) in
    let next : behind_all (done ++ a ∷ []) p ≡ apply_all (arrival_changes a) q = behind_more done a p in
    record {
      leads = subst (λ (z : Plain). Leads whole (done ++ a ∷ []) (landed channel rest z)) (sym next) (leads_more whole done channel m rest q a h.leads (ap is_present here ∙ not_present a.dropped) here is);
      ahead = subst (IsAhead (done ++ a ∷ []) p) (sym next) (ahead_more done a p q h.ahead h.sound st);
      sound = subst Sound (sym next) (land_sound a.queue a.message (standing_of a.dropped) q h.sound st (not_present a.dropped));
      named = subst (λ (z : Plain). AreNamed z.queues) (sym next) (all_named (arrival_changes a) q h.named);
      stands = λ k. ap (standing_at k) next ∙ stands_more done a p k h.sound h.named st (h.stands k);
      fits = fits_more done a p h.fits (record { standing = own; defined = l.1.0; named = h.named });
    }

-- where none is left, the commit is of those that have landed
step_by : List ℕ → Luw → ℕ → Plain → List Change → List Add → List Did → Step Reason (Unit {0})
step_by channel unit last p changes adds delta = receive_landed channel unit last (Ok (record { changes = changes; adds = adds; delta = delta; taken = [] })) p

step_all : (channel : List ℕ) (unit : Luw) (last : ℕ) (p : Plain) (l : Landed) → receive_landed channel unit last (Ok l) p ≡ step_by channel unit last p l.changes l.adds l.delta
unfolding step_by
step_all channel unit last p l = refl

receive_as : List ℕ → Luw → ℕ → Plain → Result Landed Reason → Step Reason (Unit {0})
receive_as channel unit last p r = receive_landed channel unit last r p

pub plan_last : (channel : List ℕ) (unit : Luw) (last : ℕ) (batch : List Message) (done : List Arrival) (p : Plain) → IsPlan (landed channel batch p) channel done [] p → receive channel unit last batch p ≡ receive_landed channel unit last (Ok (all_landed done)) p
unfolding receive_as
plan_last channel unit last batch done p h =
    let k = leads_last (landed channel batch p) done channel p h.leads in
    ap (receive_as channel unit last p) k.is ∙ step_all channel unit last p k.all
    ∙ (λ i. step_by channel unit last p ((k.changes ∙ append-nil (all_landed done).changes) i) ((k.adds ∙ append-nil (all_landed done).adds) i) ((k.delta ∙ append-nil (all_landed done).delta) i))
    ∙ sym (step_all channel unit last p (all_landed done))

pub plan_ends : (channel : List ℕ) (unit : Luw) (last : ℕ) (batch : List Message) (p : Plain) (reason : Reason) → landed channel batch p ≡ Err reason → receive channel unit last batch p ≡ Refuse reason
unfolding receive_as
plan_ends channel unit last batch p reason e = ap (receive_as channel unit last p) e

-- what the landing of one message comes to
pub land_fails : (whole : Result Landed Reason) (channel : List ℕ) (done now : List Arrival) (m : Message) (rest : List Message) (p : Plain) (dropped : Option (List ℕ)) (fault : PlaceFault) → standing_among done m p ≡ standing_of dropped
    → ((q : Plain) → IsAhead done p q → Lands (land channel m q) dropped (Err fault)) → IsPlan whole channel done (m ∷ rest) p → Goes whole channel rest p (Err fault) now
land_fails whole channel done now m rest p dropped (place_faults.Refused reason) e lands h = plan_refused whole channel done m rest p dropped reason e (lands (behind_all done p) h.ahead) h
land_fails whole channel done now m rest p dropped (place_faults.Stop stop) e lands h = lands (behind_all done p) h.ahead

pub land_goes : (whole : Result Landed Reason) (channel : List ℕ) (done now : List Arrival) (m : Message) (rest : List Message) (p : Plain) (dropped : Option (List ℕ)) (a : Arrival) → standing_among done m p ≡ standing_of dropped
    → ((q : Plain) → IsAhead done p q → Lands (land channel m q) dropped (Ok a)) → now ≡ done ++ a ∷ [] → IsPlan whole channel done (m ∷ rest) p → IsPlan whole channel now rest p
land_goes whole channel done now m rest p dropped a e lands is h =
    let l = lands (behind_all done p) h.ahead in
    subst (λ (ys : List Arrival). IsPlan whole channel ys rest p) (sym is) (plan_more whole channel done m rest p a (e ∙ ap standing_of (sym l.1)) l.0 h)

-- a loop over the batch
pub plan_left : (batch : List Message) (i : ℕ) (m : Message) → i < length batch → m ≡ get_or batch i m → drop i batch ≡ m ∷ drop (i + 1) batch
plan_left batch i m lt is = drop-cons batch i m lt ∙ ap (λ (x : Message). x ∷ drop (suc i) batch) (sym is) ∙ ap (λ (n : ℕ). m ∷ drop n batch) (sym (add-one i))

pub plan_at : (whole : Result Landed Reason) (channel : List ℕ) (done : List Arrival) (batch : List Message) (i : ℕ) (m : Message) (p : Plain) → i < length batch → m ≡ get_or batch i m → IsPlan whole channel done (drop i batch) p
    → IsPlan whole channel done (m ∷ drop (i + 1) batch) p
plan_at whole channel done batch i m p lt is h = subst (λ (ms : List Message). IsPlan whole channel done ms p) (plan_left batch i m lt is) h

-- a message that ends the plan
pub plan_stops : (channel : List ℕ) (batch rest : List Message) (p : Plain) (fault : PlaceFault) (done : List Arrival) → Goes (landed channel batch p) channel rest p (Err fault) done → Plans channel batch p (Err fault)
plan_stops channel batch rest p (place_faults.Refused reason) done h = h
plan_stops channel batch rest p (place_faults.Stop stop) done h = h
