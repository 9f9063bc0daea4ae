-- What a receiver's commit did to what lasts.
use Rattle.std.proofs.Common.{◌≡◌, ℕ, Bool, true, false, List, [], ◌∷◌, ◌++◌, refl, ap, sym, ◌∙◌}
use Rattle.std.specs.Prelude.{Option, Some, None, filter, ◌||◌, ◌&&◌, if◌then◌else◌}
use Rattle.std.specs.List.{flat_map, list_any}
use Rattle.std.proofs.lemmas.List.Elements.{filter-append}
use Rattle.mq_message.specs.declared.message.Ident.{Ident}
use Rattle.mq_message.specs.declared.message.Message.{Message}
use Rattle.mq_queue.specs.Rows.{same_ident}
use Rattle.mq_sync.specs.declared.unit.Unit.{Unit as Luw}
use Rattle.mq_calls.specs.declared.deltas.Did.{Did}
use Rattle.mq_calls.specs.declared.deltas.Did.TheVariants as did
use Rattle.mq_calls.specs.declared.deltas.Why.TheVariants as whys
use Rattle.mq_calls.specs.declared.records.Add.{Add}
use Rattle.mq_calls.specs.declared.records.LogRecord.{LogRecord}
use Rattle.mq_calls.specs.declared.records.LogRecord.TheVariants as records
use Rattle.mq_calls.specs.Words.{Plain, is_persistent}
use Rattle.mq_spec_manager.specs.Stops.{lasts}
use Rattle.mq_spec_manager.specs.Agents.{received_part, drop_did}
use Rattle.mq_core.specs.declared.parts.Arrival.{Arrival}
use Rattle.mq_core.specs.Writes.{all_landed, arrival_adds, arrival_dids, standing_of}
use Rattle.mq_core.specs.from_unit.Told.{Telling}
use Rattle.mq_redo.specs.Redone.{redone_part, only_if, removed_of, is_in, adds_ident, dropped_of, arrived_of}
use Rattle.mq_redo.proofs.UnitLaws.{only}

pub is_added : (ident : Ident) (landed : List Arrival) → is_in ident (flat_map arrival_adds landed) ≡ list_any (adds_ident ident) landed
is_added ident [] = refl
is_added ident (a ∷ as_) = by (is_persistent a.message) (is_added ident as_)
  where
    by : (b : Bool) → is_in ident (flat_map arrival_adds as_) ≡ list_any (adds_ident ident) as_
        → is_in ident ((if b then record { queue = a.queue; message = a.message } ∷ [] else []) ++ flat_map arrival_adds as_) ≡ ((b && same_ident ident a.message.ident) || list_any (adds_ident ident) as_)
    by true rest = ap (λ (t : Bool). same_ident ident a.message.ident || t) rest
    by false rest = rest

dropped_redone : (r : LogRecord) (p : Plain) (m : Message) (o : Option (List ℕ)) → filter (lasts r p) (drop_did m (standing_of o)) ≡ dropped_of o m p
dropped_redone r p m None = refl
dropped_redone r p m (Some queue) = only (lasts r p) (did.Removed queue m.ident whys.CameBack) [] ∙ none (removed_of queue whys.CameBack p m.ident)
  where
    none : (ds : List Did) → ds ++ [] ≡ ds
    none [] = refl
    none (d ∷ ds) = ap (λ (es : List Did). d ∷ es) (none ds)

one_more : (p : Did → Bool) (d : Did) → filter p (d ∷ []) ≡ only_if (p d) d
one_more p d = by (p d)
  where
    by : (b : Bool) → (if b then d ∷ [] else []) ≡ only_if b d
    by true = refl
    by false = refl

one_arrived : (channel : List ℕ) (unit : Luw) (last : ℕ) (adds : List Add) (p : Plain) (a : Arrival) → filter (lasts (records.Received channel unit last adds) p) (arrival_dids a) ≡ arrived_of adds p a
one_arrived channel unit last adds p a =
    filter-append (lasts (records.Received channel unit last adds) p) (drop_did a.message (standing_of a.dropped)) (did.Placed a.queue a.message.ident a.dead ∷ [])
    ∙ ap (λ (ds : List Did). ds ++ filter (lasts (records.Received channel unit last adds) p) (did.Placed a.queue a.message.ident a.dead ∷ [])) (dropped_redone (records.Received channel unit last adds) p a.message a.dropped)
    ∙ ap (λ (ds : List Did). dropped_of a.dropped a.message p ++ ds) (one_more (lasts (records.Received channel unit last adds) p) (did.Placed a.queue a.message.ident a.dead))

all_arrived : (channel : List ℕ) (unit : Luw) (last : ℕ) (adds : List Add) (p : Plain) (landed : List Arrival) → filter (lasts (records.Received channel unit last adds) p) (flat_map arrival_dids landed) ≡ flat_map (arrived_of adds p) landed
all_arrived channel unit last adds p [] = refl
all_arrived channel unit last adds p (a ∷ as_) =
    filter-append (lasts (records.Received channel unit last adds) p) (arrival_dids a) (flat_map arrival_dids as_)
    ∙ ap (λ (ds : List Did). ds ++ filter (lasts (records.Received channel unit last adds) p) (flat_map arrival_dids as_)) (one_arrived channel unit last adds p a)
    ∙ ap (λ (ds : List Did). arrived_of adds p a ++ ds) (all_arrived channel unit last adds p as_)

pub told_received : (channel : List ℕ) (unit : Luw) (last : ℕ) (landed : List Arrival) (frozen p : Plain) (old mid more : List Did) (t : Telling) → old ≡ [] → mid ≡ old → more ≡ mid ++ flat_map (arrived_of (flat_map arrival_adds landed) p) landed
    → t.dids ≡ more ++ did.Received channel unit ∷ [] → t.dids ≡ redone_part (received_part channel unit last (all_landed landed) frozen) p
told_received channel unit last landed frozen p old mid more t none same told last_ =
    last_
    ∙ ap (λ (ds : List Did). ds ++ did.Received channel unit ∷ []) (told ∙ ap (λ (ds : List Did). ds ++ flat_map (arrived_of (flat_map arrival_adds landed) p) landed) (same ∙ none))
    ∙ sym (filter-append (lasts (records.Received channel unit last (flat_map arrival_adds landed)) p) (flat_map arrival_dids landed) (did.Received channel unit ∷ [])
    ∙ ap (λ (ds : List Did). ds ++ did.Received channel unit ∷ []) (all_arrived channel unit last (flat_map arrival_adds landed) p landed))
