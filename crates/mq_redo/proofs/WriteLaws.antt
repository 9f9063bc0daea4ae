-- What each other kind of write did to what lasts.
use Rattle.std.proofs.Common.{◌≡◌, ℕ, Bool, true, false, List, [], ◌∷◌, ◌++◌, map, refl, ap, sym, ◌∙◌}
use Rattle.std.specs.Prelude.{Some, Result, Ok, Err, OnOk, filter}
use Rattle.std.specs.List.{flat_map}
use Rattle.std.proofs.lemmas.List.Elements.{filter-append}
use Rattle.mq_message.specs.declared.message.Ident.{Ident}
use Rattle.mq_sync.specs.declared.unit.Unit.{Unit as Luw}
use Rattle.mq_calls.specs.declared.agents.Note.{Note}
use Rattle.mq_calls.specs.declared.agents.Note.TheVariants as notes
use Rattle.mq_calls.specs.declared.deltas.Did.{Did}
use Rattle.mq_calls.specs.declared.deltas.Did.TheVariants as did
use Rattle.mq_calls.specs.declared.deltas.Why.{Why}
use Rattle.mq_calls.specs.declared.records.Remove.{Remove}
use Rattle.mq_calls.specs.declared.records.LogRecord.{LogRecord}
use Rattle.mq_calls.specs.declared.records.LogRecord.TheVariants as records
use Rattle.mq_calls.specs.Words.{Plain, stands}
use Rattle.mq_calls.specs.declared.state.Batch.{Batch}
use Rattle.mq_spec_manager.specs.Stops.{lasts, redone_delta}
use Rattle.mq_spec_manager.specs.Agents.{harden_part, settle_did}
use Rattle.mq_core.specs.Views.{PartsValue, frozen_of, noted_batch}
use Rattle.mq_core.specs.Writes.{settled_part}
use Rattle.mq_core.specs.from_unit.Told.{Telling}
use Rattle.mq_redo.specs.Redone.{redone_part, only_if, removed_of, settled_of}
use Rattle.mq_redo.proofs.UnitLaws.{only}

-- rows of a queue
pub removed_redone : (r : LogRecord) (queue : List ℕ) (why : Why) (p : Plain) (idents : List Ident) → filter (lasts r p) (map (λ (i : Ident). did.Removed queue i why) idents) ≡ flat_map (removed_of queue why p) idents
removed_redone r queue why p [] = refl
removed_redone r queue why p (i ∷ is) =
    only (lasts r p) (did.Removed queue i why) (map (λ (k : Ident). did.Removed queue k why) is) ∙ ap (λ (ds : List Did). removed_of queue why p i ++ ds) (removed_redone r queue why p is)

-- rows of a unit in doubt, and then its settlement
one_settled : (commit : Bool) (r : LogRecord) (p : Plain) (row : Remove) → lasts r p (settle_did commit row) ≡ stands row.ident p
one_settled true r p row = refl
one_settled false r p row = refl

rows_settled : (commit : Bool) (r : LogRecord) (p : Plain) (rows : List Remove) → filter (lasts r p) (map (settle_did commit) rows) ≡ flat_map (settled_of commit p) rows
rows_settled commit r p [] = refl
rows_settled commit r p (row ∷ rows) =
    only (lasts r p) (settle_did commit row) (map (settle_did commit) rows)
    ∙ ap (λ (b : Bool). only_if b (settle_did commit row) ++ filter (lasts r p) (map (settle_did commit) rows)) (one_settled commit r p row)
    ∙ ap (λ (ds : List Did). settled_of commit p row ++ ds) (rows_settled commit r p rows)

pub settled_redone : (channel : List ℕ) (unit : Luw) (commit operator : Bool) (rows : List Remove) (frozen p : Plain)
    → redone_part (settled_part channel unit commit operator rows frozen) p ≡ flat_map (settled_of commit p) rows ++ did.Hardened channel (notes.Resolved unit commit operator) ∷ []
settled_redone channel unit commit operator rows frozen p =
    filter-append (lasts (records.Resolved channel unit commit operator) p) (map (settle_did commit) rows) (did.Hardened channel (notes.Resolved unit commit operator) ∷ [])
    ∙ ap (λ (ds : List Did). ds ++ did.Hardened channel (notes.Resolved unit commit operator) ∷ []) (rows_settled commit (records.Resolved channel unit commit operator) p rows)

-- what a channel's end hardened; nothing is held where nothing is left of rows
pub hardened_redone : (channel : List ℕ) (note : Note) (x : PartsValue) (p : Plain) → redone_part (harden_part channel note (frozen_of x)) p ≡ did.Hardened channel note ∷ []
hardened_redone channel (notes.Session partner session) x p = refl
hardened_redone channel (notes.Resolved unit commit operator) x p = refl
hardened_redone channel (notes.Bound partner session last) x p = refl
hardened_redone channel (notes.Closed session) x p = refl
hardened_redone channel (notes.SeqSet end last) x p = refl

pub prepared_redone : (channel : List ℕ) (last : ℕ) (b : Batch) (frozen p : Plain) → redone_delta true (noted_batch channel last (Some b) frozen) p ≡ did.Prepared channel b.unit ∷ []
prepared_redone channel last b frozen p = refl

-- ---- as the code tells it

pub on_ok : {T E : Type 0} (r : Result T E) (A B : Type 0) → OnOk r A → (A → B) → OnOk r B
on_ok (Ok value) A B h f = f h
on_ok (Err e) A B h f = tt

pub told_removed : (r : LogRecord) (queue : List ℕ) (why : Why) (p : Plain) (idents : List Ident) (old mid new : List Did) → old ≡ [] → mid ≡ old → new ≡ mid ++ flat_map (removed_of queue why p) idents
    → new ≡ filter (lasts r p) (map (λ (i : Ident). did.Removed queue i why) idents)
told_removed r queue why p idents old mid new none same told =
    told ∙ ap (λ (ds : List Did). ds ++ flat_map (removed_of queue why p) idents) (same ∙ none) ∙ sym (removed_redone r queue why p idents)

pub told_settled : (channel : List ℕ) (unit : Luw) (commit operator : Bool) (rows : List Remove) (frozen p : Plain) (old mid more : List Did) (t : Telling) → old ≡ [] → mid ≡ old → more ≡ mid ++ flat_map (settled_of commit p) rows
    → t.dids ≡ more ++ did.Hardened channel (notes.Resolved unit commit operator) ∷ [] → t.dids ≡ redone_part (settled_part channel unit commit operator rows frozen) p
told_settled channel unit commit operator rows frozen p old mid more t none same told last =
    last
    ∙ ap (λ (ds : List Did). ds ++ did.Hardened channel (notes.Resolved unit commit operator) ∷ []) (told ∙ ap (λ (ds : List Did). ds ++ flat_map (settled_of commit p) rows) (same ∙ none))
    ∙ sym (settled_redone channel unit commit operator rows frozen p)
