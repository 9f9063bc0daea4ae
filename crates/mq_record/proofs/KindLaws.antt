-- The readers of records, and of a record by its kind.
use Rattle.std.proofs.Common.{◌≡◌, ℕ, ◌^◌, ◌<◌, ◌≤◌, Bool, true, false, cond, eqb, List, [], ◌∷◌, ◌++◌, length, Result, Ok, Err, refl, sym, ap, subst, ◌∙◌, append_assoc, arith, inl, inr, ◌⊎◌}
use Rattle.std.specs.List.{flat_map}
use Rattle.std.proofs.lemmas.Bool.{eqb-true}
use Rattle.std.proofs.lemmas.List.{append-nil}
use Rattle.byteorder.specs.Endian.{big_bytes}
use Rattle.mq_base.specs.Name.{padded, IsName}
use Rattle.mq_message.specs.declared.message.Ident.{Ident}
use Rattle.mq_message.specs.declared.message.Message.{Message}
use Rattle.mq_frame.specs.declared.fault.Miss.{Miss}
use Rattle.mq_frame.specs.declared.fault.Miss.TheVariants.{Wrong}
use Rattle.mq_frame.specs.Frames.{flag, ident_bytes, message_bytes, IsIdent}
use Rattle.mq_frame.specs.Reading.{◌>>=◌, IsBytes, byte_at, number_at, name_at, ident_at}
use Rattle.mq_frame.proofs.Readers.{bind_ok, one_ok, IsBytes-rest}
use Rattle.mq_calls.specs.from_sync.{End, Unit as Luw}
use Rattle.mq_calls.specs.declared.records.Add.{Add}
use Rattle.mq_calls.specs.declared.records.Remove.{Remove}
use Rattle.mq_calls.specs.declared.records.LogRecord.TheVariants as records
use Rattle.mq_record.specs.declared.record.Operation.{Operation}
use Rattle.mq_record.specs.declared.record.WrittenRecord.{WrittenRecord}
use Rattle.mq_record.specs.declared.record.WrittenRecord.TheVariants as written
use Rattle.mq_record.specs.Records.{operation_number, end_number, add_bytes, remove_bytes, body_bytes, IsChannel, IsUnit, IsKept, IsAdd, IsRemove, AreCounted, IsWritten}
use Rattle.mq_record.specs.Reading.{both, no_more, channel_at, unit_at, flag_at, operation_at, end_at, text_at, message_at, add_at, remove_at, several_at, idents_at, adds_at, Read, started_at, objects_at, changes_at, session_at, prepared_at, resolved_at, bound_at, closed_at, received_at, seq_set_at, moved_at, kind_at, record_at}
use Rattle.mq_record.proofs.ExactLaws.{Exact, exact_none, exact_both}
use Rattle.mq_record.proofs.PartLaws.{counted_bytes, exact_byte, exact_number, exact_name, exact_ident, exact_channel, exact_unit, exact_flag, exact_operation, exact_end, exact_text, exact_message, exact_add, exact_remove}
use Rattle.mq_record.proofs.ListLaws.{AreSeveral, counted_items, exact_several, exact_idents, exact_adds}

-- fields in front of others, and the last one
with : {A B : Type 0} {r : List ℕ → Result (A × List ℕ) Miss} {s : List ℕ → Result (B × List ℕ) Miss} {Is : A → Type 0} {Are : B → Type 0} {f : A → List ℕ} {g : B → List ℕ} → Exact r Is f → Exact s Are g → Exact (both r s) (λ v. Is v.0 × Are v.1) (λ v. f v.0 ++ g v.1)
with {r = r} {s = s} {Is = Is} {Are = Are} {f = f} {g = g} h k = exact_both r s Is Are f g h k

-- a record of that kind that is made of what was read
pub record Tells {A : Type 0} (Is : A → Type 0) (f : A → List ℕ) (kind : ℕ) (made : A → WrittenRecord) : Type 0 where
  pub is : (a : A) → Is a → IsWritten (made a)
  pub same : (a : A) → body_bytes (made a) ≡ kind ∷ f a

-- what is read of a kind's fields, as a record
abbrev pub as_record : {A : Type 0} → (List ℕ → Result (A × List ℕ) Miss) → (A → WrittenRecord) → List ℕ → Read
as_record r made bytes = r bytes >>= λ x. Ok (made x.0, x.1)

abbrev pub IsRead : ℕ → List ℕ → WrittenRecord → List ℕ → Type 0
IsRead kind bytes w rest = IsWritten w × (kind ∷ bytes ≡ body_bytes w ++ rest)

kind_got : {A : Type 0} (r : List ℕ → Result (A × List ℕ) Miss) (Is : A → Type 0) (f : A → List ℕ) (kind : ℕ) (made : A → WrittenRecord) → Exact r Is f → Tells Is f kind made
    → (bytes : List ℕ) (w : WrittenRecord) (rest : List ℕ) → IsBytes bytes → as_record r made bytes ≡ Ok (w, rest) → IsRead kind bytes w rest
kind_got {A = A} r Is f kind made h t bytes w rest fits e =
    let next : A × List ℕ → Read = λ x. Ok (made x.0, x.1) in
    let p = bind_ok (r bytes) next (w, rest) e in
    let first = h.got bytes p.0.0 p.0.1 fits p.1 in
    let same = one_ok (next p.0) (made p.0.0) w p.0.1 rest refl p.2 in (
      subst IsWritten same.0 (t.is p.0.0 first.0),
      ap (λ (z : List ℕ). kind ∷ z) first.1 ∙ ap (λ (z : List ℕ). z ++ p.0.1) (sym (t.same p.0.0)) ∙ ap (λ (v : WrittenRecord). body_bytes v ++ p.0.1) same.0 ∙ ap (λ (z : List ℕ). body_bytes w ++ z) same.1,
    )

kind_again : {A : Type 0} (r : List ℕ → Result (A × List ℕ) Miss) (Is : A → Type 0) (f : A → List ℕ) (kind : ℕ) (made : A → WrittenRecord) → Exact r Is f → Tells Is f kind made
    → (text : List ℕ) (a : A) (rest : List ℕ) → body_bytes (made a) ≡ kind ∷ text → Is a → as_record r made (text ++ rest) ≡ Ok (made a, rest)
kind_again {A = A} r Is f kind made h t text a rest e is =
    let next : A × List ℕ → Read = λ x. Ok (made x.0, x.1) in
    let whole : kind ∷ text ≡ kind ∷ f a = sym e ∙ t.same a in
    let same : text ≡ f a = cc in
    ap (λ (z : List ℕ). r (z ++ rest) >>= next) same ∙ ap (λ (v : Result (A × List ℕ) Miss). v >>= next) (h.again a rest is)

-- ---- what each kind has

-- started
abbrev StartedFields : Type 0
StartedFields = ℕ × (List ℕ × (ℕ × Unit {0}))

abbrev AreStarted : StartedFields → Type 0
AreStarted v = ((0 ≤ v.0) × (v.0 ≤ 255)) × (IsName 48 v.1.0 × ((v.1.1.0 < 256 ^ 8) × Unit {0}))

abbrev started_fields : StartedFields → List ℕ
started_fields v = (v.0 ∷ []) ++ (padded 48 v.1.0 ++ (big_bytes 8 v.1.1.0 ++ []))

abbrev started_made : StartedFields → WrittenRecord
started_made v = written.Other (records.Started v.0 v.1.0 v.1.1.0)

abbrev started_reader : List ℕ → Result (StartedFields × List ℕ) Miss
started_reader = both (byte_at 0 255) (both name_at (both (number_at 8) no_more))

exact_started : Exact started_reader AreStarted started_fields
exact_started = with (exact_byte 0 255 (omega arith)) (with exact_name (with (exact_number 8) exact_none))

tells_started : Tells AreStarted started_fields 1 started_made
tells_started = record { is = λ v h. (tt, (omega (arith, h.0.1), h.1.0, h.1.1.0)); same = λ v. refl }

-- objects
abbrev ObjectsFields : Type 0
ObjectsFields = Operation × (List ℕ × Unit {0})

abbrev AreObjects : ObjectsFields → Type 0
AreObjects v = Unit {0} × ((length v.1.0 < 2 ^ 32) × Unit {0})

abbrev objects_fields : ObjectsFields → List ℕ
objects_fields v = (operation_number v.0 ∷ []) ++ (counted_bytes v.1.0 ++ [])

abbrev objects_made : ObjectsFields → WrittenRecord
objects_made v = written.Objects v.0 v.1.0

abbrev objects_reader : List ℕ → Result (ObjectsFields × List ℕ) Miss
objects_reader = both operation_at (both text_at no_more)

exact_objects : Exact objects_reader AreObjects objects_fields
exact_objects = with exact_operation (with exact_text exact_none)

tells_objects : Tells AreObjects objects_fields 2 objects_made
tells_objects = record { is = λ v h. h.1.0; same = λ v. simp (append_assoc, append-nil) }

-- session
abbrev SessionFields : Type 0
SessionFields = List ℕ × (List ℕ × (ℕ × Unit {0}))

abbrev AreSession : SessionFields → Type 0
AreSession v = IsChannel v.0 × (IsName 48 v.1.0 × ((v.1.1.0 < 256 ^ 8) × Unit {0}))

abbrev session_fields : SessionFields → List ℕ
session_fields v = padded 20 v.0 ++ (padded 48 v.1.0 ++ (big_bytes 8 v.1.1.0 ++ []))

abbrev session_made : SessionFields → WrittenRecord
session_made v = written.Other (records.Session v.0 v.1.0 v.1.1.0)

abbrev session_reader : List ℕ → Result (SessionFields × List ℕ) Miss
session_reader = both channel_at (both name_at (both (number_at 8) no_more))

exact_session : Exact session_reader AreSession session_fields
exact_session = with exact_channel (with exact_name (with (exact_number 8) exact_none))

tells_session : Tells AreSession session_fields 4 session_made
tells_session = record { is = λ v h. (tt, (h.0, h.1.0, h.1.1.0)); same = λ v. refl }

-- prepared
abbrev PreparedFields : Type 0
PreparedFields = List ℕ × (Luw × (ℕ × (List ℕ × (List Ident × Unit {0}))))

abbrev ArePrepared : PreparedFields → Type 0
ArePrepared v = IsChannel v.0 × (IsUnit v.1.0 × ((v.1.1.0 < 256 ^ 4) × (IsName 48 v.1.1.1.0 × (AreCounted IsIdent v.1.1.1.1.0 × Unit {0}))))

abbrev prepared_fields : PreparedFields → List ℕ
prepared_fields v = padded 20 v.0 ++ ((big_bytes 8 v.1.0.session ++ big_bytes 8 v.1.0.n) ++ (big_bytes 4 v.1.1.0 ++ (padded 48 v.1.1.1.0 ++ (counted_items ident_bytes v.1.1.1.1.0 ++ []))))

abbrev prepared_made : PreparedFields → WrittenRecord
prepared_made v = written.Other (records.Prepared v.0 v.1.0 v.1.1.0 v.1.1.1.0 v.1.1.1.1.0)

abbrev prepared_reader : List ℕ → Result (PreparedFields × List ℕ) Miss
prepared_reader = both channel_at (both unit_at (both (number_at 4) (both name_at (both idents_at no_more))))

exact_prepared : Exact prepared_reader ArePrepared prepared_fields
exact_prepared = with exact_channel (with exact_unit (with (exact_number 4) (with exact_name (with exact_idents exact_none))))

tells_prepared : Tells ArePrepared prepared_fields 5 prepared_made
tells_prepared = record { is = λ v h. (tt, (h.0, h.1.0, h.1.1.0, h.1.1.1.0, h.1.1.1.1.0)); same = λ v. simp (append_assoc, append-nil) }

-- resolved
abbrev ResolvedFields : Type 0
ResolvedFields = List ℕ × (Luw × (Bool × (Bool × Unit {0})))

abbrev AreResolved : ResolvedFields → Type 0
AreResolved v = IsChannel v.0 × (IsUnit v.1.0 × (Unit {0} × (Unit {0} × Unit {0})))

abbrev resolved_fields : ResolvedFields → List ℕ
resolved_fields v = padded 20 v.0 ++ ((big_bytes 8 v.1.0.session ++ big_bytes 8 v.1.0.n) ++ ((flag v.1.1.0 ∷ []) ++ ((flag v.1.1.1.0 ∷ []) ++ [])))

abbrev resolved_made : ResolvedFields → WrittenRecord
resolved_made v = written.Other (records.Resolved v.0 v.1.0 v.1.1.0 v.1.1.1.0)

abbrev resolved_reader : List ℕ → Result (ResolvedFields × List ℕ) Miss
resolved_reader = both channel_at (both unit_at (both flag_at (both flag_at no_more)))

exact_resolved : Exact resolved_reader AreResolved resolved_fields
exact_resolved = with exact_channel (with exact_unit (with exact_flag (with exact_flag exact_none)))

tells_resolved : Tells AreResolved resolved_fields 6 resolved_made
tells_resolved = record { is = λ v h. (tt, (h.0, h.1.0)); same = λ v. refl }

-- bound
abbrev BoundFields : Type 0
BoundFields = List ℕ × (List ℕ × (ℕ × (ℕ × Unit {0})))

abbrev AreBound : BoundFields → Type 0
AreBound v = IsChannel v.0 × (IsName 48 v.1.0 × ((v.1.1.0 < 256 ^ 8) × ((v.1.1.1.0 < 256 ^ 4) × Unit {0})))

abbrev bound_fields : BoundFields → List ℕ
bound_fields v = padded 20 v.0 ++ (padded 48 v.1.0 ++ (big_bytes 8 v.1.1.0 ++ (big_bytes 4 v.1.1.1.0 ++ [])))

abbrev bound_made : BoundFields → WrittenRecord
bound_made v = written.Other (records.Bound v.0 v.1.0 v.1.1.0 v.1.1.1.0)

abbrev bound_reader : List ℕ → Result (BoundFields × List ℕ) Miss
bound_reader = both channel_at (both name_at (both (number_at 8) (both (number_at 4) no_more)))

exact_bound : Exact bound_reader AreBound bound_fields
exact_bound = with exact_channel (with exact_name (with (exact_number 8) (with (exact_number 4) exact_none)))

tells_bound : Tells AreBound bound_fields 7 bound_made
tells_bound = record { is = λ v h. (tt, (h.0, h.1.0, h.1.1.0, h.1.1.1.0)); same = λ v. refl }

-- closed
abbrev ClosedFields : Type 0
ClosedFields = List ℕ × (ℕ × Unit {0})

abbrev AreClosed : ClosedFields → Type 0
AreClosed v = IsChannel v.0 × ((v.1.0 < 256 ^ 8) × Unit {0})

abbrev closed_fields : ClosedFields → List ℕ
closed_fields v = padded 20 v.0 ++ (big_bytes 8 v.1.0 ++ [])

abbrev closed_made : ClosedFields → WrittenRecord
closed_made v = written.Other (records.Closed v.0 v.1.0)

abbrev closed_reader : List ℕ → Result (ClosedFields × List ℕ) Miss
closed_reader = both channel_at (both (number_at 8) no_more)

exact_closed : Exact closed_reader AreClosed closed_fields
exact_closed = with exact_channel (with (exact_number 8) exact_none)

tells_closed : Tells AreClosed closed_fields 8 closed_made
tells_closed = record { is = λ v h. (tt, (h.0, h.1.0)); same = λ v. refl }

-- received
abbrev ReceivedFields : Type 0
ReceivedFields = List ℕ × (Luw × (ℕ × (List Add × Unit {0})))

abbrev AreReceived : ReceivedFields → Type 0
AreReceived v = IsChannel v.0 × (IsUnit v.1.0 × ((v.1.1.0 < 256 ^ 4) × (AreCounted IsAdd v.1.1.1.0 × Unit {0})))

abbrev received_fields : ReceivedFields → List ℕ
received_fields v = padded 20 v.0 ++ ((big_bytes 8 v.1.0.session ++ big_bytes 8 v.1.0.n) ++ (big_bytes 4 v.1.1.0 ++ (counted_items add_bytes v.1.1.1.0 ++ [])))

abbrev received_made : ReceivedFields → WrittenRecord
received_made v = written.Other (records.Received v.0 v.1.0 v.1.1.0 v.1.1.1.0)

abbrev received_reader : List ℕ → Result (ReceivedFields × List ℕ) Miss
received_reader = both channel_at (both unit_at (both (number_at 4) (both adds_at no_more)))

exact_received : Exact received_reader AreReceived received_fields
exact_received = with exact_channel (with exact_unit (with (exact_number 4) (with exact_adds exact_none)))

tells_received : Tells AreReceived received_fields 9 received_made
tells_received = record { is = λ v h. (tt, (h.0, h.1.0, h.1.1.0, h.1.1.1.0)); same = λ v. simp (append_assoc, append-nil) }

-- seq set
abbrev SeqSetFields : Type 0
SeqSetFields = List ℕ × (End × (ℕ × Unit {0}))

abbrev AreSeqSet : SeqSetFields → Type 0
AreSeqSet v = IsChannel v.0 × (Unit {0} × ((v.1.1.0 < 256 ^ 4) × Unit {0}))

abbrev seq_set_fields : SeqSetFields → List ℕ
seq_set_fields v = padded 20 v.0 ++ ((end_number v.1.0 ∷ []) ++ (big_bytes 4 v.1.1.0 ++ []))

abbrev seq_set_made : SeqSetFields → WrittenRecord
seq_set_made v = written.Other (records.SeqSet v.0 v.1.0 v.1.1.0)

abbrev seq_set_reader : List ℕ → Result (SeqSetFields × List ℕ) Miss
seq_set_reader = both channel_at (both end_at (both (number_at 4) no_more))

exact_seq_set : Exact seq_set_reader AreSeqSet seq_set_fields
exact_seq_set = with exact_channel (with exact_end (with (exact_number 4) exact_none))

tells_seq_set : Tells AreSeqSet seq_set_fields 10 seq_set_made
tells_seq_set = record { is = λ v h. (tt, (h.0, h.1.1.0)); same = λ v. refl }

-- moved
abbrev MovedFields : Type 0
MovedFields = List ℕ × (Ident × (List ℕ × (Message × Unit {0})))

abbrev AreMoved : MovedFields → Type 0
AreMoved v = IsName 48 v.0 × (IsIdent v.1.0 × (IsName 48 v.1.1.0 × (IsKept v.1.1.1.0 × Unit {0})))

abbrev moved_fields : MovedFields → List ℕ
moved_fields v = padded 48 v.0 ++ (ident_bytes v.1.0 ++ (padded 48 v.1.1.0 ++ (message_bytes v.1.1.1.0 ++ [])))

abbrev moved_made : MovedFields → WrittenRecord
moved_made v = written.Other (records.Moved v.0 v.1.0 v.1.1.0 v.1.1.1.0)

abbrev moved_reader : List ℕ → Result (MovedFields × List ℕ) Miss
moved_reader = both name_at (both ident_at (both name_at (both message_at no_more)))

exact_moved : Exact moved_reader AreMoved moved_fields
exact_moved = with exact_name (with exact_ident (with exact_name (with exact_message exact_none)))

tells_moved : Tells AreMoved moved_fields 11 moved_made
tells_moved = record { is = λ v h. (tt, (h.0, h.1.0, h.1.1.0, h.1.1.1.0)); same = λ v. simp (append_assoc, append-nil) }

-- a unit: both counts, and then both lists

abbrev UnitFields : Type 0
UnitFields = List Add × (List Remove × Unit {0})

abbrev unit_made : UnitFields → WrittenRecord
unit_made v = written.Other (records.Unit v.0 v.1.0)

abbrev unit_reader : ℕ → ℕ → List ℕ → Result (UnitFields × List ℕ) Miss
unit_reader adds removes = both (several_at add_at adds) (both (several_at remove_at removes) no_more)

exact_lists : (adds removes : ℕ) → Exact (unit_reader adds removes) (λ v. AreSeveral IsAdd adds v.0 × (AreSeveral IsRemove removes v.1.0 × Unit {0})) (λ v. flat_map add_bytes v.0 ++ (flat_map remove_bytes v.1.0 ++ []))
exact_lists adds removes = with (exact_several add_at IsAdd add_bytes exact_add adds) (with (exact_several remove_at IsRemove remove_bytes exact_remove removes) exact_none)

changes_got : (bytes : List ℕ) (w : WrittenRecord) (rest : List ℕ) → IsBytes bytes → changes_at bytes ≡ Ok (w, rest) → IsRead 3 bytes w rest
unfolding changes_at
changes_got bytes w rest fits e =
    let last : UnitFields × List ℕ → Read = λ x. Ok (unit_made x.0, x.1) in
    let third : ℕ → ℕ × List ℕ → Read = λ adds removes. unit_reader adds removes.0 removes.1 >>= last in
    let second : ℕ × List ℕ → Read = λ adds. number_at 4 adds.1 >>= third adds.0 in
    let p = bind_ok (number_at 4 bytes) second (w, rest) e in
    let q = bind_ok (number_at 4 p.0.1) (third p.0.0) (w, rest) p.2 in
    let x = bind_ok (unit_reader p.0.0 q.0.0 q.0.1) last (w, rest) q.2 in
    let one = (exact_number 4).got bytes p.0.0 p.0.1 fits p.1 in
    let fits2 = IsBytes-rest (big_bytes 4 p.0.0) p.0.1 (subst IsBytes one.1 fits) in
    let two = (exact_number 4).got p.0.1 q.0.0 q.0.1 fits2 q.1 in
    let fits3 = IsBytes-rest (big_bytes 4 q.0.0) q.0.1 (subst IsBytes two.1 fits2) in
    let v : UnitFields = x.0.0 in
    let lists = (exact_lists p.0.0 q.0.0).got q.0.1 v x.0.1 fits3 x.1 in
    let same = one_ok (last x.0) (unit_made v) w x.0.1 rest refl x.2 in
    let is : IsWritten (unit_made v) = (tt, (record { count = omega (arith, one.0, lists.0.0.0); each = lists.0.0.1 }, record { count = omega (arith, two.0, lists.0.1.0.0); each = lists.0.1.0.1 })) in
    let text : 3 ∷ bytes ≡ body_bytes (unit_made v) ++ x.0.1 =
    ap (λ (z : List ℕ). 3 ∷ z) one.1
    ∙ ap (λ (z : List ℕ). 3 ∷ (big_bytes 4 p.0.0 ++ z)) (two.1 ∙ ap (λ (z : List ℕ). big_bytes 4 q.0.0 ++ z) lists.1)
    ∙ ap (λ (n : ℕ). 3 ∷ (big_bytes 4 n ++ (big_bytes 4 q.0.0 ++ ((flat_map add_bytes v.0 ++ (flat_map remove_bytes v.1.0 ++ [])) ++ x.0.1)))) (sym lists.0.0.0)
    ∙ ap (λ (n : ℕ). 3 ∷ (big_bytes 4 (length v.0) ++ (big_bytes 4 n ++ ((flat_map add_bytes v.0 ++ (flat_map remove_bytes v.1.0 ++ [])) ++ x.0.1)))) (sym lists.0.1.0.0)
    ∙ ap (λ (z : List ℕ). 3 ∷ (big_bytes 4 (length v.0) ++ (big_bytes 4 (length v.1.0) ++ ((flat_map add_bytes v.0 ++ z) ++ x.0.1)))) (append-nil (flat_map remove_bytes v.1.0)) in
    (subst IsWritten same.0 is, text ∙ ap (λ (z : WrittenRecord). body_bytes z ++ x.0.1) same.0 ∙ ap (λ (z : List ℕ). body_bytes w ++ z) same.1)

changes_again : (adds : List Add) (removes : List Remove) (rest : List ℕ) → AreCounted IsAdd adds → AreCounted IsRemove removes
    → changes_at ((big_bytes 4 (length adds) ++ (big_bytes 4 (length removes) ++ (flat_map add_bytes adds ++ flat_map remove_bytes removes))) ++ rest) ≡ Ok (written.Other (records.Unit adds removes), rest)
unfolding changes_at
changes_again adds removes rest a r =
    let last : UnitFields × List ℕ → Read = λ x. Ok (unit_made x.0, x.1) in
    let third : ℕ → ℕ × List ℕ → Read = λ n removes. unit_reader n removes.0 removes.1 >>= last in
    let second : ℕ × List ℕ → Read = λ adds. number_at 4 adds.1 >>= third adds.0 in
    let lists : List ℕ = flat_map add_bytes adds ++ flat_map remove_bytes removes in
    let text : lists ++ rest ≡ (flat_map add_bytes adds ++ (flat_map remove_bytes removes ++ [])) ++ rest = ap (λ (z : List ℕ). (flat_map add_bytes adds ++ z) ++ rest) (sym (append-nil (flat_map remove_bytes removes))) in
    ap (λ (z : Result (ℕ × List ℕ) Miss). z >>= second) ((exact_number 4).again (length adds) (big_bytes 4 (length removes) ++ (lists ++ rest)) (omega (arith, a.count)))
    ∙ ap (λ (z : Result (ℕ × List ℕ) Miss). z >>= third (length adds)) ((exact_number 4).again (length removes) (lists ++ rest) (omega (arith, r.count)))
    ∙ ap (λ (z : List ℕ). unit_reader (length adds) (length removes) z >>= last) text
    ∙ ap (λ (z : Result (UnitFields × List ℕ) Miss). z >>= last) ((exact_lists (length adds) (length removes)).again (adds, (removes, tt)) rest ((refl, a.each), ((refl, r.each), tt)))

-- ---- a record by its kind

chosen : (b : Bool) (x y : Read) (v : WrittenRecord × List ℕ) → cond b x y ≡ Ok v → ((b ≡ true) × (x ≡ Ok v)) ⊎ (y ≡ Ok v)
chosen true x y v e = inl (refl, e)
chosen false x y v e = inr e

either : (kind n : ℕ) (x y : Read) (bytes : List ℕ) (w : WrittenRecord) (rest : List ℕ) → (x ≡ Ok (w, rest) → IsRead n bytes w rest) → (y ≡ Ok (w, rest) → IsRead kind bytes w rest) → cond (eqb kind n) x y ≡ Ok (w, rest) → IsRead kind bytes w rest
either kind n x y bytes w rest f g e = elim (chosen (eqb kind n) x y (w, rest) e) [
  | inl h ↦ subst (λ (k : ℕ). IsRead k bytes w rest) (sym (eqb-true kind n h.0)) (f h.1)
  | inr h ↦ g h
]

abbrev read_as : WrittenRecord → List ℕ → Read
read_as w rest = Ok (w, rest)

no_other : (e : Miss) (kind : ℕ) (bytes : List ℕ) (w : WrittenRecord) (rest : List ℕ) → Err e ≡ read_as w rest → IsRead kind bytes w rest
no_other e kind bytes w rest p = absurd cc

started_got : (bytes : List ℕ) (w : WrittenRecord) (rest : List ℕ) → IsBytes bytes → started_at bytes ≡ Ok (w, rest) → IsRead 1 bytes w rest
unfolding started_at
started_got bytes w rest fits e = kind_got started_reader AreStarted started_fields 1 started_made exact_started tells_started bytes w rest fits e

started_again : (text : List ℕ) (v : StartedFields) (rest : List ℕ) → body_bytes (started_made v) ≡ 1 ∷ text → AreStarted v → started_at (text ++ rest) ≡ Ok (started_made v, rest)
unfolding started_at
started_again text v rest e is = kind_again started_reader AreStarted started_fields 1 started_made exact_started tells_started text v rest e is

objects_got : (bytes : List ℕ) (w : WrittenRecord) (rest : List ℕ) → IsBytes bytes → objects_at bytes ≡ Ok (w, rest) → IsRead 2 bytes w rest
unfolding objects_at
objects_got bytes w rest fits e = kind_got objects_reader AreObjects objects_fields 2 objects_made exact_objects tells_objects bytes w rest fits e

objects_again : (text : List ℕ) (v : ObjectsFields) (rest : List ℕ) → body_bytes (objects_made v) ≡ 2 ∷ text → AreObjects v → objects_at (text ++ rest) ≡ Ok (objects_made v, rest)
unfolding objects_at
objects_again text v rest e is = kind_again objects_reader AreObjects objects_fields 2 objects_made exact_objects tells_objects text v rest e is

session_got : (bytes : List ℕ) (w : WrittenRecord) (rest : List ℕ) → IsBytes bytes → session_at bytes ≡ Ok (w, rest) → IsRead 4 bytes w rest
unfolding session_at
session_got bytes w rest fits e = kind_got session_reader AreSession session_fields 4 session_made exact_session tells_session bytes w rest fits e

session_again : (text : List ℕ) (v : SessionFields) (rest : List ℕ) → body_bytes (session_made v) ≡ 4 ∷ text → AreSession v → session_at (text ++ rest) ≡ Ok (session_made v, rest)
unfolding session_at
session_again text v rest e is = kind_again session_reader AreSession session_fields 4 session_made exact_session tells_session text v rest e is

prepared_got : (bytes : List ℕ) (w : WrittenRecord) (rest : List ℕ) → IsBytes bytes → prepared_at bytes ≡ Ok (w, rest) → IsRead 5 bytes w rest
unfolding prepared_at
prepared_got bytes w rest fits e = kind_got prepared_reader ArePrepared prepared_fields 5 prepared_made exact_prepared tells_prepared bytes w rest fits e

prepared_again : (text : List ℕ) (v : PreparedFields) (rest : List ℕ) → body_bytes (prepared_made v) ≡ 5 ∷ text → ArePrepared v → prepared_at (text ++ rest) ≡ Ok (prepared_made v, rest)
unfolding prepared_at
prepared_again text v rest e is = kind_again prepared_reader ArePrepared prepared_fields 5 prepared_made exact_prepared tells_prepared text v rest e is

resolved_got : (bytes : List ℕ) (w : WrittenRecord) (rest : List ℕ) → IsBytes bytes → resolved_at bytes ≡ Ok (w, rest) → IsRead 6 bytes w rest
unfolding resolved_at
resolved_got bytes w rest fits e = kind_got resolved_reader AreResolved resolved_fields 6 resolved_made exact_resolved tells_resolved bytes w rest fits e

resolved_again : (text : List ℕ) (v : ResolvedFields) (rest : List ℕ) → body_bytes (resolved_made v) ≡ 6 ∷ text → AreResolved v → resolved_at (text ++ rest) ≡ Ok (resolved_made v, rest)
unfolding resolved_at
resolved_again text v rest e is = kind_again resolved_reader AreResolved resolved_fields 6 resolved_made exact_resolved tells_resolved text v rest e is

bound_got : (bytes : List ℕ) (w : WrittenRecord) (rest : List ℕ) → IsBytes bytes → bound_at bytes ≡ Ok (w, rest) → IsRead 7 bytes w rest
unfolding bound_at
bound_got bytes w rest fits e = kind_got bound_reader AreBound bound_fields 7 bound_made exact_bound tells_bound bytes w rest fits e

bound_again : (text : List ℕ) (v : BoundFields) (rest : List ℕ) → body_bytes (bound_made v) ≡ 7 ∷ text → AreBound v → bound_at (text ++ rest) ≡ Ok (bound_made v, rest)
unfolding bound_at
bound_again text v rest e is = kind_again bound_reader AreBound bound_fields 7 bound_made exact_bound tells_bound text v rest e is

closed_got : (bytes : List ℕ) (w : WrittenRecord) (rest : List ℕ) → IsBytes bytes → closed_at bytes ≡ Ok (w, rest) → IsRead 8 bytes w rest
unfolding closed_at
closed_got bytes w rest fits e = kind_got closed_reader AreClosed closed_fields 8 closed_made exact_closed tells_closed bytes w rest fits e

closed_again : (text : List ℕ) (v : ClosedFields) (rest : List ℕ) → body_bytes (closed_made v) ≡ 8 ∷ text → AreClosed v → closed_at (text ++ rest) ≡ Ok (closed_made v, rest)
unfolding closed_at
closed_again text v rest e is = kind_again closed_reader AreClosed closed_fields 8 closed_made exact_closed tells_closed text v rest e is

received_got : (bytes : List ℕ) (w : WrittenRecord) (rest : List ℕ) → IsBytes bytes → received_at bytes ≡ Ok (w, rest) → IsRead 9 bytes w rest
unfolding received_at
received_got bytes w rest fits e = kind_got received_reader AreReceived received_fields 9 received_made exact_received tells_received bytes w rest fits e

received_again : (text : List ℕ) (v : ReceivedFields) (rest : List ℕ) → body_bytes (received_made v) ≡ 9 ∷ text → AreReceived v → received_at (text ++ rest) ≡ Ok (received_made v, rest)
unfolding received_at
received_again text v rest e is = kind_again received_reader AreReceived received_fields 9 received_made exact_received tells_received text v rest e is

seq_set_got : (bytes : List ℕ) (w : WrittenRecord) (rest : List ℕ) → IsBytes bytes → seq_set_at bytes ≡ Ok (w, rest) → IsRead 10 bytes w rest
unfolding seq_set_at
seq_set_got bytes w rest fits e = kind_got seq_set_reader AreSeqSet seq_set_fields 10 seq_set_made exact_seq_set tells_seq_set bytes w rest fits e

seq_set_again : (text : List ℕ) (v : SeqSetFields) (rest : List ℕ) → body_bytes (seq_set_made v) ≡ 10 ∷ text → AreSeqSet v → seq_set_at (text ++ rest) ≡ Ok (seq_set_made v, rest)
unfolding seq_set_at
seq_set_again text v rest e is = kind_again seq_set_reader AreSeqSet seq_set_fields 10 seq_set_made exact_seq_set tells_seq_set text v rest e is

moved_got : (bytes : List ℕ) (w : WrittenRecord) (rest : List ℕ) → IsBytes bytes → moved_at bytes ≡ Ok (w, rest) → IsRead 11 bytes w rest
unfolding moved_at
moved_got bytes w rest fits e = kind_got moved_reader AreMoved moved_fields 11 moved_made exact_moved tells_moved bytes w rest fits e

moved_again : (text : List ℕ) (v : MovedFields) (rest : List ℕ) → body_bytes (moved_made v) ≡ 11 ∷ text → AreMoved v → moved_at (text ++ rest) ≡ Ok (moved_made v, rest)
unfolding moved_at
moved_again text v rest e is = kind_again moved_reader AreMoved moved_fields 11 moved_made exact_moved tells_moved text v rest e is

-- what is left of the choice behind so many kinds
abbrev others_11 : ℕ → List ℕ → Read
others_11 kind bytes = Err (Wrong (length bytes))

abbrev others_10 : ℕ → List ℕ → Read
others_10 kind bytes = cond (eqb kind 11) (moved_at bytes) (others_11 kind bytes)

abbrev others_9 : ℕ → List ℕ → Read
others_9 kind bytes = cond (eqb kind 10) (seq_set_at bytes) (others_10 kind bytes)

abbrev others_8 : ℕ → List ℕ → Read
others_8 kind bytes = cond (eqb kind 9) (received_at bytes) (others_9 kind bytes)

abbrev others_7 : ℕ → List ℕ → Read
others_7 kind bytes = cond (eqb kind 8) (closed_at bytes) (others_8 kind bytes)

abbrev others_6 : ℕ → List ℕ → Read
others_6 kind bytes = cond (eqb kind 7) (bound_at bytes) (others_7 kind bytes)

abbrev others_5 : ℕ → List ℕ → Read
others_5 kind bytes = cond (eqb kind 6) (resolved_at bytes) (others_6 kind bytes)

abbrev others_4 : ℕ → List ℕ → Read
others_4 kind bytes = cond (eqb kind 5) (prepared_at bytes) (others_5 kind bytes)

abbrev others_3 : ℕ → List ℕ → Read
others_3 kind bytes = cond (eqb kind 4) (session_at bytes) (others_4 kind bytes)

abbrev others_2 : ℕ → List ℕ → Read
others_2 kind bytes = cond (eqb kind 3) (changes_at bytes) (others_3 kind bytes)

abbrev others_1 : ℕ → List ℕ → Read
others_1 kind bytes = cond (eqb kind 2) (objects_at bytes) (others_2 kind bytes)

kinds_got : (kind : ℕ) (bytes : List ℕ) (w : WrittenRecord) (rest : List ℕ) → IsBytes bytes → kind_at kind bytes ≡ Ok (w, rest) → IsRead kind bytes w rest
kinds_got kind bytes w rest fits =
    either kind 1 (started_at bytes) (others_1 kind bytes) bytes w rest (started_got bytes w rest fits)
    (either kind 2 (objects_at bytes) (others_2 kind bytes) bytes w rest (objects_got bytes w rest fits)
    (either kind 3 (changes_at bytes) (others_3 kind bytes) bytes w rest (changes_got bytes w rest fits)
    (either kind 4 (session_at bytes) (others_4 kind bytes) bytes w rest (session_got bytes w rest fits)
    (either kind 5 (prepared_at bytes) (others_5 kind bytes) bytes w rest (prepared_got bytes w rest fits)
    (either kind 6 (resolved_at bytes) (others_6 kind bytes) bytes w rest (resolved_got bytes w rest fits)
    (either kind 7 (bound_at bytes) (others_7 kind bytes) bytes w rest (bound_got bytes w rest fits)
    (either kind 8 (closed_at bytes) (others_8 kind bytes) bytes w rest (closed_got bytes w rest fits)
    (either kind 9 (received_at bytes) (others_9 kind bytes) bytes w rest (received_got bytes w rest fits)
    (either kind 10 (seq_set_at bytes) (others_10 kind bytes) bytes w rest (seq_set_got bytes w rest fits)
    (either kind 11 (moved_at bytes) (others_11 kind bytes) bytes w rest (moved_got bytes w rest fits)
    (no_other (Wrong (length bytes)) kind bytes w rest)))))))))))

-- what is read is a record, and the bytes begin with it
pub record_got : (bytes : List ℕ) (w : WrittenRecord) (rest : List ℕ) → IsBytes bytes → record_at bytes ≡ Ok (w, rest) → IsWritten w × (bytes ≡ body_bytes w ++ rest)
unfolding record_at
record_got bytes w rest fits e =
    let next : ℕ × List ℕ → Read = λ kind. kind_at kind.0 kind.1 in
    let p = bind_ok (byte_at 1 11 bytes) next (w, rest) e in
    let first = (exact_byte 1 11 (omega arith)).got bytes p.0.0 p.0.1 fits p.1 in
    let h = kinds_got p.0.0 p.0.1 w rest (IsBytes-rest (p.0.0 ∷ []) p.0.1 (subst IsBytes first.1 fits)) p.2 in
    (h.0, first.1 ∙ h.1)

abbrev tail_of : List ℕ → List ℕ
tail_of [] = []
tail_of (byte ∷ bytes) = bytes

-- what is written is read back
pub record_again : (w : WrittenRecord) (rest : List ℕ) → IsWritten w → record_at (body_bytes w ++ rest) ≡ Ok (w, rest)
unfolding record_at
record_again (written.Objects operation text) rest is = objects_again (tail_of (body_bytes (written.Objects operation text))) (operation, (text, tt)) rest refl (tt, (is, tt))
record_again (written.Other (records.Objects change)) rest is = absurd is.0
record_again (written.Other (records.Unit adds removes)) rest is = changes_again adds removes rest is.1.0 is.1.1
record_again (written.Other (records.Started manager name incarnation)) rest is = started_again (tail_of (body_bytes (written.Other (records.Started manager name incarnation)))) (manager, (name, (incarnation, tt))) rest refl ((omega arith, omega (arith, is.1.0)), (is.1.1, (is.1.2, tt)))
record_again (written.Other (records.Session channel partner session)) rest is = session_again (tail_of (body_bytes (written.Other (records.Session channel partner session)))) (channel, (partner, (session, tt))) rest refl (is.1.0, (is.1.1, (is.1.2, tt)))
record_again (written.Other (records.Prepared channel unit last queue idents)) rest is = prepared_again (tail_of (body_bytes (written.Other (records.Prepared channel unit last queue idents)))) (channel, (unit, (last, (queue, (idents, tt))))) rest refl (is.1.0, (is.1.1, (is.1.2, (is.1.3, (is.1.4, tt)))))
record_again (written.Other (records.Resolved channel unit commit operator)) rest is = resolved_again (tail_of (body_bytes (written.Other (records.Resolved channel unit commit operator)))) (channel, (unit, (commit, (operator, tt)))) rest refl (is.1.0, (is.1.1, (tt, (tt, tt))))
record_again (written.Other (records.Bound channel partner session last)) rest is = bound_again (tail_of (body_bytes (written.Other (records.Bound channel partner session last)))) (channel, (partner, (session, (last, tt)))) rest refl (is.1.0, (is.1.1, (is.1.2, (is.1.3, tt))))
record_again (written.Other (records.Closed channel session)) rest is = closed_again (tail_of (body_bytes (written.Other (records.Closed channel session)))) (channel, (session, tt)) rest refl (is.1.0, (is.1.1, tt))
record_again (written.Other (records.Received channel unit last adds)) rest is = received_again (tail_of (body_bytes (written.Other (records.Received channel unit last adds)))) (channel, (unit, (last, (adds, tt)))) rest refl (is.1.0, (is.1.1, (is.1.2, (is.1.3, tt))))
record_again (written.Other (records.SeqSet channel end last)) rest is = seq_set_again (tail_of (body_bytes (written.Other (records.SeqSet channel end last)))) (channel, (end, (last, tt))) rest refl (is.1.0, (tt, (is.1.1, tt)))
record_again (written.Other (records.Moved from ident to message)) rest is = moved_again (tail_of (body_bytes (written.Other (records.Moved from ident to message)))) (from, (ident, (to, (message, tt)))) rest refl (is.1.0, (is.1.1, (is.1.2, (is.1.3, tt))))
