-- What a unit's commit did to what lasts.
use Rattle.std.proofs.Common.{◌≡◌, ℕ, ◌+◌, ◌<◌, ◌≤◌, Bool, true, false, cond, List, [], ◌∷◌, ◌++◌, refl, ap, arith, sym, subst, ◌∙◌, inl, inr}
use Rattle.std.specs.Prelude.{Option, Some, None, is_some, if◌then◌else◌, filter, ◌||◌}
use Rattle.std.specs.List.{flat_map}
use Rattle.std.proofs.lemmas.List.Elements.{filter-append}
use Rattle.mq_base.specs.Members.{Mem}
use Rattle.mq_message.specs.declared.message.Ident.{Ident}
use Rattle.mq_message.specs.declared.message.Message.{Message}
use Rattle.mq_queue.specs.Rows.{same_ident}
use Rattle.mq_queue.proofs.Edits.{same_self, same_turned}
use Rattle.mq_calls.specs.declared.deltas.Did.{Did}
use Rattle.mq_calls.specs.declared.deltas.Did.TheVariants as did
use Rattle.mq_calls.specs.declared.deltas.Why.TheVariants as whys
use Rattle.mq_calls.specs.declared.state.Item.{Item}
use Rattle.mq_calls.specs.declared.state.Item.TheVariants.{Put, Take}
use Rattle.mq_calls.specs.declared.records.Add.{Add}
use Rattle.mq_calls.specs.declared.records.Remove.{Remove}
use Rattle.mq_calls.specs.declared.records.LogRecord.{LogRecord}
use Rattle.mq_calls.specs.declared.records.LogRecord.TheVariants as records
use Rattle.mq_calls.specs.Words.{Plain, connection_at, is_persistent}
use Rattle.mq_calls.specs.declared.state.Connection.{Connection}
use Rattle.mq_calls.specs.Steps.{note_of}
use Rattle.mq_spec_manager.specs.Units.{adds_of, removes_of, record_of, removed_item, placed_did}
use Rattle.mq_spec_manager.specs.Stops.{lasts, redone_delta}
use Rattle.mq_core.specs.Ties.{Tied, times_in_unit, times_in_units, one_if}
use Rattle.mq_core.specs.Views.{PartsValue, plain_of, noted_commit}
use Rattle.mq_core.specs.Writes.{ended_part}
use Rattle.mq_redo.specs.Redone.{is_in, only_if, removed_of, taken_of, placed_of}

-- of one thing
pub only : (p : Did → Bool) (d : Did) (ds : List Did) → filter p (d ∷ ds) ≡ only_if (p d) d ++ filter p ds
only p d ds = by (p d)
  where
    by : (b : Bool) → (if b then d ∷ filter p ds else filter p ds) ≡ only_if b d ++ filter p ds
    by true = refl
    by false = refl

-- the rows that it got
pub taken_redone : (r : LogRecord) (p : Plain) (items : List Item) → filter (lasts r p) (flat_map removed_item items) ≡ flat_map (taken_of p) items
taken_redone r p [] = refl
taken_redone r p (Put queue message ∷ items) = taken_redone r p items
taken_redone r p (Take queue ident persistent ∷ items) =
    only (lasts r p) (did.Removed queue ident whys.Got) (flat_map removed_item items) ∙ ap (λ (ds : List Did). removed_of queue whys.Got p ident ++ ds) (taken_redone r p items)

-- ---- each ident is at most once in a unit, so that it is among those added where its message lasts

counted : (i j : Ident) (b : Bool) → same_ident i j ≡ b → b ≡ true → one_if (same_ident j i) ≡ 1
counted i j true e t = ap one_if (same_turned j i ∙ e)
counted i j false e t = absurd cc

added_counted : (i : Ident) (items : List Item) → is_in i (adds_of items) ≡ true → 0 < times_in_unit i items
added_counted i [] e = absurd cc
added_counted i (Take queue ident persistent ∷ items) e = added_counted i items e
added_counted i (Put queue m ∷ items) e = by (is_persistent m) (added_counted i items) e
  where
    at : (b : Bool) → same_ident i m.ident ≡ b → (is_in i (adds_of items) ≡ true → 0 < times_in_unit i items) → (b || is_in i (adds_of items)) ≡ true → 0 < one_if (same_ident m.ident i) + times_in_unit i items
    at true s rest f = let one = counted i m.ident true s refl in omega (arith, one)
    at false s rest f = let k = rest f in omega (arith, k)

    by : (b : Bool) → (is_in i (adds_of items) ≡ true → 0 < times_in_unit i items) → is_in i (if b then record { queue = queue; message = m } ∷ adds_of items else adds_of items) ≡ true → 0 < one_if (same_ident m.ident i) + times_in_unit i items
    by true rest f = at (same_ident i m.ident) refl rest f
    by false rest f = let k = rest f in omega (arith, k)

member_counted : (queue : List ℕ) (m : Message) (items : List Item) → Mem (Put queue m) items → 0 < times_in_unit m.ident items
member_counted queue m [] h = absurd h
member_counted queue m (Take q ident persistent ∷ items) (inl e) = absurd cc
member_counted queue m (Take q ident persistent ∷ items) (inr h) = member_counted queue m items h
member_counted queue m (Put q k ∷ items) (inl e) =
    let same : m ≡ k = cc in
    let one = ap one_if (same_self m.ident) in
    let is : one_if (same_ident k.ident m.ident) ≡ 1 = ap (λ (x : Message). one_if (same_ident x.ident m.ident)) (sym same) ∙ one in
    omega (arith, is)
member_counted queue m (Put q k ∷ items) (inr h) = let rest = member_counted queue m items h in omega (arith, rest)

none_added : (i : Ident) (items : List Item) → times_in_unit i items ≡ 0 → is_in i (adds_of items) ≡ false
none_added i items e = by (is_in i (adds_of items)) refl
  where
    by : (b : Bool) → is_in i (adds_of items) ≡ b → b ≡ false
    by true f = let lt = added_counted i items f in absurd (omega (arith, lt, e))
    by false f = refl

front_is : (i : Ident) (queue : List ℕ) (k : Message) (items : List Item) (b : Bool) → is_persistent k ≡ b → is_in i (adds_of (Put queue k ∷ items)) ≡ is_in i (if b then record { queue = queue; message = k } ∷ adds_of items else adds_of items)
front_is i queue k items b e = ap (λ (t : Bool). is_in i (if t then record { queue = queue; message = k } ∷ adds_of items else adds_of items)) e

pub lasts_once : (queue : List ℕ) (m : Message) (items : List Item) → Mem (Put queue m) items → times_in_unit m.ident items ≤ 1 → is_in m.ident (adds_of items) ≡ is_persistent m
lasts_once queue m [] h once = absurd h
lasts_once queue m (Take q ident persistent ∷ items) (inl e) once = absurd cc
lasts_once queue m (Take q ident persistent ∷ items) (inr h) once = lasts_once queue m items h once
lasts_once queue m (Put q k ∷ items) (inl e) once =
    let same : k ≡ m = cc in
    let one : one_if (same_ident k.ident m.ident) ≡ 1 = ap (λ (x : Message). one_if (same_ident x.ident m.ident)) same ∙ ap one_if (same_self m.ident) in
    let none : times_in_unit m.ident items ≡ 0 = omega (arith, once, one) in
    by same none (is_persistent k) refl
  where
    by : k ≡ m → times_in_unit m.ident items ≡ 0 → (b : Bool) → is_persistent k ≡ b → is_in m.ident (adds_of (Put q k ∷ items)) ≡ is_persistent m
    by same none true p =
        front_is m.ident q k items true p
        ∙ ap (λ (t : Bool). t || is_in m.ident (adds_of items)) (ap (λ (x : Message). same_ident m.ident x.ident) same ∙ same_self m.ident)
        ∙ sym (ap is_persistent (sym same) ∙ p)
    by same none false p = front_is m.ident q k items false p ∙ none_added m.ident items none ∙ sym (ap is_persistent (sym same) ∙ p)
lasts_once queue m (Put q k ∷ items) (inr h) once =
    let some = member_counted queue m items h in
    let rest : times_in_unit m.ident items ≤ 1 = omega (arith, once) in
    let other : one_if (same_ident k.ident m.ident) ≡ 0 = omega (arith, once, some) in
    by other (lasts_once queue m items h rest) (is_persistent k) refl
  where
    unlike : (b : Bool) → same_ident m.ident k.ident ≡ b → one_if (same_ident k.ident m.ident) ≡ 0 → b ≡ false
    unlike true e z = let one = counted m.ident k.ident true e refl in absurd (omega (arith, one, z))
    unlike false e z = refl

    by : one_if (same_ident k.ident m.ident) ≡ 0 → is_in m.ident (adds_of items) ≡ is_persistent m → (b : Bool) → is_persistent k ≡ b → is_in m.ident (adds_of (Put q k ∷ items)) ≡ is_persistent m
    by other rest true p = front_is m.ident q k items true p ∙ ap (λ (t : Bool). t || is_in m.ident (adds_of items)) (unlike (same_ident m.ident k.ident) refl other) ∙ rest
    by other rest false p = front_is m.ident q k items false p ∙ rest

-- the puts
abbrev unit_written : List Item → LogRecord
unit_written items = records.Unit (adds_of items) (removes_of items)

placed_some : (all : List Item) (p : Plain) (items : List Item) → ((item : Item) → Mem item items → Mem item all) → ((i : Ident) → times_in_unit i all ≤ 1) → filter (lasts (unit_written all) p) (flat_map placed_did items) ≡ flat_map placed_of items
placed_some all p [] within once = refl
placed_some all p (Take queue ident persistent ∷ items) within once = placed_some all p items (λ item h. within item (inr h)) once
placed_some all p (Put queue m ∷ items) within once =
    only (lasts (unit_written all) p) (did.Placed queue m.ident None) (flat_map placed_did items)
    ∙ ap (λ (b : Bool). only_if b (did.Placed queue m.ident None) ++ filter (lasts (unit_written all) p) (flat_map placed_did items)) (lasts_once queue m all (within (Put queue m) (inl refl)) (once m.ident))
    ∙ ap (λ (ds : List Did). placed_of (Put queue m) ++ ds) (placed_some all p items (λ item h. within item (inr h)) once)

-- ---- all of it

record_is : (adds : List Add) (removes : List Remove) → is_some (record_of adds removes) ≡ true → record_of adds removes ≡ Some (records.Unit adds removes)
record_is [] [] e = absurd cc
record_is [] (r ∷ rs) e = refl
record_is (a ∷ as_) rs e = refl

unit_at : (i : Ident) (number : ℕ) (c : Connection) (cs : List Connection) → connection_at number cs ≡ Some c → times_in_unit i c.unit ≤ times_in_units i cs
unit_at i number c [] e = absurd cc
unit_at i number c (d ∷ cs) e = by _ e (unit_at i number c cs)
  where
    by : (b : Bool) → cond b (Some d) (connection_at number cs) ≡ Some c → (connection_at number cs ≡ Some c → times_in_unit i c.unit ≤ times_in_units i cs) → times_in_unit i c.unit ≤ times_in_units i (d ∷ cs)
    by true e rest = let same : d ≡ c = cc in subst (λ (k : Connection). times_in_unit i k.unit ≤ times_in_units i (d ∷ cs)) same (omega arith)
    by false e rest = let le = rest e in omega (arith, le)

pub commit_redone : (number : ℕ) (ends : Bool) (c : Connection) (x : PartsValue) → Tied x → connection_at number x.desk.live ≡ Some c → is_some (record_of (adds_of c.unit) (removes_of c.unit)) ≡ true
    → redone_delta true (noted_commit ends (Some c)) (plain_of x) ≡ flat_map (taken_of (plain_of x)) c.unit ++ flat_map placed_of c.unit
commit_redone number ends c x t at some =
    ap (λ (o : Option LogRecord). redone_delta true (note_of (ended_part ends c) o) (plain_of x)) (record_is (adds_of c.unit) (removes_of c.unit) some)
    ∙ filter-append (lasts (unit_written c.unit) (plain_of x)) (flat_map removed_item c.unit) (flat_map placed_did c.unit)
    ∙ ap (λ (ds : List Did). ds ++ filter (lasts (unit_written c.unit) (plain_of x)) (flat_map placed_did c.unit)) (taken_redone (unit_written c.unit) (plain_of x) c.unit)
    ∙ ap (λ (ds : List Did). flat_map (taken_of (plain_of x)) c.unit ++ ds) (placed_some c.unit (plain_of x) c.unit (λ item h. h)
    (λ i. let one = t.idents.once i in let le = unit_at i number c x.desk.live at in omega (arith, one, le)))

none_forced : (number : ℕ) (ends : Bool) (c : Connection) (o : Option LogRecord) (p : Plain) → is_some o ≡ false → redone_delta true (note_of (ended_part ends c) o) p ≡ []
none_forced number ends c None p e = refl
none_forced number ends c (Some r) p e = absurd cc

pub silent_redone : (number : ℕ) (ends : Bool) (c : Connection) (p : Plain) → is_some (record_of (adds_of c.unit) (removes_of c.unit)) ≡ false → redone_delta true (noted_commit ends (Some c)) p ≡ []
silent_redone number ends c p e = none_forced number ends c (record_of (adds_of c.unit) (removes_of c.unit)) p e
