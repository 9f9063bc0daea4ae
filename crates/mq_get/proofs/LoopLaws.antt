-- Lists of rows that leave, built and written one by one.
use Rattle.std.proofs.Common.{◌≡◌, ℕ, suc, ◌+◌, ◌-◌, ◌*◌, ◌<◌, ◌≤◌, ◌^◌, Bool, true, false, cond, List, [], ◌∷◌, ◌++◌, length, get_or, drop, map, refl, ap, sym, subst, ◌∙◌, append_assoc, add-one, drop-cons, arith}
use Rattle.std.specs.List.{flat_map, AllByRecursion}
use Rattle.mq_calls.specs.declared.deltas.Did.{Did}
use Rattle.mq_calls.specs.declared.deltas.Did.TheVariants as did
use Rattle.mq_calls.specs.declared.deltas.Why.{Why}
use Rattle.mq_calls.specs.declared.records.LogRecord.TheVariants as records
use Rattle.mq_calls.specs.Words.{Ident}
use Rattle.mq_calls.specs.declared.records.Remove.{Remove}
use Rattle.mq_scan.specs.declared.scanning.Met.{Met}
use Rattle.mq_unit.specs.from_record.Room.{Buffered, with_piece}
use Rattle.mq_unit.specs.from_record.Records.{record_bytes, unit_front, remove_bytes, IsRemove, IsRecord}
use Rattle.mq_unit.proofs.from_record.SizeLaws.{remove_whole}
use Rattle.mq_unit.specs.Told.{Telling, told, told_all}
use Rattle.mq_unit.proofs.UnitLaws.{with_two, told_two}
use Rattle.mq_get.specs.Leaving.{met_ident, removes_met}

-- what is left of a list begins with the next value
left_at : {X : Type 0} (xs : List X) (i : ℕ) (x : X) → i < length xs → x ≡ get_or xs i x → drop i xs ≡ x ∷ drop (i + 1) xs
left_at {X} xs i x lt is = drop-cons xs i x lt ∙ ap (λ (y : X). y ∷ drop (suc i) xs) (sym is) ∙ ap (λ (n : ℕ). x ∷ drop n xs) (sym (add-one i))

pub idents_next : (mets : List Met) (i : ℕ) (idents new : List Ident) (met : Met) → i < length mets → met ≡ get_or mets i met → new ≡ idents ++ met.ident ∷ []
    → idents ++ map met_ident (drop i mets) ≡ map met_ident mets → new ++ map met_ident (drop (i + 1) mets) ≡ map met_ident mets
idents_next mets i idents new met lt is more left =
    ap (λ (ns : List Ident). ns ++ map met_ident (drop (i + 1) mets)) more
    ∙ append_assoc idents (met.ident ∷ []) (map met_ident (drop (i + 1) mets))
    ∙ ap (λ (ms : List Met). idents ++ map met_ident ms) (sym (left_at mets i met lt is))
    ∙ left

removes_cons : (queue : List ℕ) (met : Met) (mets : List Met) → removes_met queue (met ∷ mets) ≡ removes_met queue (met ∷ []) ++ removes_met queue mets
removes_cons queue met mets = by met.persistent
  where
    by : (b : Bool) → cond b (record { queue = queue; ident = met.ident } ∷ removes_met queue mets) (removes_met queue mets) ≡ cond b (record { queue = queue; ident = met.ident } ∷ []) [] ++ removes_met queue mets
    by true = refl
    by false = refl

pub removes_next : (queue : List ℕ) (mets : List Met) (i : ℕ) (removes new : List Remove) (met : Met) → i < length mets → met ≡ get_or mets i met → new ≡ removes ++ removes_met queue (met ∷ [])
    → removes ++ removes_met queue (drop i mets) ≡ removes_met queue mets → new ++ removes_met queue (drop (i + 1) mets) ≡ removes_met queue mets
removes_next queue mets i removes new met lt is more left =
    ap (λ (ns : List Remove). ns ++ removes_met queue (drop (i + 1) mets)) more
    ∙ append_assoc removes (removes_met queue (met ∷ [])) (removes_met queue (drop (i + 1) mets))
    ∙ ap (λ (rs : List Remove). removes ++ rs) (sym (removes_cons queue met (drop (i + 1) mets)))
    ∙ ap (λ (ms : List Met). removes ++ removes_met queue ms) (sym (left_at mets i met lt is))
    ∙ left

-- ---- the bytes of removes

pub record PutsLeft (rs : List Remove) (i : ℕ) (start b : Buffered) : Type 0 where
  pub bytes : with_piece (flat_map remove_bytes (drop i rs)) b ≡ with_piece (flat_map remove_bytes rs) start
  pub room : 65 * length (drop i rs) ≤ b.room
  pub removes : AllByRecursion IsRemove (drop i rs) → AllByRecursion IsRemove rs

pub put_fits : (rs : List Remove) (i : ℕ) (start b : Buffered) (r : Remove) → i < length rs → r ≡ get_or rs i r → PutsLeft rs i start b → 65 ≤ b.room
put_fits rs i start b r lt is s =
    let room : 65 * length (r ∷ drop (i + 1) rs) ≤ b.room = subst (λ (xs : List Remove). 65 * length xs ≤ b.room) (left_at rs i r lt is) s.room in
    omega (arith, room)

pub put_next : (rs : List Remove) (i : ℕ) (start b c : Buffered) (r : Remove) → i < length rs → r ≡ get_or rs i r → c ≡ with_piece (remove_bytes r) b → IsRemove r → PutsLeft rs i start b → PutsLeft rs (i + 1) start c
put_next rs i start b c r lt is put remove s =
    let left = left_at rs i r lt is in
    let rest : List Remove = drop (i + 1) rs in
    let room : 65 * length (r ∷ rest) ≤ b.room = subst (λ (xs : List Remove). 65 * length xs ≤ b.room) left s.room in
    let whole = remove_whole r remove in
    let less = ap (λ (z : Buffered). z.room) put in
    record {
      bytes = ap (with_piece (flat_map remove_bytes rest)) put ∙ with_two (remove_bytes r) (flat_map remove_bytes rest) b ∙ ap (λ (xs : List Remove). with_piece (flat_map remove_bytes xs) b) (sym left) ∙ s.bytes;
      room = omega (arith, room, whole, less);
      removes = λ more. s.removes (subst (AllByRecursion IsRemove) (sym left) (remove, more));
    }

-- ---- what is told

abbrev pub removed_did : List ℕ → Why → Ident → Did
removed_did queue why i = did.Removed queue i why

pub record TellsLeft (queue : List ℕ) (why : Why) (ids : List Ident) (i : ℕ) (start t : Telling) : Type 0 where
  pub dids : told_all (map (removed_did queue why) (drop i ids)) t ≡ told_all (map (removed_did queue why) ids) start
  pub room : length (drop i ids) ≤ t.room

pub tell_fits : (queue : List ℕ) (why : Why) (ids : List Ident) (i : ℕ) (start t : Telling) (id : Ident) → i < length ids → id ≡ get_or ids i id → TellsLeft queue why ids i start t → 0 < t.room
tell_fits queue why ids i start t id lt is s =
    let room : length (id ∷ drop (i + 1) ids) ≤ t.room = subst (λ (xs : List Ident). length xs ≤ t.room) (left_at ids i id lt is) s.room in
    omega (arith, room)

pub tell_next : (queue : List ℕ) (why : Why) (ids : List Ident) (i : ℕ) (start t u : Telling) (id : Ident) → i < length ids → id ≡ get_or ids i id → u ≡ told (did.Removed queue id why) t → TellsLeft queue why ids i start t → TellsLeft queue why ids (i + 1) start u
tell_next queue why ids i start t u id lt is more s =
    let left = left_at ids i id lt is in
    let rest : List Ident = drop (i + 1) ids in
    let room : length (id ∷ rest) ≤ t.room = subst (λ (xs : List Ident). length xs ≤ t.room) left s.room in
    let less = ap (λ (z : Telling). z.room) more in
    record {
      dids = ap (told_all (map (removed_did queue why) rest)) more ∙ told_two (did.Removed queue id why ∷ []) (map (removed_did queue why) rest) t
          ∙ ap (λ (xs : List Ident). told_all (map (removed_did queue why) xs) t) (sym left) ∙ s.dids;
      room = omega (arith, room, less);
    }

-- ---- a whole record

pub record_pieces : (rs : List Remove) (front : List ℕ) (c p a : Buffered) → c.bytes ≡ [] → p ≡ with_piece front c → a ≡ with_piece (flat_map remove_bytes rs) p → a.bytes ≡ front ++ flat_map remove_bytes rs
record_pieces rs front c p a none first second =
    ap (λ (b : Buffered). b.bytes) second ∙ ap (λ (b : Buffered). b.bytes ++ flat_map remove_bytes rs) first ∙ ap (λ (bs : List ℕ). (bs ++ front) ++ flat_map remove_bytes rs) none

pub record_are : (rs : List Remove) (front : List ℕ) (c p a : Buffered) → c.bytes ≡ [] → front ≡ unit_front 0 (length rs) → p ≡ with_piece front c → a ≡ with_piece (flat_map remove_bytes rs) p → a.bytes ≡ record_bytes (records.Unit [] rs)
record_are rs front c p a none is first second = record_pieces rs front c p a none first second ∙ ap (λ (bs : List ℕ). bs ++ flat_map remove_bytes rs) is

pub removes_record : (rs : List Remove) → length rs < 2 ^ 32 → AllByRecursion IsRemove rs → IsRecord (records.Unit [] rs)
removes_record rs few all = (record { count = omega arith; each = tt }, record { count = few; each = all })
