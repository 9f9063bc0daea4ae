-- No channel has two batches: they stand in order of the channels' names, whatever is changed; and each holds just what it lists.
use Rattle.std.proofs.Common.{◌≡◌, ℕ, Bool, true, false, List, [], ◌∷◌, refl, ap, sym, subst, ◌∙◌}
use Rattle.std.proofs.Common.{inl, inr}
use Rattle.std.specs.Prelude.{Some, not, filter, if◌then◌else◌}
use Rattle.std.specs.List.{AllByRecursion}
use Rattle.std.specs.Str.{bytes_eq}
use Rattle.std.specs.Ordering.{is_lt, nat_cmp}
use Rattle.std.specs.Cmp.{IsTotalOrder}
use Rattle.std.specs.Cmp.Lexicographic.{slice_cmp}
use Rattle.std.proofs.lemmas.Cmp.{nat_list_cmp_total}
use Rattle.std.proofs.lemmas.Map.Text.{is_eq-slice_cmp}
use Rattle.mq_base.specs.Members.{Mem}
use Rattle.mq_calls.specs.Words.{Plain, Part, Change, comes_before, set_named, batch_of, try_if, condition, local_of, apply, apply_all, logged, do_part}
use Rattle.mq_calls.specs.declared.state.Batch.{Batch}
use Rattle.mq_calls.specs.declared.records.LogRecord.{LogRecord}
use Rattle.std.specs.Prelude.{Option, None}
use Rattle.mq_calls.specs.State.{Queue}
use Rattle.mq_calls.specs.State.Change.{Try, AddBatch, DropBatch, SetBound, ForgetAll}
use Rattle.mq_law_manager.specs.Facts.{IsSound}
use Rattle.mq_law_manager.specs.Kept.{AllKeep}
use Rattle.mq_law_manager.proofs.Lists.{bool_case}
use Rattle.mq_law_manager.proofs.Named.{name_is, name_self, name_turned}
use Rattle.mq_law_manager.proofs.Routes.{before_trans, before_apart, turned_less}
use Rattle.mq_law_log.proofs.Bridge.{sound_logs}
use Rattle.mq_steer.specs.Rests.{HoldsJust, AreHeldIn, AreHeld}
use Rattle.mq_manager.specs.Facts.{AreByChannel}

-- names that differ come one before the other
names_total : IsTotalOrder (slice_cmp nat_cmp)
names_total = nat_list_cmp_total

before_turned : (a b : List ℕ) → bytes_eq a b ≡ false → comes_before a b ≡ false → comes_before b a ≡ true
before_turned a b e f = ap is_lt (names_total.antisymm b a) ∙ turned_less (slice_cmp nat_cmp a b) (is_eq-slice_cmp a b ∙ e) f

-- a batch that is set, or dropped
channel_of : Batch → List ℕ
channel_of b = b.channel

all_before : (y : List ℕ) (new : Batch) (bs : List Batch) → comes_before y new.channel ≡ true → ((x : Batch) → Mem x bs → comes_before y x.channel ≡ true)
    → (x : Batch) → Mem x (set_named (λ (b : Batch). b.channel) new bs) → comes_before y x.channel ≡ true
all_before y new [] first rest x (inl e) = ap (λ (b : Batch). comes_before y b.channel) e ∙ first
all_before y new [] first rest x (inr m) = absurd m
all_before y new (b ∷ bs) first rest x m = bool_case (bytes_eq new.channel b.channel)
    (λ t. Mem x (if t then new ∷ bs else (if comes_before new.channel b.channel then new ∷ b ∷ bs else b ∷ set_named (λ (b : Batch). b.channel) new bs)) → comes_before y x.channel ≡ true)
    (λ z n. elim n [ inl e ↦ ap (λ (b : Batch). comes_before y b.channel) e ∙ first | inr k ↦ rest x (inr k) ])
    (λ z n. bool_case (comes_before new.channel b.channel) (λ t. Mem x (if t then new ∷ b ∷ bs else b ∷ set_named (λ (b : Batch). b.channel) new bs) → comes_before y x.channel ≡ true)
    (λ w k. elim k [ inl e ↦ ap (λ (b : Batch). comes_before y b.channel) e ∙ first | inr j ↦ rest x j ])
    (λ w k. elim k [ inl e ↦ rest x (inl e) | inr j ↦ all_before y new bs first (λ u n. rest u (inr n)) x j ]) n) m

set_by_channel : (new : Batch) (bs : List Batch) → AreByChannel bs → AreByChannel (set_named (λ (b : Batch). b.channel) new bs)
set_by_channel new [] h = (λ z m. absurd m, tt)
set_by_channel new (y ∷ ys) h = bool_case (bytes_eq new.channel y.channel)
    (λ t. bytes_eq new.channel y.channel ≡ t → AreByChannel (if t then new ∷ ys else (if comes_before new.channel y.channel then new ∷ y ∷ ys else y ∷ set_named (λ (b : Batch). b.channel) new ys)))
    (λ z w. (λ x m. ap (λ (n : List ℕ). comes_before n x.channel) (name_is new.channel y.channel w) ∙ h.0 x m, h.1))
    (λ z w. bool_case (comes_before new.channel y.channel) (λ t. comes_before new.channel y.channel ≡ t → AreByChannel (if t then new ∷ y ∷ ys else y ∷ set_named (λ (b : Batch). b.channel) new ys))
    (λ u v. (λ x m. elim m [ inl e ↦ ap (λ (b : Batch). comes_before new.channel b.channel) e ∙ v | inr k ↦ before_trans new.channel y.channel x.channel v (h.0 x k) ], h))
    (λ u v. (all_before y.channel new ys (before_turned new.channel y.channel w v) h.0, set_by_channel new ys h.1)) refl) refl

fewer_mem : (test : Batch → Bool) (x : Batch) (bs : List Batch) → Mem x (filter test bs) → Mem x bs
fewer_mem test x [] m = m
fewer_mem test x (b ∷ bs) m = bool_case (test b) (λ t. Mem x (if t then b ∷ filter test bs else filter test bs) → Mem x (b ∷ bs))
    (λ z n. elim n [ inl e ↦ inl e | inr k ↦ inr (fewer_mem test x bs k) ]) (λ z n. inr (fewer_mem test x bs n)) m

fewer_by_channel : (test : Batch → Bool) (bs : List Batch) → AreByChannel bs → AreByChannel (filter test bs)
fewer_by_channel test [] h = tt
fewer_by_channel test (b ∷ bs) h = bool_case (test b) (λ t. AreByChannel (if t then b ∷ filter test bs else filter test bs))
    (λ z. (λ x m. h.0 x (fewer_mem test x bs m), fewer_by_channel test bs h.1)) (λ z. fewer_by_channel test bs h.1)

-- whatever is changed
tried_batches : (b : Bool) (name : List ℕ) (p : Plain) → (try_if b name p).channels.batches ≡ p.channels.batches
tried_batches true name p = refl
tried_batches false name p = refl

one_by_channel : (c : Change) (p : Plain) → AreByChannel p.channels.batches → AreByChannel (apply c p).channels.batches
one_by_channel (Try name priority) p h = subst AreByChannel (sym (tried_batches (condition (local_of name p.definitions) priority p) name p)) h
one_by_channel (AddBatch b) p h = set_by_channel b p.channels.batches h
one_by_channel (DropBatch channel) p h = fewer_by_channel (λ (b : Batch). not (bytes_eq channel b.channel)) p.channels.batches h
one_by_channel (SetBound channel true) p h = h
one_by_channel (SetBound channel false) p h = h
one_by_channel ForgetAll p h = tt
one_by_channel c p h = h

pub all_by_channel : (cs : List Change) (p : Plain) → AreByChannel p.channels.batches → AreByChannel (apply_all cs p).channels.batches
all_by_channel [] p h = h
all_by_channel (c ∷ cs) p h = all_by_channel cs (apply c p) (one_by_channel c p h)

logged_by_channel : (r : Option LogRecord) (p : Plain) → AreByChannel p.channels.batches → AreByChannel (logged r p).channels.batches
logged_by_channel None p h = h
logged_by_channel (Some r) p h = h

pub parts_by_channel : (parts : List Part) (p : Plain) → AreByChannel p.channels.batches → AllKeep (λ (q : Plain). AreByChannel q.channels.batches) parts p
parts_by_channel [] p h = tt
parts_by_channel (part ∷ parts) p h = let k = all_by_channel part.changes (logged part.forced p) (logged_by_channel part.forced p h) in (k, parts_by_channel parts (do_part part p) k)

-- a batch is what is found by its channel's name
batch_found : (bs : List Batch) (b : Batch) → AreByChannel bs → Mem b bs → batch_of b.channel bs ≡ Some b
batch_found [] b h m = absurd m
batch_found (y ∷ ys) b h (inl e) = ap (λ (t : Bool). if t then Some y else batch_of b.channel ys) (ap (λ (x : Batch). bytes_eq b.channel x.channel) (sym e) ∙ name_self b.channel) ∙ ap (λ (x : Batch). Some x) (sym e)
batch_found (y ∷ ys) b h (inr m) = ap (λ (t : Bool). if t then Some y else batch_of b.channel ys) (name_turned b.channel y.channel ∙ before_apart y.channel b.channel (h.0 b m)) ∙ batch_found ys b h.1 m

others_apart : (b : Batch) (bs : List Batch) → ((x : Batch) → Mem x bs → comes_before b.channel x.channel ≡ true) → AllByRecursion (λ (d : Batch). bytes_eq b.channel d.channel ≡ false) bs
others_apart b [] h = tt
others_apart b (d ∷ ds) h = (before_apart b.channel d.channel (h d (inl refl)), others_apart b ds (λ x m. h x (inr m)))

held_in : (qs : List Queue) (bs : List Batch) → AreByChannel bs → ((b : Batch) → Mem b bs → AllByRecursion (HoldsJust b) qs) → AreHeldIn qs bs
held_in qs [] h just = tt
held_in qs (b ∷ bs) h just = (just b (inl refl), others_apart b bs h.0, held_in qs bs h.1 (λ x m. just x (inr m)))

pub sound_held : (p : Plain) → IsSound p → AreByChannel p.channels.batches → AreHeld p
sound_held p s h = held_in p.queues p.channels.batches h (λ b m. (sound_logs p s).batches b (batch_found p.channels.batches b h m))
