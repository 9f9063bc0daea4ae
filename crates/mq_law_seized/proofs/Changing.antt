-- A change that seizes, opens and holds nothing leaves seized queues their senders'.
use Rattle.std.proofs.Common.{ℕ, ◌≡◌, ◌⊎◌, Bool, true, false, List, [], ◌∷◌, ◌++◌, refl, ap, sym, subst, ◌∙◌, inl, inr}
use Rattle.std.proofs.lemmas.Bool.{or_parts}
use Rattle.std.specs.Prelude.{Option, Some, None, ◌==◌, ◌&&◌, ◌||◌, if◌then◌else◌, not, filter}
use Rattle.std.specs.List.{list_any}
use Rattle.std.specs.Str.{bytes_eq}
use Rattle.mq_queue.specs.declared.row.Row.{Row}
use Rattle.mq_queue.specs.Rows.{is_free}
use Rattle.mq_objects.specs.Names.{local_of}
use Rattle.mq_objects.specs.declared.object.Definitions.{Definitions}
use Rattle.mq_message.specs.declared.place.Place.{Place as RowPlace}
use Rattle.mq_calls.specs.declared.state.Connection.{Connection}
use Rattle.mq_calls.specs.declared.state.Handle.{Handle}
use Rattle.mq_calls.specs.declared.state.Seizure.{Seizure}
use Rattle.mq_calls.specs.declared.records.LogRecord.{LogRecord}
use Rattle.mq_calls.specs.State.{Change, Plain}
use Rattle.mq_calls.specs.State.Change.{Place as Places, Try, Leave, Hold, Release, Connect, Disconnect, OpenHandle, CloseHandle, SetCursor, Pend, EndUnit, MakeStale, CountIdent, ChangeObjects, Renew, DropQueue, SwitchOn, Serve, SetSender, SetReceiver, Undoubt, Seize, Unseize, AddBatch, DropBatch, SetBound, SetMoment, ForgetAll}
use Rattle.mq_calls.specs.Reads.{has_step, is_by_other, is_input, leads_to, read_by_handle, stored}
use Rattle.mq_calls.specs.Condition.{condition}
use Rattle.mq_calls.specs.Changes.{apply, apply_all, change_connection, change_handle, made_stale, release_if, selects, stale_if, try_if}
use Rattle.mq_calls.specs.Steps.{Part, Step, logged}
use Rattle.mq_spec_manager.specs.Handles.{is_transmission_queue}
use Rattle.mq_law_manager.specs.Facts.{Mem}
use Rattle.mq_law_manager.specs.Kept.{AllKeep, StepKeeps}
use Rattle.mq_law_manager.specs.Seen.{freed_if, goes_if, row_for, seen}
use Rattle.mq_law_manager.specs.View.{view}
use Rattle.mq_law_manager.proofs.Lists.{bool_case, mem_append, mem_inserted_at, mem_keep, mem_retag}
use Rattle.mq_law_manager.proofs.Removals.{mem_filter}
use Rattle.mq_law_manager.proofs.SeenLaws.{applied}
use Rattle.mq_law_manager.proofs.Routes.{map_mem}
use Rattle.mq_law_seized.specs.Each.{has_none}
use Rattle.mq_law_seized.proofs.Each.{all_keep, parts_keep, step_keeps}
use Rattle.mq_law_seized.specs.Seized.{AreSeized, all_plain, is_plain, parts_plain, step_plain, strays}

-- LISTS
pub any_none : {A : Type 0} (test : A → Bool) (xs : List A) → ((x : A) → Mem x xs → test x ≡ false) → list_any test xs ≡ false
any_none test [] h = refl
any_none test (x ∷ xs) h = (λ i. h x (inl refl) i || list_any test xs) ∙ any_none test xs (λ y n. h y (inr n))

pub none_any : {A : Type 0} (test : A → Bool) (xs : List A) → list_any test xs ≡ false → (x : A) → Mem x xs → test x ≡ false
none_any test [] e x n = absurd n
none_any test (y ∷ ys) e x (inl q) = ap test q ∙ (or_parts (test y) (list_any test ys) e).0
none_any test (y ∷ ys) e x (inr n) = none_any test ys (or_parts (test y) (list_any test ys) e).1 x n

mem_changed : (number : ℕ) (f : Connection → Connection) (cs : List Connection) (d : Connection) → Mem d (change_connection number f cs) → Mem d cs ⊎ ((o : Connection) × Mem o cs × (d ≡ f o))
mem_changed number f [] d n = absurd n
mem_changed number f (c ∷ cs) d n = bool_case (c.number == number) (λ b. Mem d (if b then f c ∷ cs else c ∷ change_connection number f cs) → Mem d (c ∷ cs) ⊎ ((o : Connection) × Mem o (c ∷ cs) × (d ≡ f o)))
    (λ z m. elim m [ inl e ↦ inr (c, inl refl, e) | inr k ↦ inl (inr k) ])
    (λ z m. elim m [
      | inl e ↦ inl (inl e)
      | inr k ↦ elim (mem_changed number f cs d k) [ inl w ↦ inl (inr w) | inr w ↦ inr (w.0, inr w.1, w.2) ]
    ]) n

mem_handle : (number : ℕ) (f : Handle → Handle) (hs : List Handle) (d : Handle) → Mem d (change_handle number f hs) → Mem d hs ⊎ ((o : Handle) × Mem o hs × (d ≡ f o))
mem_handle number f [] d n = absurd n
mem_handle number f (c ∷ cs) d n = bool_case (c.number == number) (λ b. Mem d (if b then f c ∷ cs else c ∷ change_handle number f cs) → Mem d (c ∷ cs) ⊎ ((o : Handle) × Mem o (c ∷ cs) × (d ≡ f o)))
    (λ z m. elim m [ inl e ↦ inr (c, inl refl, e) | inr k ↦ inl (inr k) ])
    (λ z m. elim m [
      | inl e ↦ inl (inl e)
      | inr k ↦ elim (mem_handle number f cs d k) [ inl w ↦ inl (inr w) | inr w ↦ inr (w.0, inr w.1, w.2) ]
    ]) n

-- WHO READS
abbrev pub reads : List ℕ → Handle → Bool
reads q h = is_input h.how.input && leads_to q h.leads

-- no handle is so
abbrev pub NoneOf : (Handle → Bool) → List Connection → Type 0
NoneOf test cs = (d : Connection) → Mem d cs → (h : Handle) → Mem h d.handles → test h ≡ false

-- which doesn't go by its cursor, nor by whether it is stale
record IsSteady (test : Handle → Bool) : Type 0 where
  cursor : (o : Handle) (v : Option RowPlace) → test (record o { cursor = v }) ≡ test o
  stale : (o : Handle) → test (record o { stale = true }) ≡ test o

pub reads_none : (q : List ℕ) (p : Plain) → read_by_handle q p ≡ false → NoneOf (reads q) p.connections
reads_none q p e d n h k = none_any (reads q) d.handles (none_any (λ (c : Connection). list_any (reads q) c.handles) p.connections e d n) h k

pub none_reads : (q : List ℕ) (p : Plain) → NoneOf (reads q) p.connections → read_by_handle q p ≡ false
none_reads q p f = any_none (λ (c : Connection). list_any (reads q) c.handles) p.connections (λ d n. any_none (reads q) d.handles (f d n))

no_handles : (hs : List Handle) (h : Handle) → has_none hs ≡ true → Mem h hs → ⊥
no_handles [] h e n = n
no_handles (x ∷ xs) h e n = absurd cc

stale_same : (test : Handle → Bool) (b : Bool) (o : Handle) → IsSteady test → test (stale_if b o) ≡ test o
stale_same test true o t = t.stale o
stale_same test false o t = refl

pub changed_none : (test : Handle → Bool) (number : ℕ) (f : Connection → Connection) (cs : List Connection) → NoneOf test cs → ((o : Connection) → Mem o cs → (h : Handle) → Mem h (f o).handles → test h ≡ false) → NoneOf test (change_connection number f cs)
changed_none test number f cs r g d n h k = elim (mem_changed number f cs d n) [
  | inl w ↦ r d w h k
  | inr w ↦ g w.0 w.1 h (subst (λ (c : Connection). Mem h c.handles) w.2 k)
]

tried_none : (test : Handle → Bool) (b : Bool) (name : List ℕ) (p : Plain) → NoneOf test p.connections → NoneOf test (try_if b name p).connections
tried_none test true name p r = r
tried_none test false name p r = r

bound_none : (test : Handle → Bool) (b : Bool) (channel : List ℕ) (p : Plain) → NoneOf test p.connections → NoneOf test (apply (SetBound channel b) p).connections
bound_none test true channel p r = r
bound_none test false channel p r = r

none_reading : (test : Handle → Bool) → IsSteady test → (c : Change) (p : Plain) → is_plain c ≡ true → NoneOf test p.connections → NoneOf test (apply c p).connections
none_reading test t (Places name m) p e r = r
none_reading test t (Try name priority) p e r = tried_none test (condition (local_of name p.definitions) priority p) name p r
none_reading test t (Leave which) p e r = r
none_reading test t (Hold which by_) p e r = absurd cc
none_reading test t (Release which counted) p e r = r
none_reading test t (Connect c) p e r = λ d n h k. elim (mem_append d p.connections (c ∷ []) n) [
  | inl w ↦ r d w h k
  | inr w ↦ elim w [ inl z ↦ absurd (no_handles c.handles h e (subst (λ (o : Connection). Mem h o.handles) z k)) | inr z ↦ absurd z ]
]
none_reading test t (Disconnect number) p e r = λ d n h k. r d (mem_filter d (λ (c : Connection). not (c.number == number)) p.connections n).0 h k
none_reading test t (OpenHandle number o) p e r = absurd cc
none_reading test t (CloseHandle number handle) p e r =
    changed_none test number (λ (c : Connection). record c { handles = filter (λ (h : Handle). not (h.number == handle)) c.handles }) p.connections r (λ o n h k. r o n h (mem_filter h (λ (x : Handle). not (x.number == handle)) o.handles k).0)
none_reading test t (SetCursor number handle place) p e r =
    changed_none test number (λ (c : Connection). record c { handles = change_handle handle (λ (h : Handle). record h { cursor = Some place }) c.handles }) p.connections r
    (λ o n h k. elim (mem_handle handle (λ (x : Handle). record x { cursor = Some place }) o.handles h k) [
      | inl w ↦ r o n h w
      | inr w ↦ ap test w.2 ∙ t.cursor w.0 (Some place) ∙ r o n w.0 w.1
    ])
none_reading test t (Pend number item) p e r = changed_none test number (λ (c : Connection). record c { unit = c.unit ++ item ∷ [] }) p.connections r (λ o n h k. r o n h k)
none_reading test t (EndUnit number) p e r = changed_none test number (λ (c : Connection). record c { unit = [] }) p.connections r (λ o n h k. r o n h k)
none_reading test t (MakeStale way) p e r = λ d n h k.
    let o = map_mem (made_stale way) d p.connections n in
    let w = map_mem (λ (x : Handle). stale_if (has_step way x) x) h o.0.handles (subst (λ (c : Connection). Mem h c.handles) o.2 k) in
    ap test w.2 ∙ stale_same test (has_step way w.0) w.0 t ∙ r o.0 o.1 w.0 w.1
none_reading test t CountIdent p e r = r
none_reading test t (ChangeObjects change) p e r = absurd cc
none_reading test t (Renew name) p e r = r
none_reading test t (DropQueue name) p e r = r
none_reading test t (SwitchOn name) p e r = r
none_reading test t (Serve name) p e r = r
none_reading test t (SetSender channel d) p e r = r
none_reading test t (SetReceiver channel d) p e r = r
none_reading test t (Undoubt ident) p e r = r
none_reading test t (Seize s) p e r = absurd cc
none_reading test t (Unseize channel) p e r = r
none_reading test t (AddBatch b) p e r = r
none_reading test t (DropBatch channel) p e r = r
none_reading test t (SetBound channel bound) p e r = bound_none test bound channel p r
none_reading test t (SetMoment moment) p e r = r
none_reading test t ForgetAll p e r = λ d n h k. absurd n

reads_steady : (q : List ℕ) → IsSteady (reads q)
reads_steady q = record { cursor = λ o v. refl; stale = λ o. refl }

strays_steady : IsSteady strays
strays_steady = record { cursor = λ o v. refl; stale = λ o. refl }

-- WHO HOLDS
abbrev pub NoneBy : List ℕ → List Row → Type 0
NoneBy ch xs = (h : Row) → Mem h xs → is_by_other ch h.by ≡ false

named_rows : (ch name : List ℕ) (t : Bool) (xs : List Row) → NoneBy ch xs → NoneBy ch (if t then [] else xs)
named_rows ch name true xs r = λ h n. absurd n
named_rows ch name false xs r = r

freed_by : (ch : List ℕ) (t counted : Bool) (o : Row) → is_by_other ch o.by ≡ false → is_by_other ch (release_if t counted o).by ≡ false
freed_by ch true true o e = refl
freed_by ch true false o e = refl
freed_by ch false counted o e = e

seen_rows : (ch q : List ℕ) (c : Change) (p : Plain) → is_plain c ≡ true → NoneBy ch (stored q p).rows → NoneBy ch ((seen c p (view p)).rows q)
seen_rows ch q (Places name m) p e r = λ h n. elim (mem_inserted_at name (row_for name m p) (view p).rows q h n) [ inl w ↦ ap (λ (o : Row). is_by_other ch o.by) w.1 | inr w ↦ r h w ]
seen_rows ch q (Try name priority) p e r = r
seen_rows ch q (Leave which) p e r = λ h n. r h (mem_keep (goes_if which q) h (stored q p).rows n).0
seen_rows ch q (Hold which by_) p e r = absurd cc
seen_rows ch q (Release which counted) p e r = λ h n.
    let o = mem_retag (freed_if which counted q) h (stored q p).rows n in
    ap (λ (x : Row). is_by_other ch x.by) o.2 ∙ freed_by ch (selects which q o.0 && not (is_free o.0)) counted o.0 (r o.0 o.1)
seen_rows ch q (Connect c) p e r = r
seen_rows ch q (Disconnect number) p e r = r
seen_rows ch q (OpenHandle number o) p e r = r
seen_rows ch q (CloseHandle number handle) p e r = r
seen_rows ch q (SetCursor number handle place) p e r = r
seen_rows ch q (Pend number item) p e r = r
seen_rows ch q (EndUnit number) p e r = r
seen_rows ch q (MakeStale way) p e r = r
seen_rows ch q CountIdent p e r = r
seen_rows ch q (ChangeObjects change) p e r = r
seen_rows ch q (Renew name) p e r = named_rows ch name (bytes_eq q name) (stored q p).rows r
seen_rows ch q (DropQueue name) p e r = named_rows ch name (bytes_eq q name) (stored q p).rows r
seen_rows ch q (SwitchOn name) p e r = r
seen_rows ch q (Serve name) p e r = r
seen_rows ch q (SetSender channel d) p e r = r
seen_rows ch q (SetReceiver channel d) p e r = r
seen_rows ch q (Undoubt ident) p e r = r
seen_rows ch q (Seize s) p e r = r
seen_rows ch q (Unseize channel) p e r = r
seen_rows ch q (AddBatch b) p e r = r
seen_rows ch q (DropBatch channel) p e r = r
seen_rows ch q (SetBound channel bound) p e r = r
seen_rows ch q (SetMoment moment) p e r = r
seen_rows ch q ForgetAll p e r = r

by_view : (ch q : List ℕ) (c : Change) (p : Plain) → view (apply c p) ≡ seen c p (view p) → is_plain c ≡ true → NoneBy ch (stored q p).rows → NoneBy ch (stored q (apply c p)).rows
by_view ch q c p same e r = subst (λ v. NoneBy ch (v.rows q)) (sym same) (seen_rows ch q c p e r)

none_holding : (ch q : List ℕ) (c : Change) (p : Plain) → is_plain c ≡ true → NoneBy ch (stored q p).rows → NoneBy ch (stored q (apply c p)).rows
none_holding ch q (Connect c) p e r = r
none_holding ch q (Pend number item) p e r = r
none_holding ch q (Places name m) p e r = by_view ch q (Places name m) p (applied (Places name m) p tt) e r
none_holding ch q (Try name priority) p e r = by_view ch q (Try name priority) p (applied (Try name priority) p tt) e r
none_holding ch q (Leave which) p e r = by_view ch q (Leave which) p (applied (Leave which) p tt) e r
none_holding ch q (Hold which by_) p e r = absurd cc
none_holding ch q (Release which counted) p e r = by_view ch q (Release which counted) p (applied (Release which counted) p tt) e r
none_holding ch q (Disconnect number) p e r = r
none_holding ch q (OpenHandle number o) p e r = r
none_holding ch q (CloseHandle number handle) p e r = r
none_holding ch q (SetCursor number handle place) p e r = r
none_holding ch q (EndUnit number) p e r = r
none_holding ch q (MakeStale way) p e r = r
none_holding ch q CountIdent p e r = r
none_holding ch q (ChangeObjects change) p e r = r
none_holding ch q (Renew name) p e r = by_view ch q (Renew name) p (applied (Renew name) p tt) e r
none_holding ch q (DropQueue name) p e r = by_view ch q (DropQueue name) p (applied (DropQueue name) p tt) e r
none_holding ch q (SwitchOn name) p e r = by_view ch q (SwitchOn name) p (applied (SwitchOn name) p tt) e r
none_holding ch q (Serve name) p e r = by_view ch q (Serve name) p (applied (Serve name) p tt) e r
none_holding ch q (SetSender channel d) p e r = r
none_holding ch q (SetReceiver channel d) p e r = r
none_holding ch q (Undoubt ident) p e r = r
none_holding ch q (Seize s) p e r = r
none_holding ch q (Unseize channel) p e r = r
none_holding ch q (AddBatch b) p e r = r
none_holding ch q (DropBatch channel) p e r = r
none_holding ch q (SetBound channel bound) p e r = by_view ch q (SetBound channel bound) p (applied (SetBound channel bound) p tt) e r
none_holding ch q (SetMoment moment) p e r = r
none_holding ch q ForgetAll p e r = by_view ch q ForgetAll p (applied ForgetAll p tt) e r

-- WHAT IS SEIZED
tried_seizures : (b : Bool) (name : List ℕ) (p : Plain) → ((try_if b name p).channels.seizures ≡ p.channels.seizures) × ((try_if b name p).definitions ≡ p.definitions)
tried_seizures true name p = (refl, refl)
tried_seizures false name p = (refl, refl)

bound_seizures : (b : Bool) (channel : List ℕ) (p : Plain) → ((apply (SetBound channel b) p).channels.seizures ≡ p.channels.seizures) × ((apply (SetBound channel b) p).definitions ≡ p.definitions)
bound_seizures true channel p = (refl, refl)
bound_seizures false channel p = (refl, refl)

less_seized : (c : Change) (p : Plain) → is_plain c ≡ true → (s : Seizure) → Mem s (apply c p).channels.seizures → Mem s p.channels.seizures
less_seized (Places name m) p e s n = n
less_seized (Try name priority) p e s n = subst (λ xs. Mem s xs) (tried_seizures (condition (local_of name p.definitions) priority p) name p).0 n
less_seized (Leave which) p e s n = n
less_seized (Hold which by_) p e s n = n
less_seized (Release which counted) p e s n = n
less_seized (Connect c) p e s n = n
less_seized (Disconnect number) p e s n = n
less_seized (OpenHandle number o) p e s n = n
less_seized (CloseHandle number handle) p e s n = n
less_seized (SetCursor number handle place) p e s n = n
less_seized (Pend number item) p e s n = n
less_seized (EndUnit number) p e s n = n
less_seized (MakeStale way) p e s n = n
less_seized CountIdent p e s n = n
less_seized (ChangeObjects change) p e s n = n
less_seized (Renew name) p e s n = n
less_seized (DropQueue name) p e s n = n
less_seized (SwitchOn name) p e s n = n
less_seized (Serve name) p e s n = n
less_seized (SetSender channel d) p e s n = n
less_seized (SetReceiver channel d) p e s n = n
less_seized (Undoubt ident) p e s n = n
less_seized (Seize x) p e s n = absurd cc
less_seized (Unseize channel) p e s n = (mem_filter s (λ (x : Seizure). not (bytes_eq channel x.channel)) p.channels.seizures n).0
less_seized (AddBatch b) p e s n = n
less_seized (DropBatch channel) p e s n = n
less_seized (SetBound channel bound) p e s n = subst (λ xs. Mem s xs) (bound_seizures bound channel p).0 n
less_seized (SetMoment moment) p e s n = n
less_seized ForgetAll p e s n = absurd n

same_definitions : (c : Change) (p : Plain) → is_plain c ≡ true → (apply c p).definitions ≡ p.definitions
same_definitions (Try name priority) p e = (tried_seizures (condition (local_of name p.definitions) priority p) name p).1
same_definitions (SetBound channel bound) p e = (bound_seizures bound channel p).1
same_definitions (ChangeObjects change) p e = absurd cc
same_definitions c p e = refl

-- A CHANGE
pub change_leaves : (c : Change) (p : Plain) → is_plain c ≡ true → AreSeized p → AreSeized (apply c p)
change_leaves c p e h = record {
  local = none_reading strays strays_steady c p e h.local;
  sends = λ s n. ap (λ (d : Definitions). is_transmission_queue (local_of s.queue d)) (same_definitions c p e) ∙ h.sends s (less_seized c p e s n);
  unread = λ s n. none_reads s.queue (apply c p) (none_reading (reads s.queue) (reads_steady s.queue) c p e (reads_none s.queue p (h.unread s (less_seized c p e s n))));
  alone = λ s t n m q. h.alone s t (less_seized c p e s n) (less_seized c p e t m) q;
  held = λ s n. any_none (λ (row : Row). is_by_other s.channel row.by) (stored s.queue (apply c p)).rows
      (none_holding s.channel s.queue c p e (none_any (λ (row : Row). is_by_other s.channel row.by) (stored s.queue p).rows (h.held s (less_seized c p e s n))));
}

pub changes_leave : (cs : List Change) (p : Plain) → all_plain cs ≡ true → AreSeized p → AreSeized (apply_all cs p)
changes_leave cs p e h = all_keep is_plain AreSeized change_leaves cs p e h

pub logged_leaves : (o : Option LogRecord) (p : Plain) → AreSeized p → AreSeized (logged o p)
logged_leaves None p h = h
logged_leaves (Some r) p h = record { local = h.local; sends = h.sends; unread = h.unread; alone = h.alone; held = h.held }

-- A STEP
pub parts_leave : (parts : List Part) (p : Plain) → parts_plain parts ≡ true → AreSeized p → AllKeep AreSeized parts p
parts_leave parts p e h = parts_keep is_plain AreSeized change_leaves logged_leaves parts p e h

pub step_leaves : {F T : Type 0} (s : Step F T) (p : Plain) → step_plain s ≡ true → AreSeized p → StepKeeps AreSeized s p
step_leaves s p e h = step_keeps is_plain AreSeized change_leaves logged_leaves s p e h
