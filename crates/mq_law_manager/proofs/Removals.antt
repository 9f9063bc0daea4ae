-- Rows that go: gets, expiry, discards.
use Rattle.std.proofs.Common.{ℕ, ◌≡◌, ◌≢◌, Bool, true, false, List, [], ◌∷◌, ◌++◌, refl, ap, sym, subst, ◌∙◌, inl, inr}
use Rattle.std.specs.Prelude.{Option, Some, None, cond, if◌then◌else◌, not, ◌&&◌, ◌||◌, filter}
use Rattle.std.specs.List.{list_any}
use Rattle.std.specs.Str.{bytes_eq}
use Rattle.mq_message.specs.declared.message.Ident.{Ident}
use Rattle.mq_message.specs.declared.place.Holder.TheVariants as holders
use Rattle.mq_message.specs.declared.place.Place.{Place}
use Rattle.mq_message.specs.declared.place.Want.{Want}
use Rattle.mq_queue.specs.declared.row.Row.{Row}
use Rattle.mq_queue.specs.Rows.{same_ident, is_free, is_wanted, is_after}
use Rattle.mq_calls.specs.declared.answers.Hconn.{Hconn}
use Rattle.mq_calls.specs.declared.answers.Hobj.{Hobj}
use Rattle.mq_calls.specs.declared.answers.Get.{Get}
use Rattle.mq_calls.specs.declared.answers.Take.{Take}
use Rattle.mq_calls.specs.declared.answers.Take.TheVariants as takes
use Rattle.mq_calls.specs.declared.deltas.Why.{Why}
use Rattle.mq_calls.specs.declared.deltas.Why.TheVariants as whys
use Rattle.mq_calls.specs.declared.records.LogRecord.{LogRecord}
use Rattle.mq_calls.specs.State.{Plain, Change}
use Rattle.mq_calls.specs.declared.state.Connection.{Connection}
use Rattle.mq_calls.specs.declared.state.Handle.{Handle}
use Rattle.mq_calls.specs.declared.state.Item.TheVariants.{Take as Taken}
use Rattle.mq_calls.specs.State.Which.{Among}
use Rattle.mq_calls.specs.State.Change.{Leave, Hold, Pend, SetCursor}
use Rattle.mq_calls.specs.Reads.{connection_at, handle_at, is_persistent, is_expired}
use Rattle.mq_calls.specs.Changes.{apply, apply_all, selects}
use Rattle.mq_calls.specs.Steps.{Part, logged, do_part, do_all, silent}
use Rattle.mq_spec_manager.specs.Handles.{connected}
use Rattle.mq_spec_manager.specs.Put.{queue_at}
use Rattle.mq_spec_manager.specs.Get.{mqget, get_up, get_handle, get_scanned, get_found, get_tests, with_row, without_row, found_part, taking_part, removal_part, removal_parts, removal_record, persistent_rows, expired_parts, idents_of, is_destructive, scanned, scan, scan_row, Scan, looked_at, is_left, is_waiting, is_under, room_tests, asked, is_at}
use Rattle.mq_law_manager.specs.View.{View, view}
use Rattle.mq_law_manager.specs.Facts.{Mem, Differ, ident_of, Sound, Holds}
use Rattle.mq_law_manager.specs.Seen.{goes_if, pend_in}
use Rattle.mq_law_manager.specs.Kept.{PartsKeep, Keeps}
use Rattle.mq_law_manager.proofs.Lists.{bool_case, is_false, ident_yes, name_yes, mem_kept, one_row}
use Rattle.mq_law_manager.proofs.SeenLaws.{applied, pended}
use Rattle.mq_law_manager.proofs.Steps.{goes, gets_row, free_is}
use Rattle.mq_law_manager.proofs.Units.{sound_logged, view_logged, live_logged, is_live, for_live, tested_keeps}
use Rattle.mq_law_manager.proofs.Puts.{for_open}

pub mem_filter : {A : Type 0} (x : A) (test : A → Bool) (xs : List A) → Mem x (filter test xs) → Mem x xs × (test x ≡ true)
mem_filter x test [] = λ m. absurd m
mem_filter {A} x test (y ∷ ys) = bool_case (test y) (λ b. test y ≡ b → Mem x (cond b (y ∷ filter test ys) (filter test ys)) → Mem x (y ∷ ys) × (test x ≡ true))
    (λ e z m. first (λ w. mem_filter x test ys w) z m) (λ e z m. let r = mem_filter x test ys m in (inr r.0, r.1)) refl
  where
    first : (Mem x (filter test ys) → Mem x ys × (test x ≡ true)) → test y ≡ true → Mem x (y ∷ filter test ys) → Mem x (y ∷ ys) × (test x ≡ true)
    first f z (inl e) = (inl e, ap test e ∙ z)
    first f z (inr m) = let r = f m in (inr r.0, r.1)

pub differ_filter : {A : Type 0} (key : A → Ident) (test : A → Bool) (xs : List A) → Differ key xs → Differ key (filter test xs)
differ_filter key test [] d = tt
differ_filter {A} key test (y ∷ ys) d = bool_case (test y) (λ b. Differ key (cond b (y ∷ filter test ys) (filter test ys)))
    (λ e. (λ z m. d.0 z (mem_filter z test ys m).0, differ_filter key test ys d.1)) (λ e. differ_filter key test ys d.1)

-- an ident among those of some rows is that of one of them
pub among_rows : (i : Ident) (rows : List Row) → list_any (same_ident i) (idents_of rows) ≡ true → (r : Row) × Mem r rows × (i ≡ r.message.ident)
among_rows i [] e = absurd cc
among_rows i (r ∷ rows) e = bool_case (same_ident i r.message.ident) (λ b. same_ident i r.message.ident ≡ b → (b || list_any (same_ident i) (idents_of rows)) ≡ true → (x : Row) × Mem x (r ∷ rows) × (i ≡ x.message.ident))
    (λ z w f. (r, inl refl, ident_yes i r.message.ident w)) (λ z w f. let k = among_rows i rows f in (k.0, inr k.1, k.2)) refl e

-- a row that is none of these stays
pub stays : (p : Plain) (q : List ℕ) (rows : List Row) (d : List ℕ) (x : Row) → ((r : Row) → Mem r rows → d ≡ q → x.message.ident ≡ r.message.ident → ⊥) → goes_if (Among q (idents_of rows)) d x ≡ true
stays p q rows d x ne = ap not (is_false (selects (Among q (idents_of rows)) d x) (λ e.
    let yes_ = both (bytes_eq d q) (list_any (same_ident x.message.ident) (idents_of rows)) e in
    let k = among_rows x.message.ident rows yes_.1 in
    ne k.0 k.1 (name_yes d q yes_.0) k.2))
  where
    both : (a b : Bool) → (a && b) ≡ true → (a ≡ true) × (b ≡ true)
    both true true e = (refl, refl)
    both true false e = absurd cc
    both false b e = absurd cc

-- free rows of a queue go
pub sound_left : (p : Plain) (q : List ℕ) (rows : List Row) → Sound p → ((r : Row) → Mem r rows → Mem r ((view p).rows q) × (r.by ≡ None)) → Sound (apply (Leave (Among q (idents_of rows))) p)
sound_left p q rows h free =
    let same : (d : List ℕ) (x r : Row) → Mem x ((view p).rows d) → Mem r rows → d ≡ q → x.message.ident ≡ r.message.ident → x.by ≡ None = λ d x r m k e w.
    let at = free r k in
    ap (λ (y : Row). y.by) (one_row ((view p).rows q) x r (h.apart.once q) (subst (λ (c : List ℕ). Mem x ((view p).rows c)) e m) at.0 w) ∙ at.1 in
    subst Holds (sym (applied (Leave (Among q (idents_of rows))) p tt)) (goes (view p) (goes_if (Among q (idents_of rows))) h
    (λ d x n m by. stays p q rows d x (λ r k e w. cc (by, same d x r m k e w)))
    (λ d x c b m by is. stays p q rows d x (λ r k e w. cc (by, same d x r m k e w))))

pub removal_keeps : (why : Why) (q : List ℕ) (rows : List Row) (p : Plain) → Sound p → ((r : Row) → Mem r rows → Mem r ((view p).rows q) × (r.by ≡ None)) → Sound (do_part (removal_part why q rows) p)
removal_keeps why q rows p h free =
    let r : Option LogRecord = removal_record q (persistent_rows rows) in
    sound_left (logged r p) q rows (sound_logged r p h) (λ x m. let k = free x m in (subst (λ (v : View). Mem x (v.rows q)) (sym (view_logged r p)) k.0, k.1))

pub removals_keep : (why : Why) (q : List ℕ) (rows : List Row) (p : Plain) → Sound p → ((r : Row) → Mem r rows → Mem r ((view p).rows q) × (r.by ≡ None)) → PartsKeep (removal_parts why q rows) p
removals_keep why q [] p h free = tt
removals_keep why q (r ∷ rows) p h free = (removal_keeps why q (r ∷ rows) p h free, tt)

-- The scan

pub scan_free : (want : Want) (p : Plain) (rows : List Row) (r : Row) → Mem r (scan want p rows).expired → Mem r rows × (is_free r ≡ true)
scan_free want p [] r = λ m. absurd m
scan_free want p (x ∷ xs) r = bool_case (is_free x && is_wanted want x) (λ b. (is_free x && is_wanted want x) ≡ b → Mem r (scan_row b (is_expired p x) x (scan want p xs)).expired → Mem r (x ∷ xs) × (is_free r ≡ true))
    (λ z w. bool_case (is_expired p x) (λ b. Mem r (scan_row true b x (scan want p xs)).expired → Mem r (x ∷ xs) × (is_free r ≡ true)) (λ e m. at (λ k. scan_free want p xs r k) (left (is_free x) (is_wanted want x) w) m) (λ e m. absurd m))
    (λ z w m. let k = scan_free want p xs r m in (inr k.0, k.1)) refl
  where
    left : (a b : Bool) → (a && b) ≡ true → a ≡ true
    left true b e = refl
    left false b e = absurd cc

    at : (Mem r (scan want p xs).expired → Mem r xs × (is_free r ≡ true)) → is_free x ≡ true → Mem r (x ∷ (scan want p xs).expired) → Mem r (x ∷ xs) × (is_free r ≡ true)
    at f e (inl w) = (inl w, ap is_free w ∙ e)
    at f e (inr m) = let k = f m in (inr k.0, k.1)

pub scan_found : (want : Want) (p : Plain) (rows : List Row) (r : Row) → (scan want p rows).found ≡ Some r → Mem r rows × (is_free r ≡ true)
scan_found want p [] r = λ e. absurd cc
scan_found want p (x ∷ xs) r = bool_case (is_free x && is_wanted want x) (λ b. (is_free x && is_wanted want x) ≡ b → (scan_row b (is_expired p x) x (scan want p xs)).found ≡ Some r → Mem r (x ∷ xs) × (is_free r ≡ true))
    (λ z w. bool_case (is_expired p x) (λ b. (scan_row true b x (scan want p xs)).found ≡ Some r → Mem r (x ∷ xs) × (is_free r ≡ true)) (λ e m. let k = scan_found want p xs r m in (inr k.0, k.1))
    (λ e m. let is : x ≡ r = cc m in (inl (sym is), ap is_free (sym is) ∙ left (is_free x) (is_wanted want x) w)))
    (λ z w m. let k = scan_found want p xs r m in (inr k.0, k.1)) refl
  where
    left : (a b : Bool) → (a && b) ≡ true → a ≡ true
    left true b e = refl
    left false b e = absurd cc

pub scan_apart : (want : Want) (p : Plain) (rows : List Row) (r x : Row) → Differ ident_of rows → (scan want p rows).found ≡ Some r → Mem x (scan want p rows).expired → r.message.ident ≢ x.message.ident
scan_apart want p [] r x d = λ e m. absurd m
scan_apart want p (y ∷ ys) r x d = bool_case (is_free y && is_wanted want y) (λ b. (scan_row b (is_expired p y) y (scan want p ys)).found ≡ Some r → Mem x (scan_row b (is_expired p y) y (scan want p ys)).expired → r.message.ident ≢ x.message.ident)
    (λ z. bool_case (is_expired p y) (λ b. (scan_row true b y (scan want p ys)).found ≡ Some r → Mem x (scan_row true b y (scan want p ys)).expired → r.message.ident ≢ x.message.ident)
    (λ e f m. at (λ k. scan_apart want p ys r x d.1 f k) (scan_found want p ys r f).0 m) (λ e f m. absurd m))
    (λ z f m. scan_apart want p ys r x d.1 f m)
  where
    at : (Mem x (scan want p ys).expired → r.message.ident ≢ x.message.ident) → Mem r ys → Mem x (y ∷ (scan want p ys).expired) → r.message.ident ≢ x.message.ident
    at f k (inl w) = λ e. d.0 r k (sym (e ∙ ap ident_of w))
    at f k (inr m) = f m

-- MQGET

pub looked_mem : (take : Take) (cursor : Option Place) (rows : List Row) (r : Row) → Mem r (looked_at take cursor rows) → Mem r rows
looked_mem takes.Next cursor rows r m = m
looked_mem takes.BrowseFirst cursor rows r m = m
looked_mem takes.BrowseNext cursor rows r m = (mem_filter r (is_after cursor) rows m).0
looked_mem takes.UnderCursor cursor rows r m = (mem_filter r (is_at cursor) rows m).0
looked_mem takes.BrowseUnder cursor rows r m = (mem_filter r (is_at cursor) rows m).0

pub looked_differ : (take : Take) (cursor : Option Place) (rows : List Row) → Differ ident_of rows → Differ ident_of (looked_at take cursor rows)
looked_differ takes.Next cursor rows d = d
looked_differ takes.BrowseFirst cursor rows d = d
looked_differ takes.BrowseNext cursor rows d = differ_filter ident_of (is_after cursor) rows d
looked_differ takes.UnderCursor cursor rows d = differ_filter ident_of (is_at cursor) rows d
looked_differ takes.BrowseUnder cursor rows d = differ_filter ident_of (is_at cursor) rows d

-- parts one behind the other
parts_behind : (xs : List Part) (y : Part) (p : Plain) → PartsKeep xs p → ((q : Plain) → q ≡ do_all xs p → Sound (do_part y q)) → PartsKeep (xs ++ y ∷ []) p
parts_behind [] y p k f = (f p refl, tt)
parts_behind (x ∷ xs) y p k f = (k.0, parts_behind xs y (do_part x p) k.1 f)

-- a free row of the queue, of a connection that lives
pub record IsFound (p : Plain) (c : Connection) (q : List ℕ) (r : Row) : Type 0 where
  pub there : Mem r ((view p).rows q)
  pub free : r.by ≡ None
  pub live : connection_at c.number p.connections ≡ Some c

held_sound : (p : Plain) (c : Connection) (q : List ℕ) (r : Row) → Sound p → IsFound p c q r → Sound (apply_all (Hold (Among q (r.message.ident ∷ [])) (holders.Unit c.number) ∷ Pend c.number (Taken q r.message.ident (is_persistent r.message)) ∷ []) p)
held_sound p c q r h f =
    let hold : Change = Hold (Among q (r.message.ident ∷ [])) (holders.Unit c.number) in
    subst Holds (sym (pended c.number (Taken q r.message.ident (is_persistent r.message)) (apply hold p) c f.live))
    (subst (λ (v : View). Holds (pend_in c.number (Taken q r.message.ident (is_persistent r.message)) v)) (sym (applied hold p tt))
    (gets_row (view p) c.number q r h f.there f.free))

one_free : (p : Plain) (c : Connection) (q : List ℕ) (r : Row) → IsFound p c q r → (x : Row) → Mem x (r ∷ []) → Mem x ((view p).rows q) × (x.by ≡ None)
one_free p c q r f x (inl e) = (subst (λ (y : Row). Mem y ((view p).rows q)) (sym e) f.there, ap (λ (y : Row). y.by) e ∙ f.free)
one_free p c q r f x (inr m) = absurd m

taking_keeps : (sync : Bool) (c : Connection) (q : List ℕ) (r : Row) (p : Plain) → Sound p → IsFound p c q r → Sound (do_part (taking_part sync c q r) p)
taking_keeps true c q r p h f = held_sound p c q r h f
taking_keeps false c q r p h f = removal_keeps whys.Got q (r ∷ []) p h (one_free p c q r f)

found_keeps : (get : Get) (c : Connection) (x : Handle) (q : List ℕ) (r : Row) (p : Plain) → Sound p → IsFound p c q r → Sound (do_part (found_part get c x q r) p)
found_keeps get c x q r p h f = bool_case (is_destructive get.take) (λ b. Sound (do_part (if b then taking_part get.sync c q r else silent (SetCursor c.number x.number r.place ∷ [])) p))
    (λ e. taking_keeps get.sync c q r p h f) (λ e. subst Holds (sym (applied (SetCursor c.number x.number r.place) p tt)) h)

-- behind the removal of expired rows the row that was found is there still
pub after_removals : (why : Why) (q : List ℕ) (rows : List Row) (p : Plain) (c : Connection) (r : Row) → IsFound p c q r → ((x : Row) → Mem x rows → r.message.ident ≢ x.message.ident) → IsFound (do_all (removal_parts why q rows) p) c q r
after_removals why q [] p c r f ne = f
after_removals why q (x ∷ rows) p c r f ne =
    let w : Option LogRecord = removal_record q (persistent_rows (x ∷ rows)) in
    let which = Among q (idents_of (x ∷ rows)) in
    record {
      there = subst (λ (v : View). Mem r (v.rows q)) (sym (applied (Leave which) (logged w p) tt))
          (mem_kept (goes_if which q) r ((view (logged w p)).rows q) (subst (λ (v : View). Mem r (v.rows q)) (sym (view_logged w p)) f.there) (stays p q (x ∷ rows) q r (λ y m e z. ne y m z)));
      free = f.free;
      live = live_logged c.number c p w f.live;
    }

with_row_keeps : (cut : Bool) (get : Get) (c : Connection) (x : Handle) (q : List ℕ) (r : Row) (rows : List Row) (p : Plain) → PartsKeep (expired_parts q rows) p → Sound (do_all (expired_parts q rows) p)
    → IsFound (do_all (expired_parts q rows) p) c q r → Keeps (with_row cut get c x q r (expired_parts q rows)) p
with_row_keeps true get c x q r rows p k h f = k
with_row_keeps false get c x q r rows p k h f = parts_behind (expired_parts q rows) (found_part get c x q r) p k (λ y e. subst (λ (z : Plain). Sound (do_part (found_part get c x q r) z)) (sym e) (found_keeps get c x q r (do_all (expired_parts q rows) p) h f))

without_row_keeps : (under waiting : Bool) (before : List Part) (p : Plain) → PartsKeep before p → Keeps (without_row under waiting before) p
without_row_keeps true waiting before p k = k
without_row_keeps false true before p k = tt
without_row_keeps false false before p k = k

pub last_kept : (parts : List Part) (p : Plain) → Sound p → PartsKeep parts p → Sound (do_all parts p)
last_kept [] p h k = h
last_kept (x ∷ xs) p h k = last_kept xs (do_part x p) k.0 k.1

get_found_keeps : (get : Get) (until : Option ℕ) (p : Plain) (c : Connection) (x : Handle) (o : Option Row) → Sound p → connection_at c.number p.connections ≡ Some c → (scanned get x p).found ≡ o
    → Keeps (get_found get until p c x (expired_parts (queue_at x.leads) (scanned get x p).expired) o) p
get_found_keeps get until p c x o h live is =
    let q : List ℕ = queue_at x.leads in
    let rows : List Row = (view p).rows q in
    let seen_ : List Row = looked_at get.take x.cursor rows in
    let s : Scan = scan (asked get) p seen_ in
    let k : PartsKeep (expired_parts q s.expired) p = removals_keep whys.Expired q s.expired p h (λ r m. let z = scan_free (asked get) p seen_ r m in (looked_mem get.take x.cursor rows r z.0, free_is r z.1)) in
    at s k o is
  where
    at : (s : Scan) → PartsKeep (expired_parts (queue_at x.leads) (scanned get x p).expired) p → (o : Option Row) → (scanned get x p).found ≡ o → Keeps (get_found get until p c x (expired_parts (queue_at x.leads) (scanned get x p).expired) o) p
    at s k None e = without_row_keeps (is_under get.take) (is_waiting until p) (expired_parts (queue_at x.leads) (scanned get x p).expired) p k
    at s k (Some r) e =
        let q : List ℕ = queue_at x.leads in
        let rows : List Row = (view p).rows q in
        let seen_ : List Row = looked_at get.take x.cursor rows in
        let z = scan_found (asked get) p seen_ r e in
        with_row_keeps (is_left get r.message) get c x q r (scanned get x p).expired p k (last_kept (expired_parts q (scanned get x p).expired) p h k)
        (after_removals whys.Expired q (scanned get x p).expired p c r (record { there = looked_mem get.take x.cursor rows r z.0; free = free_is r z.1; live = live })
        (λ y m. scan_apart (asked get) p seen_ r y (looked_differ get.take x.cursor rows (h.apart.once q)) e m))

pub mqget_keeps : (hc : Hconn) (ho : Hobj) (get : Get) (until : Option ℕ) (p : Plain) → Sound p → Keeps (mqget hc ho get until p) p
mqget_keeps hc ho get until p h = for_live (connected hc p) (get_up ho get until p) p (λ c e. for_open (handle_at ho.number c.handles) (get_handle get until p c) p
    (λ x w. tested_keeps (get_tests get p c x) (get_scanned get until p c x (scanned get x p)) p
    (λ z. tested_keeps (room_tests get c (scanned get x p) p) (get_found get until p c x (expired_parts (queue_at x.leads) (scanned get x p).expired) (scanned get x p).found) p
    (λ y. get_found_keeps get until p c x (scanned get x p).found h (is_live hc c p e) refl))))
