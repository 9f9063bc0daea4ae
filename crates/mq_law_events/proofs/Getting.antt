-- MQGET: the expired rows that it meets go, then it takes its row, holds it, or browses. The ledger follows.
use Rattle.std.proofs.Common.{ℕ, ◌≡◌, ◌≢◌, Bool, true, false, not, List, [], ◌∷◌, ◌++◌, refl, ap, sym, subst, ◌∙◌}
use Rattle.std.specs.Prelude.{Option, Some, None, ◌==◌, if◌then◌else◌, ◌&&◌}
use Rattle.std.specs.Str.{bytes_eq}
use Rattle.mq_message.specs.declared.message.Ident.{Ident}
use Rattle.mq_message.specs.declared.place.Want.{Want}
use Rattle.mq_message.specs.declared.place.Holder.TheVariants as holders
use Rattle.mq_queue.specs.declared.row.Row.{Row}
use Rattle.mq_queue.specs.Rows.{is_free, is_wanted}
use Rattle.mq_calls.specs.declared.answers.Get.{Get}
use Rattle.mq_calls.specs.declared.answers.Got.{Got}
use Rattle.mq_calls.specs.declared.answers.GetAnswer.TheVariants.{Done}
use Rattle.mq_calls.specs.declared.answers.Hconn.{Hconn}
use Rattle.mq_calls.specs.declared.answers.Hobj.{Hobj}
use Rattle.mq_calls.specs.declared.answers.Take.TheVariants as takes
use Rattle.mq_calls.specs.declared.deltas.Did.{Did}
use Rattle.mq_calls.specs.declared.deltas.Why.TheVariants as whys
use Rattle.mq_calls.specs.declared.records.LogRecord.{LogRecord}
use Rattle.mq_calls.specs.declared.state.Connection.{Connection}
use Rattle.mq_calls.specs.declared.state.Handle.{Handle}
use Rattle.mq_calls.specs.declared.state.Item.TheVariants.{Take as Taken}
use Rattle.mq_law_seen.specs.from_history.ReplyVariants as replies
use Rattle.mq_calls.specs.State.{Plain, Given}
use Rattle.mq_calls.specs.State.Change.{Leave, SetCursor, Hold, Pend}
use Rattle.mq_calls.specs.State.Which.{Among}
use Rattle.mq_calls.specs.Reads.{connection_at, handle_at, stored, is_persistent, is_expired}
use Rattle.mq_calls.specs.Changes.{apply}
use Rattle.mq_calls.specs.Steps.{Part, silent, logged, do_part, do_all, delta_of}
use Rattle.mq_spec_manager.specs.Handles.{connected}
use Rattle.mq_spec_manager.specs.Put.{queue_at}
use Rattle.mq_spec_manager.specs.Get.{scan_row, scan, scanned, asked, looked_at, is_destructive, is_left, is_too_long, is_under, is_waiting, got, got_answer, removal_record, expired_parts, persistent_rows, idents_of, taking_part, found_part, with_row, without_row, get_found, get_handle, get_up, get_tests, room_tests, mqget}
use Rattle.mq_law_seen.specs.from_spec_network.Ledger as ledgers
use Rattle.mq_law_seen.specs.from_spec_network.Ledger.{Ledger, take_all_gone, take_gone, got_ident, get_by, get_row}
use Rattle.mq_law_seen.specs.from_spec_network.Story.{Mem}
use Rattle.mq_law_seen.specs.from_law_rows.World.{ident_of}
use Rattle.mq_law_seen.specs.from_law_rows.Kinds.{among}
use Rattle.mq_law_seen.proofs.from_law_rows.Lists.{bool_case, is_false, mem_kept, mem_keep, and_right}
use Rattle.mq_law_manager.specs.Facts.{Differ}
use Rattle.mq_law_manager.proofs.Lists.{one_row}
use Rattle.mq_law_manager.proofs.Steps.{free_is}
use Rattle.mq_law_manager.proofs.Removals.{among_rows, scan_free, scan_found, scan_apart, looked_mem, looked_differ}
use Rattle.mq_law_manager.proofs.Units.{found_number}
use Rattle.mq_law_events.specs.Tied.{IsTold, IsFresh, Follow}
use Rattle.mq_law_events.specs.Posting.{StepFollows, post_get}
use Rattle.mq_law_events.proofs.Locals.{behind as leads_behind}
use Rattle.mq_law_events.specs.Local.{side_of, sheet_of}
use Rattle.mq_law_events.proofs.Telling.{else_then}
use Rattle.mq_law_events.proofs.Putting.{rows_after}
use Rattle.mq_law_events.proofs.Taking.{removed_all, many_follow, got_follows, held_follows}
use Rattle.mq_law_events.proofs.Calling.{calm_follows, calm_none, cursor_calm}
use Rattle.mq_law_events.proofs.Events.{tested_follows, for_live, for_open, lives, from_logged, fresh_logged, told_logged}

-- one behind the other
pub follow_then : (m : ℕ) (given : Ident → Bool) (p q r : Plain) (l k j : Ledger) → (f : Follow m given p l q k) → Follow m f.now q k r j → Follow m given p l r j
follow_then m given p q r l k j f g = record {
  now = g.now;
  leads = leads_behind m (side_of p given) (side_of q f.now) (side_of r g.now) (sheet_of m l) (sheet_of m k) (sheet_of m j) f.leads g.leads;
  fresh = g.fresh;
  known = λ i e. g.known i (ap (λ (x : Given). i.manager == x.number) f.same.given ∙ e) ∙ f.known i e;
  told = g.told;
  same = record {
    given = g.same.given ∙ f.same.given;
    senders = g.same.senders ∙ f.same.senders;
    receivers = g.same.receivers ∙ f.same.receivers;
    batches = g.same.batches ∙ f.same.batches;
  };
  steady = g.steady ∙ f.steady;
  other = else_then m l k j f.other g.other;
  kept = λ u x a b. let y = g.kept f.told.users x f.told.used b in let z = f.kept u f.told.users a f.told.used in record { cut = y.cut ∙ z.cut; moment = y.moment ∙ z.moment };
}

-- Parts one behind the other

do_behind : (xs : List Part) (y : Part) (p : Plain) → do_all (xs ++ y ∷ []) p ≡ do_part y (do_all xs p)
do_behind [] y p = refl
do_behind (x ∷ xs) y p = do_behind xs y (do_part x p)

gone_behind : (m : ℕ) (xs ys : List Did) (l : Ledger) → take_all_gone m (xs ++ ys) l ≡ take_all_gone m ys (take_all_gone m xs l)
gone_behind m [] ys l = refl
gone_behind m (x ∷ xs) ys l = gone_behind m xs ys (take_gone m x l)

delta_behind : (xs : List Part) (y : Part) (m : ℕ) (l : Ledger) → take_all_gone m (delta_of (xs ++ y ∷ [])) l ≡ take_all_gone m y.delta (take_all_gone m (delta_of xs) l)
delta_behind [] y m l = gone_behind m y.delta [] l
delta_behind (x ∷ xs) y m l = gone_behind m x.delta (delta_of (xs ++ y ∷ [])) l ∙ delta_behind xs y m (take_all_gone m x.delta l) ∙ ap (take_all_gone m y.delta) (sym (gone_behind m x.delta (delta_of xs) l))

pub none_behind : {A : Type 0} (xs : List A) → xs ++ [] ≡ xs
none_behind [] = refl
none_behind (x ∷ xs) = ap (λ ys. x ∷ ys) (none_behind xs)

-- Expired rows

pub expired_follow : (m : ℕ) (given : Ident → Bool) (p : Plain) (l : Ledger) (q : List ℕ) (xs : List Row) → IsFresh given p → IsTold m p l → ((x : Row) → Mem x xs → Mem x (stored q p).rows × (x.by ≡ None)) → Differ ident_of xs
    → Follow m given p l (do_all (expired_parts q xs) p) (take_all_gone m (delta_of (expired_parts q xs)) l)
expired_follow m given p l q [] f t each once = calm_follows m given p p l f t (calm_none p) refl
expired_follow m given p l q (x ∷ xs) f t each once =
    let r : Option LogRecord = removal_record q (persistent_rows (x ∷ xs)) in
    subst (λ ds. Follow m given p l (do_all (expired_parts q (x ∷ xs)) p) (take_all_gone m ds l)) (sym (none_behind (removed_all whys.Expired q (x ∷ xs))))
    (from_logged m given r p _ l _ (many_follow m given (logged r p) l q whys.Expired (x ∷ xs) (fresh_logged given r p f) (told_logged m r p l t) refl (λ y n. there r p q y (each y n)) once))
  where
    there : (r : Option LogRecord) (p : Plain) (q : List ℕ) (y : Row) → Mem y (stored q p).rows × (y.by ≡ None) → Mem y (stored q (logged r p)).rows × (y.by ≡ None)
    there None p q y n = n
    there (Some r) p q y n = n

-- what is there behind them
pub rows_logged : (r : Option LogRecord) (p : Plain) (d : List ℕ) → (stored d (logged r p)).rows ≡ (stored d p).rows
rows_logged None p d = refl
rows_logged (Some r) p d = refl

left_there : (q : List ℕ) (xs : List Row) (p : Plain) (y : Row) → Mem y (stored q (do_all (expired_parts q xs) p)).rows → Mem y (stored q p).rows
left_there q [] p y n = n
left_there q (x ∷ xs) p y n =
    let r : Option LogRecord = removal_record q (persistent_rows (x ∷ xs)) in
    subst (λ rows. Mem y rows) (rows_logged r p q) (mem_keep _ y (stored q (logged r p)).rows (subst (λ rows. Mem y rows) (rows_after (Leave (Among q (idents_of (x ∷ xs)))) (logged r p) q tt) n)).0

still_there : (q : List ℕ) (xs : List Row) (p : Plain) (y : Row) → Mem y (stored q p).rows → ((x : Row) → Mem x xs → y.message.ident ≢ x.message.ident) → Mem y (stored q (do_all (expired_parts q xs) p)).rows
still_there q [] p y n ne = n
still_there q (x ∷ xs) p y n ne =
    let r : Option LogRecord = removal_record q (persistent_rows (x ∷ xs)) in
    subst (λ rows. Mem y rows) (sym (rows_after (Leave (Among q (idents_of (x ∷ xs)))) (logged r p) q tt))
    (mem_kept _ y (stored q (logged r p)).rows (subst (λ rows. Mem y rows) (sym (rows_logged r p q)) n)
    (ap not (is_false (bytes_eq q q && among (idents_of (x ∷ xs)) y.message.ident) (λ e. let k = among_rows y.message.ident (x ∷ xs) (and_right (bytes_eq q q) _ e) in ne k.0 k.1 k.2))))

left_connections : (q : List ℕ) (xs : List Row) (p : Plain) → (do_all (expired_parts q xs) p).connections ≡ p.connections
left_connections q [] p = refl
left_connections q (x ∷ xs) p = go (removal_record q (persistent_rows (x ∷ xs)))
  where
    go : (r : Option LogRecord) → (logged r p).connections ≡ p.connections
    go None = refl
    go (Some r) = refl

-- The row that is found

expired_differ : (want : Want) (p : Plain) (rows : List Row) → Differ ident_of rows → Differ ident_of (scan want p rows).expired
expired_differ want p [] d = tt
expired_differ want p (x ∷ rows) d = bool_case (is_free x && is_wanted want x) (λ b. Differ ident_of (scan_row b (is_expired p x) x (scan want p rows)).expired)
    (λ z. bool_case (is_expired p x) (λ b. Differ ident_of (scan_row true b x (scan want p rows)).expired) (λ w. ((λ y n. d.0 y (scan_free want p rows y n).0), expired_differ want p rows d.1)) (λ w. tt))
    (λ z. expired_differ want p rows d.1)

pub expired_each : (get : Get) (h : Handle) (p : Plain) (x : Row) → Mem x (scanned get h p).expired → Mem x (stored (queue_at h.leads) p).rows × (x.by ≡ None)
expired_each get h p x n = let k = scan_free (asked get) p (looked_at get.take h.cursor (stored (queue_at h.leads) p).rows) x n in (looked_mem get.take h.cursor (stored (queue_at h.leads) p).rows x k.0, free_is x k.1)

pub expired_once : (get : Get) (h : Handle) (p : Plain) → Differ ident_of (stored (queue_at h.leads) p).rows → Differ ident_of (scanned get h p).expired
expired_once get h p d = expired_differ (asked get) p (looked_at get.take h.cursor (stored (queue_at h.leads) p).rows) (looked_differ get.take h.cursor (stored (queue_at h.leads) p).rows d)

got_is : (t : Bool) (g : Got) (ds : List Did) → got_ident (replies.Got (got_answer t g)) ds ≡ Some g.ident
got_is true g ds = refl
got_is false g ds = refl

found_gone : (m : ℕ) (sync : Bool) (c : Connection) (q : List ℕ) (row : Row) (l : Ledger) → take_all_gone m (taking_part sync c q row).delta l ≡ l
found_gone m true c q row l = refl
found_gone m false c q row l = refl

record IsFound (p : Plain) (hc : Hconn) (c : Connection) (q : List ℕ) (row : Row) : Type 0 where
  there : Mem row (stored q p).rows
  free : row.by ≡ None
  alone : (y : Row) → Mem y (stored q p).rows → y.message.ident ≡ row.message.ident → is_free y ≡ true
  live : connection_at hc.number p.connections ≡ Some c

taken_follows : (m : ℕ) (given : Ident → Bool) (p : Plain) (l : Ledger) (hc : Hconn) (c : Connection) (sync : Bool) (q : List ℕ) (row : Row) → IsFresh given p → IsTold m p l → IsFound p hc c q row
    → Follow m given p l (do_part (taking_part sync c q row) p) (get_row sync m hc row.message.ident l)
taken_follows m given p l hc c true q row f t found =
    subst (λ n. Follow m given p l (apply (Pend n (Taken q row.message.ident (is_persistent row.message)))
    (apply (Hold (Among q (row.message.ident ∷ [])) (holders.Unit n)) p)) (ledgers.pend m hc (Taken [] row.message.ident false) l))
    (sym (found_number hc.number c p.connections found.live))
    (held_follows m given p l hc c q row (is_persistent row.message) f t found.there found.free found.alone found.live)
taken_follows m given p l hc c false q row f t found =
    let r : Option LogRecord = removal_record q (persistent_rows (row ∷ [])) in
    from_logged m given r p (apply (Leave (Among q (row.message.ident ∷ []))) (logged r p)) l (ledgers.take_got m row.message.ident l)
    (got_follows m given (logged r p) l q row (fresh_logged given r p f) (told_logged m r p l t) (subst (λ rows. Mem row rows) (sym (rows_logged r p q)) found.there) found.free)

found_follows : (m : ℕ) (given : Ident → Bool) (p : Plain) (l : Ledger) (hc : Hconn) (c : Connection) (h : Handle) (get : Get) (q : List ℕ) (row : Row) → IsFresh given p → IsTold m p l → IsFound p hc c q row
    → Follow m given p l (do_part (found_part get c h q row) p) (get_by get m hc (Some row.message.ident) (take_all_gone m (found_part get c h q row).delta l))
found_follows m given p l hc c h get q row f t found = go (is_destructive get.take)
  where
    part : Bool → Part
    part d = if d then taking_part get.sync c q row else silent (SetCursor c.number h.number row.place ∷ [])

    go : (d : Bool) → Follow m given p l (do_part (part d) p) (if d then get_row get.sync m hc row.message.ident (take_all_gone m (part d).delta l) else take_all_gone m (part d).delta l)
    go true = subst (λ k. Follow m given p l (do_part (taking_part get.sync c q row) p) (get_row get.sync m hc row.message.ident k)) (sym (found_gone m get.sync c q row l)) (taken_follows m given p l hc c get.sync q row f t found)
    go false = calm_follows m given p (apply (SetCursor c.number h.number row.place) p) l f t (cursor_calm c.number h.number row.place p) refl

pub gets : (m : ℕ) (given : Ident → Bool) (p : Plain) (l : Ledger) (hc : Hconn) (ho : Hobj) (get : Get) (until : Option ℕ) → IsFresh given p → IsTold m p l → ((d : List ℕ) → Differ ident_of (stored d p).rows)
    → StepFollows m given p l (post_get m hc get) (mqget hc ho get until p)
gets m given p l hc ho get until f t once =
    for_live m given p l (post_get m hc get) (connected hc p) (get_up ho get until p) (λ c e.
    for_open m given p l (post_get m hc get) (handle_at ho.number c.handles) (get_handle get until p c) (λ h e2.
    tested_follows m given p l (post_get m hc get) (get_tests get p c h) _ (λ e3.
    tested_follows m given p l (post_get m hc get) (room_tests get c (scanned get h p) p) _ (λ e4. found c h (lives hc c p e) (scanned get h p).found refl))))
  where
    found : (c : Connection) (h : Handle) → connection_at hc.number p.connections ≡ Some c → (o : Option Row) → (scanned get h p).found ≡ o
        → StepFollows m given p l (post_get m hc get) (get_found get until p c h (expired_parts (queue_at h.leads) (scanned get h p).expired) o)
    found c h live o is = row_or o is
      where
        q : List ℕ
        q = queue_at h.leads

        xs : List Row
        xs = (scanned get h p).expired

        looked : List Row
        looked = looked_at get.take h.cursor (stored (queue_at h.leads) p).rows

        differ : Differ ident_of (looked_at get.take h.cursor (stored (queue_at h.leads) p).rows)
        differ = looked_differ get.take h.cursor (stored (queue_at h.leads) p).rows (once (queue_at h.leads))

        before : Follow m given p l (do_all (expired_parts (queue_at h.leads) (scanned get h p).expired) p) (take_all_gone m (delta_of (expired_parts (queue_at h.leads) (scanned get h p).expired)) l)
        before = expired_follow m given p l (queue_at h.leads) (scanned get h p).expired f t (expired_each get h p) (expired_once get h p (once (queue_at h.leads)))

        row_or : (o : Option Row) → (scanned get h p).found ≡ o → StepFollows m given p l (post_get m hc get) (get_found get until p c h (expired_parts (queue_at h.leads) (scanned get h p).expired) o)
        row_or None is = none (is_under get.take) (is_waiting until p)
          where
            none : (under waiting : Bool) → StepFollows m given p l (post_get m hc get) (without_row under waiting (expired_parts (queue_at h.leads) (scanned get h p).expired))
            none true waiting = before
            none false true = calm_follows m given p p l f t (calm_none p) refl
            none false false = before
        row_or (Some row) is = one (is_left get row.message)
          where
            xs1 : List Row
            xs1 = (scanned get h p).expired

            p1 : Plain
            p1 = do_all (expired_parts (queue_at h.leads) (scanned get h p).expired) p

            at : Mem row (looked_at get.take h.cursor (stored (queue_at h.leads) p).rows) × (is_free row ≡ true)
            at = scan_found (asked get) p (looked_at get.take h.cursor (stored (queue_at h.leads) p).rows) row is

            stands : Mem row (stored (queue_at h.leads) p).rows
            stands = looked_mem get.take h.cursor (stored (queue_at h.leads) p).rows row at.0

            is_found : IsFound p1 hc c (queue_at h.leads) row
            is_found = record {
              there = still_there (queue_at h.leads) xs1 p row stands (λ x n. scan_apart (asked get) p (looked_at get.take h.cursor (stored (queue_at h.leads) p).rows) row x differ is n);
              free = free_is row at.1;
              alone = λ y n k. ap is_free (one_row (stored (queue_at h.leads) p).rows y row (once (queue_at h.leads)) (left_there (queue_at h.leads) xs1 p y n) stands k) ∙ at.1;
              live = ap (connection_at hc.number) (left_connections (queue_at h.leads) xs1 p) ∙ live;
            }

            one : (left : Bool) → StepFollows m given p l (post_get m hc get) (with_row left get c h (queue_at h.leads) row (expired_parts (queue_at h.leads) (scanned get h p).expired))
            one true = before
            one false =
                let part : Part = found_part get c h (queue_at h.leads) row in
                let k : Ledger = take_all_gone m (delta_of (expired_parts (queue_at h.leads) xs1)) l in
                let after : Follow m before.now p1 k (do_part part p1) (get_by get m hc (Some row.message.ident) (take_all_gone m part.delta k)) =
                found_follows m before.now p1 k hc c h get (queue_at h.leads) row before.fresh before.told is_found in
                subst (λ z. Follow m given p l z (post_get m hc get (Done (got_answer (is_too_long get row.message) (got get.room row.message))) (delta_of (expired_parts (queue_at h.leads) xs1 ++ part ∷ [])) (take_all_gone m (delta_of (expired_parts (queue_at h.leads) xs1 ++ part ∷ [])) l)))
                (sym (do_behind (expired_parts (queue_at h.leads) xs1) part p))
                (subst (λ z. Follow m given p l (do_part part p1) z)
                (λ i. get_by get m hc (sym (got_is (is_too_long get row.message) (got get.room row.message) (delta_of (expired_parts (queue_at h.leads) xs1 ++ part ∷ []))) i) (sym (delta_behind (expired_parts (queue_at h.leads) xs1) part m l) i))
                (follow_then m given p p1 (do_part part p1) l k _ before after))
