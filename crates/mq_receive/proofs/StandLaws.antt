-- How idents stand behind a message that was placed: its own is present, any other stands as before.
use Rattle.std.proofs.Common.{◌≡◌, ◌≢◌, ℕ, ◌+◌, ◌++◌, Bool, true, false, cond, List, [], ◌∷◌, refl, ap, sym, subst, ◌∙◌, inl, inr}
use Rattle.std.specs.Prelude.{Option, Some, None, find, filter, map, not, ◌&&◌, ◌||◌, if◌then◌else◌, nat_le}
use Rattle.std.specs.List.{list_any}
use Rattle.std.specs.Str.{bytes_eq}
use Rattle.mq_message.specs.declared.place.Holder.TheVariants as holders
use Rattle.mq_calls.specs.State.{Queue}
use Rattle.mq_calls.specs.Words.{Ident, Message, Row, Holder, InDoubt, Plain, Among, has_ident, same_ident, keep, insert_row, set_queue, kept_in, selects, queue_in, stored, sender_in, in_doubt_of, is_persistent, off_lists, less_ident, local_of, lane_of, new_row, placed_in, place, try_if, made_due, depth_type, condition, apply_all}
use Rattle.mq_calls.specs.declared.state.SenderSide.{SenderSide}
use Rattle.mq_spec_manager.specs.Words.{placed}
use Rattle.mq_spec_manager.specs.Agents.{RowAt, row_found, row_of, doubts, is_doubted_by, is_pending, is_unborn, same_flag, Standing, Absent, InDoubtAt, Present, standing_by, standing_at, is_present, drop_row, undoubted, drop_changes}
use Rattle.mq_law_manager.specs.Facts.{Mem, Sound, AreNamed}
use Rattle.mq_law_manager.proofs.Lists.{bool_case, ident_yes, same_self, ident_no, mem_inserted, one_row}
use Rattle.mq_law_manager.proofs.Named.{name_is, name_yes, found_name, queue_set, doubt_less}
use Rattle.mq_law_manager.proofs.Steps.{among_other}
use Rattle.mq_law_manager.proofs.Receiving.{IsStanding, row_there, land_sound}
use Rattle.mq_law_manager.proofs.QueueNames.{all_named}
use Rattle.mq_receive.proofs.AheadLaws.{with_both, beside_landed, dropped_as}

-- A search by ident passes over rows of others

not_both : (j i : Ident) (row : Row) → has_ident j row ≡ true → j ≢ i → row.message.ident ≢ i
not_both j i row e ne = λ is. ne (sym (ident_yes row.message.ident j e) ∙ is)

find_kept : (j : Ident) (f : Row → Bool) (rows : List Row) → ((row : Row) → has_ident j row ≡ true → f row ≡ true) → find (has_ident j) (keep f rows) ≡ find (has_ident j) rows
find_kept j f [] h = refl
find_kept j f (r ∷ rows) h = bool_case (f r) (λ b. f r ≡ b → find (has_ident j) (if b then r ∷ keep f rows else keep f rows) ≡ find (has_ident j) (r ∷ rows))
    (λ w e. ap (λ (o : Option Row). cond (has_ident j r) (Some r) o) (find_kept j f rows h))
    (λ w e. find_kept j f rows h ∙ past (has_ident j r) refl e) refl
  where
    past : (b : Bool) → has_ident j r ≡ b → f r ≡ false → find (has_ident j) rows ≡ cond b (Some r) (find (has_ident j) rows)
    past true w e = absurd (cc (h r w, e))
    past false w e = refl

find_inserted : (j : Ident) (new : Row) (rows : List Row) → has_ident j new ≡ false → find (has_ident j) (insert_row new rows) ≡ find (has_ident j) rows
find_inserted j new [] e = ap (λ (b : Bool). cond b (Some new) None) e
find_inserted j new (r ∷ rows) e = bool_case (nat_le r.place.lane new.place.lane) (λ b. find (has_ident j) (if b then r ∷ insert_row new rows else new ∷ r ∷ rows) ≡ find (has_ident j) (r ∷ rows))
    (λ w. ap (λ (o : Option Row). cond (has_ident j r) (Some r) o) (find_inserted j new rows e))
    (λ w. ap (λ (b : Bool). cond b (Some new) (find (has_ident j) (r ∷ rows))) e)

row_mapped : (j : Ident) (f : Queue → Queue) → ((q : Queue) → (f q).name ≡ q.name) → ((q : Queue) → find (has_ident j) (f q).rows ≡ find (has_ident j) q.rows) → (qs : List Queue) → row_of j (map f qs) ≡ row_of j qs
row_mapped j f n h [] = refl
row_mapped j f n h (q ∷ qs) =
    ap (λ (o : Option Row). row_found o (f q).name (row_of j (map f qs))) (h q)
    ∙ ap (λ (name : List ℕ). row_found (find (has_ident j) q.rows) name (row_of j (map f qs))) (n q)
    ∙ ap (λ (rest : Option RowAt). row_found (find (has_ident j) q.rows) q.name rest) (row_mapped j f n h qs)

row_set : (j : Ident) (new : Queue) (qs : List Queue) → find (has_ident j) new.rows ≡ find (has_ident j) (queue_in new.name qs).rows → row_of j (set_queue new qs) ≡ row_of j qs
row_set j new [] h = ap (λ (o : Option Row). row_found o new.name None) h
row_set j new (q ∷ qs) h = by (λ e. row_set j new qs e) (bytes_eq new.name q.name) refl h
  where
    by : (find (has_ident j) new.rows ≡ find (has_ident j) (queue_in new.name qs).rows → row_of j (set_queue new qs) ≡ row_of j qs) → (b : Bool) → bytes_eq new.name q.name ≡ b
        → find (has_ident j) new.rows ≡ find (has_ident j) (if b then q else queue_in new.name qs).rows → row_of j (if b then new ∷ qs else q ∷ set_queue new qs) ≡ row_of j (q ∷ qs)
    by rest true w e = ap (λ (o : Option Row). row_found o new.name (row_of j qs)) e ∙ ap (λ (name : List ℕ). row_found (find (has_ident j) q.rows) name (row_of j qs)) (name_is new.name q.name w)
    by rest false w e = ap (λ (o : Option RowAt). row_found (find (has_ident j) q.rows) q.name o) (rest e)

row_left : (j i : Ident) (s : Standing) (p : Plain) → j ≢ i → row_of j (apply_all (drop_row i s) p).queues ≡ row_of j p.queues
row_left j i Absent p ne = refl
row_left j i Present p ne = refl
row_left j i (InDoubtAt queue) p ne = row_mapped j (kept_in (Among queue (i ∷ []))) (λ q. refl)
    (λ q. find_kept j (λ (row : Row). not (selects (Among queue (i ∷ [])) q.name row)) q.rows (λ row e. ap not (among_other queue i q.name row (not_both j i row e ne)))) p.queues

row_forgot : (j : Ident) (b : Bool) (i : Ident) (p : Plain) → row_of j (apply_all (undoubted b i) p).queues ≡ row_of j p.queues
row_forgot j true i p = refl
row_forgot j false i p = refl

row_tried : (j : Ident) (b : Bool) (queue : List ℕ) (p : Plain) → row_of j (try_if b queue p).queues ≡ row_of j p.queues
row_tried j false queue p = refl
row_tried j true queue p = row_set j (made_due (depth_type (local_of queue p.definitions)) p.moment (stored queue p)) p.queues
    (ap (λ (name : List ℕ). find (has_ident j) (queue_in name p.queues).rows) (sym (found_name queue p.queues)))

row_placed : (j : Ident) (queue : List ℕ) (m : Message) (p : Plain) → j ≢ m.ident → row_of j (apply_all (placed queue m) p).queues ≡ row_of j p.queues
row_placed j queue m p ne =
    let q : Plain = place queue m p in
    let lane : ℕ = lane_of (local_of queue p.definitions) m.md.priority in
    row_tried j (condition (local_of queue q.definitions) m.md.priority q) queue q
    ∙ row_set j (placed_in lane m (stored queue p)) p.queues
    (find_inserted j (new_row lane ((stored queue p).arrivals + 1) m) (stored queue p).rows (ident_no m.ident j (λ e. ne (sym e)))
    ∙ ap (λ (name : List ℕ). find (has_ident j) (queue_in name p.queues).rows) (sym (found_name queue p.queues)))

row_other : (j : Ident) (m : Message) (s : Standing) (queue : List ℕ) (p : Plain) → j ≢ m.ident → row_of j (apply_all (drop_changes m s ++ placed queue m) p).queues ≡ row_of j p.queues
row_other j m s queue p ne =
    let a : Plain = apply_all (drop_row m.ident s) p in
    let b : Plain = apply_all (undoubted (is_persistent m) m.ident) a in
    ap (λ (q : Plain). row_of j q.queues) (dropped_as m s queue p) ∙ row_placed j queue m b ne ∙ row_forgot j (is_persistent m) m.ident a ∙ row_left j m.ident s p ne

-- Lists of units in doubt

any_less : (j i : Ident) (is : List Ident) → j ≢ i → list_any (same_ident j) (filter (λ other. not (same_ident i other)) is) ≡ list_any (same_ident j) is
any_less j i [] ne = refl
any_less j i (x ∷ xs) ne = bool_case (same_ident i x)
    (λ b. same_ident i x ≡ b → list_any (same_ident j) (cond (not b) (x ∷ filter (λ other. not (same_ident i other)) xs) (filter (λ other. not (same_ident i other)) xs)) ≡ (same_ident j x || list_any (same_ident j) xs))
    (λ w e. any_less j i xs ne ∙ ap (λ (b : Bool). b || list_any (same_ident j) xs) (sym (ident_no j x (λ is. ne (is ∙ sym (ident_yes i x e))))))
    (λ w e. ap (λ (b : Bool). same_ident j x || b) (any_less j i xs ne)) refl

doubts_less : (j i : Ident) (o : Option InDoubt) → j ≢ i → doubts j (less_ident i o) ≡ doubts j o
doubts_less j i None ne = refl
doubts_less j i (Some d) ne = any_less j i d.idents ne

senders_tried : (b : Bool) (queue : List ℕ) (p : Plain) → (try_if b queue p).channels.senders ≡ p.channels.senders
senders_tried true queue p = refl
senders_tried false queue p = refl

senders_left : (i : Ident) (s : Standing) (p : Plain) → (apply_all (drop_row i s) p).channels.senders ≡ p.channels.senders
senders_left i Absent p = refl
senders_left i (InDoubtAt queue) p = refl
senders_left i Present p = refl

off_if : Bool → Ident → List SenderSide → List SenderSide
off_if true i sides = off_lists i sides
off_if false i sides = sides

senders_forgot : (b : Bool) (i : Ident) (p : Plain) → (apply_all (undoubted b i) p).channels.senders ≡ off_if b i p.channels.senders
unfolding off_if
senders_forgot true i p = refl
senders_forgot false i p = refl

senders_after : (m : Message) (s : Standing) (queue : List ℕ) (p : Plain) → (apply_all (drop_changes m s ++ placed queue m) p).channels.senders ≡ off_if (is_persistent m) m.ident p.channels.senders
senders_after m s queue p =
    let a : Plain = apply_all (drop_row m.ident s) p in
    let b : Plain = apply_all (undoubted (is_persistent m) m.ident) a in
    let q : Plain = place queue m b in
    ap (λ (q : Plain). q.channels.senders) (dropped_as m s queue p) ∙ senders_tried (condition (local_of queue q.definitions) m.md.priority q) queue q ∙ senders_forgot (is_persistent m) m.ident a
    ∙ ap (off_if (is_persistent m) m.ident) (senders_left m.ident s p)

doubt_off : (b : Bool) (j i : Ident) (channel : List ℕ) (sides : List SenderSide) → j ≢ i → doubts j (in_doubt_of (sender_in channel (off_if b i sides))) ≡ doubts j (in_doubt_of (sender_in channel sides))
unfolding off_if
doubt_off true j i channel sides ne = ap (doubts j) (doubt_less channel i sides) ∙ doubts_less j i (in_doubt_of (sender_in channel sides)) ne
doubt_off false j i channel sides ne = refl

doubted_same : (j : Ident) (by : Option Holder) (m : Message) (s : Standing) (queue : List ℕ) (p : Plain) → j ≢ m.ident → is_doubted_by j by (apply_all (drop_changes m s ++ placed queue m) p) ≡ is_doubted_by j by p
doubted_same j None m s queue p ne = refl
doubted_same j (Some (holders.Unit n)) m s queue p ne = refl
doubted_same j (Some (holders.Batch c)) m s queue p ne =
    ap (λ (sides : List SenderSide). doubts j (in_doubt_of (sender_in c sides))) (senders_after m s queue p) ∙ doubt_off (is_persistent m) j m.ident c p.channels.senders ne

-- Any other ident stands as before

present_or : Bool → Standing
present_or b = if b then Present else Absent

doubt_or : Bool → List ℕ → Standing
doubt_or b queue = if b then InDoubtAt queue else Present

free_of : Plain → Ident → Bool
free_of p i = is_pending i p || is_unborn i p

free_both : (i : Ident) (q p : Plain) → free_of (with_both q p) i ≡ free_of p i
unfolding free_of with_both
free_both i q p = refl

standing_as : (k m : Message) (s : Standing) (queue : List ℕ) (o : Option RowAt) (p : Plain) → k.ident ≢ m.ident → standing_by k o (apply_all (drop_changes m s ++ placed queue m) p) ≡ standing_by k o p
unfolding present_or doubt_or free_of with_both
standing_as k m s queue None p ne =
    ap (λ (q : Plain). present_or (free_of q k.ident)) (beside_landed m s queue p) ∙ ap present_or (free_both k.ident (apply_all (drop_changes m s ++ placed queue m) p) p)
standing_as k m s queue (Some at) p ne =
    ap (λ (b : Bool). doubt_or (b && same_flag (is_persistent k) (is_persistent at.row.message)) at.queue) (doubted_same k.ident at.row.by m s queue p ne)

by_row : Message → Plain → Option RowAt → Standing
by_row k p o = standing_by k o p

pub standing_other : (k m : Message) (s : Standing) (queue : List ℕ) (p : Plain) → k.ident ≢ m.ident → standing_at k (apply_all (drop_changes m s ++ placed queue m) p) ≡ standing_at k p
unfolding by_row
standing_other k m s queue p ne =
    let q : Plain = apply_all (drop_changes m s ++ placed queue m) p in
    ap (by_row k q) (row_other k.ident m s queue p ne) ∙ standing_as k m s queue (row_of k.ident p.queues) p ne

-- Its own ident is present

find_there : (i : Ident) (rows : List Row) (h : Row) → Mem h rows → h.message.ident ≡ i → find (has_ident i) rows ≢ None
find_there i [] h m e = absurd m
find_there i (r ∷ rows) h m e = by (λ n. find_there i rows h n e) (has_ident i r) refl m
  where
    by : (Mem h rows → find (has_ident i) rows ≢ None) → (b : Bool) → has_ident i r ≡ b → Mem h (r ∷ rows) → cond b (Some r) (find (has_ident i) rows) ≢ None
    by rest true w n = λ f. absurd cc
    by rest false w (inl is) = λ f. cc (w, ap (λ (x : Row). same_ident x.message.ident i) (sym is) ∙ ap (λ (j : Ident). same_ident j i) e ∙ same_self i)
    by rest false w (inr n) = rest n

row_is_there : (i : Ident) (qs : List Queue) (d : List ℕ) (h : Row) → Mem h (queue_in d qs).rows → h.message.ident ≡ i → row_of i qs ≢ None
row_is_there i [] d h m e = absurd m
row_is_there i (q ∷ qs) d h m e = by (λ n. row_is_there i qs d h n e) (find (has_ident i) q.rows) refl
  where
    by : (Mem h (queue_in d qs).rows → row_of i qs ≢ None) → (o : Option Row) → find (has_ident i) q.rows ≡ o → row_found o q.name (row_of i qs) ≢ None
    by rest (Some r) w = λ f. absurd cc
    by rest None w = bool_case (bytes_eq d q.name) (λ b. Mem h (if b then q else queue_in d qs).rows → row_of i qs ≢ None)
        (λ z n. absurd (find_there i q.rows h n e w)) (λ z n. rest n) m

-- a free row of the ident is there: the ident is present
free_present : (k : Message) (p : Plain) (d : List ℕ) (h : Row) → Sound p → AreNamed p.queues → Mem h (stored d p).rows → h.message.ident ≡ k.ident → h.by ≡ None → standing_at k p ≡ Present
unfolding doubt_or
free_present k p d h sound named m e free = by (row_of k.ident p.queues) refl
  where
    by : (o : Option RowAt) → row_of k.ident p.queues ≡ o → standing_by k o p ≡ Present
    by None w = absurd (row_is_there k.ident p.queues d h m e w)
    by (Some at) w =
        let there = row_there k.ident p.queues at named w in
        let same : at.row.message.ident ≡ h.message.ident = there.1 ∙ sym e in
        let queue : at.queue ≡ d = sound.apart.alone at.queue d at.row h there.0 m same in
        let row : at.row ≡ h = one_row (stored d p).rows at.row h (sound.apart.once d) (subst (λ (n : List ℕ). Mem at.row (stored n p).rows) queue there.0) m same in
        ap (λ (by : Option Holder). doubt_or (is_doubted_by k.ident by p && same_flag (is_persistent k) (is_persistent at.row.message)) at.queue) (ap (λ (r : Row). r.by) row ∙ free)

rows_tried : (b : Bool) (queue : List ℕ) (p : Plain) → (stored queue (try_if b queue p)).rows ≡ (stored queue p).rows
rows_tried false queue p = refl
rows_tried true queue p =
    let new : Queue = made_due (depth_type (local_of queue p.definitions)) p.moment (stored queue p) in
    ap (λ (q : Queue). q.rows) (queue_set queue new p.queues ∙ ap (λ (b : Bool). if b then new else queue_in queue p.queues) (name_yes queue (stored queue p).name (sym (found_name queue p.queues))))

placed_there : (queue : List ℕ) (m : Message) (p : Plain) → (row : Row) × Mem row (stored queue (apply_all (placed queue m) p)).rows × (row.message.ident ≡ m.ident) × (row.by ≡ None)
placed_there queue m p =
    let lane : ℕ = lane_of (local_of queue p.definitions) m.md.priority in
    let row : Row = new_row lane ((stored queue p).arrivals + 1) m in
    let new : Queue = placed_in lane m (stored queue p) in
    let q : Plain = place queue m p in
    let set : (stored queue q).rows ≡ insert_row row (stored queue p).rows =
    ap (λ (q : Queue). q.rows) (queue_set queue new p.queues ∙ ap (λ (b : Bool). if b then new else queue_in queue p.queues) (name_yes queue (stored queue p).name (sym (found_name queue p.queues)))) in
    let all : (stored queue (apply_all (placed queue m) p)).rows ≡ insert_row row (stored queue p).rows = rows_tried (condition (local_of queue q.definitions) m.md.priority q) queue q ∙ set in
    (row, subst (Mem row) (sym all) (mem_inserted row (stored queue p).rows), refl, refl)

pub standing_own : (k m : Message) (s : Standing) (queue : List ℕ) (p : Plain) → Sound p → AreNamed p.queues → IsStanding s m.ident p → is_present s ≡ false → k.ident ≡ m.ident → standing_at k (apply_all (drop_changes m s ++ placed queue m) p) ≡ Present
standing_own k m s queue p sound named st e is =
    let a : Plain = apply_all (drop_row m.ident s) p in
    let b : Plain = apply_all (undoubted (is_persistent m) m.ident) a in
    let t = placed_there queue m b in
    free_present k (apply_all (drop_changes m s ++ placed queue m) p) queue t.0 (land_sound queue m s p sound st e) (all_named (drop_changes m s ++ placed queue m) p named)
    (subst (λ (q : Plain). Mem t.0 (stored queue q).rows) (sym (dropped_as m s queue p)) t.1) (t.2 ∙ sym is) t.3
