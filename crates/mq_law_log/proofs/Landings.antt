-- What a receiver commits does what its record says, in a sound manager, message by message; so its write makes a crash harmless.
use Rattle.std.proofs.Common.{ℕ, ◌≡◌, ◌≢◌, ◌<◌, ◌≤◌, Bool, true, false, List, [], ◌∷◌, ◌++◌, refl, ap, sym, ◌∙◌, subst, arith, map, inl, inr, ◌⊎◌}
use Rattle.std.specs.Prelude.{Option, Some, None, Result, Ok, Err, nat_lt, nat_le, ◌==◌, not, ◌&&◌, ◌||◌, if◌then◌else◌}
use Rattle.std.specs.List.{AllByRecursion, list_any, list_all}
use Rattle.std.specs.Str.{bytes_eq}
use Rattle.std.proofs.lemmas.Bool.Decides.{nat_tests}
use Rattle.mq_codes.specs.declared.reason.Reason.{Reason}
use Rattle.mq_codes.specs.declared.reason.Reason.TheVariants as reasons
use Rattle.mq_message.specs.declared.message.Ident.{Ident}
use Rattle.mq_message.specs.declared.message.Message.{Message}
use Rattle.mq_message.specs.declared.place.Holder.{Holder}
use Rattle.mq_message.specs.declared.place.Holder.TheVariants as holders
use Rattle.mq_queue.specs.declared.row.Row.{Row}
use Rattle.mq_calls.specs.declared.records.Add.{Add}
use Rattle.mq_queue.specs.Rows.{has_ident, is_free}
use Rattle.mq_queue.specs.Queues.{Lacks}
use Rattle.mq_objects.specs.Names.{local_of}
use Rattle.mq_sync.specs.declared.unit.Unit.{Unit as Luw}
use Rattle.mq_sync.specs.declared.data.ReceiverData.{ReceiverData}
use Rattle.mq_sync.specs.Units.{Below}
use Rattle.mq_sync.specs.Settlement.{receiver_or}
use Rattle.mq_calls.specs.State.{Plain, Given, Numbers, Queue}
use Rattle.mq_calls.specs.declared.state.Batch.{Batch}
use Rattle.mq_calls.specs.State.Which.{Among}
use Rattle.mq_calls.specs.State.Change.{Place as Places, Leave, Undoubt}
use Rattle.mq_calls.specs.Reads.{is_persistent, is_full, receiver_data, batch_of}
use Rattle.mq_calls.specs.Condition.{condition}
use Rattle.mq_calls.specs.Changes.{apply, apply_all, selects, try_if}
use Rattle.mq_calls.specs.Sizes.{need}
use Rattle.mq_calls.specs.Steps.{when}
use Rattle.mq_calls.specs.Images.{lasting, lasting_row, lasting_rows, shelf_of, shelves_of, rests_by, has_batch}
use Rattle.mq_calls.specs.declared.image.Shelf.{Shelf}
use Rattle.mq_spec_manager.specs.Put.{placed}
use Rattle.mq_spec_manager.specs.Agents.{RowAt, row_of, doubts, is_doubted_by, is_pending, is_unborn, same_flag, standing_by, Standing, Absent, InDoubtAt, Present, standing_at, is_present, undoubted, Landing, land, Landed, before, landed_by, landed_unless, landed, land_changes, received_record, receive, receive_landed, CanReceive}
use Rattle.mq_spec_log.specs.Applies.{was_given, can_receive, is_free_at, stands_on}
use Rattle.mq_law_manager.specs.View.{view}
use Rattle.mq_law_manager.specs.Facts.{Mem, Sound, IsSound, IsFit}
use Rattle.mq_law_manager.proofs.Lists.{bool_case, ident_no, ident_yes, one_row}
use Rattle.mq_law_manager.proofs.Named.{name_self}
use Rattle.mq_law_manager.proofs.Apart.{IsNew}
use Rattle.mq_law_manager.proofs.QueueNames.{all_named}
use Rattle.mq_law_manager.proofs.Shelves.{all_stay, has_mapped}
use Rattle.mq_law_manager.proofs.Stocks.{land_asks}
use Rattle.mq_law_manager.proofs.Receiving.{row_there, IsDoubted, IsStanding, standing_is, land_sound, IsLanding, land_is}
use Rattle.mq_law_log.specs.Keeps.{IsLandable, CameBack, LandTold, AllLand, AreLaned, has_queue, received_part}
use Rattle.mq_law_log.specs.Restarts.{StepHarmless}
use Rattle.mq_law_log.proofs.Rows.{lacks_last}
use Rattle.mq_law_log.proofs.Changes.{left_lasts, placed_is_there}
use Rattle.mq_law_log.proofs.Parts.{placing_aside, leaving_told}
use Rattle.mq_law_log.proofs.Placings.{all_found, all_mapped, laned_kept}
use Rattle.mq_law_log.proofs.Received.{absent_lands, back_lands, received_does}
use Rattle.mq_law_log.proofs.Bridge.{all_of, rows_of, each_queue, lacks_by, sound_logs, fit_fits}
use Rattle.mq_law_log.proofs.Steady.{AllSteady, steady_append, steady_harmless}
use Rattle.mq_law_log.proofs.Givens.{AllBorn, born_given}
use Rattle.mq_law_log.proofs.Applications.{tested_h}

-- What a landing is

pub is_landing : (channel : List ℕ) (m : Message) (p : Plain) (l : Landing) → land channel m p ≡ Ok l → (l.message.ident ≡ m.ident) × IsFit (local_of l.queue p.definitions) l.message × (is_persistent l.message ≡ is_persistent m)
is_landing channel m p l e = subst (IsLanding m p) e (land_is channel m p)

-- the state behind it is sound
pub next_sound : (channel : List ℕ) (m : Message) (p : Plain) (l : Landing) → IsSound p → is_present (standing_at m p) ≡ false → land channel m p ≡ Ok l → IsSound (apply_all (land_changes l (standing_at m p)) p)
next_sound channel m p l h e is =
    let k = is_landing channel m p l is in
    record {
      facts = land_sound l.queue l.message (standing_at m p) p h.facts (subst (λ (i : Ident). IsStanding (standing_at m p) i p) (sym k.0) (standing_is m p h.named)) e;
      named = all_named (land_changes l (standing_at m p)) p h.named;
      stocked = all_stay (land_changes l (standing_at m p)) p (land_asks l.queue l.message (standing_at m p) p k.1) h.stocked;
    }

-- One that stands nowhere

landable : (p : Plain) (l : Landing) → IsSound p → IsFit (local_of l.queue p.definitions) l.message → ((q : List ℕ) (x : Row) → Mem x ((view p).rows q) → l.message.ident ≢ x.message.ident) → IsLandable l.queue l.message p
landable p l h f none = record {
  there = h.stocked.placed l.queue f.0;
  laned = all_found (λ (q : Queue). AreLaned q.rows) l.queue p.queues tt (sound_logs p h).laned;
  fit = λ e. fit_fits (local_of l.queue p.definitions) l.message f;
  rows = λ e. each_queue (Lacks l.message.ident) p h.named (λ name. lacks_by l.message.ident ((view p).rows name) (λ y m z. none name y m (sym z)));
}

-- One that came back: the row that the unit in doubt holds is the only one of its ident

elsewhere : (p : Plain) (q : List ℕ) (i : Ident) → IsSound p → IsDoubted q i p → (d : List ℕ) → bytes_eq d q ≡ false → (x : Row) → Mem x ((view p).rows d) → x.message.ident ≢ i
elsewhere p q i h s d ne x m e = cc (ne, ap (bytes_eq d) (sym (h.facts.apart.alone d q x s.row m s.there (e ∙ sym s.is))), name_self d)

no_batch : (c : List ℕ) (bs : List Batch) → ((b : Batch) → batch_of c bs ≡ Some b → ⊥) → has_batch c bs ≡ false
no_batch c [] f = refl
no_batch c (b ∷ bs) f = bool_case (bytes_eq c b.channel) (λ t. ((x : Batch) → (if t then Some b else batch_of c bs) ≡ Some x → ⊥) → (t || has_batch c bs) ≡ false) (λ z g. absurd (g b refl)) (λ z g. no_batch c bs g) f

doubt_holds : (p : Plain) (q : List ℕ) (i : Ident) → IsSound p → (s : IsDoubted q i p) → has_batch s.channel p.channels.batches ≡ false
doubt_holds p q i h s = no_batch s.channel p.channels.batches (λ b e. cc (ap (doubts i) (h.facts.batched.one s.channel b e), s.doubted))

not_free : (bs : List Batch) (c : List ℕ) (x : Row) → x.by ≡ Some (holders.Batch c) → has_batch c bs ≡ false → is_free (lasting_row bs x) ≡ false
not_free bs c x by none = ap (λ (o : Option Holder). is_free (record (lasting_row bs x) { by = rests_by bs o })) by ∙ ap (λ (b : Bool). is_free (record (lasting_row bs x) { by = if b then None else Some (holders.Batch c) })) none

none_free : (bs : List Batch) (i : Ident) (rows : List Row) → ((x : Row) → Mem x rows → has_ident i x ≡ true → is_free (lasting_row bs x) ≡ false) → list_any (is_free_at i) (lasting_rows bs rows) ≡ false
none_free bs i [] f = refl
none_free bs i (x ∷ xs) f = bool_case (is_persistent x.message) (λ b. list_any (is_free_at i) (if b then lasting_row bs x ∷ lasting_rows bs xs else lasting_rows bs xs) ≡ false)
    (λ e. ap (λ (b : Bool). b || list_any (is_free_at i) (lasting_rows bs xs)) (at (has_ident i x) refl) ∙ none_free bs i xs (λ y m. f y (inr m))) (λ e. none_free bs i xs (λ y m. f y (inr m)))
  where
    at : (b : Bool) → has_ident i x ≡ b → (is_free (lasting_row bs x) && has_ident i x) ≡ false
    at true e = ap (λ (b : Bool). b && has_ident i x) (f x (inl refl) e)
    at false e = ap (λ (b : Bool). is_free (lasting_row bs x) && b) e ∙ never (is_free (lasting_row bs x))
      where
        never : (b : Bool) → (b && false) ≡ false
        never true = refl
        never false = refl

stands_free : (bs : List Batch) (i : Ident) (qs : List Queue) → AllByRecursion (λ (q : Queue). list_any (is_free_at i) (lasting_rows bs q.rows) ≡ false) qs → stands_on i (shelves_of bs qs) ≡ false
stands_free bs i [] h = refl
stands_free bs i (q ∷ qs) h = ap (λ (b : Bool). b || stands_on i (shelves_of bs qs)) h.0 ∙ stands_free bs i qs h.1

each_shelf : (P : Shelf → Type 0) (bs : List Batch) (qs : List Queue) → AllByRecursion (λ (q : Queue). P (shelf_of bs q)) qs → AllByRecursion P (shelves_of bs qs)
each_shelf P bs [] h = tt
each_shelf P bs (q ∷ qs) h = (h.0, each_shelf P bs qs h.1)

came_back : (p : Plain) (q : List ℕ) (l : Landing) → IsSound p → IsDoubted q l.message.ident p → IsFit (local_of l.queue p.definitions) l.message → CameBack q l p
came_back p q l h s f =
    let i : Ident = l.message.ident in
    let bs : List Batch = p.channels.batches in
    record {
      elsewhere = each_shelf (λ (x : Shelf). bytes_eq x.name q ≡ false → Lacks i x.rows) bs p.queues (all_of _ p.queues (λ d m ne.
          lacks_last bs i d.rows (subst (Lacks i) (rows_of p h.named d m) (lacks_by i ((view p).rows d.name) (elsewhere p q i h s d.name ne)))));
      held = stands_free bs i p.queues (all_of _ p.queues (λ d m. none_free bs i d.rows (λ x k e.
          let on : Mem x ((view p).rows d.name) = subst (λ (rows : List Row). Mem x rows) (sym (rows_of p h.named d m)) k in
          let is : x.message.ident ≡ i = ident_yes x.message.ident i e in
          let same : d.name ≡ q = h.facts.apart.alone d.name q x s.row on s.there (is ∙ sym s.is) in
          let one : x ≡ s.row = one_row ((view p).rows q) x s.row (h.facts.apart.once q) (subst (λ (n : List ℕ). Mem x ((view p).rows n)) same on) s.there (is ∙ sym s.is) in
          not_free bs s.channel x (ap (λ (r : Row). r.by) one ∙ s.by) (doubt_holds p q i h s))));
      there = h.stocked.placed l.queue f.0;
      laned = (sound_logs p h).laned;
      fit = fit_fits (local_of l.queue p.definitions) l.message f;
    }

-- one that doesn't last came back to one that doesn't
same_kind : (a b : Bool) → same_flag a b ≡ true → a ≡ false → b ≡ false
same_kind true b e f = absurd cc
same_kind false true e f = absurd cc
same_kind false false e f = refl

both_of : (a b : Bool) → (a && b) ≡ true → b ≡ true
both_of true b e = e
both_of false b e = absurd cc

abbrev queue_or : List ℕ → Standing → List ℕ
queue_or d Absent = d
queue_or d (InDoubtAt queue) = queue
queue_or d Present = d

pub record HasKind (m : Message) (q : List ℕ) (p : Plain) : Type 0 where
  pub row : Row
  pub there : Mem row ((view p).rows q)
  pub is : row.message.ident ≡ m.ident
  pub kind : same_flag (is_persistent m) (is_persistent row.message) ≡ true

doubted_kind : (m : Message) (q : List ℕ) (p : Plain) → IsSound p → standing_at m p ≡ InDoubtAt q → HasKind m q p
doubted_kind m q p h e = at (row_of m.ident p.queues) refl e
  where
    at : (o : Option RowAt) → row_of m.ident p.queues ≡ o → standing_by m o p ≡ InDoubtAt q → HasKind m q p
    at None w f = absurd (bool_case (is_pending m.ident p || is_unborn m.ident p) (λ b. (if b then Present else Absent) ≡ InDoubtAt q → ⊥) (λ z y. cc y) (λ z y. cc y) f)
    at (Some z) w f =
        let k = row_there m.ident p.queues z h.named w in
        let same : Bool = same_flag (is_persistent m) (is_persistent z.row.message) in
        bool_case (is_doubted_by m.ident z.row.by p && same) (λ b. (is_doubted_by m.ident z.row.by p && same) ≡ b → (if b then InDoubtAt z.queue else Present) ≡ InDoubtAt q → HasKind m q p)
        (λ y v g.
        let queue : z.queue ≡ q = ap (queue_or z.queue) g in
        record { row = z.row; there = subst (λ (n : List ℕ). Mem z.row ((view p).rows n)) queue k.0; is = k.1; kind = both_of (is_doubted_by m.ident z.row.by p) same v })
        (λ y v g. absurd cc) refl f

lacks_lasting : (bs : List Batch) (i : Ident) (rows : List Row) → ((x : Row) → Mem x rows → is_persistent x.message ≡ true → x.message.ident ≢ i) → Lacks i (lasting_rows bs rows)
lacks_lasting bs i [] f = tt
lacks_lasting bs i (x ∷ xs) f = bool_case (is_persistent x.message) (λ b. is_persistent x.message ≡ b → Lacks i (if b then lasting_row bs x ∷ lasting_rows bs xs else lasting_rows bs xs))
    (λ z e. (ident_no x.message.ident i (f x (inl refl) e), lacks_lasting bs i xs (λ y m. f y (inr m)))) (λ z e. lacks_lasting bs i xs (λ y m. f y (inr m))) refl

brief_back : (q : List ℕ) (m : Message) (l : Landing) (p : Plain) → IsSound p → HasKind m q p → l.message.ident ≡ m.ident → is_persistent m ≡ false → is_persistent l.message ≡ false → IsFit (local_of l.queue p.definitions) l.message → LandTold false l (InDoubtAt q) p
brief_back q m l p h k is brief e f =
    let i : Ident = l.message.ident in
    let s : Plain = apply (Leave (Among q (i ∷ []))) p in
    let gone : AllByRecursion (λ (x : Shelf). Lacks i x.rows) (lasting p).shelves = each_shelf (λ (x : Shelf). Lacks i x.rows) p.channels.batches p.queues (all_of _ p.queues (λ d n. lacks_lasting p.channels.batches i d.rows (λ x w lasts z.
    let on : Mem x ((view p).rows d.name) = subst (λ (rows : List Row). Mem x rows) (sym (rows_of p h.named d n)) w in
    let one : x.message.ident ≡ k.row.message.ident = z ∙ is ∙ sym k.is in
    let same : d.name ≡ q = h.facts.apart.alone d.name q x k.row on k.there one in
    let row : x ≡ k.row = one_row ((view p).rows q) x k.row (h.facts.apart.once q) (subst (λ (c : List ℕ). Mem x ((view p).rows c)) same on) k.there one in
    cc (lasts, ap (λ (r : Row). is_persistent r.message) row, same_kind (is_persistent m) (is_persistent k.row.message) k.kind brief)))) in
    ap (λ (b : Bool). lasting (apply_all (undoubted b i ++ placed l.queue l.message) s)) e
    ∙ placing_aside l.queue l.message s (record {
      there = has_mapped _ (λ x. refl) l.queue p.queues ∙ h.stocked.placed l.queue f.0;
      laned = all_found (λ (x : Queue). AreLaned x.rows) l.queue s.queues tt (all_mapped (λ (x : Queue). AreLaned x.rows) _ (λ x w. laned_kept (λ (row : Row). not (selects (Among q (i ∷ [])) x.name row)) x.rows w) p.queues (sound_logs p h).laned);
      fit = λ w. absurd (cc (w, e));
      fresh = λ w. absurd (cc (w, e));
    }) e
    ∙ left_lasts q (i ∷ []) p ∙ leaving_told false q i (lasting p) gone

-- A message, however it stands

one_lands : (channel : List ℕ) (m : Message) (p : Plain) (l : Landing) (st : Standing) → standing_at m p ≡ st → IsSound p → is_present st ≡ false → land channel m p ≡ Ok l → LandTold (is_persistent l.message) l st p
one_lands channel m p l Present is h e w = absurd cc
one_lands channel m p l Absent is h e w =
    let k = is_landing channel m p l w in
    let new : IsNew m.ident (view p).rows (view p).puts (view p).unborn = subst (λ (s : Standing). IsStanding s m.ident p) is (standing_is m p h.named) in
    absent_lands l p (landable p l h k.1 (λ q x n z. new.no_row q x n (sym k.0 ∙ z)))
one_lands channel m p l (InDoubtAt q) is h e w =
    let k = is_landing channel m p l w in
    let s : IsDoubted q l.message.ident p = subst (λ (i : Ident). IsDoubted q i p) (sym k.0) (subst (λ (x : Standing). IsStanding x m.ident p) is (standing_is m p h.named)) in
    bool_case (is_persistent l.message) (λ b. is_persistent l.message ≡ b → LandTold b l (InDoubtAt q) p)
    (λ z v. back_lands q l p v (came_back p q l h s k.1))
    (λ z v. brief_back q m l p h (doubted_kind m q p h is) k.0 (sym k.2 ∙ v) v k.1) refl

pub all_land : (channel : List ℕ) (ms : List Message) (p : Plain) → IsSound p → AllLand channel ms p
all_land channel [] p h = tt
all_land channel (m ∷ ms) p h = (
  λ l e w. (one_lands channel m p l (standing_at m p) refl h e w, all_land channel ms (apply_all (land_changes l (standing_at m p)) p) (next_sound channel m p l h e w)),
  λ e. all_land channel ms p h,
)

-- Its changes go on from what lasts

pub placed_steady : (queue : List ℕ) (m : Message) (p : Plain) → has_queue queue p.queues ≡ true → AllSteady (placed queue m) p
placed_steady queue m p h = (h, (placed_is_there queue m p, tt))

undoubted_steady : (b : Bool) (i : Ident) (queue : List ℕ) (m : Message) (p : Plain) → has_queue queue p.queues ≡ true → AllSteady (undoubted b i ++ placed queue m) p
undoubted_steady true i queue m p h = (tt, placed_steady queue m p h)
undoubted_steady false i queue m p h = placed_steady queue m p h

land_steady : (l : Landing) (st : Standing) (p : Plain) → has_queue l.queue p.queues ≡ true → AllSteady (land_changes l st) p
land_steady l Absent p h = undoubted_steady (is_persistent l.message) l.message.ident l.queue l.message p h
land_steady l (InDoubtAt from) p h = (tt, undoubted_steady (is_persistent l.message) l.message.ident l.queue l.message (apply (Leave (Among from (l.message.ident ∷ []))) p) (has_mapped _ (λ x. refl) l.queue p.queues ∙ h))
land_steady l Present p h = undoubted_steady (is_persistent l.message) l.message.ident l.queue l.message p h

abbrev pub LandedSteady : Result Landed Reason → Plain → Type 0
LandedSteady (Err reason) p = Unit {0}
LandedSteady (Ok r) p = AllSteady r.changes p

before_steady : (m : Message) (l : Landing) (st : Standing) (p : Plain) (rest : Result Landed Reason) → AllSteady (land_changes l st) p → LandedSteady rest (apply_all (land_changes l st) p) → LandedSteady (before m l st rest) p
before_steady m l st p (Err reason) a b = tt
before_steady m l st p (Ok r) a b = steady_append (land_changes l st) r.changes p a b

by_steady : (channel : List ℕ) (m : Message) (ms : List Message) (p : Plain) (x : Result Landing Reason) → land channel m p ≡ x → IsSound p → is_present (standing_at m p) ≡ false → ((q : Plain) → IsSound q → LandedSteady (landed channel ms q) q)
    → LandedSteady (landed_by x m (standing_at m p) p (λ q. landed channel ms q)) p
by_steady channel m ms p (Err reason) w h e rest = tt
by_steady channel m ms p (Ok l) w h e rest =
    let st : Standing = standing_at m p in
    let q : Plain = apply_all (land_changes l st) p in
    before_steady m l st p (landed channel ms q) (land_steady l st p (h.stocked.placed l.queue (is_landing channel m p l w).1.0)) (rest q (next_sound channel m p l h e w))

pub landed_steady : (channel : List ℕ) (ms : List Message) (p : Plain) → IsSound p → LandedSteady (landed channel ms p) p
landed_steady channel [] p h = tt
landed_steady channel (m ∷ ms) p h = at (is_present (standing_at m p)) refl (λ q k. landed_steady channel ms q k)
  where
    at : (b : Bool) → is_present (standing_at m p) ≡ b → ((q : Plain) → IsSound q → LandedSteady (landed channel ms q) q) → LandedSteady (landed_unless b channel m (standing_at m p) p (λ q. landed channel ms q)) p
    at true e rest = rest p h
    at false e rest = by_steady channel m ms p (land channel m p) refl h e rest

-- What a receiver commits: numbers stay as they are

tried_numbers : (b : Bool) (name : List ℕ) (p : Plain) → ((try_if b name p).numbers ≡ p.numbers) × ((try_if b name p).given ≡ p.given)
tried_numbers true name p = (refl, refl)
tried_numbers false name p = (refl, refl)

placed_numbers : (queue : List ℕ) (m : Message) (p : Plain) → ((apply_all (placed queue m) p).numbers ≡ p.numbers) × ((apply_all (placed queue m) p).given ≡ p.given)
placed_numbers queue m p = let k = tried_numbers (condition (local_of queue p.definitions) m.md.priority (apply (Places queue m) p)) queue (apply (Places queue m) p) in (k.0, k.1)

undoubted_numbers : (b : Bool) (i : Ident) (queue : List ℕ) (m : Message) (p : Plain) → ((apply_all (undoubted b i ++ placed queue m) p).numbers ≡ p.numbers) × ((apply_all (undoubted b i ++ placed queue m) p).given ≡ p.given)
undoubted_numbers true i queue m p = placed_numbers queue m (apply (Undoubt i) p)
undoubted_numbers false i queue m p = placed_numbers queue m p

land_numbers : (l : Landing) (st : Standing) (p : Plain) → ((apply_all (land_changes l st) p).numbers ≡ p.numbers) × ((apply_all (land_changes l st) p).given ≡ p.given)
land_numbers l Absent p = undoubted_numbers (is_persistent l.message) l.message.ident l.queue l.message p
land_numbers l (InDoubtAt from) p = undoubted_numbers (is_persistent l.message) l.message.ident l.queue l.message (apply (Leave (Among from (l.message.ident ∷ []))) p)
land_numbers l Present p = undoubted_numbers (is_persistent l.message) l.message.ident l.queue l.message p

-- (by the numbers of a manager alone)
abbrev was_by : Given → Numbers → Ident → Bool
was_by g n i = not (i.manager == g.number) || nat_le i.incarnation n.incarnation

same_given : (q p : Plain) (is : List Ident) → q.numbers ≡ p.numbers → q.given ≡ p.given → list_all (was_given q.given (lasting q)) is ≡ true → list_all (was_given p.given (lasting p)) is ≡ true
same_given q p is e f h = subst (λ (g : Given). list_all (was_by g p.numbers) is ≡ true) f (subst (λ (n : Numbers). list_all (was_by q.given n) is ≡ true) e h)

born_standing : (m : Message) (p : Plain) (st : Standing) → Sound p → IsStanding st m.ident p → is_present st ≡ false → is_unborn m.ident p ≡ false
born_standing m p Absent h s e = s.given
born_standing m p (InDoubtAt q) h s e = ap (λ (i : Ident). is_unborn i p) (sym s.is) ∙ h.apart.given q s.row s.there
born_standing m p Present h s e = absurd cc

abbrev LandedGiven : Result Landed Reason → Plain → Type 0
LandedGiven (Err reason) p = Unit {0}
LandedGiven (Ok r) p = AllBorn p r.adds

before_given : (m : Message) (l : Landing) (st : Standing) (p : Plain) (rest : Result Landed Reason) → was_given p.given (lasting p) l.message.ident ≡ true → LandedGiven rest (apply_all (land_changes l st) p) → LandedGiven (before m l st rest) p
before_given m l st p (Err reason) a b = tt
before_given m l st p (Ok r) a b =
    let k = land_numbers l st p in
    let rest : AllBorn p r.adds = same_given (apply_all (land_changes l st) p) p (map (λ (x : Add). x.message.ident) r.adds) k.0 k.1 b in
    bool_case (is_persistent l.message) (λ t. AllBorn p ((if t then record { queue = l.queue; message = l.message } ∷ [] else []) ++ r.adds))
    (λ e. ap (λ (t : Bool). t && list_all (was_given p.given (lasting p)) (map (λ (x : Add). x.message.ident) r.adds)) a ∙ rest) (λ e. rest)

by_given : (channel : List ℕ) (m : Message) (ms : List Message) (p : Plain) (x : Result Landing Reason) → land channel m p ≡ x → IsSound p → is_present (standing_at m p) ≡ false → ((q : Plain) → IsSound q → LandedGiven (landed channel ms q) q)
    → LandedGiven (landed_by x m (standing_at m p) p (λ q. landed channel ms q)) p
by_given channel m ms p (Err reason) w h e rest = tt
by_given channel m ms p (Ok l) w h e rest =
    let st : Standing = standing_at m p in
    let q : Plain = apply_all (land_changes l st) p in
    before_given m l st p (landed channel ms q) (ap (was_given p.given (lasting p)) (is_landing channel m p l w).0 ∙ born_given m.ident p (born_standing m p st h.facts (standing_is m p h.named) e)) (rest q (next_sound channel m p l h e w))

pub landed_given : (channel : List ℕ) (ms : List Message) (p : Plain) → IsSound p → LandedGiven (landed channel ms p) p
landed_given channel [] p h = refl
landed_given channel (m ∷ ms) p h = at (is_present (standing_at m p)) refl (λ q k. landed_given channel ms q k)
  where
    at : (b : Bool) → is_present (standing_at m p) ≡ b → ((q : Plain) → IsSound q → LandedGiven (landed channel ms q) q) → LandedGiven (landed_unless b channel m (standing_at m p) p (λ q. landed channel ms q)) p
    at true e rest = rest p h
    at false e rest = by_given channel m ms p (land channel m p) refl h e rest

-- The commit

above_zero : (n : ℕ) → 1 ≤ n → nat_lt 0 n ≡ true
above_zero n le = grind (arith, nat_tests)

equal : (a b : ℕ) → a ≡ b → (a == b) ≡ true
equal a b e = grind (arith, nat_tests)

is_less : (a b : ℕ) → a < b → nat_lt a b ≡ true
is_less a b lt = grind (arith, nat_tests)

positive : (a b : ℕ) → 1 ≤ a → a ≡ b → nat_lt 0 b ≡ true
positive a b le e = grind (arith, nat_tests)

either : (a b : Bool) → (a ≡ true) ⊎ (b ≡ true) → (a || b) ≡ true
either true b h = refl
either false b (inl e) = absurd cc
either false b (inr e) = e

both_true : (a b : Bool) → a ≡ true → b ≡ true → (a && b) ≡ true
both_true a b e f = λ i. e i && f i

above : (u v : Luw) → Below v u → (nat_lt v.session u.session || (u.session == v.session && nat_lt v.n u.n)) ≡ true
above u v (inl lt) = either (nat_lt v.session u.session) (u.session == v.session && nat_lt v.n u.n) (inl (is_less v.session u.session lt))
above u v (inr e) = either (nat_lt v.session u.session) (u.session == v.session && nat_lt v.n u.n) (inr (both_true (u.session == v.session) (nat_lt v.n u.n) (equal u.session v.session (sym e.0)) (is_less v.n u.n e.1)))

receivable : (channel : List ℕ) (unit : Luw) (p : Plain) → CanReceive channel unit p → can_receive unit (receiver_or (receiver_data channel p)) ≡ true
receivable channel unit p c =
    let d : ReceiverData = receiver_or (receiver_data channel p) in
    let session = above_zero unit.session c.named.session in
    let number = above_zero unit.n c.named.number in
    let same = equal unit.session d.session c.session in
    let some = positive unit.session d.session c.named.session c.session in
    let up = above unit d.unit c.above in
    λ i. (session i && number i) && same i && not (c.live i) && some i && up i

receive_h : (channel : List ℕ) (unit : Luw) (last : ℕ) (ms : List Message) (o : Result Landed Reason) (p : Plain) → landed channel ms p ≡ o → CanReceive channel unit p → IsSound p → LandedSteady o p → LandedGiven o p → StepHarmless (receive_landed channel unit last o p) p
receive_h channel unit last ms (Err reason) p e can h a g = tt
receive_h channel unit last ms (Ok l) p e can h a g = tested_h (when (is_full (need (received_record channel unit last l)) p) reasons.ResourceProblem ∷ []) _ p
    (λ z. (steady_harmless (received_part channel unit last l p) p (sound_logs p h).laned (steady_append l.changes _ p a (tt, tt)) (received_does channel unit last ms l p e (all_land channel ms p h) (receivable channel unit p can)), g, tt))

pub receive_harmless : (channel : List ℕ) (unit : Luw) (last : ℕ) (ms : List Message) (p : Plain) → CanReceive channel unit p → IsSound p → StepHarmless (receive channel unit last ms p) p
receive_harmless channel unit last ms p can h = receive_h channel unit last ms (landed channel ms p) p refl can h (landed_steady channel ms p h) (landed_given channel ms p h)
