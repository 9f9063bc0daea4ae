-- The ends of units keep what holds of a manager's rows.
use Rattle.std.proofs.Common.{ℕ, ◌≡◌, true, List, [], ◌∷◌, ◌++◌, refl, ap, sym, subst, ◌∙◌}
use Rattle.std.specs.Prelude.{Option, Some, None, Result, Ok, Err, flat_map, ◌==◌, if◌then◌else◌}
use Rattle.mq_codes.specs.declared.reason.Reason.{Reason}
use Rattle.mq_message.specs.declared.message.Message.{Message}
use Rattle.mq_calls.specs.declared.answers.Hconn.{Hconn}
use Rattle.mq_calls.specs.declared.records.Add.{Add}
use Rattle.mq_calls.specs.declared.records.LogRecord.{LogRecord}
use Rattle.mq_calls.specs.State.{Plain, Change}
use Rattle.mq_calls.specs.declared.state.Connection.{Connection}
use Rattle.mq_calls.specs.declared.state.Item.{Item}
use Rattle.mq_calls.specs.declared.state.Item.TheVariants.{Put, Take}
use Rattle.mq_calls.specs.State.Which.{Among}
use Rattle.mq_calls.specs.State.Change.{Place as Places, Try, Leave, Release, EndUnit, Disconnect}
use Rattle.mq_calls.specs.Reads.{connection_at}
use Rattle.mq_calls.specs.Changes.{apply, apply_all}
use Rattle.mq_calls.specs.Steps.{Step, Test, tested, refusal, refused_or, logged, do_part}
use Rattle.mq_spec_manager.specs.Handles.{connected, for_connection, live_or, is_other, is_present}
use Rattle.mq_codes.specs.declared.reason.Reason.TheVariants as reasons
use Rattle.mq_spec_manager.specs.Put.{placed}
use Rattle.mq_spec_manager.specs.Units.{taken_item, freed_item, placed_item, commit_changes, commit_part, backout_part, mqcmit, mqback, mqdisc}
use Rattle.mq_law_manager.specs.View.{View, view, puts_in, takes_in, items_of}
use Rattle.mq_law_manager.specs.Facts.{Sound, Holds}
use Rattle.mq_law_manager.specs.Seen.{with_unit, end_in, row_for}
use Rattle.mq_law_manager.specs.Kept.{Keeps}
use Rattle.mq_law_manager.proofs.Lists.{bool_case, eqb_yes}
use Rattle.mq_law_manager.proofs.Apart.{IsNew}
use Rattle.mq_law_manager.proofs.SeenLaws.{applied}
use Rattle.mq_law_manager.proofs.Steps.{number_same, number_twice, places, take_goes, take_frees, put_lands, puts_go}

pub behind : (xs ys : List Change) (p : Plain) → apply_all (xs ++ ys) p ≡ apply_all ys (apply_all xs p)
behind [] ys p = refl
behind (x ∷ xs) ys p = behind xs ys (apply x p)

pub view_logged : (r : Option LogRecord) (p : Plain) → view (logged r p) ≡ view p
view_logged None p = refl
view_logged (Some r) p = refl

pub sound_logged : (r : Option LogRecord) (p : Plain) → Sound p → Sound (logged r p)
sound_logged r p h = subst Holds (sym (view_logged r p)) h

-- a message is placed, and its trigger tried
pub sound_placed : (queue : List ℕ) (m : Message) (p : Plain) → Sound p → IsNew m.ident (view p).rows (view p).puts (view p).unborn → Sound (apply_all (placed queue m) p)
sound_placed queue m p h new =
    let q : Plain = apply (Places queue m) p in
    subst Holds (sym (applied (Try queue m.md.priority) q tt))
    (subst Holds (sym (applied (Places queue m) p tt)) (places (view p) queue (row_for queue m p) h new refl refl))

-- Units, item by item

pub commits_takes : (n : ℕ) (ps : List Add) (items : List Item) (p : Plain) → Holds (with_unit n ps (takes_in items) (view p)) → Holds (with_unit n ps [] (view (apply_all (flat_map taken_item items) p)))
commits_takes n ps [] p h = h
commits_takes n ps (Put queue m ∷ items) p h = commits_takes n ps items p h
commits_takes n ps (Take queue i b ∷ items) p h = commits_takes n ps items (apply (Leave (Among queue (i ∷ []))) p)
    (subst (λ (v : View). Holds (with_unit n ps (takes_in items) v)) (sym (applied (Leave (Among queue (i ∷ []))) p tt))
    (take_goes (view p) n ps (record { queue = queue; ident = i; persistent = b }) (takes_in items) h))

pub frees_takes : (n : ℕ) (ps : List Add) (items : List Item) (p : Plain) → Holds (with_unit n ps (takes_in items) (view p)) → Holds (with_unit n ps [] (view (apply_all (flat_map freed_item items) p)))
frees_takes n ps [] p h = h
frees_takes n ps (Put queue m ∷ items) p h = frees_takes n ps items p h
frees_takes n ps (Take queue i b ∷ items) p h = frees_takes n ps items (apply (Release (Among queue (i ∷ [])) true) p)
    (subst (λ (v : View). Holds (with_unit n ps (takes_in items) v)) (sym (applied (Release (Among queue (i ∷ [])) true) p tt))
    (take_frees (view p) n ps (record { queue = queue; ident = i; persistent = b }) (takes_in items) true h))

pub commits_puts : (n : ℕ) (items : List Item) (p : Plain) → Holds (with_unit n (puts_in items) [] (view p)) → Holds (with_unit n [] [] (view (apply_all (flat_map placed_item items) p)))
commits_puts n [] p h = h
commits_puts n (Put queue m ∷ items) p h =
    let q : Plain = apply (Places queue m) p in
    commits_puts n items (apply_all (placed queue m) p)
    (subst (λ (v : View). Holds (with_unit n (puts_in items) [] v)) (sym (applied (Try queue m.md.priority) q tt))
    (subst (λ (v : View). Holds (with_unit n (puts_in items) [] v)) (sym (applied (Places queue m) p tt))
    (put_lands (view p) n (record { queue = queue; message = m }) (puts_in items) [] (row_for queue m p) h refl refl refl)))
commits_puts n (Take queue i b ∷ items) p h = commits_puts n items p h

-- a unit as it stands
pub as_unit : (n : ℕ) (c : Connection) (p : Plain) → connection_at n p.connections ≡ Some c → Sound p → Holds (with_unit n (puts_in c.unit) (takes_in c.unit) (view p))
as_unit n c p live h = subst Holds (λ i. record (view p) {
  puts = λ k. sym (number_same n (puts_in c.unit) (view p).puts k (ap (λ (o : Option Connection). puts_in (items_of o)) (sym live))) i;
  takes = λ k. sym (number_same n (takes_in c.unit) (view p).takes k (ap (λ (o : Option Connection). takes_in (items_of o)) (sym live))) i;
}) h

pub ends_unit : (n : ℕ) (p : Plain) → Holds (with_unit n [] [] (view p)) → Sound (apply (EndUnit n) p)
ends_unit n p h = subst Holds (sym (applied (EndUnit n) p tt)) h

pub ends_twice : (n : ℕ) (p : Plain) → Holds (with_unit n [] [] (view p)) → Sound (apply (Disconnect n) (apply (EndUnit n) p))
ends_twice n p h = subst Holds (sym (applied (Disconnect n) (apply (EndUnit n) p) tt))
    (subst (λ (v : View). Holds (end_in n v)) (sym (applied (EndUnit n) p tt))
    (subst Holds (λ i. record (view p) { puts = λ k. sym (number_twice n [] [] (view p).puts k) i; takes = λ k. sym (number_twice n [] [] (view p).takes k) i }) h))

-- the rows of a unit went, and its puts have their places
pub commits_rows : (c : Connection) (p : Plain) → connection_at c.number p.connections ≡ Some c → Sound p
    → Holds (with_unit c.number [] [] (view (apply_all (flat_map placed_item c.unit) (apply_all (flat_map taken_item c.unit) p))))
commits_rows c p live h = commits_puts c.number c.unit (apply_all (flat_map taken_item c.unit) p) (commits_takes c.number (puts_in c.unit) c.unit p (as_unit c.number c p live h))

commit_is : (c : Connection) (more : List Change) (p : Plain) → apply_all (commit_changes c ++ more) p ≡ apply_all more (apply (EndUnit c.number) (apply_all (flat_map placed_item c.unit) (apply_all (flat_map taken_item c.unit) p)))
commit_is c more p = behind (commit_changes c) more p ∙ ap (apply_all more) (behind (flat_map taken_item c.unit ++ flat_map placed_item c.unit) (EndUnit c.number ∷ []) p
    ∙ ap (apply (EndUnit c.number)) (behind (flat_map taken_item c.unit) (flat_map placed_item c.unit) p))

abbrev pub ended_rows : Connection → Plain → Plain
ended_rows c p = apply_all (flat_map placed_item c.unit) (apply_all (flat_map taken_item c.unit) p)

pub live_logged : (n : ℕ) (c : Connection) (p : Plain) (r : Option LogRecord) → connection_at n p.connections ≡ Some c → connection_at n (logged r p).connections ≡ Some c
live_logged n c p None live = live
live_logged n c p (Some r) live = live

pub commits : (c : Connection) (p : Plain) → connection_at c.number p.connections ≡ Some c → Sound p → Sound (do_part (commit_part [] c) p)
commits c p live h =
    let r : Option LogRecord = (commit_part [] c).forced in
    subst Sound (sym (commit_is c [] (logged r p))) (ends_unit c.number (ended_rows c (logged r p)) (commits_rows c (logged r p) (live_logged c.number c p r live) (sound_logged r p h)))

pub disconnects : (c : Connection) (p : Plain) → connection_at c.number p.connections ≡ Some c → Sound p → Sound (do_part (commit_part (Disconnect c.number ∷ []) c) p)
disconnects c p live h =
    let r : Option LogRecord = (commit_part [] c).forced in
    subst Sound (sym (commit_is c (Disconnect c.number ∷ []) (logged r p))) (ends_twice c.number (ended_rows c (logged r p)) (commits_rows c (logged r p) (live_logged c.number c p r live) (sound_logged r p h)))

pub backs_out : (c : Connection) (p : Plain) → connection_at c.number p.connections ≡ Some c → Sound p → Sound (do_part (backout_part c) p)
backs_out c p live h =
    let q : Plain = apply_all (flat_map freed_item c.unit) p in
    subst Sound (sym (behind (flat_map freed_item c.unit) (EndUnit c.number ∷ []) p))
    (ends_unit c.number q (puts_go (view q) c.number (puts_in c.unit) [] (frees_takes c.number (puts_in c.unit) c.unit p (as_unit c.number c p live h))))

-- Connections that a call finds

abbrev number_of : Option Connection → ℕ
number_of None = 0
number_of (Some c) = c.number

abbrev some_of : Result Connection Reason → Option Connection
some_of (Ok c) = Some c
some_of (Err r) = None

pub found_number : (n : ℕ) (c : Connection) (cs : List Connection) → connection_at n cs ≡ Some c → c.number ≡ n
found_number n c [] e = absurd cc
found_number n c (d ∷ cs) e = bool_case (d.number == n) (λ b. (d.number == n) ≡ b → (if b then Some d else connection_at n cs) ≡ Some c → c.number ≡ n)
    (λ z w f. sym (ap number_of f) ∙ eqb_yes d.number n w) (λ z w f. found_number n c cs f) refl e

pub live_found : (n : ℕ) (c : Connection) (o : Option Connection) → live_or o ≡ Ok c → o ≡ Some c
live_found n c None e = absurd cc
live_found n c (Some d) e = ap some_of e

pub is_live : (hc : Hconn) (c : Connection) (p : Plain) → connected hc p ≡ Ok c → connection_at c.number p.connections ≡ Some c
is_live hc c p e = bool_case (is_other hc p) (λ b. (if b then Err reasons.ConnectionHandleError else (if is_present hc p then live_or (connection_at hc.number p.connections) else Err reasons.ConnectionBroken)) ≡ Ok c → connection_at c.number p.connections ≡ Some c)
    (λ z f. absurd cc)
    (λ z f. bool_case (is_present hc p) (λ b. (if b then live_or (connection_at hc.number p.connections) else Err reasons.ConnectionBroken) ≡ Ok c → connection_at c.number p.connections ≡ Some c)
    (λ w g. let at : connection_at hc.number p.connections ≡ Some c = live_found hc.number c (connection_at hc.number p.connections) g in
    ap (λ (n : ℕ). connection_at n p.connections) (found_number hc.number c p.connections at) ∙ at)
    (λ w g. absurd cc) f) e

pub for_live : {T : Type 0} (r : Result Connection Reason) (f : Connection → Step Reason T) (p : Plain) → ((c : Connection) → r ≡ Ok c → Keeps (f c) p) → Keeps (for_connection r f) p
for_live (Ok c) f p k = k c refl
for_live (Err reason) f p k = tt

pub tested_keeps : {F T : Type 0} (ts : List (Test F)) (s : Step F T) (p : Plain) → (refusal ts ≡ None → Keeps s p) → Keeps (tested ts s) p
tested_keeps ts s p k = at (refusal ts) refl
  where
    at : (o : Option _) → refusal ts ≡ o → Keeps (refused_or o s) p
    at None e = k e
    at (Some reason) e = tt

pub mqcmit_keeps : (hc : Hconn) (p : Plain) → Sound p → Keeps (mqcmit hc p) p
mqcmit_keeps hc p h = for_live (connected hc p) _ p (λ c e. (commits c p (is_live hc c p e) h, tt))

pub mqback_keeps : (hc : Hconn) (p : Plain) → Sound p → Keeps (mqback hc p) p
mqback_keeps hc p h = for_live (connected hc p) _ p (λ c e. (backs_out c p (is_live hc c p e) h, tt))

pub mqdisc_keeps : (hc : Hconn) (p : Plain) → Sound p → Keeps (mqdisc hc p) p
mqdisc_keeps hc p h = for_live (connected hc p) _ p (λ c e. (disconnects c p (is_live hc c p e) h, tt))
