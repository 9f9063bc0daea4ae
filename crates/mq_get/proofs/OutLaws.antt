-- Rows that leave a queue: what is written, what is seen, what ties the parts.
use Rattle.std.proofs.Common.{◌≡◌, ℕ, zero, suc, ◌+◌, ◌-◌, ◌<◌, ◌≤◌, Bool, true, false, cond, List, [], ◌∷◌, ◌++◌, length, refl, ap, arith, sym, subst, ◌∙◌}
use Rattle.std.proofs.lemmas.List.{append-nil}
use Rattle.std.specs.Prelude.{Some, None, Ok, Err, map, not, ◌&&◌}
use Rattle.std.specs.Str.{bytes_eq}
use Rattle.mq_base.specs.Outside.{Rose}
use Rattle.mq_disk.specs.declared.cutter.Stop.{Stop}
use Rattle.mq_calls.specs.State.{Queue as StateQueue}
use Rattle.mq_calls.specs.Words.{Ident, Row, Plain, Among, keep, kept_in, selects, logged, forced_calls, note_of, freeze, StopsAt, IsWrite}
use Rattle.mq_calls.specs.declared.records.Remove.{Remove}
use Rattle.mq_calls.specs.declared.deltas.Did.{Did}
use Rattle.mq_calls.specs.declared.deltas.Why.{Why}
use Rattle.mq_calls.specs.declared.deltas.Did.TheVariants as did
use Rattle.mq_calls.specs.declared.records.LogRecord.TheVariants as records
use Rattle.mq_log.specs.State.{LogState}
use Rattle.mq_core.specs.from_place.States.{queues_of, on_queues}
use Rattle.mq_core.specs.Forced.{given_back}
use Rattle.mq_scan.specs.declared.scanning.Met.{Met}
use Rattle.mq_unit.specs.Told.{Telling}
use Rattle.mq_core.specs.declared.parts.StoppedWrite.TheVariants as writes
use Rattle.mq_core.specs.Views.{PartsValue, plain_of}
use Rattle.mq_core.specs.Ties.{Tied, EndsReady, state_lanes, pending_at, times_in_queues, mode_is_up}
use Rattle.mq_core.specs.Values.{CoreValue, IsRecordIn, bodies_in, behind_record}
use Rattle.mq_core.proofs.ForceLaws.{queues_on, seen_on, times_on, times_keep, forced_view, frozen_view, tied_where, tied_downed, stops_at}
use Rattle.mq_get.specs.declared.leaving.Leaving.{Leaving}
use Rattle.mq_get.specs.Leaving.{leaving_record, leaving_need, leaving_part, gone_part, gone_parts}
use Rattle.mq_get.specs.Rooms.{Writes, out_of, downed_out, IsDropped}
use Rattle.mq_get.specs.Does.{seen, HasRun, HasBroken}

with_queues : Plain → List StateQueue → Plain
with_queues p qs = record p { queues = qs }

-- the view of rows that have left
pub out_view : (queue : List ℕ) (idents : List Ident) (x : PartsValue) → plain_of (out_of queue idents x) ≡ record (plain_of x) { queues = map (kept_in (Among queue idents)) (plain_of x).queues }
unfolding with_queues
out_view queue idents x = ap (with_queues (plain_of x)) (queues_on (kept_in (Among queue idents)) x.queues.states)

-- a record was written, where there is one
pub record Wrote (removes : List Remove) (x z : PartsValue) : Type 0 where
  pub same : z ≡ record x { log = z.log; body = z.body }
  pub live : z.log.live ≡ x.log.live
  pub settled : z.log.pending ≡ x.log.pending
  pub spare : z.log.spare ≡ x.log.spare
  pub reserved : z.log.reserved ≡ x.log.reserved
  pub max : z.log.max ≡ x.log.max
  pub armed : z.log.armed ≡ x.log.armed - forced_calls (leaving_record removes)
  pub ran : 0 < x.log.armed → forced_calls (leaving_record removes) < x.log.armed
  pub later : x.log.faults ≤ z.log.faults
  pub room : x.log.room ≤ z.log.room + leaving_need removes
  pub body : x.body.room + length x.body.bytes ≤ z.body.room + length z.body.bytes
  pub view : mode_is_up x.mode ≡ true → plain_of z ≡ logged (leaving_record removes) (plain_of x)
  pub bodies : bodies_in z.log ≡ behind_record (leaving_record removes) (bodies_in x.log)
  pub fits : IsRecordIn (leaving_record removes)

pub wrote : (removes : List Remove) (x z : PartsValue) → Writes removes x (Ok tt) z → Wrote removes x z
wrote [] x z e = record {
  same = let back : x ≡ z = sym e in e ∙ (λ i. record x { log = (back i).log; body = (back i).body });
  live = ap (λ (y : PartsValue). y.log.live) e;
  settled = ap (λ (y : PartsValue). y.log.pending) e;
  spare = ap (λ (y : PartsValue). y.log.spare) e;
  reserved = ap (λ (y : PartsValue). y.log.reserved) e;
  max = ap (λ (y : PartsValue). y.log.max) e;
  armed = let a = ap (λ (y : PartsValue). y.log.armed) e in omega (arith, a);
  ran = λ some. some;
  later = let a = ap (λ (y : PartsValue). y.log.faults) e in omega (arith, a);
  room = let a = ap (λ (y : PartsValue). y.log.room) e in omega (arith, a);
  body = let a = ap (λ (y : PartsValue). y.body.room + length y.body.bytes) e in omega (arith, a);
  view = λ up. ap plain_of e;
  bodies = ap (λ (y : PartsValue). bodies_in y.log) e;
  fits = tt;
}
wrote (r ∷ rs) x z f = record {
  same = f.same;
  live = ap (λ (l : LogState). l.live) f.log;
  settled = ap (λ (l : LogState). l.pending) f.log;
  spare = ap (λ (l : LogState). l.spare) f.log;
  reserved = ap (λ (l : LogState). l.reserved) f.log;
  max = ap (λ (l : LogState). l.max) f.log;
  armed = f.ends.0;
  ran = f.ends.1;
  later = f.later;
  room = f.room;
  body = f.body;
  view = λ up. forced_view (records.Unit [] (r ∷ rs)) x z up f;
  bodies = ap bodies_in f.log;
  fits = f.fits;
}

-- rows that leave leave all tied
out_by : List ℕ → List Ident → PartsValue → PartsValue
out_by queue idents x = out_of queue idents x

pub tied_out : (removes : List Remove) (queue : List ℕ) (idents : List Ident) (x z : PartsValue) → Wrote removes x z → (mode_is_up x.mode ≡ true → x.log.reserved + leaving_need removes ≤ x.log.room) → Tied x → Tied (out_of queue idents z)
unfolding out_by
tied_out removes queue idents x z w room t =
    let f = kept_in (Among queue idents) in
    subst (λ (y : PartsValue). Tied (out_by queue idents y)) (sym w.same) (record {
      up = λ u. let o = t.up u in let r = room u in record { live = w.live ∙ o.live; settled = w.settled ∙ o.settled; ends = subst (EndsReady x.ends) (sym w.spare) o.ends; room = omega (arith, r, w.room, w.reserved); body = let b = o.body in omega (arith, b, w.body, w.reserved) };
      reserved = λ u. w.reserved ∙ t.reserved u;
      within = λ u. let most = t.within u in omega (arith, w.reserved, w.max, most);
      queues = record {
        lanes = λ name. seen_on f (λ q. refl) state_lanes (λ s. refl) name x.queues.states ∙ t.queues.lanes name;
        pending = λ name. seen_on f (λ q. refl) pending_at (λ s. refl) name x.queues.states ∙ t.queues.pending name;
      };
      idents = record {
        once = λ i. let less = times i in let old = t.idents.once i in omega (arith, less, old);
        given = λ i a b c. let less = times i in let old = t.idents.given i a b c in omega (arith, less, old);
      };
      forced = t.forced;
      max = omega (arith, w.max, t.max);
      moment = t.moment;
    })
  where
    times : (i : Ident) → times_in_queues i (queues_of (on_queues (kept_in (Among queue idents)) x.queues.states)) ≤ times_in_queues i (queues_of x.queues.states)
    times i = times_on i (kept_in (Among queue idents)) (λ q. times_keep i (λ (row : Row). not (selects (Among queue idents) q.name row)) q.rows) x.queues.states

-- they are gone
log_by : List Remove → Plain → Plain
log_by removes p = logged (leaving_record removes) p

leave_by : List ℕ → List Ident → Plain → Plain
leave_by queue idents p = record p { queues = map (kept_in (Among queue idents)) p.queues }

pub dropped_runs : (queue : List ℕ) (l : Leaving) (why : Why) (x : PartsValue) (t : Telling) (y : PartsValue) (u : Telling) → mode_is_up x.mode ≡ true → IsDropped queue l why x t y u → HasRun (leaving_part queue l why ∷ []) (seen x t.dids None) (seen y u.dids None)
unfolding leave_by
dropped_runs queue l why x t y u up d =
    let w = wrote l.removes x d.written d.writes in
    let removed : List Did = map (λ (i : Ident). did.Removed queue i why) l.idents in
    record {
      plain = ap plain_of d.gone ∙ out_view queue l.idents d.written ∙ ap (leave_by queue l.idents) (w.view up);
      told = ap (λ (s : Telling). s.dids) d.told ∙ ap (λ (ds : List Did). t.dids ++ ds) (sym (append-nil removed));
      later = let a = ap (λ (z : PartsValue). z.log.faults) d.gone in omega (arith, a, w.later);
      ran = λ some. let a = w.ran some in omega (arith, a);
      armed = let a = ap (λ (z : PartsValue). z.log.armed) d.gone in omega (arith, a, w.armed);
      log = ap (λ (z : PartsValue). bodies_in z.log) d.gone ∙ w.bodies;
      records = (w.fits, tt);
    }

-- their write was stopped
pub stopped_breaks : (queue : List ℕ) (l : Leaving) (why : Why) (stop : Stop) (x z y : PartsValue) (told : List Did) → mode_is_up x.mode ≡ true → Writes l.removes x (Err stop) z → y ≡ downed_out queue l why z → HasBroken stop (leaving_part queue l why ∷ []) (seen x told None) (seen y told (Some stop))
stopped_breaks queue l why stop x z y told up f gone = by l.removes refl f
  where
    by : (rs : List Remove) → l.removes ≡ rs → Writes rs x (Err stop) z → HasBroken stop (leaving_part queue l why ∷ []) (seen x told None) (seen y told (Some stop))
    by [] is f = absurd f
    by (r ∷ rs) is f =
        let lv : Leaving = record { removes = r ∷ rs; idents = l.idents } in
        let back : (r ∷ rs) ≡ l.removes = sym is in
        let same : lv ≡ l = (λ i. record { removes = back i; idents = l.idents }) in
        subst (λ (k : Leaving). (y ≡ downed_out queue k why z) → HasBroken stop (leaving_part queue k why ∷ []) (seen x told None) (seen y told (Some stop))) same
        (λ gone.
        let down = ap (λ (w : PartsValue). w.log.armed) gone in
        let failed = ap (λ (w : PartsValue). w.log.faults) gone in
        record {
          part = 0;
          write = refl;
          stop = subst (λ (n : ℕ). StopsAt stop 4 x.log.armed 0 n) (sym down) (stops_at stop x.log.armed z.log.armed f.ends);
          plain = ap plain_of gone ∙ frozen_view (writes.Removal queue lv.removes lv.idents why) (records.Unit [] (r ∷ rs)) x z stop up f
              ∙ ap (λ (n : ℕ). freeze (note_of (leaving_part queue lv why) (Some (records.Unit [] (r ∷ rs)))) n (plain_of x)) (sym down);
          told = sym (append-nil told);
          later = omega (arith, failed, f.later);
          rose = λ e. subst (λ (n : ℕ). Rose x.log.faults n) (sym failed) (f.disk (ap (λ (s : Stop). Err s) e));
          log = ap (λ (w : PartsValue). bodies_in w.log) gone ∙ ap bodies_in f.log;
          records = f.fits;
        }) gone

pub stopped_tied : (queue : List ℕ) (l : Leaving) (why : Why) (stop : Stop) (x z y : PartsValue) → Writes l.removes x (Err stop) z → y ≡ downed_out queue l why z → Tied x → Tied y
stopped_tied queue l why stop x z y f gone t = subst Tied (sym gone) (by l.removes f)
  where
    by : (rs : List Remove) → Writes rs x (Err stop) z → Tied (downed_out queue l why z)
    by [] f = absurd f
    by (r ∷ rs) f = tied_downed (writes.Removal queue l.removes l.idents why) (records.Unit [] (r ∷ rs)) [] x z stop f t

-- where no row is met none leaves
none_selected : (b : Bool) → not (b && false) ≡ true
none_selected true = refl
none_selected false = refl

keep_all : (queue : List ℕ) (name : List ℕ) (rows : List Row) → keep (λ (row : Row). not (selects (Among queue []) name row)) rows ≡ rows
keep_all queue name [] = refl
keep_all queue name (row ∷ rows) = (λ i. cond (none_selected (bytes_eq name queue) i) (row ∷ keep_all queue name rows i) (keep_all queue name rows i))

none_out : (queue : List ℕ) (qs : List StateQueue) → map (kept_in (Among queue [])) qs ≡ qs
none_out queue [] = refl
none_out queue (q ∷ qs) = (λ i. record q { rows = keep_all queue q.name q.rows i } ∷ none_out queue qs i)

pub gone_runs : (why : Why) (queue : List ℕ) (mets : List Met) (v w : CoreValue) → HasRun (gone_part why queue mets ∷ []) v w → HasRun (gone_parts why queue mets) v w
unfolding with_queues
gone_runs why queue [] v w h = record {
  plain = h.plain ∙ ap (with_queues v.plain) (none_out queue v.plain.queues);
  told = h.told;
  later = h.later;
  ran = h.ran;
  armed = h.armed;
  log = h.log;
  records = tt;
}
gone_runs why queue (m ∷ ms) v w h = h

pub gone_breaks : (why : Why) (queue : List ℕ) (mets : List Met) (by : Stop) (v w : CoreValue) → HasBroken by (gone_part why queue mets ∷ []) v w → HasBroken by (gone_parts why queue mets) v w
gone_breaks why queue [] by v w h = absurd (none h.part h.write)
  where
    none : (k : ℕ) → IsWrite k (gone_part why queue [] ∷ []) → ⊥
    none zero e = absurd cc
    none (suc k) e = e
gone_breaks why queue (m ∷ ms) by v w h = h

-- room that is given back leaves all tied
pub tied_back : (n : ℕ) (x : PartsValue) → (mode_is_up x.mode ≡ true → x.log.reserved + n ≤ x.body.room + length x.body.bytes) → Tied x → Tied (given_back n x)
tied_back n x room t = tied_where [] [] x.ends x.log (given_back n x).body x.mode x
    (λ u. let w = t.up u in let r = room u in record { live = w.live; settled = w.settled; ends = w.ends; room = w.room; body = omega (arith, r) }) t.reserved t.within t.max t
