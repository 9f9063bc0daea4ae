-- What a get comes to, told by what is kept of the rows that it meets and finds.
use Rattle.std.proofs.Common.{◌≡◌, ℕ, ◌<◌, ◌^◌, Bool, true, false, cond, List, [], ◌∷◌, ◌++◌, refl, ap, arith, sym, subst, ◌∙◌}
use Rattle.std.specs.Prelude.{Option, Some, None, Result, Ok, Err, IsSome, map}
use Rattle.std.specs.Option.{option_map}
use Rattle.std.proofs.lemmas.Bool.Decides.{nat_tests}
use Rattle.std.proofs.lemmas.List.{length-map}
use Rattle.mq_codes.specs.declared.reason.Reason.TheVariants as reasons
use Rattle.mq_calls.specs.declared.answers.Answer.TheVariants as answers
use Rattle.mq_calls.specs.declared.answers.GetAnswer.TheVariants.{Done}
use Rattle.mq_calls.specs.declared.deltas.Why.{Why}
use Rattle.mq_calls.specs.declared.deltas.Why.TheVariants as whys
use Rattle.mq_calls.specs.declared.deltas.Did.TheVariants as did
use Rattle.mq_calls.specs.State.Change.{Leave, SetCursor}
use Rattle.mq_calls.specs.Words.{Reason, Ident, Row, Plain, Step, Part, Among, Refuse, Do, refusal, refused_or, is_persistent, is_full, silent, handle_at}
use Rattle.mq_calls.specs.declared.deltas.Did.{Did}
use Rattle.mq_calls.specs.declared.answers.Get.{Get}
use Rattle.mq_calls.specs.declared.answers.GetAnswer.{GetAnswer}
use Rattle.mq_calls.specs.declared.state.Handle.{Handle}
use Rattle.mq_calls.specs.declared.answers.Hconn.{Hconn}
use Rattle.mq_calls.specs.declared.answers.Hobj.{Hobj}
use Rattle.mq_calls.specs.declared.records.Remove.{Remove}
use Rattle.mq_calls.specs.declared.state.Connection.{Connection}
use Rattle.mq_spec_manager.specs.Get.{removes_of, idents_of}
use Rattle.mq_spec_manager.specs.Words.{Scan, connected, for_connection, for_handle, live_or, queue_at, is_destructive, is_under, is_left, is_too_long, got, got_answer, is_waiting, without_row, with_row, found_part, taking_part, persistent_rows, expired_need, scan_need, get_tests, get_found, get_scanned, get_handle, get_up, mqget, removal_record, removal_part, removal_parts, expired_parts}
use Rattle.mq_scan.specs.Scans.{met_of}
use Rattle.mq_core.specs.Calls.{IsReached}
use Rattle.mq_get.specs.declared.refusals.Aim.{Aim}
use Rattle.mq_get.specs.Leaving.{leaving_record, leaving_need, met_ident, removes_met, gone_part, gone_parts}
use Rattle.mq_get.specs.Gets.{aim_of, look, hit_of, hit_part, hit_step, taken_part, plan_step, aimed, Looks, Gets}

deltas_met : (why : Why) (queue : List ℕ) (rows : List Row) → map (λ (row : Row). did.Removed queue row.message.ident why) rows ≡ map (λ (i : Ident). did.Removed queue i why) (map met_ident (map met_of rows))
deltas_met why queue [] = refl
deltas_met why queue (row ∷ rows) = ap (λ (ds : List Did). did.Removed queue row.message.ident why ∷ ds) (deltas_met why queue rows)

idents_met : (rows : List Row) → idents_of rows ≡ map met_ident (map met_of rows)
idents_met [] = refl
idents_met (row ∷ rows) = ap (λ (is : List Ident). row.message.ident ∷ is) (idents_met rows)

pub removes_are : (queue : List ℕ) (rows : List Row) → removes_of queue (persistent_rows rows) ≡ removes_met queue (map met_of rows)
removes_are queue [] = refl
removes_are queue (row ∷ rows) = by (is_persistent row.message) (removes_are queue rows)
  where
    by : (b : Bool) → removes_of queue (persistent_rows rows) ≡ removes_met queue (map met_of rows)
        → removes_of queue (cond b (row ∷ persistent_rows rows) (persistent_rows rows)) ≡ cond b (record { queue = queue; ident = row.message.ident } ∷ removes_met queue (map met_of rows)) (removes_met queue (map met_of rows))
    by true e = ap (λ (rs : List Remove). let r : Remove = record { queue = queue; ident = row.message.ident } in r ∷ rs) e
    by false e = e

record_are : (queue : List ℕ) (rows : List Row) → removal_record queue rows ≡ leaving_record (removes_of queue rows)
record_are queue [] = refl
record_are queue (row ∷ rows) = refl

removal_is : (why : Why) (queue : List ℕ) (rows : List Row) → removal_part why queue rows ≡ gone_part why queue (map met_of rows)
removal_is why queue rows = λ i. record {
  forced = (record_are queue (persistent_rows rows) ∙ ap leaving_record (removes_are queue rows)) i;
  changes = Leave (Among queue (idents_met rows i)) ∷ [];
  delta = deltas_met why queue rows i;
}

pub parts_are : (why : Why) (queue : List ℕ) (rows : List Row) → removal_parts why queue rows ≡ gone_parts why queue (map met_of rows)
parts_are why queue [] = refl
parts_are why queue (row ∷ rows) = ap (λ (p : Part). p ∷ []) (removal_is why queue (row ∷ rows))

taking_is : (sync : Bool) (c : Connection) (queue : List ℕ) (row : Row) → taking_part sync c queue row ≡ taken_part sync c.number queue (met_of row)
taking_is true c queue row = refl
taking_is false c queue row = removal_is whys.Got queue (row ∷ [])

found_is : (get : Get) (c : Connection) (h : Handle) (row : Row) → found_part get c h (queue_at h.leads) row ≡ hit_part get c.number (aim_of h) (hit_of get row)
found_is get c h row = ap (λ (p : Part). cond (is_destructive get.take) p (silent (SetCursor c.number h.number row.place ∷ []))) (taking_is get.sync c (queue_at h.leads) row)

row_is : (b : Bool) (get : Get) (c : Connection) (h : Handle) (row : Row) (before after : List Part) → before ≡ after → with_row b get c h (queue_at h.leads) row before ≡ hit_step b get c.number (aim_of h) (hit_of get row) after
row_is true get c h row before after e = λ i. Do (Done (answers.Warning reasons.TruncatedMessageFailed (got get.room row.message))) (e i)
row_is false get c h row before after e = λ i. Do (Done (got_answer (is_too_long get row.message) (got get.room row.message))) (e i ++ found_is get c h row i ∷ [])

planned : (get : Get) (until : Option ℕ) (p : Plain) (c : Connection) (h : Handle) (rows : List Row) (found : Option Row)
    → get_found get until p c h (expired_parts (queue_at h.leads) rows) found ≡ plan_step get until p c.number (aim_of h) (map met_of rows) (option_map (hit_of get) found)
planned get until p c h rows None = ap (λ (ps : List Part). without_row (is_under get.take) (is_waiting until p) ps) (parts_are whys.Expired (queue_at h.leads) rows)
planned get until p c h rows (Some row) = row_is (is_left get row.message) get c h row _ _ (parts_are whys.Expired (queue_at h.leads) rows)

refused_by : Option Reason → Step Reason GetAnswer → Step Reason GetAnswer
refused_by o step = refused_or o step

room_if : Bool → Step Reason GetAnswer → Step Reason GetAnswer
room_if b step = refused_or (cond b (Some reasons.ResourceProblem) None) step

-- behind a handle
pub looks : (get : Get) (until : Option ℕ) (p : Plain) (c : Connection) (h : Handle) → refusal (get_tests get p c h) ≡ None → is_full (scan_need get c (look get (aim_of h) p)) p ≡ false
    → get_handle get until p c h ≡ aimed get until p (aim_of h) c
unfolding refused_by room_if
looks get until p c h none fits =
    let s : Scan = look get (aim_of h) p in
    ap (λ (o : Option Reason). refused_by o (get_scanned get until p c h s)) none
    ∙ ap (λ (b : Bool). room_if b (get_found get until p c h (expired_parts (queue_at h.leads) s.expired) s.found)) fits
    ∙ planned get until p c h s.expired s.found

pub refused_handle : (get : Get) (until : Option ℕ) (p : Plain) (c : Connection) (h : Handle) (reason : Reason) → refusal (get_tests get p c h) ≡ Some reason → get_handle get until p c h ≡ Refuse reason
unfolding refused_by
refused_handle get until p c h reason e = ap (λ (o : Option Reason). refused_by o (get_scanned get until p c h (look get (aim_of h) p))) e

pub refused_room : (get : Get) (until : Option ℕ) (p : Plain) (c : Connection) (h : Handle) → refusal (get_tests get p c h) ≡ None → is_full (scan_need get c (look get (aim_of h) p)) p ≡ true → get_handle get until p c h ≡ Refuse reasons.ResourceProblem
unfolding refused_by room_if
refused_room get until p c h none full =
    let s : Scan = look get (aim_of h) p in
    ap (λ (o : Option Reason). refused_by o (get_scanned get until p c h s)) none
    ∙ ap (λ (b : Bool). room_if b (get_found get until p c h (expired_parts (queue_at h.leads) s.expired) s.found)) full

-- what fits into the log is short
short_of : (n : ℕ) (p : Plain) → p.given.log_max < 2 ^ 32 → is_full n p ≡ false → n < 2 ^ 32
short_of n p max fits = grind (arith, nat_tests, max, fits)

pub short_scan : (get : Get) (p : Plain) (c : Connection) (h : Handle) → p.given.log_max < 2 ^ 32 → is_full (scan_need get c (look get (aim_of h) p)) p ≡ false → expired_need (persistent_rows (look get (aim_of h) p).expired) < 2 ^ 32
short_scan get p c h max fits = let all = short_of (scan_need get c (look get (aim_of h) p)) p max fits in omega (arith, all)

-- from the connection on
connected_by : Hobj → Get → Option ℕ → Plain → Result Connection Reason → Step Reason GetAnswer
connected_by ho get until p r = for_connection r (get_up ho get until p)

handle_by : Get → Option ℕ → Plain → Connection → Option Handle → Step Reason GetAnswer
handle_by get until p c o = for_handle o (get_handle get until p c)

pub get_is : (hc : Hconn) (ho : Hobj) (get : Get) (until : Option ℕ) (p : Plain) (c : Connection) (o : Option Handle) → connected hc p ≡ Ok c → handle_at ho.number c.handles ≡ o → mqget hc ho get until p ≡ for_handle o (get_handle get until p c)
unfolding connected_by handle_by
get_is hc ho get until p c o e f = ap (connected_by ho get until p) e ∙ ap (handle_by get until p c) f

at_by : Get → Option ℕ → Aim → Plain → Option Connection → Step Reason GetAnswer
at_by get until aim p o = for_connection (live_or o) (aimed get until p aim)

pub gets : (hc : Hconn) (ho : Hobj) (get : Get) (until : Option ℕ) (p : Plain) (c : Connection) (h : Handle) (r : Result Aim Reason) → IsReached hc p c → handle_at ho.number c.handles ≡ Some h → Looks get until p c h r → Gets (mqget hc ho get until p) hc.number get until p r
unfolding at_by
gets hc ho get until p c h (Ok aim) reached found l = record {
  step = get_is hc ho get until p c (Some h) reached.connected found ∙ l.step ∙ sym (ap (at_by get until aim p) reached.live);
  up = reached.up;
  live = subst (λ (o : Option Connection). IsSome o) (sym reached.live) refl;
  short = l.short;
}
gets hc ho get until p c h (Err reason) reached found l = get_is hc ho get until p c (Some h) reached.connected found ∙ l

-- what the record of expired rows needs
needs_are : (queue : List ℕ) (rows : List Row) → leaving_need (removes_of queue rows) ≡ expired_need rows
needs_are queue [] = refl
needs_are queue (row ∷ rows) = let long = length-map rows (λ (row : Row). let r : Remove = record { queue = queue; ident = row.message.ident } in r) in omega (arith, long)

pub short_mets : (queue : List ℕ) (rows : List Row) → expired_need (persistent_rows rows) < 2 ^ 32 → leaving_need (removes_met queue (map met_of rows)) < 2 ^ 32
short_mets queue rows short = let same = ap leaving_need (sym (removes_are queue rows)) ∙ needs_are queue (persistent_rows rows) in omega (arith, same, short)

pub get_refused : (hc : Hconn) (ho : Hobj) (get : Get) (until : Option ℕ) (p : Plain) (reason : Reason) → connected hc p ≡ Err reason → mqget hc ho get until p ≡ Refuse reason
unfolding connected_by
get_refused hc ho get until p reason e = ap (connected_by ho get until p) e
