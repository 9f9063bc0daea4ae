-- Connections, handles and puts keep what holds of a manager's rows.
use Rattle.std.proofs.Common.{ℕ, ◌≡◌, ◌+◌, Bool, true, false, List, [], ◌∷◌, refl, ap, sym, subst, ◌∙◌, arith}
use Rattle.std.specs.Prelude.{Option, Some, None, Result, Ok, Err, ◌==◌, ◌&&◌, ◌||◌, nat_lt}
use Rattle.std.proofs.lemmas.Bool.Decides.{nat_tests}
use Rattle.mq_codes.specs.declared.reason.Reason.{Reason}
use Rattle.mq_codes.specs.declared.reason.Reason.TheVariants as reasons
use Rattle.mq_message.specs.declared.message.Ident.{Ident}
use Rattle.mq_message.specs.declared.message.Md.{Md}
use Rattle.mq_message.specs.declared.message.Message.{Message}
use Rattle.mq_calls.specs.from_resolve.{Route}
use Rattle.mq_calls.specs.from_resolve.Resolved.{resolve}
use Rattle.mq_calls.specs.declared.answers.Hconn.{Hconn}
use Rattle.mq_calls.specs.declared.answers.Hobj.{Hobj}
use Rattle.mq_calls.specs.declared.answers.Open.{Open}
use Rattle.mq_calls.specs.declared.answers.Appl.{Appl}
use Rattle.mq_calls.specs.declared.records.LogRecord.{LogRecord}
use Rattle.mq_calls.specs.State.{Plain}
use Rattle.mq_calls.specs.declared.state.Connection.{Connection}
use Rattle.mq_calls.specs.declared.state.Handle.{Handle}
use Rattle.mq_calls.specs.declared.state.Item.TheVariants.{Put}
use Rattle.mq_calls.specs.State.Change.{CountIdent, Pend, OpenHandle, CloseHandle}
use Rattle.mq_calls.specs.Reads.{connection_at, handle_at}
use Rattle.mq_calls.specs.Changes.{apply, apply_all}
use Rattle.mq_calls.specs.Steps.{Step, when, logged, do_part, going_on, none_of}
use Rattle.mq_spec_manager.specs.Handles.{connected, for_handle, mqconn, mqopen, mqclose, close_up, close_handle, new_connection, conn_tests, open_tests, open_step, option_tests, new_handle, is_unfit}
use Rattle.mq_spec_manager.specs.Put.{mqput, mqput1, put_up, put_handle, put_route, put_part, put1_resolved, new_message, put_tests, put_step, queue_at, output_tests, handle_route, output_only, next_ident, placed, unit_record}
use Rattle.mq_spec_manager.specs.Agents.{is_unborn}
use Rattle.mq_law_manager.specs.View.{view}
use Rattle.mq_law_manager.specs.Facts.{Sound, Holds}
use Rattle.mq_law_manager.specs.Kept.{Keeps}
use Rattle.mq_law_manager.proofs.Apart.{IsNew}
use Rattle.mq_law_manager.proofs.SeenLaws.{applied, pended, connects}
use Rattle.mq_law_manager.proofs.Steps.{gives, pends_put}
use Rattle.mq_law_manager.proofs.Units.{sound_placed, sound_logged, is_live, for_live, tested_keeps}

-- The next ident

unborn_now : (i : Ident) (m n k : ℕ) → ((i.manager == m) && (nat_lt n i.incarnation || ((i.incarnation == n) && nat_lt k i.number))) ≡ false
    → ((i.manager == m) && (nat_lt n i.incarnation || ((i.incarnation == n) && nat_lt (k + 1) i.number))) ≡ false
unborn_now i m n k e = grind (arith, nat_tests)

pub count_more : (p : Plain) (i : Ident) → is_unborn i p ≡ false → is_unborn i (apply CountIdent p) ≡ false
count_more p i e = unborn_now i p.given.number p.numbers.incarnation p.numbers.idents e

unborn_next : (m n k : ℕ) → ((m == m) && (nat_lt n n || ((n == n) && nat_lt k (k + 1)))) ≡ true
unborn_next m n k = grind (arith, nat_tests)

pub next_unborn : (p : Plain) → is_unborn (next_ident p) p ≡ true
next_unborn p = unborn_next p.given.number p.numbers.incarnation p.numbers.idents

next_born : (m n k : ℕ) → ((m == m) && (nat_lt n n || ((n == n) && nat_lt (k + 1) (k + 1)))) ≡ false
next_born m n k = grind (arith, nat_tests)

pub next_new : (p : Plain) → Sound p → IsNew (next_ident p) (view p).rows (view p).puts (view (apply CountIdent p)).unborn
next_new p h =
    let unborn : is_unborn (next_ident p) p ≡ true = next_unborn p in
    record {
      given = next_born p.given.number p.numbers.incarnation p.numbers.idents;
      no_row = λ q x m e. cc (unborn, ap (λ (i : Ident). is_unborn i p) e, h.apart.given q x m);
      no_put = λ n a m e. cc (unborn, ap (λ (i : Ident). is_unborn i p) e, h.apart.put_given n a m);
    }

pub sound_counted : (p : Plain) → Sound p → Sound (apply CountIdent p)
sound_counted p h = subst Holds (sym (applied CountIdent p tt)) (gives (view p) (λ i. is_unborn i (apply CountIdent p)) h (count_more p))

-- the ident is given, and the message placed
pub sound_put : (queue : List ℕ) (m : Message) (p : Plain) → m.ident ≡ next_ident p → Sound p → Sound (apply_all (CountIdent ∷ placed queue m) p)
sound_put queue m p is h = sound_placed queue m (apply CountIdent p) (sound_counted p h) (subst (λ (i : Ident). IsNew i (view p).rows (view p).puts (view (apply CountIdent p)).unborn) (sym is) (next_new p h))

pub sound_pended : (n : ℕ) (c : Connection) (queue : List ℕ) (m : Message) (p : Plain) → m.ident ≡ next_ident p → connection_at n p.connections ≡ Some c → Sound p → Sound (apply_all (CountIdent ∷ Pend n (Put queue m) ∷ []) p)
sound_pended n c queue m p is live h =
    let q : Plain = apply CountIdent p in
    subst Holds (sym (pended n (Put queue m) q c live))
    (pends_put (view q) n queue m (sound_counted p h) (subst (λ (i : Ident). IsNew i (view p).rows (view p).puts (view q).unborn) (sym is) (next_new p h)))

pub put_keeps : (sync : Bool) (c : Connection) (queue : List ℕ) (m : Message) (p : Plain) → m.ident ≡ next_ident p → connection_at c.number p.connections ≡ Some c → Sound p → Sound (do_part (put_part sync c queue m) p)
put_keeps true c queue m p is live h = sound_pended c.number c queue m p is live h
put_keeps false c queue m p is live h = sound_put queue m (logged (unit_record queue m) p) (is ∙ same (unit_record queue m)) (sound_logged (unit_record queue m) p h)
  where
    same : (r : Option LogRecord) → next_ident p ≡ next_ident (logged r p)
    same None = refl
    same (Some r) = refl

pub put_route_keeps : (c : Connection) (route : Route) (md : Md) (body : List ℕ) (sync : Bool) (p : Plain) → connection_at c.number p.connections ≡ Some c → Sound p → Keeps (put_route c route md body sync p) p
put_route_keeps c route md body sync p live h = tested_keeps (put_tests c route md body sync (new_message c route md body p) p) (put_step c route md sync (new_message c route md body p)) p
    (λ e. (put_keeps sync c (queue_at route.end) (new_message c route md body p) p refl live h, tt))

pub for_open : {T : Type 0} (o : Option Handle) (f : Handle → Step Reason T) (p : Plain) → ((h : Handle) → o ≡ Some h → Keeps (f h) p) → Keeps (for_handle o f) p
for_open None f p k = tt
for_open (Some h) f p k = k h refl

pub mqput_keeps : (hc : Hconn) (ho : Hobj) (md : Md) (body : List ℕ) (sync : Bool) (p : Plain) → Sound p → Keeps (mqput hc ho md body sync p) p
mqput_keeps hc ho md body sync p h = for_live (connected hc p) (put_up ho md body sync p) p (λ c e. for_open (handle_at ho.number c.handles) (put_handle md body sync p c) p
    (λ x w. tested_keeps (output_tests x) (put_route c (handle_route x) md body sync p) p (λ z. put_route_keeps c (handle_route x) md body sync p (is_live hc c p e) h)))

put1_keeps : (r : Result Route Reason) (md : Md) (body : List ℕ) (sync : Bool) (p : Plain) (c : Connection) → connection_at c.number p.connections ≡ Some c → Sound p → Keeps (put1_resolved r md body sync p c) p
put1_keeps (Err reason) md body sync p c live h = tt
put1_keeps (Ok route) md body sync p c live h = tested_keeps (when (is_unfit output_only route.end p) reasons.OptionNotValidForType ∷ []) (put_route c route md body sync p) p (λ z. put_route_keeps c route md body sync p live h)

pub mqput1_keeps : (hc : Hconn) (name qmgr : List ℕ) (md : Md) (body : List ℕ) (sync : Bool) (p : Plain) → Sound p → Keeps (mqput1 hc name qmgr md body sync p) p
mqput1_keeps hc name qmgr md body sync p h = for_live (connected hc p) (put1_resolved (resolve p.definitions p.given.name name qmgr) md body sync p) p
    (λ c e. put1_keeps (resolve p.definitions p.given.name name qmgr) md body sync p c (is_live hc c p e) h)

-- Connections and handles

pub mqconn_keeps : (qmgr : List ℕ) (appl : Appl) (p : Plain) → Sound p → Keeps (mqconn qmgr appl p) p
mqconn_keeps qmgr appl p h = tested_keeps (conn_tests qmgr p) _ p (λ e. (subst Holds (sym (connects (new_connection appl p) p refl)) h, tt))

-- a call that goes on with what is found, or is refused
on_keeps : {A F T : Type 0} (r : Result A F) (rest : A → Step F T) (p : Plain) → ((x : A) → Keeps (rest x) p) → Keeps (going_on r rest) p
on_keeps (Err reason) rest p k = tt
on_keeps (Ok x) rest p k = k x

pub mqopen_keeps : (hc : Hconn) (name qmgr : List ℕ) (how : Open) (p : Plain) → Sound p → Keeps (mqopen hc name qmgr how p) p
mqopen_keeps hc name qmgr how p h = on_keeps (connected hc p) _ p (λ c. on_keeps (none_of (option_tests how)) _ p (λ u. on_keeps (resolve p.definitions p.given.name name qmgr) _ p
    (λ route. on_keeps (none_of (open_tests c how route p)) (λ fits. open_step c how route) p (λ w. (subst Holds (sym (applied (OpenHandle c.number (new_handle how route c)) p tt)) h, tt)))))

pub mqclose_keeps : (hc : Hconn) (ho : Hobj) (p : Plain) → Sound p → Keeps (mqclose hc ho p) p
mqclose_keeps hc ho p h = for_live (connected hc p) (close_up ho) p (λ c e. for_open (handle_at ho.number c.handles) (close_handle c) p (λ x w. (subst Holds (sym (applied (CloseHandle c.number x.number) p tt)) h, tt)))
