-- Tests of a put in groups.
use Rattle.std.proofs.Common.{◌≡◌, ℕ, ◌≤◌, Bool, true, false, cond, List, [], ◌∷◌, ◌++◌, length, refl, ap, arith, sym, ◌∙◌}
use Rattle.std.specs.Prelude.{Option, Some, None, IsSome, nat_le, nat_lt}
use Rattle.std.proofs.lemmas.Bool.Decides.{nat_tests}
use Rattle.mq_calls.specs.Words.{Reason, Md, Message, Route, PathStep, LocalQueue, Plain, Test, Step, Refuse, Do, refusal, when, local_of, depth}
use Rattle.mq_calls.specs.declared.state.Connection.{Connection}
use Rattle.mq_calls.specs.declared.answers.Answer.{Answer}
use Rattle.mq_calls.specs.declared.answers.Sent.{Sent}
use Rattle.mq_calls.specs.Steps.{refused_or}
use Rattle.mq_codes.specs.declared.reason.Reason.TheVariants as reasons
use Rattle.mq_spec_manager.specs.Words.{put_route, put_step, new_message, log_full, queue_at, max_depth, put_part, sent_answer, is_high}
use Rattle.mq_mqi.specs.Puts.{options_tests, definitions_tests, counts_tests, letter_message, letter_step}
use Rattle.mq_mqi.specs.declared.drafts.Letter.{Letter}

pub stopped_at_first : (xs ys : List (Test Reason)) (r : Reason) → refusal xs ≡ Some r → refusal (xs ++ ys) ≡ Some r
stopped_at_first [] ys r e = absurd cc
stopped_at_first (x ∷ xs) ys r e = by x.applies e (stopped_at_first xs ys r)
  where
    by : (b : Bool) → cond b (Some x.reason) (refusal xs) ≡ Some r → (refusal xs ≡ Some r → refusal (xs ++ ys) ≡ Some r) → cond b (Some x.reason) (refusal (xs ++ ys)) ≡ Some r
    by true e rest = e
    by false e rest = rest e

pub passed_first : (xs ys : List (Test Reason)) → refusal xs ≡ None → refusal (xs ++ ys) ≡ refusal ys
passed_first [] ys e = refl
passed_first (x ∷ xs) ys e = by x.applies e (passed_first xs ys)
  where
    by : (b : Bool) → cond b (Some x.reason) (refusal xs) ≡ None → (refusal xs ≡ None → refusal (xs ++ ys) ≡ refusal ys) → cond b (Some x.reason) (refusal (xs ++ ys)) ≡ refusal ys
    by true e rest = absurd cc
    by false e rest = rest e

-- the step of a put, by what its tests come to
module _ (c : Connection) (route : Route) (md : Md) (body : List ℕ) (sync : Bool) (p : Plain) where
  message : Message
  message = new_message c route md body p

  options : List (Test Reason)
  options = options_tests md

  definitions : List (Test Reason)
  definitions = definitions_tests route.path (queue_at route.end) (length body) p

  counts : List (Test Reason)
  counts = counts_tests c (queue_at route.end) sync p

  last : List (Test Reason)
  last = when (log_full sync c (new_message c route md body p) p) reasons.ResourceProblem ∷ []

  step_by : Option Reason → Step Reason (Answer Sent)
  step_by o = refused_or o (put_step c route md sync (new_message c route md body p))

  pub refused_1 : (r : Reason) → refusal (options_tests md) ≡ Some r → put_route c route md body sync p ≡ Refuse r
  unfolding step_by options definitions counts last
  refused_1 r e = ap step_by (stopped_at_first options (definitions ++ (counts ++ last)) r e)

  pub refused_2 : (r : Reason) → refusal (options_tests md) ≡ None → refusal (definitions_tests route.path (queue_at route.end) (length body) p) ≡ Some r → put_route c route md body sync p ≡ Refuse r
  unfolding step_by options definitions counts last
  refused_2 r e f = ap step_by (passed_first options (definitions ++ (counts ++ last)) e ∙ stopped_at_first definitions (counts ++ last) r f)

  pub refused_3 : (r : Reason) → refusal (options_tests md) ≡ None → refusal (definitions_tests route.path (queue_at route.end) (length body) p) ≡ None → refusal (counts_tests c (queue_at route.end) sync p) ≡ Some r → put_route c route md body sync p ≡ Refuse r
  unfolding step_by options definitions counts last
  refused_3 r e f k = ap step_by (passed_first options (definitions ++ (counts ++ last)) e ∙ passed_first definitions (counts ++ last) f ∙ stopped_at_first counts last r k)

  pub at_last : (b : Bool) → log_full sync c (new_message c route md body p) p ≡ b → refusal (options_tests md) ≡ None → refusal (definitions_tests route.path (queue_at route.end) (length body) p) ≡ None → refusal (counts_tests c (queue_at route.end) sync p) ≡ None
      → put_route c route md body sync p ≡ refused_or (cond b (Some reasons.ResourceProblem) None) (put_step c route md sync (new_message c route md body p))
  unfolding step_by options definitions counts last
  at_last b l e f k = ap step_by (passed_first options (definitions ++ (counts ++ last)) e ∙ passed_first definitions (counts ++ last) f ∙ passed_first counts last k ∙ ap (λ (b : Bool). cond b (Some reasons.ResourceProblem) None) l)

-- what follows where they pass
pub defined : (c : Connection) (queue : List ℕ) (sync : Bool) (p : Plain) → refusal (counts_tests c queue sync p) ≡ None → IsSome (local_of queue p.definitions)
defined c queue sync p e = by (local_of queue p.definitions) (full_passes _ _ e)
  where
    full_passes : (a b : Bool) → cond a (Some reasons.SyncpointLimitReached) (cond b (Some reasons.QueueFull) None) ≡ None → b ≡ false
    full_passes true b e = absurd cc
    full_passes false true e = absurd cc
    full_passes false false e = refl

    by : (o : Option LocalQueue) → nat_le (max_depth o) (depth queue p) ≡ false → IsSome o
    by None e = absurd (grind (arith, nat_tests, e))
    by (Some q) e = refl

pub short_enough : (path : List PathStep) (queue : List ℕ) (bytes : ℕ) (p : Plain) → refusal (definitions_tests path queue bytes p) ≡ None → bytes ≤ p.definitions.manager.max_message_length
short_enough path queue bytes p e = at_most (manager_passes _ _ _ e)
  where
    manager_passes : (a b d : Bool) → cond a (Some reasons.PutInhibited) (cond b (Some reasons.MessageTooBigForQueue) (cond d (Some reasons.MessageTooBigForQueueManager) None)) ≡ None → d ≡ false
    manager_passes true b d e = absurd cc
    manager_passes false true d e = absurd cc
    manager_passes false false true e = absurd cc
    manager_passes false false false e = refl

    at_most : nat_lt p.definitions.manager.max_message_length bytes ≡ false → bytes ≤ p.definitions.manager.max_message_length
    at_most e = grind (arith, nat_tests, e)

-- no refusal applies
step_of : Connection → Route → Md → Bool → List ℕ → Message → Step Reason (Answer Sent)
step_of c route md sync queue m = Do (sent_answer (is_high md.priority) m) (put_part sync c queue m ∷ [])

pub posted_as : (c : Connection) (route : Route) (md : Md) (body : List ℕ) (sync : Bool) (p : Plain) (l : Letter) → letter_message l body ≡ new_message c route md body p → l.queue ≡ queue_at route.end
    → log_full sync c (letter_message l body) p ≡ false → refusal (options_tests md) ≡ None → refusal (definitions_tests route.path l.queue (length body) p) ≡ None → refusal (counts_tests c l.queue sync p) ≡ None
    → put_route c route md body sync p ≡ letter_step l (is_high md.priority) sync body c
unfolding step_of
posted_as c route md body sync p l m q full options definitions counts =
    at_last c route md body sync p false (ap (λ (m : Message). log_full sync c m p) (sym m) ∙ full) options
    (ap (λ (q : List ℕ). refusal (definitions_tests route.path q (length body) p)) (sym q) ∙ definitions) (ap (λ (q : List ℕ). refusal (counts_tests c q sync p)) (sym q) ∙ counts)
    ∙ ap (step_of c route md sync (queue_at route.end)) (sym m) ∙ ap (λ (q : List ℕ). step_of c route md sync q (letter_message l body)) (sym q)
