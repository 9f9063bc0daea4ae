-- A letter that can be posted: its step by its message, and that its record can be kept.
use Rattle.std.proofs.Common.{◌≡◌, ℕ, ◌-◌, ◌<◌, ◌≤◌, ◌^◌, Bool, true, false, List, length, ap, arith, sym, subst, ◌∙◌}
use Rattle.std.specs.Prelude.{ℤ, pos, negsuc, Some, IfSome}
use Rattle.std.proofs.lemmas.Bool.Decides.{nat_tests}
use Rattle.mq_calls.specs.Words.{Message, Plain, connection_at, is_int, is_persistent}
use Rattle.mq_calls.specs.declared.state.Connection.{Connection}
use Rattle.mq_spec_manager.specs.Words.{for_connection, live_or}
use Rattle.mq_core.specs.from_record.Records.{CanBeKept}
use Rattle.mq_mqi.specs.declared.drafts.Letter.{Letter}
use Rattle.mq_core.specs.Calls.{at_number}
use Rattle.mq_core.specs.Calls.{now_step, unit_step}
use Rattle.mq_mqi.specs.Puts.{letter_at, letter_step, letter_message, CanPost}

pub letter_now : (number : ℕ) (l : Letter) (high sync : Bool) (body : List ℕ) (p : Plain) (c : Connection) (m : Message) → connection_at number p.connections ≡ Some c → sync ≡ false → m ≡ letter_message l body → letter_at number l high sync body p ≡ now_step high l.queue m
letter_now number l high sync body p c m e s is =
    ap (λ o. for_connection (live_or o) (letter_step l high sync body)) e ∙ ap (λ (b : Bool). letter_step l high b body c) s ∙ ap (λ (k : Message). now_step high l.queue k) (sym is)

pub letter_unit : (number : ℕ) (l : Letter) (high sync : Bool) (body : List ℕ) (p : Plain) (m : Message) → sync ≡ true → m ≡ letter_message l body → letter_at number l high sync body p ≡ unit_step number high l.queue m p
letter_unit number l high sync body p m s is =
    ap (λ (b : Bool). at_number number p (letter_step l high b body)) s ∙ ap (λ (k : Message). unit_step number high l.queue k p) (sym is)

int_one : (z : ℤ) → is_int 1 z ≡ true → z ≡ pos 1
int_one (pos n) e = ap pos (grind (arith, nat_tests, e))
int_one (negsuc n) e = absurd cc

pub kept_letter : (l : Letter) (sync : Bool) (body : List ℕ) (c : Connection) (p : Plain) (m : Message) → CanPost l sync body c p → p.definitions.manager.max_message_length ≤ 4194304 → m ≡ letter_message l body → is_persistent m ≡ true → CanBeKept m
kept_letter l sync body c p m can limit is persistent = record {
  words = record {
    deadline = subst (λ (k : Message). IfSome k.deadline (λ (d : ℕ). d < 2 ^ 64 - 1)) (sym is) can.deadline;
    body = let size = ap (λ (k : Message). length k.body) is in omega (arith, size, can.short, limit);
  };
  persistent = int_one m.md.persistence persistent;
}
