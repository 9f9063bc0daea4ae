-- What a channel's end hardens, under the condition of its call.
use Rattle.std.proofs.Common.{ℕ, ◌≡◌, ◌<◌, true, false, List, [], ◌∷◌, refl, ap, sym, ◌∙◌, arith}
use Rattle.std.specs.Prelude.{Option, Some, None, ◌==◌, ◌&&◌, ◌||◌, nat_lt, if◌then◌else◌}
use Rattle.std.specs.Option.{option_map}
use Rattle.std.specs.Str.{bytes_eq}
use Rattle.std.proofs.lemmas.Bool.Decides.{nat_tests}
use Rattle.mq_sync.specs.declared.unit.Unit.{Unit as Luw}
use Rattle.mq_sync.specs.declared.data.InDoubt.{InDoubt}
use Rattle.mq_sync.specs.declared.data.SenderData.{SenderData}
use Rattle.mq_sync.specs.Settlement.{sender_or, receiver_or}
use Rattle.mq_calls.specs.declared.agents.Note.{Note}
use Rattle.mq_calls.specs.declared.agents.Note.TheVariants as notes
use Rattle.mq_sync.specs.declared.data.End.TheVariants as ends
use Rattle.mq_calls.specs.State.{Plain}
use Rattle.mq_calls.specs.declared.state.Batch.{Batch}
use Rattle.mq_calls.specs.Reads.{batch_of, in_doubt_of, sender_data, receiver_data}
use Rattle.mq_calls.specs.Images.{has_batch}
use Rattle.mq_spec_log.specs.Applies.{is_unit_in_doubt}
use Rattle.mq_spec_manager.specs.Agents.{harden_part, unit_of, CanHarden}
use Rattle.mq_law_log.specs.Restarts.{IsHarmless}
use Rattle.mq_law_log.proofs.Rows.{bool_case}
use Rattle.mq_law_log.proofs.Harmless.{session_harmless, resolved_harmless, bound_harmless, closed_harmless, number_harmless, harmless}

less : (a b : ℕ) → a < b → nat_lt a b ≡ true
less a b lt = grind (arith, nat_tests)

same : (a b : ℕ) → a ≡ b → (a == b) ≡ true
same a b e = grind (arith, nat_tests)

pub none_held : (c : List ℕ) (bs : List Batch) → batch_of c bs ≡ None → has_batch c bs ≡ false
none_held c [] e = refl
none_held c (b ∷ bs) e = bool_case (bytes_eq c b.channel) (λ t. (if t then Some b else batch_of c bs) ≡ None → (t || has_batch c bs) ≡ false) (λ z w. absurd (cc w)) (λ z w. none_held c bs w) e

abbrev unit_or : Luw → Option Luw → Luw
unit_or u None = u
unit_or u (Some x) = x

both_same : (a b c d : ℕ) → a ≡ c → b ≡ d → ((a == c) && (b == d)) ≡ true
both_same a b c d e f = grind (arith, nat_tests)

unit_found : (unit : Luw) (o : Option InDoubt) → option_map unit_of o ≡ Some unit → is_unit_in_doubt unit o ≡ true
unit_found unit None e = absurd (cc e)
unit_found unit (Some d) e =
    let is : d.unit ≡ unit = ap (unit_or unit) e in
    both_same d.unit.session d.unit.n unit.session unit.n (ap (λ (u : Luw). u.session) is) (ap (λ (u : Luw). u.n) is)

pub sender_doubt : (o : Option SenderData) → in_doubt_of o ≡ (sender_or o).in_doubt
sender_doubt None = refl
sender_doubt (Some d) = refl

pub harden_harmless : (channel : List ℕ) (note : Note) (p : Plain) → CanHarden channel note p → IsHarmless (harden_part channel note p) p
harden_harmless channel (notes.Session partner session) p can = session_harmless channel partner session p (less (sender_or (sender_data channel p)).session session can)
harden_harmless channel (notes.Resolved unit commit operator) p can = resolved_harmless channel unit commit operator p (none_held channel p.channels.batches can.1)
    (ap (is_unit_in_doubt unit) (sym (sender_doubt (sender_data channel p))) ∙ unit_found unit (in_doubt_of (sender_data channel p)) can.0)
harden_harmless channel (notes.Bound partner session last) p can = bound_harmless channel partner session last p (less (receiver_or (receiver_data channel p)).session session can)
harden_harmless channel (notes.Closed session) p can = closed_harmless channel session p (less 0 session can.0) (same session (receiver_or (receiver_data channel p)).session can.1)
harden_harmless channel (notes.SeqSet ends.Sender last) p can = number_harmless channel ends.Sender last p can
harden_harmless channel (notes.SeqSet ends.Receiver last) p can = harmless (harden_part channel (notes.SeqSet ends.Receiver last) p) p (λ log. (refl, refl)) (λ running log moment. (refl, refl))
