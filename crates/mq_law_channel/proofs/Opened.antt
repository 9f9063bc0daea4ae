-- A channel begins with the facts.
use Rattle.std.proofs.Common.{ℕ, ◌≡◌, ◌<◌, ◌≤◌, true, false, List, refl, ap, subst, arith, inl, inr}
use Rattle.std.specs.Prelude.{Option, Some, None, ◌==◌, max, is_some, if◌then◌else◌}
use Rattle.std.specs.Option.{option_map}
use Rattle.std.proofs.lemmas.Bool.Decides.{nat_tests}
use Rattle.mq_sync.specs.declared.unit.Unit.{Unit as Luw}
use Rattle.mq_sync.specs.declared.data.InDoubt.{InDoubt}
use Rattle.mq_sync.specs.declared.data.SenderData.{SenderData}
use Rattle.mq_sync.specs.declared.data.ReceiverData.{ReceiverData}
use Rattle.mq_sync.specs.Units.{unit_named, Upto}
use Rattle.mq_law_channel.specs.Facts.{Letter, now}
use Rattle.mq_law_channel.specs.Channel.{Channel, Past, Facts}
use Rattle.mq_law_channel.specs.Opening.{opened, Belong, number_in, doubt_unit, doubt_number, past_opened}
use Rattle.mq_law_channel.proofs.Told.{bool_case, nat_yes}

-- a unit of a session up to this one is up to the greatest number of it
pub upto_number : (x n : ℕ) (u : Luw) → u.session ≤ x → number_in x u ≤ n → Upto u (unit_named x n)
upto_number x n u le up = bool_case (u.session == x) (λ b. (if b then u.n else 0) ≤ n → Upto u (unit_named x n))
    (λ e z. inr (nat_yes u.session x e, z))
    (λ e z. inl (below u.session x le e)) up
  where
    below : (a b : ℕ) → a ≤ b → (a == b) ≡ false → a < b
    below a b l e = grind (arith, nat_tests)

pub left_up : (a b : ℕ) → a ≤ max a b
left_up a b = omega arith

pub right_up : (a b : ℕ) → b ≤ max a b
right_up a b = omega arith

pub held_opened : (s : SenderData) (r : ReceiverData) (o : Option InDoubt) (u : Luw) → Belong s r → s.in_doubt ≡ o → option_map doubt_unit o ≡ Some u
    → (1 ≤ u.n) × Upto u (unit_named s.session (max (doubt_number s.session o) (number_in s.session r.unit))) × Upto r.unit u
held_opened s r None u b e z = absurd cc
held_opened s r (Some d) u b e z =
    let k = b.unit d e in
    let q : d.unit ≡ u = cc z in
    subst (λ (v : Luw). (1 ≤ v.n) × Upto v (unit_named s.session (max (number_in s.session d.unit) (number_in s.session r.unit))) × Upto r.unit v) q
    (k.0, upto_number s.session (max (number_in s.session d.unit) (number_in s.session r.unit)) d.unit k.1 (left_up (number_in s.session d.unit) (number_in s.session r.unit)), k.2)

pub doubted_opened : (o : Option InDoubt) (u : Luw) → option_map doubt_unit o ≡ Some u → is_some o ≡ true
doubted_opened None u e = absurd cc
doubted_opened (Some d) u e = refl

pub begins_facts : (s : SenderData) (r : ReceiverData) (letters : List Letter) → Belong s r → Facts (opened s r) (past_opened s r letters)
begins_facts s r letters b =
    let at_least : number_in s.session r.unit ≤ max (doubt_number s.session s.in_doubt) (number_in s.session r.unit) = right_up (doubt_number s.session s.in_doubt) (number_in s.session r.unit) in
    let low : r.unit.session ≤ s.session = omega (arith, b.last, b.sessions) in
    record {
      sound = record {
        sessions = b.sessions;
        binds = λ x last force m. absurd m;
        msgs = λ u i l m. absurd m;
        ends = λ u k last m. absurd m;
        fate = λ u k last m. absurd m;
        held = λ u e. held_opened s r s.in_doubt u b refl e;
        taken = λ u e f. absurd (cc (doubted_opened s.in_doubt u e, f));
        last = upto_number s.session (max (doubt_number s.session s.in_doubt) (number_in s.session r.unit)) r.unit low at_least;
        last_session = b.last;
        acks_owed = λ u e. absurd cc;
        acks = λ u m. absurd m;
        errs_owed = λ u e. absurd cc;
        errs = λ u m. absurd m;
        status_owed = λ x u last e. absurd cc;
        status = λ x u last m. absurd m;
        bound = λ e. absurd cc;
        kept = λ e. absurd cc;
      };
      tied = record {
        session = refl;
        in_doubt = λ d e. (ap (option_map doubt_unit) e, ap is_some e, refl);
        settled = λ e f. ap is_some e;
        forced = λ e. absurd cc;
        running = λ e. absurd cc;
        fits = λ u e. doubted_opened s.in_doubt u e;
        bound_session = refl;
        bound_unit = refl;
        bound_last = refl;
        came = λ e. absurd cc;
      };
    }

-- What a run leaves.
pub unit_low : (u v : Luw) → Upto u v → u.session ≤ v.session
unit_low u v (inl e) = omega (arith, e)
unit_low u v (inr e) = omega (arith, e.0)

pub belongs_again : (c : Channel) (p : Past) → Facts c p → Belong c.sends c.receives
belongs_again c p h = record {
  sessions = subst (λ (x : ℕ). c.receives.session ≤ x) h.tied.session h.sound.sessions;
  unit = λ d e.
      let k = h.sound.held d.unit (h.tied.in_doubt d e).0 in
      (k.0, subst (λ (x : ℕ). d.unit.session ≤ x) h.tied.session (unit_low d.unit (now p.near) k.1), k.2);
  last = h.sound.last_session;
}

pub begins_again : (c : Channel) (p : Past) (letters : List Letter) → Facts c p → Facts (opened c.sends c.receives) (past_opened c.sends c.receives letters)
begins_again c p letters h = begins_facts c.sends c.receives letters (belongs_again c p h)
