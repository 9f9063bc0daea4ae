use Rattle.std.proofs.Common.{◌≡◌, ℕ, ◌+◌, ◌≤◌, ap, subst, sym}
use Rattle.std.specs.Prelude.{IsTrue, ◌↔◌, ◌&&◌, not, nat_lt}
use Rattle.mq_log.specs.State.{LogState, log_length}
use Rattle.mq_core.specs.Views.{PartsValue, frozen_of}
use Rattle.mq_core.specs.Ties.{needs}
use Rattle.mq_core.proofs.MeetLaws.{mode_up}
use Rattle.mq_core.proofs.ReadLaws.{full_so}
use Rattle.mq_core.proofs.ForceLaws.{length_up}
use Rattle.mq_core.proofs.parts.Parts.is_full.Goals as goal

pub returns-then-bytes-gt0 : goal.returns-then-bytes-gt0
returns-then-bytes-gt0 g c =
    let x : PartsValue = c.args.self.now in
    let log = ap (λ (z : PartsValue). z.log) c.self.view_is in
    let up = mode_up (frozen_of x) x.mode c.requires.up in
    let reserved = c.requires.tied.reserved up in
    subst (λ (long : ℕ). not c.fits.result ≡ (nat_lt 0 c.args.bytes && nat_lt x.log.max (long + needs x.desk.live + c.args.bytes))) (sym (length_up x.mode up (log_length x.log.bodies)))
    (full_so c.args.bytes (log_length x.log.bodies) (needs x.desk.live) x.log.max c.fits.result c.if-bytes-gt0.true
    (subst (λ (n : ℕ). IsTrue c.fits.result ↔ (log_length x.log.bodies + n + c.args.bytes ≤ x.log.max)) reserved
    (subst (λ (l : LogState). IsTrue c.fits.result ↔ (log_length l.bodies + l.reserved + c.args.bytes ≤ l.max)) log c.fits.ensures)))
