use Rattle.std.proofs.Common.{◌≡◌, ◌-◌, ℕ, [], ◌∷◌, length, vec_len, ◌∙◌, ap, arith, rules, inl}
use Rattle.mq_log.specs.State.{front_bodies}
use Rattle.mq_log.proofs.Opened.{reads_fresh, sound_fresh}
use Rattle.mq_log.proofs.Framed.{bodies_of-closed}
use Rattle.mq_log.proofs.open.fresh_log.Goals as goal

pub returns-in_err-fresh-clause-images : goal.returns-in_err-fresh-clause-images
returns-in_err-fresh-clause-images g c t = reads_fresh _ _ _ (c.requires.settled t) (c.requires.short t) (c.fresh.ensures.images t)

pub returns-clause-sound : goal.returns-clause-sound
returns-clause-sound g c =
    let is : c.in_ok-bytes.bytes.items ≡ 0 ∷ [] = search rules in
    let last : vec_len c.in_ok-bytes.bytes - 1 ≡ 0 = omega (arith, ap length is, c.in_ok-bytes.bytes.ok) in
    sound_fresh _ _ _ _ _ _ _ is last (omega (arith, c.in_ok-fresh.ensures.size)) c.in_ok-fresh.ensures.ends.1 c.in_ok-fresh.ensures.written c.in_ok-fresh.ensures.durable

pub returns-clause-read : goal.returns-clause-read
returns-clause-read g c t =
    let is : c.in_ok-bytes.bytes.items ≡ 0 ∷ [] = search rules in
    let last : vec_len c.in_ok-bytes.bytes - 1 ≡ 0 = omega (arith, ap length is, c.in_ok-bytes.bytes.ok) in
    let none : front_bodies (vec_len c.in_ok-bytes.bytes - 1) c.in_ok-bytes.bytes.items ≡ [] =
    ap (λ (n : ℕ). front_bodies n c.in_ok-bytes.bytes.items) last ∙ bodies_of-closed [] 0 [] tt (omega arith) in
    inl (c.requires.short t, none)

pub returns-clause-images : goal.returns-clause-images
returns-clause-images g c t = reads_fresh _ _ _ (c.requires.settled t) (c.requires.short t) (c.fresh.ensures.images t)
