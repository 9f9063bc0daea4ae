use Rattle.std.proofs.Common.{◌≡◌, ◌-◌, ◌+◌, ℕ, List, [], length, take, vec_len, refl, sym, ◌∙◌, ap, subst, arith}
use Rattle.std.proofs.lemmas.List.{length-take}
use Rattle.mq_log.specs.Bodies.{IsLog}
use Rattle.mq_log.proofs.Scanned.{framed_by}
use Rattle.mq_log.proofs.Logs.{read_log, read_bad}
use Rattle.mq_log.proofs.Opened.{front_cut}
use Rattle.mq_log.proofs.open.read_log.Goals as goal

pub reading-init : goal.reading-init
reading-init g c =
    let none : c.with_room-bytes.result.items ≡ [] = c.with_room-bytes.ensures.items in
    record {
      front = framed_by [] 0 c.with_room-bytes.result.items tt refl;
      at = omega arith;
      left = omega (arith, ap length none);
      read = λ t. none ∙ sym (ap (λ (l : List ℕ). take (length l) (g.D.Disk.seen c.args.disk.now.inner)) none);
      size = c.requires.size;
      passes = c.requires.passes;
      armed = refl;
      seen = λ t. refl;
      crash = λ t c' left. left;
      later = omega arith;
    }

pub returns-in-Closed-clause-read : goal.returns-in-Closed-clause-read
returns-in-Closed-clause-read g c t =
    let seen = g.D.Disk.seen c.args.disk.now.inner in
    let d = c.deref.result.now in
    let read : c.read_more.new.bytes.items ≡ take (length c.read_more.new.bytes.items) seen =
    c.in_ok-read_more.ensures.read t (c.reading.invariant.read t) ∙ ap (λ (l : List ℕ). take (length c.read_more.new.bytes.items) l) (c.reading.invariant.seen t) in
    let is : d ≡ take (length d) seen = subst (λ (l : List ℕ). l ≡ take (length l) seen) (sym c.deref.ensures.value) read in
    let found = c.in-Closed.ensures in
    let cut : c.truncate.new.self.items ≡ take (c.in-Closed.end + 1) d = c.truncate.ensures.items ∙ ap (λ (l : List ℕ). take (c.in-Closed.end + 1) l) (sym c.deref.ensures.value) in
    let last : vec_len c.truncate.new.self - 1 ≡ c.in-Closed.end = omega (arith, c.truncate.new.self.ok, ap length cut, length-take (c.in-Closed.end + 1) d, found.0) in
    subst (λ (bs : List (List ℕ)). IsLog seen bs) (sym (front_cut c.in-Closed.end (vec_len c.truncate.new.self - 1) c.truncate.new.self.items d cut last))
    (read_log seen d is c.in-Closed.end found.0 found.1 found.2)

pub returns-in-Bad-clause-bad : goal.returns-in-Bad-clause-bad
returns-in-Bad-clause-bad g c t =
    let seen = g.D.Disk.seen c.args.disk.now.inner in
    let d = c.deref.result.now in
    let read : c.read_more.new.bytes.items ≡ take (length c.read_more.new.bytes.items) seen =
    c.in_ok-read_more.ensures.read t (c.reading.invariant.read t) ∙ ap (λ (l : List ℕ). take (length c.read_more.new.bytes.items) l) (c.reading.invariant.seen t) in
    let is : d ≡ take (length d) seen = subst (λ (l : List ℕ). l ≡ take (length l) seen) (sym c.deref.ensures.value) read in
    let found = c.in-Bad.ensures in
    let size : c.args.size ≡ length seen = c.requires.size ∙ g.met.D.Disk.size_is c.args.disk.now.inner t in
    read_bad seen d is c.in-Bad.place found.0 found.1 c.args.size size c.requires.some found.2
