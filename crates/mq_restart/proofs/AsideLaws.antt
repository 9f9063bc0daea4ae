-- Memory of a log that is set aside.
use Rattle.std.proofs.Common.{◌≡◌, ℕ, ◌+◌, ◌≤◌, ap, arith, sym, ◌∙◌}
use Rattle.mq_log.specs.State.{LogState}

pub same_roomed : (old new : LogState) → new ≡ record old { room = new.room } → new ≡ record old { room = new.room; spare = new.spare }
same_roomed old new e = e ∙ ap (λ (n : ℕ). let k : LogState = record old { room = new.room; spare = n } in k) (sym (ap (λ (l : LogState). l.spare) e))

aside_is : (need : ℕ) (old mid new : LogState) → mid ≡ record old { room = mid.room; spare = old.spare + need } → new ≡ record mid { room = new.room } → new.spare ≡ old.spare + need
aside_is need old mid new e f = ap (λ (l : LogState). l.spare) f ∙ ap (λ (l : LogState). l.spare) e

pub same_aside : (need : ℕ) (old mid new : LogState) → mid ≡ record old { room = mid.room; spare = old.spare + need } → new ≡ record mid { room = new.room } → new ≡ record old { room = new.room; spare = new.spare }
same_aside need old mid new e f =
    f
    ∙ ap (λ (l : LogState). let k : LogState = record l { room = new.room } in k) e
    ∙ ap (λ (n : ℕ). let k : LogState = record old { room = new.room; spare = n } in k) (sym (aside_is need old mid new e f))

pub is_aside : (need all : ℕ) (old mid new : LogState) → need ≡ all → mid ≡ record old { room = mid.room; spare = old.spare + need } → new ≡ record mid { room = new.room } → all ≤ new.spare
is_aside need all old mid new same e f = let s = aside_is need old mid new e f in omega (arith, s, same)
