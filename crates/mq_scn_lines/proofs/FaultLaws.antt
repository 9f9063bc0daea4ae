-- What two parts of a line say, where memory may have run out.
use Rattle.std.proofs.Common.{◌≡◌, ℕ, ◌≤◌, Bool, true, false, refl, sym, ap, ◌∙◌, arith}
use Rattle.std.specs.Prelude.{Result, Ok, Err, nat_le}
use Rattle.std.proofs.lemmas.Bool.Decides.{nat_tests}
use Rattle.mq_scn_lines.specs.declared.fault.Limit.{Limit}
use Rattle.mq_scn_lines.specs.declared.fault.Limit.TheVariants as limits
use Rattle.mq_scn_lines.specs.declared.fault.LineFault.{LineFault}
use Rattle.mq_scn_lines.specs.declared.fault.LineFault.TheVariants as faults
use Rattle.mq_scn_lines.specs.Faults.{limit_rank, rank, earlier, both, Fails, Reads}

abbrev is_memory : LineFault → Bool
is_memory faults.NoMemory = true
is_memory _ = false

fails_err : {A : Type 0} (f : LineFault) (read : Result A LineFault) → is_memory f ≡ false → Fails f read → read ≡ Err f
fails_err faults.NoMemory read e h = absurd cc
fails_err faults.Form read e h = h
fails_err (faults.Limit limit) read e h = h
fails_err faults.Name read e h = h
fails_err faults.Unknown read e h = h
fails_err faults.Twice read e h = h
fails_err faults.Number read e h = h
fails_err faults.Order read e h = h
fails_err (faults.Mqsc fault) read e h = h

err_fails : {A : Type 0} (f : LineFault) (read : Result A LineFault) → read ≡ Err f → Fails f read
err_fails faults.NoMemory read h = tt
err_fails faults.Form read h = h
err_fails (faults.Limit limit) read h = h
err_fails faults.Name read h = h
err_fails faults.Unknown read h = h
err_fails faults.Twice read h = h
err_fails faults.Number read h = h
err_fails faults.Order read h = h
err_fails (faults.Mqsc fault) read h = h

memory_fails : {A : Type 0} (f : LineFault) (read : Result A LineFault) → is_memory f ≡ true → Fails f read
memory_fails faults.NoMemory read e = tt
memory_fails faults.Form read e = absurd cc
memory_fails (faults.Limit limit) read e = absurd cc
memory_fails faults.Name read e = absurd cc
memory_fails faults.Unknown read e = absurd cc
memory_fails faults.Twice read e = absurd cc
memory_fails faults.Number read e = absurd cc
memory_fails faults.Order read e = absurd cc
memory_fails (faults.Mqsc fault) read e = absurd cc

-- what is read is read
pub reads_same : {A : Type 0} (r : Result A LineFault) → Reads r r
reads_same (Ok x) = refl
reads_same (Err f) = err_fails f (Err f) refl

least : (n : ℕ) → nat_le 0 n ≡ true
least n = grind (arith, nat_tests)

limit_some : (limit : Limit) → nat_le (limit_rank limit) 0 ≡ false
limit_some limits.Lines = refl
limit_some limits.Managers = refl
limit_some limits.Cables = refl
limit_some limits.Scripts = refl
limit_some limits.Sections = refl
limit_some limits.Monitors = refl
limit_some limits.Steps = refl
limit_some limits.ScriptLines = refl
limit_some limits.Bodies = refl
limit_some limits.Body = refl
limit_some limits.Turns = refl
limit_some limits.Clock = refl
limit_some limits.LogMax = refl

-- want of memory is told before all else
memory_first : (f g : LineFault) → is_memory f ≡ true → is_memory (earlier f g) ≡ true
memory_first faults.NoMemory g e = rw (least (rank g)) refl
memory_first faults.Form g e = absurd cc
memory_first (faults.Limit limit) g e = absurd cc
memory_first faults.Name g e = absurd cc
memory_first faults.Unknown g e = absurd cc
memory_first faults.Twice g e = absurd cc
memory_first faults.Number g e = absurd cc
memory_first faults.Order g e = absurd cc
memory_first (faults.Mqsc fault) g e = absurd cc

memory_second : (f g : LineFault) → is_memory f ≡ false → is_memory g ≡ true → is_memory (earlier f g) ≡ true
memory_second f faults.Form e k = absurd cc
memory_second f (faults.Limit limit) e k = absurd cc
memory_second f faults.Name e k = absurd cc
memory_second f faults.Unknown e k = absurd cc
memory_second f faults.Twice e k = absurd cc
memory_second f faults.Number e k = absurd cc
memory_second f faults.Order e k = absurd cc
memory_second f (faults.Mqsc fault) e k = absurd cc
memory_second faults.NoMemory faults.NoMemory e k = absurd cc
memory_second faults.Form faults.NoMemory e k = refl
memory_second (faults.Limit limit) faults.NoMemory e k = rw (limit_some limit) refl
memory_second faults.Name faults.NoMemory e k = refl
memory_second faults.Unknown faults.NoMemory e k = refl
memory_second faults.Twice faults.NoMemory e k = refl
memory_second faults.Number faults.NoMemory e k = refl
memory_second faults.Order faults.NoMemory e k = refl
memory_second (faults.Mqsc fault) faults.NoMemory e k = refl

second_fails : {A B : Type 0} (a : A) (g : LineFault) (x : Result A LineFault) (y : Result B LineFault) (t : Bool) → is_memory g ≡ t → x ≡ Ok a → Fails g y → Fails g (both x y)
second_fails a g x y true e h k = memory_fails g (both x y) e
second_fails a g x y false e h k = err_fails g (both x y) (rw (h, fails_err g y e k) refl)

first_fails : {A B : Type 0} (b : B) (f : LineFault) (x : Result A LineFault) (y : Result B LineFault) (t : Bool) → is_memory f ≡ t → Fails f x → y ≡ Ok b → Fails f (both x y)
first_fails b f x y true e h k = memory_fails f (both x y) e
first_fails b f x y false e h k = err_fails f (both x y) (rw (fails_err f x e h, k) refl)

both_fail : {A B : Type 0} (f g : LineFault) (x : Result A LineFault) (y : Result B LineFault) (t u : Bool) → is_memory f ≡ t → is_memory g ≡ u → Fails f x → Fails g y → Fails (earlier f g) (both x y)
both_fail f g x y true u e d h k = memory_fails (earlier f g) (both x y) (memory_first f g e)
both_fail f g x y false true e d h k = memory_fails (earlier f g) (both x y) (memory_second f g e d)
both_fail f g x y false false e d h k = err_fails (earlier f g) (both x y) (rw (fails_err f x e h, fails_err g y d k) refl)

-- what two readers answer of two parts is what reading both gives
pub reads_both : {A B : Type 0} (r : Result A LineFault) (s : Result B LineFault) (x : Result A LineFault) (y : Result B LineFault) → Reads r x → Reads s y → Reads (both r s) (both x y)
reads_both (Ok a) (Ok b) x y h k = rw (h, k) refl
reads_both (Ok a) (Err g) x y h k = second_fails a g x y (is_memory g) refl h k
reads_both (Err f) (Ok b) x y h k = first_fails b f x y (is_memory f) refl h k
reads_both (Err f) (Err g) x y h k = both_fail f g x y (is_memory f) (is_memory g) refl refl h k
