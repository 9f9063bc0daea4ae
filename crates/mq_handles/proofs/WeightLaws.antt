-- What handles add to counts, over all connections.
use Rattle.std.proofs.Common.{◌≡◌, ℕ, zero, suc, ◌+◌, Bool, true, false, cond, List, [], ◌∷◌, ◌++◌, refl, ap, arith, sym, ◌∙◌}
use Rattle.std.specs.Prelude.{Some, ◌||◌, nat_lt, slice_get, slice_set, map}
use Rattle.std.specs.List.{list_any, remove}
use Rattle.std.proofs.lemmas.Bool.Decides.{nat_tests}
use Rattle.std.specs.Prelude.{◌&&◌}
use Rattle.std.specs.Str.{bytes_eq}
use Rattle.mq_calls.specs.declared.answers.Input.TheVariants as inputs
use Rattle.mq_calls.specs.from_resolve.PathStepVariants as steps
use Rattle.mq_calls.specs.from_resolve.RouteEndVariants as ends
use Rattle.mq_calls.specs.Words.{RouteEnd, PathStep, any_handle, is_step, has_step, is_input, is_exclusive, leads_to}
use Rattle.mq_calls.specs.declared.state.Handle.{Handle}
use Rattle.mq_calls.specs.declared.state.Connection.{Connection}
use Rattle.mq_calls.specs.declared.answers.Input.{Input}
use Rattle.mq_handles.specs.Users.{reads_from, reads_alone_from, reader_weight, key_weight, path_weight, handle_weight, weight_of, weight_in}
use Rattle.mq_handles.specs.Users.Key.{Reader, Alone, OnPath}

-- ---- some handle passes a test where the sum of its weights is above 0

positive : (b : Bool) (m n : ℕ) (c : Bool) → b ≡ nat_lt 0 m → c ≡ nat_lt 0 n → b || c ≡ nat_lt 0 (m + n)
positive true m n c e g = grind (arith, nat_tests, e)
positive false m n c e g =
    let none : m ≡ 0 = grind (arith, nat_tests, e) in
    let same : n ≡ m + n = omega (arith, none) in
    g ∙ ap (nat_lt 0) same

pub any_weight_of : (test : Handle → Bool) (f : Handle → ℕ) → ((h : Handle) → test h ≡ nat_lt 0 (f h)) → (hs : List Handle) → list_any test hs ≡ nat_lt 0 (weight_of f hs)
any_weight_of test f same [] = refl
any_weight_of test f same (h ∷ hs) = positive (test h) (f h) (weight_of f hs) (list_any test hs) (same h) (any_weight_of test f same hs)

pub any_weight_in : (test : Handle → Bool) (f : Handle → ℕ) → ((h : Handle) → test h ≡ nat_lt 0 (f h)) → (cs : List Connection) → any_handle test cs ≡ nat_lt 0 (weight_in f cs)
any_weight_in test f same [] = refl
any_weight_in test f same (c ∷ cs) = positive (list_any test c.handles) (weight_of f c.handles) (weight_in f cs) (any_handle test cs) (any_weight_of test f same c.handles) (any_weight_in test f same cs)

zero_cond : (b : Bool) → cond {A = ℕ} b 0 0 ≡ 0
zero_cond true = refl
zero_cond false = refl

no_reader : (name : List ℕ) (path : List PathStep) → path_weight path (Reader name) ≡ 0
no_reader name [] = refl
no_reader name (steps.Queue other ∷ path) = omega (arith, no_reader name path, zero_cond (bytes_eq name other))
no_reader name (steps.DefXmitq ∷ path) = omega (arith, no_reader name path)

no_alone : (name : List ℕ) (path : List PathStep) → path_weight path (Alone name) ≡ 0
no_alone name [] = refl
no_alone name (steps.Queue other ∷ path) = omega (arith, no_alone name path, zero_cond (bytes_eq name other))
no_alone name (steps.DefXmitq ∷ path) = omega (arith, no_alone name path)

-- a flag as a number
flagged : (b : Bool) (n : ℕ) → n ≡ 0 → b ≡ nat_lt 0 (cond b 1 0 + n)
flagged true n e = ap (λ k. nat_lt 0 (1 + k)) (sym e)
flagged false n e = ap (λ k. nat_lt 0 (0 + k)) (sym e)

unflagged : (b : Bool) (n : ℕ) → n ≡ 0 → false ≡ nat_lt 0 (cond b 0 0 + n)
unflagged true n e = ap (λ k. nat_lt 0 (0 + k)) (sym e)
unflagged false n e = ap (λ k. nat_lt 0 (0 + k)) (sym e)

reader_positive : (name : List ℕ) (input : Input) (end : RouteEnd) (n : ℕ) → n ≡ 0 → is_input input && leads_to name end ≡ nat_lt 0 (reader_weight input end (Reader name) + n)
reader_positive name inputs.No (ends.Local queue) n e = unflagged (bytes_eq name queue) n e
reader_positive name inputs.Shared (ends.Local queue) n e = flagged (bytes_eq name queue) n e
reader_positive name inputs.Exclusive (ends.Local queue) n e = flagged (bytes_eq name queue) n e
reader_positive name inputs.No (ends.Via xq rq rqm) n e = ap (λ k. nat_lt 0 (0 + k)) (sym e)
reader_positive name inputs.Shared (ends.Via xq rq rqm) n e = ap (λ k. nat_lt 0 (0 + k)) (sym e)
reader_positive name inputs.Exclusive (ends.Via xq rq rqm) n e = ap (λ k. nat_lt 0 (0 + k)) (sym e)

alone_positive : (name : List ℕ) (input : Input) (end : RouteEnd) (n : ℕ) → n ≡ 0 → is_exclusive input && leads_to name end ≡ nat_lt 0 (reader_weight input end (Alone name) + n)
alone_positive name inputs.No (ends.Local queue) n e = unflagged (bytes_eq name queue) n e
alone_positive name inputs.Shared (ends.Local queue) n e = unflagged (bytes_eq name queue) n e
alone_positive name inputs.Exclusive (ends.Local queue) n e = flagged (bytes_eq name queue) n e
alone_positive name inputs.No (ends.Via xq rq rqm) n e = ap (λ k. nat_lt 0 (0 + k)) (sym e)
alone_positive name inputs.Shared (ends.Via xq rq rqm) n e = ap (λ k. nat_lt 0 (0 + k)) (sym e)
alone_positive name inputs.Exclusive (ends.Via xq rq rqm) n e = ap (λ k. nat_lt 0 (0 + k)) (sym e)

bare : (b : Bool) → b ≡ nat_lt 0 (cond b 1 0)
bare true = refl
bare false = refl

step_positive : (step other : PathStep) → is_step step other ≡ nat_lt 0 (key_weight (OnPath step) other)
step_positive (steps.Queue a) (steps.Queue b) = bare (bytes_eq a b)
step_positive (steps.Queue a) steps.DefXmitq = refl
step_positive steps.DefXmitq (steps.Queue b) = refl
step_positive steps.DefXmitq steps.DefXmitq = refl

steps_positive : (step : PathStep) (path : List PathStep) → list_any (is_step step) path ≡ nat_lt 0 (path_weight path (OnPath step))
steps_positive step [] = refl
steps_positive step (other ∷ path) = positive (is_step step other) (key_weight (OnPath step) other) (path_weight path (OnPath step)) (list_any (is_step step) path) (step_positive step other) (steps_positive step path)

no_reader_over : (step : PathStep) (input : Input) (end : RouteEnd) → reader_weight input end (OnPath step) ≡ 0
no_reader_over (steps.Queue a) inputs.No (ends.Local queue) = zero_cond (bytes_eq a queue)
no_reader_over (steps.Queue a) inputs.Shared (ends.Local queue) = zero_cond (bytes_eq a queue)
no_reader_over (steps.Queue a) inputs.Exclusive (ends.Local queue) = zero_cond (bytes_eq a queue)
no_reader_over steps.DefXmitq input (ends.Local queue) = refl
no_reader_over (steps.Queue a) input (ends.Via xq rq rqm) = refl
no_reader_over steps.DefXmitq input (ends.Via xq rq rqm) = refl

behind : (step : PathStep) (input : Input) (end : RouteEnd) (n : ℕ) → n ≡ reader_weight input end (OnPath step) + n
behind step input end n = let none = no_reader_over step input end in omega (arith, none)

pub is_read : (name : List ℕ) (cs : List Connection) → any_handle (reads_from name) cs ≡ nat_lt 0 (weight_in (handle_weight (Reader name)) cs)
is_read name cs = any_weight_in (reads_from name) (handle_weight (Reader name)) (λ h. reader_positive name h.how.input h.leads (path_weight h.path (Reader name)) (no_reader name h.path)) cs

pub is_read_alone : (name : List ℕ) (cs : List Connection) → any_handle (reads_alone_from name) cs ≡ nat_lt 0 (weight_in (handle_weight (Alone name)) cs)
is_read_alone name cs = any_weight_in (reads_alone_from name) (handle_weight (Alone name)) (λ h. alone_positive name h.how.input h.leads (path_weight h.path (Alone name)) (no_alone name h.path)) cs

pub is_over : (step : PathStep) (cs : List Connection) → any_handle (has_step step) cs ≡ nat_lt 0 (weight_in (handle_weight (OnPath step)) cs)
is_over step cs = any_weight_in (has_step step) (handle_weight (OnPath step)) (λ h. steps_positive step h.path ∙ ap (nat_lt 0) (behind step h.how.input h.leads (path_weight h.path (OnPath step)))) cs

-- ---- changes of one connection's handles

pub weight_more : (f : Handle → ℕ) (h : Handle) (hs : List Handle) → weight_of f (hs ++ h ∷ []) ≡ weight_of f hs + f h
weight_more f h [] = omega arith
weight_more f h (x ∷ xs) = omega (arith, weight_more f h xs)

pub weight_less : (f : Handle → ℕ) (hs : List Handle) (at : ℕ) (h : Handle) → slice_get hs at ≡ Some h → weight_of f hs ≡ weight_of f (remove hs at) + f h
weight_less f [] at h e = absurd cc
weight_less f (x ∷ xs) zero h e = grind (arith)
weight_less f (x ∷ xs) (suc at) h e = grind (arith, weight_less f xs at h)

pub weight_set : (f : Handle → ℕ) (cs : List Connection) (at : ℕ) (old new : Connection) → slice_get cs at ≡ Some old → weight_in f (slice_set cs at new) + weight_of f old.handles ≡ weight_in f cs + weight_of f new.handles
weight_set f [] at old new e = absurd cc
weight_set f (c ∷ cs) zero old new e = grind (arith)
weight_set f (c ∷ cs) (suc at) old new e = grind (arith, weight_set f cs at old new)

pub weight_out : (f : Handle → ℕ) (cs : List Connection) (at : ℕ) (old : Connection) → slice_get cs at ≡ Some old → weight_in f cs ≡ weight_in f (remove cs at) + weight_of f old.handles
weight_out f [] at old e = absurd cc
weight_out f (c ∷ cs) zero old e = grind (arith)
weight_out f (c ∷ cs) (suc at) old e = grind (arith, weight_out f cs at old)

pub weight_on : (f : Handle → ℕ) (c : Connection) (cs : List Connection) → c.handles ≡ [] → weight_in f (cs ++ c ∷ []) ≡ weight_in f cs
weight_on f c [] e = grind (arith)
weight_on f c (d ∷ ds) e = omega (arith, weight_on f c ds e)

-- a change of handles that leaves what they add
pub weight_map : (f : Handle → ℕ) (g : Handle → Handle) → ((h : Handle) → f (g h) ≡ f h) → (hs : List Handle) → weight_of f (map g hs) ≡ weight_of f hs
weight_map f g same [] = refl
weight_map f g same (h ∷ hs) = omega (arith, same h, weight_map f g same hs)

pub weight_map_in : (f : Handle → ℕ) (g : Connection → Connection) → ((c : Connection) → weight_of f (g c).handles ≡ weight_of f c.handles) → (cs : List Connection) → weight_in f (map g cs) ≡ weight_in f cs
weight_map_in f g same [] = refl
weight_map_in f g same (c ∷ cs) = omega (arith, same c, weight_map_in f g same cs)

pub weight_put : (f : Handle → ℕ) (hs : List Handle) (at : ℕ) (old new : Handle) → slice_get hs at ≡ Some old → f new ≡ f old → weight_of f (slice_set hs at new) ≡ weight_of f hs
weight_put f [] at old new e same = absurd cc
weight_put f (x ∷ xs) zero old new e same = grind (arith)
weight_put f (x ∷ xs) (suc at) old new e same = grind (arith, weight_put f xs at old new)
