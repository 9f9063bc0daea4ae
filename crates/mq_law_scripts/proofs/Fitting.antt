-- Tasks that ask no line fit; and what fits goes on fitting where a script does nothing.
use Rattle.std.specs.Prelude.{◌≡◌, ℕ, suc, Bool, true, false, List, [], ◌∷◌, ◌++◌, Option, Some, None, length, drop, take, slice_get, refl}
use Rattle.std.proofs.Common.{ap, sym, inl, inr, ◌∙◌}
use Rattle.mq_calls.specs.declared.answers.Answer.TheVariants as answers
use Rattle.mq_calls.specs.declared.answers.Hconn.{Hconn}
use Rattle.mq_history.specs.declared.calls.Actor.{Actor}
use Rattle.mq_history.specs.declared.calls.Call.{Call}
use Rattle.mq_history.specs.declared.calls.Entry.{Entry}
use Rattle.mq_history.specs.declared.calls.Reply.{Reply}
use Rattle.mq_history.specs.declared.calls.Reply.TheVariants as replies
use Rattle.mq_history.specs.declared.scenario.ManagerLine.{ManagerLine}
use Rattle.mq_history.specs.declared.scenario.MonitorLine.{MonitorLine}
use Rattle.mq_history.specs.declared.scenario.RulesPart.{RulesPart}
use Rattle.mq_history.specs.declared.scenario.Section.{Section}
use Rattle.mq_history.specs.declared.scenario.Scenario.{Scenario}
use Rattle.mq_history.specs.declared.scenario.ScriptPart.{ScriptPart}
use Rattle.mq_history.specs.declared.scenario.Step.{Step}
use Rattle.mq_history.specs.declared.scenario.Step.TheVariants as steps
use Rattle.mq_sc_parse.specs.declared.command.Command.{Command}
use Rattle.mq_spec_node.specs.Scripts.{until_of, line_call, fresh}
use Rattle.mq_spec_node.specs.Lines.{memory_after}
use Rattle.mq_spec_network.specs.Turns.{Network, does}
use Rattle.mq_spec_network.specs.Tasks.{Task, Trying, obey_all, obey_section, clocks_from, run_script, handle_with, watch_by, serve_by, try_one, try_all, finish, tasks_of, tasks_next, restarts_from}
use Rattle.mq_spec_network.specs.Tasks.Task.{Ask, Script, Lines, Phase, Pump, Handle, Serve, Watch, Open, Restart}
use Rattle.mq_spec_network.specs.Steps.{begun, opens, gives_up, once_more}
use Rattle.mq_law_scripts.specs.Fits.{AllTried, AllPlain, IsAwaited, Fits}
use Rattle.mq_law_scripts.proofs.Doing.{OfNone, none_more}

-- tasks that ask no line
pub plain_fits : (w : Network) (ts : List Task) → AllPlain w.scenario ts → Fits w ts
plain_fits w [] h = tt
plain_fits w (Ask m actor call ∷ ts) h = inl (h.0, plain_fits w ts h.1)
plain_fits w (Lines k p tried ls ∷ ts) h = absurd h.0
plain_fits w (Script k p tried most ∷ ts) h = h
plain_fits w (Phase tries ∷ ts) h = h
plain_fits w (Pump left slot cable any ∷ ts) h = h
plain_fits w (Handle k m left ∷ ts) h = h
plain_fits w (Serve k l left ∷ ts) h = h
plain_fits w (Watch k l ∷ ts) h = h
plain_fits w (Open k l hc ∷ ts) h = h
plain_fits w (Restart m ∷ ts) h = h

pub plain_append : (s : Scenario) (ts us : List Task) → AllPlain s ts → AllPlain s us → AllPlain s (ts ++ us)
plain_append s [] us h g = g
plain_append s (t ∷ ts) us h g = (h.0, plain_append s ts us h.1 g)

-- no script did anything
same_waited : (w : Network) (m : ℕ) (e : Entry) → OfNone e → (at : ℕ) (actor : Actor) (call : Call) (ts : List Task) → IsAwaited w at actor call ts → IsAwaited (does m (e ∷ []) w) at actor call ts
same_waited w m e none at actor call [] h = absurd h
same_waited w m e none at actor call (Lines k p tried ls ∷ ts) h = record {
  part = h.part;
  at = h.at;
  who = h.who;
  line = h.line;
  rest = h.rest;
  left = ap (λ (xs : List Entry). drop (length xs) p.lines) (none_more w m e none k p.manager) ∙ h.left;
  made = h.made ∙ ap (λ (xs : List Entry). line_call p.label (memory_after fresh p.lines xs) (until_of call) h.line) (sym (none_more w m e none k p.manager));
  due = h.due;
  some = h.some;
  behind = h.behind;
  plain = h.plain;
}
same_waited w m e none at actor call (t ∷ ts) h = absurd h

pub same_fits : (w : Network) (m : ℕ) (e : Entry) → OfNone e → (ts : List Task) → Fits w ts → Fits (does m (e ∷ []) w) ts
same_fits w m e none [] h = tt
same_fits w m e none (Ask at actor call ∷ ts) (inl h) = inl (h.0, same_fits w m e none ts h.1)
same_fits w m e none (Ask at actor call ∷ ts) (inr h) = inr (same_waited w m e none at actor call ts h)
same_fits w m e none (Lines k p tried ls ∷ ts) h = record {
  part = h.part;
  some = h.some;
  first = h.first ∙ ap (λ (xs : List Entry). take h.some (drop (length xs) p.lines)) (sym (none_more w m e none k p.manager));
  plain = h.plain;
}
same_fits w m e none (Script k p tried most ∷ ts) h = h
same_fits w m e none (Phase tries ∷ ts) h = h
same_fits w m e none (Pump left slot cable any ∷ ts) h = h
same_fits w m e none (Handle k at left ∷ ts) h = h
same_fits w m e none (Serve k l left ∷ ts) h = h
same_fits w m e none (Watch k l ∷ ts) h = h
same_fits w m e none (Open k l hc ∷ ts) h = h
same_fits w m e none (Restart at ∷ ts) h = h

-- With what steps begin.
plain_obeys : (s : Scenario) (m : ℕ) (cs : List Command) → AllPlain s (obey_all m cs)
plain_obeys s m [] = tt
plain_obeys s m (c ∷ cs) = (λ k. refl, plain_obeys s m cs)

plain_section : (s : Scenario) (x : Option Section) → AllPlain s (obey_section x)
plain_section s None = tt
plain_section s (Some part) = plain_obeys s part.manager part.commands

pub plain_clocks : (s : Scenario) (m ms : ℕ) (ls : List ManagerLine) → AllPlain s (clocks_from m ls ms)
plain_clocks s m ms [] = tt
plain_clocks s m ms (l ∷ ls) = (λ k. refl, plain_clocks s (suc m) ms ls)

plain_run : (s : Scenario) (k : ℕ) (most : Option ℕ) (x : Option ScriptPart) → slice_get s.scripts k ≡ x → AllPlain s (run_script k most x)
plain_run s k most None e = tt
plain_run s k most (Some p) e = (e, tt)

plain_handle : (s : Scenario) (k n : ℕ) (x : Option RulesPart) → AllPlain s (handle_with k n x)
plain_handle s k n None = tt
plain_handle s k n (Some r) = (tt, tt)

plain_watch : (s : Scenario) (k : ℕ) (x : Option MonitorLine) → AllPlain s (watch_by k x)
plain_watch s k None = tt
plain_watch s k (Some l) = (tt, tt)

plain_serve : (s : Scenario) (k n : ℕ) (x : Option MonitorLine) → AllPlain s (serve_by k n x)
plain_serve s k n None = tt
plain_serve s k n (Some l) = (tt, tt)

tried_append : (s : Scenario) (ts us : List Trying) → AllTried s ts → AllTried s us → AllTried s (ts ++ us)
tried_append s [] us h g = g
tried_append s (t ∷ ts) us h g = (h.0, tried_append s ts us h.1 g)

tried_one : (w : Network) (k : ℕ) (x : Option ScriptPart) → slice_get w.scenario.scripts k ≡ x → AllTried w.scenario (try_one w k x)
tried_one w k None e = tt
tried_one w k (Some p) e = (e, tt)

tried_all : (w : Network) (ks : List ℕ) → AllTried w.scenario (try_all w ks)
tried_all w [] = tt
tried_all w (k ∷ ks) = tried_append w.scenario (try_one w k (slice_get w.scenario.scripts k)) (try_all w ks) (tried_one w k (slice_get w.scenario.scripts k) refl) (tried_all w ks)

plain_finish : (s : Scenario) (ts : List Trying) → AllTried s ts → AllPlain s (finish ts)
plain_finish s [] h = tt
plain_finish s (t ∷ ts) h = (h.0, plain_finish s ts h.1)

plain_restarts : (s : Scenario) (m : ℕ) (ls : List ManagerLine) → AllPlain s (restarts_from m ls)
plain_restarts s m [] = tt
plain_restarts s m (l ∷ ls) = (tt, plain_restarts s (suc m) ls)

pub plain_step : (w : Network) (step : Step) → AllPlain w.scenario (tasks_of w step)
plain_step w (steps.Obey k) = plain_section w.scenario (slice_get w.scenario.sections k)
plain_step w (steps.Do m c) = (λ k. refl, tt)
plain_step w (steps.Run k n) = plain_run w.scenario k n (slice_get w.scenario.scripts k) refl
plain_step w (steps.Phase ks) = (tried_all w ks, plain_finish w.scenario (try_all w ks) (tried_all w ks))
plain_step w (steps.Pump n) = (tt, tt)
plain_step w (steps.Handle k n) = plain_handle w.scenario k n (slice_get w.scenario.rules k)
plain_step w (steps.Watch k) = plain_watch w.scenario k (slice_get w.scenario.monitors k)
plain_step w (steps.Serve k n) = plain_serve w.scenario k n (slice_get w.scenario.monitors k)
plain_step w (steps.Crash m) = (λ k. refl, tt)
plain_step w (steps.Restart m) = (λ k. refl, tt)
plain_step w (steps.Cut m k) = (λ k. refl, tt)
plain_step w (steps.Clock ms) = plain_clocks w.scenario 0 ms w.scenario.managers

pub plain_next : (w : Network) (rest : List Step) → AllPlain w.scenario (tasks_next w rest)
plain_next w [] = plain_restarts w.scenario 0 w.scenario.managers
plain_next w (step ∷ rest) = plain_step w step

-- What is left of tasks.
pub plain_begun : (s : Scenario) (x : Option ℕ) → AllPlain s (begun s x)
plain_begun s None = tt
plain_begun s (Some k) = plain_run s k None (slice_get s.scripts k) refl

pub plain_opens : (s : Scenario) (k : ℕ) (l : MonitorLine) (r : Reply) → AllPlain s (opens k l r)
plain_opens s k l (replies.Connected (answers.Ok hc)) = (tt, tt)
plain_opens s k l (replies.Connected (answers.Warning reason hc)) = tt
plain_opens s k l (replies.Connected (answers.Failed reason)) = tt
plain_opens s k l (replies.Opened a) = tt
plain_opens s k l (replies.Ended a) = tt
plain_opens s k l (replies.Put a) = tt
plain_opens s k l (replies.Got a) = tt
plain_opens s k l (replies.Acted a) = tt
plain_opens s k l replies.Changed = tt
plain_opens s k l replies.Tried = tt
plain_opens s k l (replies.Triggered queue) = tt
plain_opens s k l (replies.Stopped by) = tt

pub plain_gives_up : (s : Scenario) (k : ℕ) (l : MonitorLine) (hc : Hconn) (b : Bool) → AllPlain s (gives_up k l hc b)
plain_gives_up s k l hc true = tt
plain_gives_up s k l hc false = (λ j. refl, tt)

pub plain_once_more : (s : Scenario) (m : ℕ) (b : Bool) → AllPlain s (once_more m b)
plain_once_more s m true = (λ j. refl, tt)
plain_once_more s m false = tt
