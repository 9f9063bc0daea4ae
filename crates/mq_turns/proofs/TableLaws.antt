-- What the sender's table says where an item waits, and where none does.
use Rattle.std.proofs.Common.{◌≡◌, ℕ, ◌+◌, refl, sym, ap, subst, ◌∙◌, List, [], ◌∷◌, Bool, true, false}
use Rattle.std.specs.Prelude.{Option, ◌&&◌, if◌then◌else◌, nat_lt, min}
use Rattle.mq_frame.specs.declared.frame.Seen.{Seen}
use Rattle.mq_frame.specs.declared.frame.Seen.TheVariants as items
use Rattle.mq_frame.specs.Sight.{waits}
use Rattle.mq_sync.specs.Turns.{Line, line, first_line}
use Rattle.mq_sync.specs.declared.data.Stock.{Stock}
use Rattle.mq_sync.specs.declared.unit.Settle.{Settle}
use Rattle.mq_sender.specs.declared.state.Sender.{Sender}
use Rattle.mq_sender.specs.declared.turns.SenderDoes.{SenderDoes}
use Rattle.mq_sender.specs.declared.turns.SenderDoes.TheVariants as does
use Rattle.mq_sender.specs.Table.{err_reason, is_ack, is_binding, is_err, is_hailing, is_idle, is_ready, is_sending, is_starting, is_status, is_waiting, messages_sent, sender_next, settled_by, status_last, status_unit}
use Rattle.mq_turns.specs.Sends.{Answers, IsOwn, Works, is_ignore}

-- the lines of what waits, and the others
abbrev heads : Sender → Seen → Bool → List (Line SenderDoes) → SenderDoes
heads s seen w rest = first_line does.Still (
    line (is_binding s.state && is_status s.kept.session seen) (does.Bound (settled_by s.kept.doubt (status_unit seen)) (status_last seen))
    ∷ line (is_waiting s.state && is_ack s.kept.doubt seen) does.Commit
    ∷ line (is_waiting s.state && is_err s.kept.doubt seen) (does.Backout (err_reason seen))
    ∷ line w does.Ignore
    ∷ rest)

abbrev tails : Bool → Sender → Stock → List (Line SenderDoes)
tails idle s stock =
    line (is_starting s.state) (does.HardenSession (s.kept.session + 1))
    ∷ line (is_hailing s.state) does.PushBind
    ∷ line (idle && stock.enabled && stock.expired) does.Expire
    ∷ line (idle && stock.enabled && nat_lt 0 stock.free) (does.Begin (s.begun + 1) (min s.limits.batch_size stock.free))
    ∷ line (is_sending s.state && nat_lt (messages_sent s.state) s.count) (does.PushMsg (messages_sent s.state + 1))
    ∷ line (is_sending s.state) does.Prepare
    ∷ line (is_ready s.state) does.PushEnd
    ∷ []

-- where an item waits, what is seen of the queue makes no difference
pub answers_same : (m : Sender) (seen : Seen) (a b : Stock) → waits seen ≡ true → sender_next m seen a ≡ sender_next m seen b
answers_same m seen a b w = ap (λ (x : Bool). heads m seen x (tails (is_idle m.state) m a)) w ∙ sym (ap (λ (x : Bool). heads m seen x (tails (is_idle m.state) m b)) w)

answer_by : (a b c : Bool) (s : Option Settle) (partner reason : ℕ) → Answers (if a then does.Bound s partner else (if b then does.Commit else (if c then does.Backout reason else does.Ignore)))
answer_by true b c s partner reason = tt
answer_by false true c s partner reason = tt
answer_by false false true s partner reason = tt
answer_by false false false s partner reason = tt

pub answers_are : (m : Sender) (seen : Seen) (a : Stock) → waits seen ≡ true → Answers (sender_next m seen a)
answers_are m seen a w =
    let P : SenderDoes → Type 0 = λ d. Answers d in
    subst P (sym (ap (λ (x : Bool). heads m seen x (tails (is_idle m.state) m a)) w))
    (answer_by (is_binding m.state && is_status m.kept.session seen) (is_waiting m.state && is_ack m.kept.doubt seen) (is_waiting m.state && is_err m.kept.doubt seen)
    (settled_by m.kept.doubt (status_unit seen)) (status_last seen) (err_reason seen))

-- and where none does, so is it but for a sender that runs
abbrev table : Bool → Sender → Stock → SenderDoes
table idle s stock = heads s items.Nothing false (tails idle s stock)

pub stock_same : (m : Sender) (a b : Stock) → is_idle m.state ≡ false → sender_next m items.Nothing a ≡ sender_next m items.Nothing b
stock_same m a b e = ap (λ (i : Bool). table i m a) e ∙ sym (ap (λ (i : Bool). table i m b) e)

-- where none waits, the end does not answer
false_and : (b : Bool) → (b && false) ≡ false
false_and true = refl
false_and false = refl

skip : (b : Bool) (x y : SenderDoes) → b ≡ false → IsOwn y → IsOwn (if b then x else y)
skip true x y e p = absurd cc
skip false x y e p = p

pass : (b : Bool) (x y : SenderDoes) → IsOwn x → IsOwn y → IsOwn (if b then x else y)
pass true x y p q = p
pass false x y p q = q

pub own_is : (m : Sender) (a : Stock) → IsOwn (sender_next m items.Nothing a)
own_is m a =
    skip (is_binding m.state && false) _ _ (false_and (is_binding m.state)) (
    skip (is_waiting m.state && false) _ _ (false_and (is_waiting m.state)) (
    skip (is_waiting m.state && false) _ _ (false_and (is_waiting m.state)) (
    pass (is_starting m.state) (does.HardenSession (m.kept.session + 1)) _ tt (
    pass (is_hailing m.state) does.PushBind _ tt (
    pass (is_idle m.state && a.enabled && a.expired) does.Expire _ tt (
    pass (is_idle m.state && a.enabled && nat_lt 0 a.free) (does.Begin (m.begun + 1) (min m.limits.batch_size a.free)) _ tt (
    pass (is_sending m.state && nat_lt (messages_sent m.state) m.count) (does.PushMsg (messages_sent m.state + 1)) _ tt (
    pass (is_sending m.state) does.Prepare _ tt (
    pass (is_ready m.state) does.PushEnd does.Still tt tt)))))))))

-- an answer that isn't ignored works at the manager
pub answers_work : (d : SenderDoes) → Answers d → is_ignore d ≡ false → Works d
answers_work does.Ignore a n = absurd cc
answers_work (does.Bound settle partner) a n = tt
answers_work does.Commit a n = tt
answers_work (does.Backout reason) a n = tt
answers_work does.Still a n = absurd a
answers_work (does.HardenSession session) a n = absurd a
answers_work does.PushBind a n = absurd a
answers_work does.Expire a n = absurd a
answers_work (does.Begin k count) a n = absurd a
answers_work (does.PushMsg index) a n = absurd a
answers_work does.Prepare a n = absurd a
answers_work does.PushEnd a n = absurd a

pub ignore_is : (d : SenderDoes) → is_ignore d ≡ true → d ≡ does.Ignore
ignore_is does.Ignore e = refl
ignore_is (does.Bound settle partner) e = absurd cc
ignore_is does.Commit e = absurd cc
ignore_is (does.Backout reason) e = absurd cc
ignore_is does.Still e = absurd cc
ignore_is (does.HardenSession session) e = absurd cc
ignore_is does.PushBind e = absurd cc
ignore_is does.Expire e = absurd cc
ignore_is (does.Begin k count) e = absurd cc
ignore_is (does.PushMsg index) e = absurd cc
ignore_is does.Prepare e = absurd cc
ignore_is does.PushEnd e = absurd cc

-- So for what the code has.
pub answers_next : (m : Sender) (seen : Seen) (a b : Stock) (d : SenderDoes) → waits seen ≡ true → d ≡ sender_next m seen a → d ≡ sender_next m seen b
answers_next m seen a b d w e = e ∙ answers_same m seen a b w

pub answers_works : (m : Sender) (seen : Seen) (a : Stock) (d : SenderDoes) → waits seen ≡ true → d ≡ sender_next m seen a → is_ignore d ≡ false → Works d
answers_works m seen a d w e n = answers_work d (subst (λ (x : SenderDoes). Answers x) (sym e) (answers_are m seen a w)) n

pub ignores_next : (m : Sender) (seen : Seen) (a b : Stock) (d : SenderDoes) → waits seen ≡ true → d ≡ sender_next m seen a → is_ignore d ≡ true → does.Ignore ≡ sender_next m seen b
ignores_next m seen a b d w e i = sym (ignore_is d i) ∙ answers_next m seen a b d w e
