-- What a manager keeps of its channels behind changes goes by what it kept of them before.
use Rattle.std.proofs.Common.{ℕ, ◌≡◌, Bool, true, false, List, [], ◌∷◌, refl, sym, ◌∙◌}
use Rattle.mq_objects.specs.Names.{local_of}
use Rattle.mq_calls.specs.State.{Change, Plain}
use Rattle.mq_calls.specs.State.Change.{Place, Try, Leave, Hold, Release, Connect, Disconnect, OpenHandle, CloseHandle, SetCursor, Pend, EndUnit, MakeStale, CountIdent, ChangeObjects, Renew, DropQueue, SwitchOn, Serve, SetSender, SetReceiver, Undoubt, Seize, Unseize, AddBatch, DropBatch, SetBound, SetMoment, ForgetAll}
use Rattle.mq_calls.specs.Changes.{apply, apply_all, try_if}
use Rattle.mq_calls.specs.Condition.{condition}

tried : (t : Bool) (q : List ℕ) (p : Plain) → (try_if t q p).channels ≡ p.channels
tried true q p = refl
tried false q p = refl

one_after : (c : Change) (p q : Plain) → p.channels ≡ q.channels → (apply c p).channels ≡ (apply c q).channels
one_after (Place name m) p q e = e
one_after (Try name n) p q e = tried (condition (local_of name p.definitions) n p) name p ∙ e ∙ sym (tried (condition (local_of name q.definitions) n q) name q)
one_after (Leave w) p q e = e
one_after (Hold w h) p q e = e
one_after (Release w b) p q e = e
one_after (Connect c) p q e = e
one_after (Disconnect n) p q e = e
one_after (OpenHandle n h) p q e = e
one_after (CloseHandle n h) p q e = e
one_after (SetCursor n h x) p q e = e
one_after (Pend n i) p q e = e
one_after (EndUnit n) p q e = e
one_after (MakeStale s) p q e = e
one_after CountIdent p q e = e
one_after (ChangeObjects x) p q e = e
one_after (Renew name) p q e = e
one_after (DropQueue name) p q e = e
one_after (SwitchOn name) p q e = e
one_after (Serve name) p q e = e
one_after (SetSender c d) p q e = λ i. (apply (SetSender c d) (record p { channels = e i })).channels
one_after (SetReceiver c d) p q e = λ i. (apply (SetReceiver c d) (record p { channels = e i })).channels
one_after (Undoubt x) p q e = λ i. (apply (Undoubt x) (record p { channels = e i })).channels
one_after (Seize s) p q e = λ i. (apply (Seize s) (record p { channels = e i })).channels
one_after (Unseize c) p q e = λ i. (apply (Unseize c) (record p { channels = e i })).channels
one_after (AddBatch b) p q e = λ i. (apply (AddBatch b) (record p { channels = e i })).channels
one_after (DropBatch c) p q e = λ i. (apply (DropBatch c) (record p { channels = e i })).channels
one_after (SetBound c true) p q e = λ i. (apply (SetBound c true) (record p { channels = e i })).channels
one_after (SetBound c false) p q e = λ i. (apply (SetBound c false) (record p { channels = e i })).channels
one_after (SetMoment t) p q e = e
one_after ForgetAll p q e = λ i. (apply ForgetAll (record p { channels = e i })).channels

pub all_after : (cs : List Change) (p q : Plain) → p.channels ≡ q.channels → (apply_all cs p).channels ≡ (apply_all cs q).channels
all_after [] p q e = e
all_after (c ∷ cs) p q e = all_after cs (apply c p) (apply c q) (one_after c p q e)
