-- A noted write of one channel's end spares what is hardened of all other channels.
use Rattle.std.proofs.Common.{ℕ, ◌≡◌, Bool, true, false, List, refl, ap, sym, subst}
use Rattle.std.specs.Prelude.{Option, if◌then◌else◌}
use Rattle.std.specs.Str.{bytes_eq}
use Rattle.mq_sync.specs.declared.data.End.TheVariants as ends
use Rattle.mq_sync.specs.declared.data.ReceiverData.{ReceiverData}
use Rattle.mq_sync.specs.declared.data.SenderData.{SenderData}
use Rattle.mq_sync.specs.Settlement.{is_commit, sender_or}
use Rattle.mq_calls.specs.Reads.{sender_data}
use Rattle.mq_calls.specs.declared.agents.Note.{Note}
use Rattle.mq_calls.specs.declared.agents.Note.TheVariants as notes
use Rattle.mq_calls.specs.State.{Change, Noted, Plain}
use Rattle.mq_spec_manager.specs.Agents.{harden_part}
use Rattle.mq_law_channel.specs.Channel.{Channel}
use Rattle.mq_law_turns.specs.from_law_batches.Releases.{IsWord, settled_changes}
use Rattle.mq_law_node.specs.Data.{receiver_by_all, sender_by_all}
use Rattle.mq_law_node.specs.Moves.{NearStep}
use Rattle.mq_law_stopped.specs.Noted.{SenderKind}
use Rattle.mq_law_stopped.specs.Noted.SenderKind.{Begins, Numbers, Prepares, Resolves, Settles}

-- what it is told by lists of changes
abbrev SparesSender : List ℕ → Option SenderData → List Change → Type 0
SparesSender other old cs = sender_by_all other cs old ≡ old

abbrev SparesReceiver : List ℕ → Option ReceiverData → List Change → Type 0
SparesReceiver other old cs = receiver_by_all other cs old ≡ old

one_set : (t : Bool) (new old : Option SenderData) → t ≡ false → (if t then new else old) ≡ old
one_set t new old e = ap (λ b. if b then new else old) e

one_received : (t : Bool) (new old : Option ReceiverData) → t ≡ false → (if t then new else old) ≡ old
one_received t new old e = ap (λ b. if b then new else old) e

settled_sender : (commit : Bool) (c other : List ℕ) (d : SenderData) (old : Option SenderData) → bytes_eq other c ≡ false → SparesSender other old (settled_changes commit c d)
settled_sender true c other d old e = one_set (bytes_eq other c) _ old e
settled_sender false c other d old e = one_set (bytes_eq other c) _ old e

settled_receiver : (commit : Bool) (c other : List ℕ) (d : SenderData) (old : Option ReceiverData) → SparesReceiver other old (settled_changes commit c d)
settled_receiver true c other d old = refl
settled_receiver false c other d old = refl

pub sender_spares : (c : List ℕ) (b : Plain) (note : Noted) (x : Channel) (way : NearStep) (other : List ℕ) (old : Option SenderData) → SenderKind c b note x way → bytes_eq other c ≡ false → SparesSender other old note.changes
sender_spares c b note x way other old (Begins t partner session is turn says) e = subst (SparesSender other old) (sym says) (one_set (bytes_eq other c) _ old e)
sender_spares c b note x way other old (Prepares t batch last is turn found says) e = subst (SparesSender other old) (sym says) (one_set (bytes_eq other c) _ old e)
sender_spares c b note x way other old (Settles t d commit is turn so free says) e = subst (SparesSender other old) (sym says) (settled_sender commit c other (sender_or (sender_data c b)) old e)
sender_spares c b note x way other old (Resolves settle d is free says told rows) e = subst (SparesSender other old) (sym says) (settled_sender (is_commit settle) c other (sender_or (sender_data c b)) old e)
sender_spares c b note x way other old (Numbers last is says) e = subst (SparesSender other old) (sym says) (one_set (bytes_eq other c) _ old e)

pub sender_leaves : (c : List ℕ) (b : Plain) (note : Noted) (x : Channel) (way : NearStep) (other : List ℕ) (old : Option ReceiverData) → SenderKind c b note x way → SparesReceiver other old note.changes
sender_leaves c b note x way other old (Begins t partner session is turn says) = subst (SparesReceiver other old) (sym says) refl
sender_leaves c b note x way other old (Prepares t batch last is turn found says) = subst (SparesReceiver other old) (sym says) refl
sender_leaves c b note x way other old (Settles t d commit is turn so free says) = subst (SparesReceiver other old) (sym says) (settled_receiver commit c other (sender_or (sender_data c b)) old)
sender_leaves c b note x way other old (Resolves settle d is free says told rows) = subst (SparesReceiver other old) (sym says) (settled_receiver (is_commit settle) c other (sender_or (sender_data c b)) old)
sender_leaves c b note x way other old (Numbers last is says) = subst (SparesReceiver other old) (sym says) refl

pub word_spares : (c : List ℕ) (w : Note) (p : Plain) (other : List ℕ) (old : Option SenderData) → IsWord w → bytes_eq other c ≡ false → SparesSender other old (harden_part c w p).changes
word_spares c (notes.Session partner session) p other old is e = one_set (bytes_eq other c) _ old e
word_spares c (notes.Resolved unit commit operator) p other old is e = absurd is
word_spares c (notes.Bound partner session last) p other old is e = refl
word_spares c (notes.Closed session) p other old is e = refl
word_spares c (notes.SeqSet ends.Sender last) p other old is e = one_set (bytes_eq other c) _ old e
word_spares c (notes.SeqSet ends.Receiver last) p other old is e = refl

pub word_leaves : (c : List ℕ) (w : Note) (p : Plain) (other : List ℕ) (old : Option ReceiverData) → IsWord w → bytes_eq other c ≡ false → SparesReceiver other old (harden_part c w p).changes
word_leaves c (notes.Session partner session) p other old is e = refl
word_leaves c (notes.Resolved unit commit operator) p other old is e = absurd is
word_leaves c (notes.Bound partner session last) p other old is e = one_received (bytes_eq other c) _ old e
word_leaves c (notes.Closed session) p other old is e = one_received (bytes_eq other c) _ old e
word_leaves c (notes.SeqSet ends.Sender last) p other old is e = refl
word_leaves c (notes.SeqSet ends.Receiver last) p other old is e = one_received (bytes_eq other c) _ old e
