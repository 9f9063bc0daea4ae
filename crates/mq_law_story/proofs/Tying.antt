-- What a channel's facts give each kind of change of its rows.
use Rattle.std.proofs.Common.{ℕ, ◌≡◌, ◌≢◌, ◌+◌, true, false, List, refl, ap, sym, ◌∙◌, inl, inr, arith, map}
use Rattle.std.specs.Prelude.{Some, None, ◌&&◌}
use Rattle.std.proofs.lemmas.Bool.Decides.{nat_tests}
use Rattle.mq_sync.specs.declared.unit.Unit.{Unit as Luw}
use Rattle.mq_sync.specs.Units.{Below, Upto, same_unit, unit_named}
use Rattle.mq_law_channel.specs.Channel.{Channel, Past, Facts}
use Rattle.mq_law_channel.specs.Following.{Placed, Awaited, WasCommitted, WasNot}
use Rattle.mq_law_seen.specs.from_law_rows.World.{World, Book, Ghost, is_last, away, Inv}
use Rattle.mq_law_seen.specs.from_law_rows.Kinds.{Commits}
use Rattle.mq_law_story.specs.Needs.{letter_tag, IsTied}
use Rattle.mq_law_seen.proofs.from_law_rows.Lists.{bool_case}
use Rattle.mq_law_seen.proofs.from_law_rows.Settling.{commits_held, commits_operated}

below_not : (u v : Luw) → Below u v → u ≡ v → ⊥
below_not u v (inl lt) e = let s : u.session ≡ v.session = ap (λ (x : Luw). x.session) e in omega arith
below_not u v (inr b) e = let lt = b.1 in let s : u.n ≡ v.n = ap (λ (x : Luw). x.n) e in omega arith

unit_self : (u : Luw) → same_unit u u ≡ true
unit_self u = grind (arith, nat_tests)

-- At a receiver's commit that its operator has not backed out: the premises of the kind, and what is kept is what was sent.
pub commit_tied : (w : World) (g : Ghost) (b : Book) (m t : ℕ) (c : List ℕ) (channel : Channel) (p : Past) (u : Luw) → Inv w g b → IsTied w g m t c channel p → Placed channel p u → Awaited channel p u
    → Commits w g m c u t × (map letter_tag channel.kept ≡ g.sent m c u)
commit_tied w g b m t c channel p u h tied placed awaited =
    let above : channel.receives.unit ≢ u = λ e. below_not channel.receives.unit u placed.rises e in
    let new : w.last m c ≢ u = λ e. above (sym tied.last ∙ e) in (
      bool_case p.forced (λ f. p.forced ≡ f → Commits w g m c u t)
          (λ e f. commits_operated w g b m c u t h tied.apart (tied.forced u f awaited.held above) (λ x z. absurd (none_some x (sym (tied.idle f) ∙ z))))
          (λ e f. commits_held w g b m c u t h tied.apart ((tied.held f).0 ∙ awaited.held) ((tied.held f).1 ∙ awaited.prepared) new) refl,
      ap (map letter_tag) placed.whole ∙ tied.content u awaited.held,
    )
  where
    none_some : (x : Luw) → None ≡ Some x → ⊥
    none_some x e = cc

-- A unit that is settled as committed counts by its receiver; one that is settled as backed out does not; nor does one that
-- is not prepared.
pub committed_tied : (w : World) (g : Ghost) (m t : ℕ) (c : List ℕ) (channel : Channel) (p : Past) (u : Luw) → IsTied w g m t c channel p → p.forced ≡ false → p.near.holds ≡ Some u → p.near.doubt ≡ true → WasCommitted channel p → away w m c ≡ true
committed_tied w g m t c channel p u tied f holds doubt was =
    let o = (tied.held f).0 ∙ holds in let d = (tied.held f).1 ∙ doubt in let l : w.last m c ≡ u = tied.last ∙ sym (was u holds) in
    (λ i. d i && is_last (o i) (l i)) ∙ unit_self u

pub backed_out_tied : (w : World) (g : Ghost) (m t : ℕ) (c : List ℕ) (channel : Channel) (p : Past) → IsTied w g m t c channel p → p.forced ≡ false → WasNot channel p → (u : Luw) → w.holds m c ≡ Some u → w.last m c ≢ u
backed_out_tied w g m t c channel p tied f was u z e = (was u (sym (tied.held f).0 ∙ z)).0 (sym e ∙ tied.last)

pub unprepared_tied : (w : World) (g : Ghost) (m t : ℕ) (c : List ℕ) (channel : Channel) (p : Past) → IsTied w g m t c channel p → Facts channel p → p.forced ≡ false → p.near.doubt ≡ false → (u : Luw) → w.holds m c ≡ Some u → w.last m c ≢ u
unprepared_tied w g m t c channel p tied facts f doubt u z e = (facts.sound.taken u (sym (tied.held f).0 ∙ z) doubt).1 (sym tied.last ∙ e)

-- The next unit of a sender is above its receiver's last.
pub next_tied : (w : World) (g : Ghost) (m t : ℕ) (c : List ℕ) (channel : Channel) (p : Past) → IsTied w g m t c channel p → Facts channel p → w.last m c ≢ unit_named p.near.session (p.near.begun + 1)
next_tied w g m t c channel p tied facts e = not_next channel.receives.unit p.near.session p.near.begun facts.sound.last (sym tied.last ∙ e)
  where
    not_next : (u : Luw) (s n : ℕ) → Upto u (unit_named s n) → u ≡ unit_named s (n + 1) → ⊥
    not_next u s n (inl lt) e = let q : u.session ≡ s = ap (λ (x : Luw). x.session) e in omega arith
    not_next u s n (inr b) e = let le = b.1 in let q : u.n ≡ n + 1 = ap (λ (x : Luw). x.n) e in omega arith
