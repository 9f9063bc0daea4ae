-- How the places of a text are found from the pattern's end on.
use Rattle.std.proofs.Common.{◌≡◌, ◌≢◌, ℕ, zero, suc, ◌+◌, ◌-◌, ◌<◌, ◌≤◌, ◌==◌, Bool, true, false, List, [], ◌∷◌, length, drop, get_or, set, replicate, ltb, subst, refl, sym, ap, ◌∙◌, arith}
use Rattle.std.specs.Prelude.{◌&&◌, ◌||◌}
use Rattle.std.proofs.lemmas.Bool.Decides.{nat_tests}
use Rattle.std.proofs.lemmas.Bool.{ltb-true, ltb-false}
use Rattle.std.proofs.lemmas.List.{drop_more, get_or-set_same, get_or-set_other, length-replicate}
use Rattle.mq_rules.specs.Patterns.{like, some_rest, first_and_rest, AreLike}

unlike : (c : ℕ) → c ≢ 42 → (c == 42) ≡ false
unlike c ne = grind (arith, nat_tests)

-- what is left of a text at its end is nothing
pub left_at_end : (text : List ℕ) → drop (length text) text ≡ []
left_at_end [] = refl
left_at_end (b ∷ bs) = left_at_end bs

-- a star before a pattern
spread_from : (old new : List Bool) (pattern text : List ℕ) → AreLike old pattern text → get_or new (length text) false ≡ get_or old (length text) false → ((i : ℕ) → i < length text → get_or new i false ≡ (get_or old i false || get_or new (i + 1) false)) → (k i : ℕ) → i + k ≡ length text → get_or new i false ≡ some_rest (like pattern) (drop i text)
spread_from old new pattern text h last each zero i e =
    let end : i ≡ length text = omega arith in
    rw (end, left_at_end text) (last ∙ h.each (length text) (omega arith) ∙ ap (like pattern) (left_at_end text))
spread_from old new pattern text h last each (suc k) i e =
    let more = spread_from old new pattern text h last each k (i + 1) (omega arith) in
    let here : drop i text ≡ get_or text i 0 ∷ drop (i + 1) text = drop_more text i 0 (omega arith) in
    let old_here : get_or old i false ≡ like pattern (get_or text i 0 ∷ drop (i + 1) text) = h.each i (omega arith) ∙ ap (like pattern) here in
    each i (omega arith) ∙ (λ j. old_here j || more j) ∙ ap (some_rest (like pattern)) (sym here)

pub spread_like : (old new : List Bool) (pattern text : List ℕ) → AreLike old pattern text → get_or new (length text) false ≡ get_or old (length text) false → ((i : ℕ) → i < length text → get_or new i false ≡ (get_or old i false || get_or new (i + 1) false)) → AreLike new (42 ∷ pattern) text
spread_like old new pattern text h last each = record {
  each = λ i le. spread_from old new pattern text h last each (length text - i) i (omega arith);
}

-- a place is the end, or before it
place_by : (P : ℕ → Type 0) (i n : ℕ) → i ≤ n → P n → (i < n → P i) → (b : Bool) → ltb i n ≡ b → P i
place_by P i n le end before true e = before (ltb-true i n e)
place_by P i n le end before false e = let more = ltb-false i n e in let same : n ≡ i = omega arith in subst P same end

pass_at : (c : ℕ) (old new : List Bool) (pattern text : List ℕ) → AreLike old pattern text → ((i : ℕ) → i < length text → get_or new i false ≡ ((c == 63 || c == get_or text i 0) && get_or old (i + 1) false)) → (i : ℕ) → i < length text → get_or new i false ≡ first_and_rest c (like pattern) (drop i text)
pass_at c old new pattern text h each i lt =
    let here : drop i text ≡ get_or text i 0 ∷ drop (i + 1) text = drop_more text i 0 lt in
    let next = h.each (i + 1) (omega arith) in
    each i lt ∙ ap (λ (x : Bool). (c == 63 || c == get_or text i 0) && x) next ∙ ap (first_and_rest c (like pattern)) (sym here)

-- another byte before a pattern
pub pass_like : (c : ℕ) (old new : List Bool) (pattern text : List ℕ) → c ≢ 42 → AreLike old pattern text → get_or new (length text) false ≡ false → ((i : ℕ) → i < length text → get_or new i false ≡ ((c == 63 || c == get_or text i 0) && get_or old (i + 1) false)) → AreLike new (c ∷ pattern) text
pass_like c old new pattern text ne h last each = record {
  each = λ i le. rw (unlike c ne) (place_by (λ n. get_or new n false ≡ first_and_rest c (like pattern) (drop n text)) i (length text) le (rw (left_at_end text) last) (pass_at c old new pattern text h each i) (ltb i (length text)) refl);
}

-- nothing is left of the pattern
before_end : (places : List Bool) (text : List ℕ) → ((i : ℕ) → i < length text → get_or places i false ≡ false) → (i : ℕ) → i < length text → get_or places i false ≡ like [] (drop i text)
before_end places text before i lt =
    let here : drop i text ≡ get_or text i 0 ∷ drop (i + 1) text = drop_more text i 0 lt in
    before i lt ∙ ap (like []) (sym here)

ends_like : (places : List Bool) (text : List ℕ) → get_or places (length text) false ≡ true → ((i : ℕ) → i < length text → get_or places i false ≡ false) → AreLike places [] text
ends_like places text end before = record {
  each = λ i le. place_by (λ n. get_or places n false ≡ like [] (drop n text)) i (length text) le (rw (left_at_end text) end) (before_end places text before i) (ltb i (length text)) refl;
}

get_or-none : (n i : ℕ) → get_or (replicate n false) i false ≡ false
get_or-none zero i = refl
get_or-none (suc n) zero = refl
get_or-none (suc n) (suc i) = get_or-none n i

-- of no places but the text's end
pub only_end_like : (n : ℕ) (text : List ℕ) → length text < n → AreLike (set (replicate n false) (length text) true) [] text
only_end_like n text lt =
    let len : length (replicate n false) ≡ n = length-replicate n false in
    let within : length text < length (replicate n false) = omega arith in
    ends_like (set (replicate n false) (length text) true) text (get_or-set_same (replicate n false) (length text) true false within)
    (λ i before. let other : i ≢ length text = omega arith in get_or-set_other (replicate n false) (length text) i true false other ∙ get_or-none n i)
