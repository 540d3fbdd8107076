-- 02, §9: on an alphabet that fits in 64, narrow and wide give the same ranks and words wherever the narrow form answers. Assumes nothing.
--   widened x    a narrow index as a wide one, without its alphabet
--   same_word    the two have one word
--   same_count, same_rank, same_rank_of, same_unrank, same_unranked_word, same_successor, same_merge, same_deletion    where the narrow call answers, the wide one gives the same
use mathlib.Core.Path.{◌≡◌, refl, sym, ap, ap₂, subst, ◌∙◌}
use mathlib.Core.Bool.{false, not}
use mathlib.Core.List.{List}
use Prim.Native.Nat.{ℕ, ◌+◌, ◌*◌, ◌/◌, ◌%◌, ◌^◌, ◌≤◌, ◌<◌}
use native.Mathlib.Nat.{lt_of_lt_of_le}
use native.Mathlib.Omega.{arith}
use borrow.Author.Tests.{leb-false, lt-leb, ne_eqb}
use lib.Dec.{leb}
use lib.ListN.{length, get_or}
use lib.Pow.{pow_mono, high, low}
use Rattle.pascal.proofs.Row.{choose_fits_64}
use Rattle.words.specs.declared.Family.{Family}
use Rattle.words.specs.declared.Family.TheVariants.{Forbidden, Allowed}
use Rattle.words.specs.Word.{Monotone, Below, shifted, shifted_alphabet, count}
use Rattle.words.specs.Rank.{rank_of}
use Rattle.words.specs.Unrank.{unrank_of}
use Rattle.words.specs.Next.{next}
use Rattle.words.specs.Bits.{bits_of, set_bits}
use Rattle.words.specs.Inversions.{crossings}
use Rattle.words.specs.Without.{without}
use Rattle.words.proofs.Bits.{bits_fit, below_of_bits, bits_of_set, set-bits-monotone}
use Rattle.words.proofs.Rank.{rank_below_count}
use Rattle.words.proofs.Unrank.{unrank_is_a_word}
use Rattle.words.proofs.Next.{next_long, next_monotone}
use Rattle.words.proofs.Shifted.{rank-shifted, shifted-monotone}
use Rattle.answers.specs.declared.Index.{Index}
use Rattle.answers.specs.declared.Sign.{Sign}
use Rattle.answers.specs.Says.{Says, gives, refused_if, and_then}
use Rattle.answers.specs.Signs.{sign_in}
use Rattle.answers.specs.Terms.{index_of, word_of}
use Rattle.answers.proofs.Says.{gives_same, passed, then_gave}
use Rattle.answers.proofs.Terms.{word-monotone, shifted-word}
use Rattle.packing.proofs.Checks.{shifted-fit}
use Rattle.taking.specs.Taken.{Accepted, shifted_alphabet_of}
use Rattle.taking.proofs.Accepted.{below_is_shifted, index-accepted, taken_gives}
use Rattle.merging.specs.Sorting.{merged}
use Rattle.monotone_count.specs.Rules.{count_says}
use Rattle.monotone_count.proofs.Rules.{Counted, count_given}
use Rattle.monotone_rank.specs.Rules.{rank_says, rank_of_says}
use Rattle.monotone.proofs.Rules.{Ranked, checked_given}
use Rattle.monotone_unrank.specs.Rules.{unrank_over_says, unrank_says}
use Rattle.monotone_unrank.proofs.Rules.{unrank_given}
use Rattle.monotone_walk.specs.Rules.{successor_says}
use Rattle.algebra.specs.Rules.{same_family, merge_says}
use Rattle.algebra.proofs.Promises.{Passed, term_of, merge_passed, merged-term}
use Rattle.deletion.specs.Rules.{delete_says, removed_says}
use Rattle.deletion.proofs.Promises.{deletion_accepted}
use Rattle.promises.proofs.Terms.{Succeeds, successor_given}
use Rattle.widths.specs.Rules.{word_in, held_says, next_bits, successor_in, bits_says_in, Gap, delete_in}
use Rattle.widths.proofs.Counting.{held_gives}
use Rattle.widths.proofs.Checking.{checked_in_gives}
use Rattle.widths.proofs.Width.{fits_gives_in}
use Rattle.wide.specs.declared.Wide.{Wide}
use Rattle.wide.specs.Answers.{whole_of, wide_of}
use Rattle.wide.specs.Rules.{as_wide, signed_wide, merged_wide_says, wide_count_says, wide_rank_says, wide_rank_of_says, wide_unrank_over_says, wide_unrank_says, wide_successor_says, wide_merge_says, wide_delete_says}
use Rattle.wide.proofs.Counting.{wide_count_gives}
use Rattle.wide.proofs.Unranking.{unranked}
use Rattle.wide_promises.proofs.Terms.{wide_unrank_answers}
use Rattle.answers.specs.declared.SignedTerm.{SignedTerm}
use Rattle.deletion.specs.declared.Removed.{Removed}
use Rattle.wide.specs.declared.WideTerm.{WideTerm}
use Rattle.wide.specs.declared.WideGap.{WideGap}

abbrev pub widened : Index → Wide
widened x = record { family = x.family; low = x.bits; high = 0 }

whole-widened : (x : Index) → whole_of (widened x) ≡ x.bits
whole-widened x = omega arith

pub same_word : (x : Index) → word_in x.family (whole_of (widened x)) ≡ word_of x
same_word x = ap (word_in x.family) (whole-widened x)

-- a number of 64 digits, as a wide index
wide_of_narrow : (F : Family) (b : ℕ) → b < 2 ^ 64 → wide_of F b ≡ record { family = F; low = b; high = 0 }
wide_of_narrow F b h =
    let e : b ≡ 0 * 2 ^ 64 + b = omega arith in
    ap₂ (λ (x y : ℕ). record { family = F; low = x; high = y }) (ap (λ (z : ℕ). z % 2 ^ 64) e ∙ low 0 64 h) (ap (λ (z : ℕ). z / 2 ^ 64) e ∙ high 0 64 h)

more_digits : {b : ℕ} → b < 2 ^ 64 → b < 2 ^ 128
more_digits h = lt_of_lt_of_le h (pow_mono {i = 64} {j = 128} (omega arith))

-- the bits of an accepted index have 64 digits
bits-narrow : (x : Index) → Accepted x → x.bits < 2 ^ 64
bits-narrow x a =
    lt_of_lt_of_le
    (subst (λ (b : ℕ). b < 2 ^ shifted_alphabet_of x) (bits_of_set x.bits)
    (bits_fit (shifted_alphabet_of x) (set_bits x.bits) (set-bits-monotone x.bits) ((below_is_shifted x x.alphabet (length (word_of x)) refl).0 a.over)))
    (pow_mono a.narrow)

-- ---- counting, ranking, unranking

count_fits : (F : Family) (n k : ℕ) → shifted_alphabet F n k ≤ 64 → count F n k < 2 ^ 64
count_fits F n k h = choose_fits_64 (shifted_alphabet F n k) k (omega arith)

pub same_count : (F : Family) (n k c : ℕ) → count_says F n k ≡ gives c → wide_count_says F n k ≡ gives c
same_count F n k c e =
    let d : Counted F n k c = count_given F n k c e in
    wide_count_gives F n k (omega (arith, d.degree)) (omega (arith, d.alphabet)) (count_fits F n k d.alphabet) ∙ ap gives (sym d.is)

-- the rank of a word that passes the narrow checks has 64 digits
rank_fits : (F : Family) (u : List ℕ) → Monotone F u → Below 64 (shifted F u) → rank_of F u < 2 ^ 64
rank_fits F u m b =
    omega (
      arith,
      rank-shifted F u,
      rank_below_count Forbidden 64 (length (shifted F u)) (shifted F u) (record { long = refl; monotone = (shifted-monotone F u).0 m; below = b }),
      choose_fits_64 64 (length (shifted F u)) (omega arith),
    )

pub same_rank : (F : Family) (u : List ℕ) (r : ℕ) → rank_says F u ≡ gives r → wide_rank_says F u ≡ gives r
same_rank F u r e = go (checked_given F u (rank_of F u) r e)
  where
    go : Ranked F u × (rank_of F u ≡ r) → wide_rank_says F u ≡ gives r
    go d =
        checked_in_gives 127 F u (held_says (rank_of F u)) (record { short = omega (arith, d.0.short); monotone = d.0.monotone; low = omega (arith, d.0.low) })
        ∙ held_gives (rank_of F u) (rank_fits F u d.0.monotone (shifted-fit F 0 64 u d.0.monotone (omega (arith, d.0.low)))) ∙ ap gives d.1

pub same_rank_of : (x : Index) (r : ℕ) → rank_of_says x ≡ gives r → wide_rank_of_says (widened x) ≡ gives r
same_rank_of x r e =
    let p = taken_gives x (gives (rank_of x.family (word_of x))) r e in
    let f : bits_of (shifted x.family (word_of x)) < 2 ^ 64 = subst (λ (b : ℕ). b < 2 ^ 64) (sym (ap bits_of (shifted-word x) ∙ bits_of_set x.bits)) (bits-narrow x p.0) in
    ap (λ (u : List ℕ). held_says (rank_of x.family u)) (same_word x)
    ∙ held_gives (rank_of x.family (word_of x)) (rank_fits x.family (word_of x) (word-monotone x) (below_of_bits 64 (shifted x.family (word_of x)) f)) ∙ p.1

pub same_unrank : (F : Family) (n k r : ℕ) (x : Index) → unrank_over_says F n k r ≡ gives x → wide_unrank_over_says F n k r ≡ gives (widened x)
same_unrank F n k r x e = go (then_gave (count_says F n k) (λ c. refused_if (leb c r) 3 (gives (index_of F n (unrank_of F k r)))) x e)
  where
    go : (c : ℕ) × (count_says F n k ≡ gives c) × (refused_if (leb c r) 3 (gives (index_of F n (unrank_of F k r))) ≡ gives x) → wide_unrank_over_says F n k r ≡ gives (widened x)
    go t =
        let p = passed (leb t.0 r) 3 (gives (index_of F n (unrank_of F k r))) x t.2 in
        let d : Counted F n k t.0 = count_given F n k t.0 t.1 in
        let l : r < count F n k = omega (arith, leb-false t.0 r p.0, d.is) in
        let a : Accepted (index_of F n (unrank_of F k r)) = index-accepted F n k (unrank_of F k r) d.alphabet (unrank_is_a_word F n k r l) in
        unranked F n k t.0 r (same_count F n k t.0 t.1) (leb-false t.0 r p.0)
        ∙ ap gives (wide_of_narrow F (bits_of (shifted F (unrank_of F k r))) (bits-narrow (index_of F n (unrank_of F k r)) a))
        ∙ ap (λ (y : Index). gives (widened y)) (gives_same (index_of F n (unrank_of F k r)) x p.1)

pub same_unranked_word : (F : Family) (n k r room : ℕ) (w : List ℕ) → unrank_says F n k r room ≡ gives w → wide_unrank_says F n k r room ≡ gives w
same_unranked_word F n k r room w e =
    let u = unrank_given F n k r room w e in
    let c : Counted F n k (count F n k) = u.0.counted in
    wide_unrank_answers F n k r room (omega (arith, c.degree)) (omega (arith, c.alphabet)) (count_fits F n k c.alphabet) u.0.below u.1 ∙ ap gives (sym u.0.is)

-- ---- the next term

-- the successor of a set, over any width at which the next set fits
stays : (w : ℕ) (F : Family) (a : ℕ) → 0 < length (word_in F a) → next_bits F a < 2 ^ w → successor_in w F a ≡ gives (next_bits F a)
stays w F a h f = simp (ne_eqb (length (word_in F a)) 0 (λ e. omega arith), lt-leb (2 ^ w) (next_bits F a) f)

pub same_successor : (x y : Index) → successor_says x ≡ gives y → wide_successor_says (widened x) ≡ gives (widened y)
same_successor x y e =
    let F : Family = x.family in
    let s : Succeeds x y = successor_given x y e in
    let f : next_bits F x.bits < 2 ^ 64 =
    bits-narrow (index_of F x.alphabet (next F (word_of x)))
    (index-accepted F x.alphabet (length (word_of x)) (next F (word_of x)) s.taken.narrow
    (record { long = next_long F (word_of x); monotone = next_monotone F (word_of x) (word-monotone x); below = s.over })) in
    ap (λ (a : ℕ). as_wide F (successor_in 128 F a)) (whole-widened x)
    ∙ ap (as_wide F) (stays 128 F x.bits s.some (more_digits f))
    ∙ ap gives (wide_of_narrow F (next_bits F x.bits) f) ∙ ap (λ (z : Index). gives (widened z)) s.is

-- ---- merging

one_family : (F G : Family) → G ≡ F → not (same_family F G) ≡ false
one_family F G e = ap (λ (H : Family). not (same_family F H)) e ∙ self F
  where
    self : (F : Family) → not (same_family F F) ≡ false
    self Forbidden = refl
    self Allowed = refl

-- a narrow term as a wide one
abbrev pub widened_term : SignedTerm → WideTerm
widened_term t = record { sign = t.sign; index = widened t.index }

pub same_merge : (x y : Index) (t : SignedTerm) → merge_says x y ≡ gives t → wide_merge_says (widened x) (widened y) ≡ gives (widened_term t)
same_merge x y t e =
    let F : Family = x.family in
    let p : Passed x y t = merge_passed x y t e in
    let u : List ℕ = word_of x in
    let v : List ℕ = word_of y in
    let g : Sign = sign_in F (crossings u v) in
    let b : ℕ = bits_of (shifted F (merged u v)) in
    let f : b < 2 ^ 64 = bits-narrow (term_of x y).index (subst (λ (s : SignedTerm). Accepted s.index) (sym p.is) (merged-term x y t e).accepted) in
    ap (λ s. refused_if s 6 (merged_wide_says F (word_in F (whole_of (widened x))) (word_in y.family (whole_of (widened y))))) (one_family F y.family p.one)
    ∙ ap₂ (λ (i j : List ℕ). merged_wide_says F i j) (same_word x) (same_word y)
    ∙ ap (λ s. refused_if s 5 (signed_wide F g (bits_says_in 127 F (merged u v)))) p.free
    ∙ ap (signed_wide F g) (fits_gives_in 127 F (merged u v) (more_digits f))
    ∙ ap (λ (z : Wide). gives (record { sign = g; index = z })) (wide_of_narrow F b f)
    ∙ ap (λ (s : SignedTerm). gives (widened_term s)) p.is

-- ---- deletion

-- what is left of a narrow term, as what is left of a wide one
abbrev pub widened_gap : Removed → WideGap
widened_gap r = record { sign = r.sign; symbol = r.symbol; index = widened r.index }

pub same_deletion : (x : Index) (p : ℕ) (r : Removed) → delete_says x p ≡ gives r → wide_delete_says (widened x) p ≡ gives (widened_gap r)
same_deletion x p r e =
    let F : Family = x.family in
    let q = passed (leb (length (word_of x)) p) 7 (gives (given x p)) r (taken_gives x (removed_says x p) r e).1 in
    let same : given x p ≡ r = gives_same (given x p) r q.1 in
    let f : bits_of (shifted F (without p (word_of x))) < 2 ^ 64 = bits-narrow (given x p).index (subst (λ (s : Removed). Accepted s.index) (sym same) (deletion_accepted x p r e)) in
    ap (λ (a : ℕ). gapped F (delete_in F a p)) (whole-widened x)
    ∙ ap (λ t. gapped F (refused_if t 7 (gives (record { sign = sign_in F p; symbol = get_or (word_of x) p 0; bits = bits_of (shifted F (without p (word_of x))) })))) q.0
    ∙ ap (λ (z : Wide). gives (record { sign = sign_in F p; symbol = get_or (word_of x) p 0; index = z })) (wide_of_narrow F (bits_of (shifted F (without p (word_of x)))) f)
    ∙ ap (λ (s : Removed). gives (widened_gap s)) same
  where
    given : Index → ℕ → Removed
    given x p = record { sign = sign_in x.family p; symbol = get_or (word_of x) p 0; index = index_of x.family x.alphabet (without p (word_of x)) }

    gapped : Family → Says Gap → Says WideGap
    gapped F s = and_then s (λ g. gives (record { sign = g.sign; symbol = g.symbol; index = wide_of F g.bits }))
