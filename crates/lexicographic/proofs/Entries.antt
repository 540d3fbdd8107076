-- Entries of eight bytes in another order. Assumes nothing.
--   entry_long    an entry is eight bytes
--   rearranged_long    c entries are 8 * c bytes
--   entry_of_rearranged    the entry at place r is entry f r of what was given
--   rearranged-back    where g undoes f below c, rearranging by f and then by g gives the same bytes
--   rearranged_same    entries that stand where f says, put in order
use mathlib.Core.Path.{◌≡◌, refl, sym, ap, ap₂, subst, ◌∙◌}
use mathlib.Core.Logic.{◌⊎◌, inl, inr}
use mathlib.Core.List.{List, [], ◌++◌}
use Prim.Native.Nat.{ℕ, zero, suc, ◌+◌, ◌*◌, ◌≤◌, ◌<◌}
use native.Mathlib.Nat.{eq-or-lt_of_le, le_of_suc-le-suc, suc_inj, le_step, le_refl}
use native.Mathlib.Omega.{arith}
use lib.ListN.{length, take, drop, length-append, length-drop}
use lib.Seq.{length-take-le, take_all, take-append-le, drop-append-le, drop_at, take-add}
use Rattle.lexicographic.specs.Entries.{entry_at, rearranged}

pub entry_long : (l : List ℕ) (r : ℕ) → 8 * suc r ≤ length l → length (entry_at l r) ≡ 8
entry_long l r h = length-take-le 8 (drop (8 * r) l) (omega (arith, length-drop (8 * r) l))

-- each of the first d places is given an entry that l has
abbrev Within : (ℕ → ℕ) → ℕ → List ℕ → Type 0
Within f d l = (r : ℕ) → r < d → 8 * suc (f r) ≤ length l

pub rearranged_long : (f : ℕ → ℕ) (d : ℕ) (l : List ℕ) → Within f d l → length (rearranged f d l) ≡ 8 * d
unfolding rearranged
rearranged_long f zero l h = refl
rearranged_long f (suc d) l h =
    omega (
      arith,
      length-append (rearranged f d l) (entry_at l (f d)),
      rearranged_long f d l (λ r b. h r (le_step b)),
      entry_long l (f d) (h d (le_refl (suc d))),
    )

pub entry_of_rearranged : (f : ℕ → ℕ) (d : ℕ) (l : List ℕ) → Within f d l → (r : ℕ) → r < d → entry_at (rearranged f d l) r ≡ entry_at l (f r)
unfolding rearranged
entry_of_rearranged f zero l h r b = absurd (omega arith)
entry_of_rearranged f (suc d) l h r b = go (eq-or-lt_of_le b) (entry_of_rearranged f d l (λ q c. h q (le_step c)) r)
  where
    a : List ℕ
    a = rearranged f d l

    long : length a ≡ 8 * d
    long = rearranged_long f d l (λ q c. h q (le_step c))

    go : (suc r ≡ suc d) ⊎ (suc r < suc d) → (r < d → entry_at a r ≡ entry_at l (f r)) → entry_at (a ++ entry_at l (f d)) r ≡ entry_at l (f r)
    go (inl e) ih =
        let q : r ≡ d = suc_inj e in
        ap (take 8) (drop_at a (entry_at l (f d)) (8 * r) (omega (arith, long)))
        ∙ take_all 8 (entry_at l (f d)) (omega (arith, entry_long l (f d) (h d (le_refl (suc d)))))
        ∙ ap (λ (j : ℕ). entry_at l (f j)) (sym q)
    go (inr c) ih =
        ap (take 8) (drop-append-le (8 * r) a (entry_at l (f d)) (omega (arith, long)))
        ∙ take-append-le 8 (drop (8 * r) a) (entry_at l (f d)) (omega (arith, long, length-drop (8 * r) a))
        ∙ ih (le_of_suc-le-suc c)

eight : (d : ℕ) → 8 * suc d ≡ 8 * d + 8
eight d = omega arith

pub rearranged_same : (f : ℕ → ℕ) (d : ℕ) (l m : List ℕ) → ((r : ℕ) → r < d → entry_at m (f r) ≡ entry_at l r) → rearranged f d m ≡ take (8 * d) l
unfolding rearranged
rearranged_same f zero l m h = refl
rearranged_same f (suc d) l m h =
    ap₂ ◌++◌ (rearranged_same f d l m (λ r b. h r (le_step b))) (h d (le_refl (suc d)))
    ∙ sym (ap (λ (j : ℕ). take j l) (eight d) ∙ take-add (8 * d) 8 l)

pub rearranged-back : (f g : ℕ → ℕ) (c : ℕ) (l : List ℕ) → length l ≡ 8 * c → ((r : ℕ) → r < c → f r < c) → ((r : ℕ) → r < c → g r < c)
    → ((r : ℕ) → r < c → f (g r) ≡ r) → rearranged g c (rearranged f c l) ≡ l
rearranged-back f g c l e hf hg back =
    rearranged_same g c l (rearranged f c l) (λ r b. entry_of_rearranged f c l (λ q d. omega (arith, hf q d)) (g r) (hg r b) ∙ ap (entry_at l) (back r b))
    ∙ take_all (8 * c) l (omega arith)
