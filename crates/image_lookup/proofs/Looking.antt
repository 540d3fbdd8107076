-- The lookup, as the code goes. Assumes nothing.
--   Body l F k t, body_of    what the table of a family and a degree has, in a good image
--   row_by_ones    the row of an index, by the number of its ones
--   there_exactly    a term keeps to the symbols of its table exactly if its rank is below the number of entries
--   reaches_is_rank    so one comparison tells
--   look-refused, look-entry    what the lookup comes to: the refusal of the row, or the entry of the rank
use mathlib.Core.Path.{◌≡◌, refl, sym, ap, subst, ◌∙◌}
use mathlib.Core.Bool.{Bool, true, false}
use mathlib.Core.List.{List}
use mathlib.Core.Logic.{◌↔◌}
use Prim.Native.Nat.{ℕ, ◌+◌, ◌*◌, ◌≤◌, ◌<◌}
use native.Mathlib.Omega.{arith}
use borrow.Author.Tests.{leb-true, leb-false}
use lib.Dec.{leb}
use lib.ListN.{length}
use Rattle.words.specs.declared.Family.{Family}
use Rattle.words.specs.Word.{Below, count}
use Rattle.words.specs.Rank.{rank_of}
use Rattle.words.specs.Bits.{set_bits}
use Rattle.words.proofs.Unrank.{word_below_n_exactly_when_rank_below_count}
use Rattle.bits.specs.Member.{reaches}
use Rattle.bits.proofs.Member.{reaches_not}
use Rattle.answers.specs.declared.Index.{Index}
use Rattle.answers.specs.Says.{Says, refuses_with, gives, refused_if, and_then}
use Rattle.answers.specs.Terms.{word_of}
use Rattle.answers.proofs.Says.{then_gave, gives_same}
use Rattle.answers.proofs.Terms.{word-monotone, word_long}
use Rattle.image_reading.specs.declared.Table.{Table}
use Rattle.image_reading.specs.Reading.{number_says, table_at, row_says}
use Rattle.image_reading.proofs.Looking.{Given, row_given}
use Rattle.image_lookup.specs.Lookup.{entry_of, coefficient_says, entry_says}

pub record Body (l : List ℕ) (F : Family) (k : ℕ) (t : Table) : Type 0 where
  pub entries : t.entries ≡ count F t.alphabet k
  pub within : t.offset + 8 * t.entries ≤ length l
  pub short : t.offset + 8 * t.entries ≤ 65536

pub body_of : (l : List ℕ) (F : Family) (k : ℕ) (t : Table) → row_says l F k ≡ gives t → Body l F k t
body_of l F k t e =
    let a = then_gave (number_says l F k) (λ i. gives (table_at l i)) t e in
    let g : Given l F k a.0 = row_given l F k a.0 a.1 in
    subst (Body l F k) (gives_same (table_at l a.0) t a.2) (record { entries = g.entries; within = g.body; short = g.short })

-- ---- the row of an index

abbrev pub RowIs : List ℕ → Index → Table → Type 0
RowIs l x t = row_says l x.family (length (word_of x)) ≡ gives t

-- the code counts ones
pub row_by_ones : (l : List ℕ) (x : Index) (k : ℕ) → k ≡ length (set_bits x.bits) → row_says l x.family k ≡ row_says l x.family (length (word_of x))
row_by_ones l x k e = ap (row_says l x.family) (e ∙ sym (word_long x))

pub there_exactly : (l : List ℕ) (x : Index) (t : Table) → RowIs l x t → Below t.alphabet (word_of x) ↔ (rank_of x.family (word_of x) < t.entries)
there_exactly l x t e =
    let g : Body l x.family (length (word_of x)) t = body_of l x.family (length (word_of x)) t e in
    let w = word_below_n_exactly_when_rank_below_count x.family t.alphabet (length (word_of x)) (word_of x) refl (word-monotone x) in
    (λ b. omega (arith, w.0 b, g.entries), λ h. w.1 (omega (arith, g.entries)))

not_false_is_true : (b : Bool) → (b ≡ false → ⊥) → b ≡ true
not_false_is_true true h = refl
not_false_is_true false h = absurd (h refl)

pub reaches_is_rank : (l : List ℕ) (x : Index) (t : Table) → RowIs l x t → reaches t.alphabet (word_of x) ≡ leb t.entries (rank_of x.family (word_of x))
reaches_is_rank l x t e = go (leb t.entries (rank_of x.family (word_of x))) refl
  where
    go : (b : Bool) → leb t.entries (rank_of x.family (word_of x)) ≡ b → reaches t.alphabet (word_of x) ≡ b
    go true p =
        not_false_is_true (reaches t.alphabet (word_of x)) (λ q.
        let z = (there_exactly l x t e).0 ((reaches_not t.alphabet (word_of x)).0 q) in
        omega (arith, leb-true t.entries (rank_of x.family (word_of x)) p))
    go false p = (reaches_not t.alphabet (word_of x)).1 ((there_exactly l x t e).1 (leb-false t.entries (rank_of x.family (word_of x)) p))

-- ---- what the lookup comes to

abbrev pub looked : List ℕ → Index → Says ℕ
looked l x = and_then (row_says l x.family (length (word_of x))) (coefficient_says l x)

pub look-refused : (l : List ℕ) (x : Index) (d : ℕ) (p : List ℕ) → row_says l x.family (length (word_of x)) ≡ refuses_with d p → refuses_with d p ≡ looked l x
look-refused l x d p e = sym (ap (λ (s : Says Table). and_then s (coefficient_says l x)) e)

pub look-entry : (l : List ℕ) (x : Index) (t : Table) → RowIs l x t → entry_says l t (rank_of x.family (word_of x)) ≡ looked l x
look-entry l x t e =
    ap (λ (b : Bool). refused_if b 3 (gives (entry_of l t (rank_of x.family (word_of x))))) (sym (reaches_is_rank l x t e))
    ∙ sym (ap (λ (s : Says Table). and_then s (coefficient_says l x)) e)
