-- The lookup of a term (02, section 1). Assumes nothing.
--   Entry l x v, lookup_is_entry_of_rank    a coefficient that the lookup gives is the entry of the term's rank in the table of its family and degree, inside its body
--   different_terms_different_places    two terms of one family and degree have different places in a table
--   lookup_by_row    with the table that the row call gave, the lookup by a table answers as the plain lookup
use mathlib.Core.Path.{◌≡◌, sym, ap, subst, ◌∙◌}
use mathlib.Core.Bool.{Bool}
use mathlib.Core.List.{List}
use Prim.Native.Nat.{ℕ, ◌+◌, ◌*◌, ◌≤◌, ◌<◌}
use native.Mathlib.Omega.{arith}
use borrow.Author.Tests.{le-ltb, leb-false}
use lib.ListN.{length}
use Rattle.words.specs.declared.Family.{Family}
use Rattle.words.specs.Rank.{rank_of}
use Rattle.words.specs.Word.{Monotone}
use Rattle.words.proofs.Rank.{rank_tells_words_apart}
use Rattle.bits.specs.Member.{reaches}
use Rattle.answers.specs.declared.Index.{Index}
use Rattle.answers.specs.Says.{Says, gives, refused_if}
use Rattle.answers.specs.Terms.{word_of}
use Rattle.answers.proofs.Says.{then_gave, passed, gives_same}
use Rattle.answers.proofs.Terms.{word-monotone}
use Rattle.taking.specs.Taken.{taken}
use Rattle.taking.proofs.Accepted.{taken_gives}
use Rattle.image_reading.specs.declared.Table.{Table}
use Rattle.image_reading.specs.Reading.{row_says}
use Rattle.image_lookup.specs.Lookup.{entry_of, coefficient_says, entry_says, lookup_says, lookup_at_says}
use Rattle.image_lookup.proofs.Looking.{Body, body_of, RowIs, looked, look-entry, reaches_is_rank}

-- ---- what is given

pub record Entry (l : List ℕ) (x : Index) (v : ℕ) : Type 0 where
  pub table : Table
  pub row : RowIs l x table
  pub below : rank_of x.family (word_of x) < table.entries
  pub value : entry_of l table (rank_of x.family (word_of x)) ≡ v
  pub inside : table.offset + 8 * rank_of x.family (word_of x) + 8 ≤ table.offset + 8 * table.entries
  pub within : table.offset + 8 * table.entries ≤ length l

pub lookup_is_entry_of_rank : (l : List ℕ) (x : Index) (v : ℕ) → lookup_says l x ≡ gives v → Entry l x v
lookup_is_entry_of_rank l x v e =
    let a = taken_gives x (looked l x) v e in
    let b = then_gave (row_says l x.family (length (word_of x))) (coefficient_says l x) v a.1 in
    let r = rank_of x.family (word_of x) in
    let p = passed (reaches b.0.alphabet (word_of x)) 3 (gives (entry_of l b.0 r)) v b.2 in
    let h : r < b.0.entries = leb-false b.0.entries r (sym (reaches_is_rank l x b.0 b.1) ∙ p.0) in
    record {
      table = b.0;
      row = b.1;
      below = h;
      value = gives_same (entry_of l b.0 r) v p.1;
      inside = omega arith;
      within = (body_of l x.family (length (word_of x)) b.0 b.1).within;
    }

-- ---- two terms

pub different_terms_different_places : (t : Table) (x y : Index) → x.family ≡ y.family → length (word_of x) ≡ length (word_of y)
    → t.offset + 8 * rank_of x.family (word_of x) ≡ t.offset + 8 * rank_of y.family (word_of y) → word_of x ≡ word_of y
different_terms_different_places t x y f k e =
    rank_tells_words_apart x.family (word_of x) (word_of y) (word-monotone x) (subst (λ (F : Family). Monotone F (word_of y)) (sym f) (word-monotone y)) k
    ((let q : rank_of x.family (word_of x) ≡ rank_of y.family (word_of y) = omega arith in q) ∙ ap (λ (F : Family). rank_of F (word_of y)) (sym f))

-- ---- by a table that was found before

pub lookup_by_row : (l : List ℕ) (x : Index) (t : Table) → RowIs l x t → lookup_at_says l t x ≡ lookup_says l x
lookup_by_row l x t e =
    let g : Body l x.family (length (word_of x)) t = body_of l x.family (length (word_of x)) t e in
    ap (λ (s : Says ℕ). taken x s)
    (ap (λ (b : Bool). refused_if b 7 (entry_says l t (rank_of x.family (word_of x)))) (le-ltb (length l) (t.offset + 8 * t.entries) g.within) ∙ look-entry l x t e)
