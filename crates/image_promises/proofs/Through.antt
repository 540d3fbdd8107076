-- Demand 3 through the file (02, section 1): an image whose table of a family and degree is over n, and one whose table is over m, n at most m, and whose entries agree as far
-- as the first goes. Assumes nothing.
--   same-through-the-file    they answer alike for every index whose symbols are below n
--   three-through-the-file    for any other index the first answers 3, where the index is taken
use mathlib.Core.Path.{◌≡◌, refl, sym, ap, ◌∙◌}
use mathlib.Core.Bool.{Bool, true, false}
use mathlib.Core.List.{List}
use Prim.Native.Nat.{ℕ, ◌≤◌, ◌<◌}
use borrow.Author.Tests.{le-leb, lt-leb, ltb-true, ltb-false}
use lib.Dec.{ltb}
use Rattle.words.specs.Word.{Below}
use Rattle.words.specs.Rank.{rank_of}
use Rattle.words.proofs.Word.{below_more}
use Rattle.answers.specs.declared.Index.{Index}
use Rattle.answers.specs.Says.{Says, refuses, gives, refused_if}
use Rattle.answers.specs.Terms.{word_of}
use Rattle.taking.specs.Taken.{taken}
use Rattle.image_reading.specs.declared.Table.{Table}
use Rattle.image_lookup.specs.Lookup.{entry_of, entry_says, lookup_says}
use Rattle.image_lookup.proofs.Looking.{RowIs, there_exactly, look-entry}

entry_there : (l : List ℕ) (t : Table) (r : ℕ) → r < t.entries → entry_says l t r ≡ gives (entry_of l t r)
entry_there l t r h = ap (λ (b : Bool). refused_if b 3 (gives (entry_of l t r))) (lt-leb t.entries r h)

entry_missing : (l : List ℕ) (t : Table) (r : ℕ) → t.entries ≤ r → entry_says l t r ≡ refuses 3
entry_missing l t r h = ap (λ (b : Bool). refused_if b 3 (gives (entry_of l t r))) (le-leb t.entries r h)

module _ (a b : List ℕ) (x : Index) (s t : Table) (p : RowIs a x s) (q : RowIs b x t) (wider : s.alphabet ≤ t.alphabet)
    (agree : (r : ℕ) → r < s.entries → entry_of a s r ≡ entry_of b t r) where
  pub same-through-the-file : Below s.alphabet (word_of x) → lookup_says a x ≡ lookup_says b x
  same-through-the-file w =
      let r = rank_of x.family (word_of x) in
      let i : r < s.entries = (there_exactly a x s p).0 w in
      let j : r < t.entries = (there_exactly b x t q).0 (below_more s.alphabet t.alphabet (word_of x) wider w) in
      ap (λ (z : Says ℕ). taken x z) (sym (look-entry a x s p) ∙ entry_there a s r i ∙ ap gives (agree r i) ∙ sym (entry_there b t r j) ∙ look-entry b x t q)

  pub three-through-the-file : (Below s.alphabet (word_of x) → ⊥) → lookup_says a x ≡ taken x (refuses 3)
  three-through-the-file n = ap (λ (z : Says ℕ). taken x z) (sym (look-entry a x s p) ∙ entry_missing a s (rank_of x.family (word_of x)) (go (ltb (rank_of x.family (word_of x)) s.entries) refl))
    where
      go : (c : Bool) → ltb (rank_of x.family (word_of x)) s.entries ≡ c → s.entries ≤ rank_of x.family (word_of x)
      go true e = absurd (n ((there_exactly a x s p).1 (ltb-true (rank_of x.family (word_of x)) s.entries e)))
      go false e = ltb-false (rank_of x.family (word_of x)) s.entries e
