-- Unranking to a word goes on with the index: the refusals that it passes on are its own. Assumes nothing.
--   wide_spell_says F x room    8 if the room is less than the word of the index has symbols; the word
--   word_of_wide    the word of the index of a word is that word
--   wide_unrank_by_index    unranking to a word is unranking to an index, and writing its word
--   Unpacks F n k r x, unpacks    what is left to do with the index x that was given: its set has k numbers, room for less is refused with 8, and otherwise its word is the answer
use mathlib.Core.Path.{◌≡◌, refl, sym, ap, ◌∙◌}
use mathlib.Core.Bool.{Bool, true, false}
use mathlib.Core.List.{List}
use Prim.Native.Nat.{ℕ, ◌≤◌, ◌<◌}
use borrow.Author.Tests.{lt-ltb, le-ltb}
use lib.Dec.{leb, ltb}
use lib.ListN.{length}
use Rattle.words.specs.declared.Family.{Family}
use Rattle.words.specs.Word.{Monotone, shifted}
use Rattle.words.specs.Unrank.{unrank_of}
use Rattle.words.specs.Bits.{bits_of, set_bits}
use Rattle.words.proofs.Unrank.{unrank_long, unrank_monotone}
use Rattle.answers.specs.Says.{Says, refuses_with, refuses, gives, refused_if, and_then}
use Rattle.answers.proofs.Says.{gives_same, passed, then_gave}
use Rattle.answers.proofs.Terms.{word_of_index}
use Rattle.widths.specs.Rules.{word_in}
use Rattle.widths.proofs.Terms.{word_in_long}
use Rattle.wide.specs.declared.Wide.{Wide}
use Rattle.wide.specs.Answers.{whole_of, wide_of}
use Rattle.wide.specs.Rules.{as_wide, wide_count_says, wide_unrank_over_says, wide_unrank_says}
use Rattle.wide.proofs.Terms.{whole_of_wide}

abbrev pub wide_spell_says : Family → Wide → ℕ → Says (List ℕ)
wide_spell_says F x room = refused_if (ltb room (length (word_in F (whole_of x)))) 8 (gives (word_in F (whole_of x)))

pub word_of_wide : (F : Family) (u : List ℕ) → Monotone F u → word_in F (whole_of (wide_of F (bits_of (shifted F u)))) ≡ u
word_of_wide F u m = ap (word_in F) (whole_of_wide F (bits_of (shifted F u))) ∙ word_of_index F 0 u m

pub wide_unrank_by_index : (F : Family) (n k r room : ℕ) → wide_unrank_says F n k r room ≡ and_then (wide_unrank_over_says F n k r) (λ x. wide_spell_says F x room)
wide_unrank_by_index F n k r room = on (wide_count_says F n k)
  where
    same : word_in F (whole_of (wide_of F (bits_of (shifted F (unrank_of F k r))))) ≡ unrank_of F k r
    same = word_of_wide F (unrank_of F k r) (unrank_monotone F k r)

    told : refused_if (ltb room k) 8 (gives (unrank_of F k r)) ≡ wide_spell_says F (wide_of F (bits_of (shifted F (unrank_of F k r)))) room
    told =
        ap (λ (j : ℕ). refused_if (ltb room j) 8 (gives (unrank_of F k r))) (sym (unrank_long F k r))
        ∙ ap (λ (u : List ℕ). refused_if (ltb room (length u)) 8 (gives u)) (sym same)

    by : (t : Bool) → refused_if t 3 (refused_if (ltb room k) 8 (gives (unrank_of F k r)))
        ≡ and_then (as_wide F (refused_if t 3 (gives (bits_of (shifted F (unrank_of F k r)))))) (λ x. wide_spell_says F x room)
    by true = refl
    by false = told

    on : (s : Says ℕ) → and_then s (λ c. refused_if (leb c r) 3 (refused_if (ltb room k) 8 (gives (unrank_of F k r))))
        ≡ and_then (as_wide F (and_then s (λ c. refused_if (leb c r) 3 (gives (bits_of (shifted F (unrank_of F k r))))))) (λ x. wide_spell_says F x room)
    on (refuses_with e p) = refl
    on (gives c) = by (leb c r)

pub record Unpacks (F : Family) (n k r : ℕ) (x : Wide) : Type 0 where
  pub long : length (word_in F (whole_of x)) ≡ k
  pub size : length (set_bits (whole_of x)) ≡ k
  pub short : (room : ℕ) → room < k → wide_unrank_says F n k r room ≡ refuses 8
  pub enough : (room : ℕ) → k ≤ room → wide_unrank_says F n k r room ≡ gives (word_in F (whole_of x))

pub unpacks : (F : Family) (n k r : ℕ) (x : Wide) → wide_unrank_over_says F n k r ≡ gives x → Unpacks F n k r x
unpacks F n k r x e =
    let found : ℕ = bits_of (shifted F (unrank_of F k r)) in
    let t = then_gave (and_then (wide_count_says F n k) (λ c. refused_if (leb c r) 3 (gives found))) (λ a. gives (wide_of F a)) x e in
    let u = then_gave (wide_count_says F n k) (λ c. refused_if (leb c r) 3 (gives found)) t.0 t.1 in
    let q = passed (leb u.0 r) 3 (gives found) t.0 u.2 in
    let is : x ≡ wide_of F found = sym (gives_same (wide_of F t.0) x t.2) ∙ ap (wide_of F) (sym (gives_same found t.0 q.1)) in
    let word : word_in F (whole_of x) ≡ unrank_of F k r = ap (λ (y : Wide). word_in F (whole_of y)) is ∙ word_of_wide F (unrank_of F k r) (unrank_monotone F k r) in
    let long : length (word_in F (whole_of x)) ≡ k = ap length word ∙ unrank_long F k r in
    let says : (room : ℕ) → wide_unrank_says F n k r room ≡ refused_if (ltb room k) 8 (gives (word_in F (whole_of x))) =
    λ room. wide_unrank_by_index F n k r room ∙ ap (λ s. and_then s (λ y. wide_spell_says F y room)) e ∙ ap (λ (j : ℕ). refused_if (ltb room j) 8 (gives (word_in F (whole_of x)))) long in
    record {
      long = long;
      size = sym (word_in_long F (whole_of x)) ∙ long;
      short = λ room h. says room ∙ ap (λ (t : Bool). refused_if t 8 (gives (word_in F (whole_of x)))) (lt-ltb room k h);
      enough = λ room h. says room ∙ ap (λ (t : Bool). refused_if t 8 (gives (word_in F (whole_of x)))) (le-ltb room k h);
    }
