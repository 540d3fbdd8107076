-- The checks of a word given with n. Assumes nothing.
--   Given F n w    what the checks tell: the widths, and that w is a word over n
--   over_given    so they do
--   packed    the index that packing gives is that of the word
--   rank_by_pack, next_by_pack    ranking and the next word, by what packing says
--   following F n w room    what follows the checks: 4; 8; the next word
--   last_says, short_says, next_says_lem    no symbol to raise, no room, the next word
--   can_write    what the writing of it needs
--   unrank_refused, unrank_none, unrank_short, unrank_gives    unranking, check by check
use mathlib.Core.Path.{◌≡◌, refl, sym, ap, ◌∙◌}
use mathlib.Core.Bool.{Bool, true, false, not}
use mathlib.Core.List.{List, [], ◌∷◌}
use Prim.Native.Nat.{ℕ, ◌≤◌, ◌<◌}
use native.Mathlib.Omega.{arith}
use borrow.Author.Tests.{ltb-false, lt-ltb, le-ltb, lt-leb, le-leb}
use lib.Dec.{leb, ltb}
use lib.ListN.{length}
use Rattle.words.specs.declared.Family.{Family}
use Rattle.words.specs.Word.{Word, unshifted, shifted_alphabet}
use Rattle.words.specs.Bits.{set_bits}
use Rattle.words.proofs.Word.{alphabet_least, below_more}
use Rattle.answers.specs.declared.Index.{Index}
use Rattle.answers.specs.Says.{Says, refuses_with, refuses, gives, refused_if, refused_at_if, and_then}
use Rattle.answers.specs.Terms.{index_of}
use Rattle.answers.proofs.Terms.{word_of_index}
use Rattle.answers.proofs.Says.{gives_same, gives_never}
use Rattle.bits.specs.Member.{reaches}
use Rattle.bits.proofs.Member.{reaches_not}
use Rattle.packing.specs.Checks.{rises, break_at, last_shifted}
use Rattle.packing.proofs.Checks.{rises_is_monotone}
use Rattle.monotone_count.specs.Rules.{count_says}
use Rattle.monotone.specs.Rules.{checked_over, pack_says}
use Rattle.lexicographic.specs.Order.{lex_rank, lex_unrank, has_later, lex_next}
use Rattle.raising.specs.Raised.{Raise, CanWrite, raised_at}
use Rattle.lexical.specs.Rules.{lex_rank_says, lex_unrank_says, lex_successor_says}

over_then : {A B C : Type 0} (F : Family) (n : ℕ) (w : List ℕ) (a : A) (f : A → Says C) (b : B) (g : B → Says C) → f a ≡ g b
    → and_then (checked_over F n w a) f ≡ and_then (checked_over F n w b) g
over_then F n w a f b g e = go (ltb 64 (length w)) (ltb 64 (shifted_alphabet F n (length w))) (not (rises F w)) (ltb 63 (last_shifted F w)) (reaches n w)
  where
    go : (o p q r t : Bool)
        → and_then (refused_if o 1 (refused_if p 1 (refused_at_if q 2 (break_at F w) (refused_if r 1 (refused_if t 7 (gives a)))))) f
        ≡ and_then (refused_if o 1 (refused_if p 1 (refused_at_if q 2 (break_at F w) (refused_if r 1 (refused_if t 7 (gives b)))))) g
    go true p q r t = refl
    go false true q r t = refl
    go false false true r t = refl
    go false false false true t = refl
    go false false false false true = refl
    go false false false false false = e

pub record Given (F : Family) (n : ℕ) (w : List ℕ) : Type 0 where
  pub short : length w ≤ 64
  pub narrow : shifted_alphabet F n (length w) ≤ 64
  pub word : Word F n (length w) w

pub over_given : {A : Type 0} (F : Family) (n : ℕ) (w : List ℕ) (a b : A) → checked_over F n w a ≡ gives b → Given F n w × (a ≡ b)
over_given F n w a b e = go (ltb 64 (length w)) refl (ltb 64 (shifted_alphabet F n (length w))) refl (rises F w) refl (ltb 63 (last_shifted F w)) (reaches n w) refl e
  where
    go : (o : Bool) → ltb 64 (length w) ≡ o → (p : Bool) → ltb 64 (shifted_alphabet F n (length w)) ≡ p → (q : Bool) → rises F w ≡ q → (r : Bool) → (t : Bool) → reaches n w ≡ t
        → refused_if o 1 (refused_if p 1 (refused_at_if (not q) 2 (break_at F w) (refused_if r 1 (refused_if t 7 (gives a))))) ≡ gives b → Given F n w × (a ≡ b)
    go true ho p hp q hq r t ht z = absurd (gives_never b 1 [] (sym z))
    go false ho true hp q hq r t ht z = absurd (gives_never b 1 [] (sym z))
    go false ho false hp false hq r t ht z = absurd (gives_never b 2 (break_at F w ∷ []) (sym z))
    go false ho false hp true hq true t ht z = absurd (gives_never b 1 [] (sym z))
    go false ho false hp true hq false true ht z = absurd (gives_never b 7 [] (sym z))
    go false ho false hp true hq false false ht z = (
      record {
        short = ltb-false 64 (length w) ho;
        narrow = ltb-false 64 (shifted_alphabet F n (length w)) hp;
        word = record { long = refl; monotone = (rises_is_monotone F w).0 hq; below = (reaches_not n w).0 ht };
      },
      gives_same a b z,
    )

-- ---- by what packing says

pub packed : (F : Family) (n : ℕ) (w : List ℕ) (x : Index) → pack_says F n w ≡ gives x → Given F n w × (unshifted F (set_bits x.bits) ≡ w)
packed F n w x e = go (over_given F n w (index_of F n w) x e)
  where
    go : Given F n w × (index_of F n w ≡ x) → Given F n w × (unshifted F (set_bits x.bits) ≡ w)
    go p = (p.0, ap (λ (y : Index). unshifted F (set_bits y.bits)) (sym p.1) ∙ word_of_index F n w p.0.word.monotone)

then_gives : {A : Type 0} (s : Says A) → and_then s gives ≡ s
then_gives (refuses_with e p) = refl
then_gives (gives a) = refl

pub rank_by_pack : (F : Family) (n : ℕ) (w : List ℕ) → lex_rank_says F n w ≡ and_then (pack_says F n w) (λ x. gives (lex_rank F n w))
rank_by_pack F n w =
    sym (then_gives (lex_rank_says F n w)) ∙ over_then F n w (lex_rank F n w) gives (index_of F n w) (λ x. gives (lex_rank F n w)) refl

abbrev pub following : Family → ℕ → List ℕ → ℕ → Says (List ℕ)
following F n w room = refused_if (not (has_later F n w)) 4 (refused_if (ltb room (length w)) 8 (gives (lex_next F n w)))

pub next_by_pack : (F : Family) (n : ℕ) (w : List ℕ) (room : ℕ) → lex_successor_says F n w room ≡ and_then (pack_says F n w) (λ x. following F n w room)
next_by_pack F n w room = over_then F n w w (λ v. following F n v room) (index_of F n w) (λ x. following F n w room) refl

pub last_says : (F : Family) (n : ℕ) (w : List ℕ) (room r : ℕ) → Raise F n w r → r ≡ 0 → following F n w room ≡ refuses 4
last_says F n w room r p e = simp (p.none e)

pub short_says : (F : Family) (n : ℕ) (w : List ℕ) (room r : ℕ) → Raise F n w r → 0 < r → room < length w → following F n w room ≡ refuses 8
short_says F n w room r p e h = simp (p.some e, lt-ltb room (length w) h)

pub next_says_lem : (F : Family) (n : ℕ) (w : List ℕ) (room r : ℕ) → Raise F n w r → 0 < r → length w ≤ room → following F n w room ≡ gives (raised_at F w r)
next_says_lem F n w room r p e h = simp (p.some e, le-ltb room (length w) h, p.is e)

pub can_write : (F : Family) (n : ℕ) (w : List ℕ) (r : ℕ) → Given F n w → Raise F n w r → 0 < r → CanWrite w r
can_write F n w r g p h =
    record {
      some = h;
      within = p.within;
      short = g.short;
      low = below_more n 64 w (omega (arith, alphabet_least F n (length w), g.narrow)) g.word.below;
    }

-- ---- unranking, check by check

pub unrank_refused : (F : Family) (n k r room e : ℕ) (p : List ℕ) → count_says F n k ≡ refuses_with e p → lex_unrank_says F n k r room ≡ refuses_with e p
unrank_refused F n k r room e p q = ap (λ s. and_then s (λ c. refused_if (leb c r) 3 (refused_if (ltb room k) 8 (gives (lex_unrank F n k r))))) q

pub unrank_none : (F : Family) (n k r room c : ℕ) → count_says F n k ≡ gives c → c ≤ r → lex_unrank_says F n k r room ≡ refuses 3
unrank_none F n k r room c e h = simp (e, le-leb c r h)

pub unrank_short : (F : Family) (n k r room c : ℕ) → count_says F n k ≡ gives c → r < c → room < k → lex_unrank_says F n k r room ≡ refuses 8
unrank_short F n k r room c e h l = simp (e, lt-leb c r h, lt-ltb room k l)

pub unrank_gives : (F : Family) (n k r room c : ℕ) → count_says F n k ≡ gives c → r < c → k ≤ room → lex_unrank_says F n k r room ≡ gives (lex_unrank F n k r)
unrank_gives F n k r room c e h l = simp (e, lt-leb c r h, le-ltb room k l)
