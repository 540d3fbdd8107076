-- The texts of a line by their places. Assumes nothing.
--   text-passed    one text is passed
--   none-further    where no text is left, none is left further on
--   bytes_there    the bytes of the same text
--   text-is, no_text    the i-th text is the one at the place of the i-th, and an empty one where there is none
use mathlib.Core.Path.{◌≡◌, refl, sym, ap, subst, ◌∙◌}
use mathlib.Core.List.{List, [], ◌∷◌}
use Prim.Native.Nat.{ℕ, zero, suc, ◌+◌, ◌-◌, ◌≤◌, ◌<◌}
use native.Mathlib.Omega.{arith}
use lib.ListN.{length, take, drop, get_or}
use lib.Seq.{drop-drop}
use Rattle.text.specs.Text.{Found}
use Rattle.requests.specs.Protocol.{texts_from}
use Rattle.requests.proofs.Texts.{texts_at, no_texts_past}
use Rattle.spelling.specs.Hex.{BytesIn}

drop_none : (n : ℕ) → ◌≡◌ {A = List (List ℕ)} (drop n []) []
drop_none zero = refl
drop_none (suc n) = refl

module _ (line : List ℕ) (texts : List (List ℕ)) (at k : ℕ) (e : texts_from line at ≡ drop k texts) where
  pub text-passed : (end : ℕ) → at ≤ length line → Found line at 32 end → texts_from line (end + 1) ≡ drop (k + 1) texts
  text-passed end h f =
      ap (λ (ts : List (List ℕ)). drop 1 ts) (sym (texts_at line at end h f)) ∙ ap (λ (ts : List (List ℕ)). drop 1 ts) e ∙ drop-drop 1 k texts

  pub none-further : (i : ℕ) → length line < at → k ≤ i → texts_from line at ≡ drop i texts
  none-further i h l =
      let z : k + (i - k) ≡ i = omega arith in
      no_texts_past line at h ∙ sym (ap (λ (n : ℕ). drop n texts) (sym z) ∙ sym (drop-drop (i - k) k texts) ∙ ap (λ (ts : List (List ℕ)). drop (i - k) ts) (sym e ∙ no_texts_past line at h) ∙ drop_none (i - k))

first_of : (texts : List (List ℕ)) (i : ℕ) (t : List ℕ) (ts : List (List ℕ)) → drop i texts ≡ t ∷ ts → t ≡ get_or texts i []
first_of [] zero t ts e = absurd (omega (arith, ap length e))
first_of [] (suc i) t ts e = absurd (omega (arith, ap length e))
first_of (u ∷ us) zero t ts e = cc
first_of (u ∷ us) (suc i) t ts e = first_of us i t ts e

none_of : (texts : List (List ℕ)) (i : ℕ) → drop i texts ≡ [] → [] ≡ get_or texts i []
none_of [] zero e = refl
none_of [] (suc i) e = refl
none_of (u ∷ us) zero e = absurd (omega (arith, ap length e))
none_of (u ∷ us) (suc i) e = none_of us i e

module _ (line : List ℕ) (texts : List (List ℕ)) (at i : ℕ) (e : texts_from line at ≡ drop i texts) where
  pub text-is : (end : ℕ) → at ≤ length line → Found line at 32 end → take (end - at) (drop at line) ≡ get_or texts i []
  text-is end h f = first_of texts i _ (texts_from line (end + 1)) (sym e ∙ texts_at line at end h f)

  pub no_text : length line < at → [] ≡ get_or texts i []
  no_text h = none_of texts i (sym e ∙ no_texts_past line at h)

pub bytes_there : (text there out out' : List ℕ) (r : ℕ) → there ≡ text → BytesIn there out out' r → BytesIn text out out' r
bytes_there text there out out' r e o = subst (λ (t : List ℕ). BytesIn t out out' r) e o
