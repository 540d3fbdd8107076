-- A line that asks for words is three parts with a space between two of them, and the two places that a search for spaces finds are theirs. Assumes nothing.
--   around_both    a text with a space at two places is the part before them, the part between them and the part after them
--   Parts text a b u v w    the spaces of the text stand at a and b, and the parts about them are u, v and w
--   parts_of_asks, space_of_asks    the parts of a line that asks for words; it has a space
--   no_name, no-first, no_second    a line of which a part is no family or no number is bad
--   all-parts    a line whose three parts are a family and two numbers asks for their words
use Rattle.std.specs.Prelude.{Option, Some, None}
use mathlib.Core.Path.{◌≡◌, sym, ap, ap₂, subst, ◌∙◌}
use mathlib.Core.List.{List, [], ◌∷◌, ◌++◌}
use Prim.Native.Nat.{ℕ, zero, suc, ◌+◌, ◌-◌, ◌<◌}
use native.Mathlib.Nat.{le_of_suc-le-suc, sub-zero}
use native.Mathlib.Numerals.{add-one}
use native.Mathlib.Omega.{arith}
use lib.Arith.{lt_of_le-ne}
use lib.ListN.{length, take, drop, get_or, length-append, length-drop}
use lib.Seq.{split_at, get_or-drop, take_all, take-append_seam, drop-append-add, drop-drop}
use borrow.Author.Rules.{rules}
use Rattle.words.specs.declared.Family.{Family}
use Rattle.words.specs.declared.Family.TheVariants.{Forbidden, Allowed}
use Rattle.text.specs.Text.{Found}
use Rattle.text.specs.Names.{name_of, Names}
use Rattle.text.specs.Numeral.{Numeral, Reads}
use Rattle.text.proofs.Found.{found-later, found_first}
use Rattle.terms_line.specs.Line.{AsksWords, Parses}

-- the text about a space
around : (s : List ℕ) (a : ℕ) → a < length s → get_or s a 0 ≡ 32 → s ≡ take a s ++ (32 ∷ drop (a + 1) s)
around s a h e = split_at s a 0 h ∙ ap₂ (λ (x : ℕ) (k : ℕ). take a s ++ (x ∷ drop k s)) e (sym (add-one a))

-- the text about two spaces
pub around_both : (s : List ℕ) (a b : ℕ) → a < b → b < length s → get_or s a 0 ≡ 32 → get_or s b 0 ≡ 32
    → s ≡ take a s ++ (32 ∷ (take (b - (a + 1)) (drop (a + 1) s) ++ (32 ∷ take (length s - (b + 1)) (drop (b + 1) s))))
around_both s a b h l p q =
    let d = drop (a + 1) s in
    let c = b - (a + 1) in
    let at_b : a + 1 + c ≡ b = omega arith in
    let past_b : a + 1 + (c + 1) ≡ b + 1 = omega arith in
    let rest : drop (c + 1) d ≡ take (length s - (b + 1)) (drop (b + 1) s) =
    drop-drop (c + 1) (a + 1) s ∙ ap (λ (k : ℕ). drop k s) past_b ∙ sym (take_all (length s - (b + 1)) (drop (b + 1) s) (simp length-drop (omega arith))) in
    around s a (omega arith) p
    ∙ ap (λ (t : List ℕ). take a s ++ (32 ∷ t))
    (around d c (simp length-drop (omega arith)) (get_or-drop (a + 1) s c 0 ∙ ap (λ (k : ℕ). get_or s k 0) at_b ∙ q) ∙ ap (λ (t : List ℕ). take c d ++ (32 ∷ t)) rest)

pub record Parts (text : List ℕ) (a b : ℕ) (u v w : List ℕ) : Type 0 where
  pub first_space : a < length text
  pub second_space : b < length text
  pub name : take a text ≡ u
  pub first : take (b - (a + 1)) (drop (a + 1) text) ≡ v
  pub second : take (length text - (b + 1)) (drop (b + 1) text) ≡ w

parts_of_whole : (u v w : List ℕ) (a b : ℕ) → ((k : ℕ) → k < length u → get_or u k 0 ≡ 32 → ⊥) → ((k : ℕ) → k < length v → get_or v k 0 ≡ 32 → ⊥)
    → Found (u ++ (32 ∷ (v ++ (32 ∷ w)))) 0 32 a → Found (u ++ (32 ∷ (v ++ (32 ∷ w)))) (a + 1) 32 b → Parts (u ++ (32 ∷ (v ++ (32 ∷ w)))) a b u v w
parts_of_whole u v w a b no-u no-v f g =
    let t = v ++ (32 ∷ w) in
    let s = u ++ (32 ∷ t) in
    let long : length s ≡ length u + (1 + (length v + (1 + length w))) = length-append u (32 ∷ t) ∙ omega (arith, length-append v (32 ∷ w)) in
    let at_a : a ≡ length u = found_first u t 32 a no-u f in
    let after_a : drop (a + 1) s ≡ t = ap (λ (k : ℕ). drop (k + 1) s) at_a ∙ drop-append-add u (32 ∷ t) 1 in
    let at_b : b - (a + 1) ≡ length v = found_first v w 32 (b - (a + 1)) no-v (subst (λ (l : List ℕ). Found l 0 32 (b - (a + 1))) after_a (found-later s (a + 1) 32 b (omega arith) g)) in
    let past_b : b + 1 ≡ a + 1 + (length v + 1) = omega (arith, g.after) in
    let after_b : drop (b + 1) s ≡ w =
    ap (λ (k : ℕ). drop k s) past_b ∙ sym (drop-drop (length v + 1) (a + 1) s) ∙ ap (drop (length v + 1)) after_a ∙ drop-append-add v (32 ∷ w) 1 in
    record {
      first_space = omega arith;
      second_space = omega arith;
      name = ap (λ (k : ℕ). take k s) at_a ∙ take-append_seam u (32 ∷ t);
      first = ap₂ (λ (k : ℕ) (l : List ℕ). take k l) at_b after_a ∙ take-append_seam v (32 ∷ w);
      second = ap (take (length s - (b + 1))) after_b ∙ take_all (length s - (b + 1)) w (omega arith);
    }

-- a family's name has no space, nor has a numeral
abbrev Letters : List ℕ → Type 0
Letters [] = Unit {0}
Letters (x ∷ w) = (32 < x) × Letters w

letters_solid : (w : List ℕ) → Letters w → (k : ℕ) → k < length w → get_or w k 0 ≡ 32 → ⊥
letters_solid [] o k l e = omega arith
letters_solid (x ∷ w) o zero l e = omega (arith, o.0)
letters_solid (x ∷ w) o (suc k) l e = letters_solid w o.1 k (le_of_suc-le-suc l) e

name_solid : (F : Family) (k : ℕ) → k < length (name_of F) → get_or (name_of F) k 0 ≡ 32 → ⊥
name_solid Forbidden = letters_solid (name_of Forbidden) (search rules)
name_solid Allowed = letters_solid (name_of Allowed) (search rules)

numeral_solid : (w : List ℕ) (n : ℕ) → Numeral w n → (k : ℕ) → k < length w → get_or w k 0 ≡ 32 → ⊥
numeral_solid w n o k l e = omega (arith, o.digits k l)

pub parts_of_asks : (text : List ℕ) (a b : ℕ) (F : Family) (n k : ℕ) → Found text 0 32 a → Found text (a + 1) 32 b → (o : AsksWords text F n k) → Parts text a b (name_of F) o.first o.second
parts_of_asks text a b F n k f g o =
    subst (λ (s : List ℕ). Parts s a b (name_of F) o.first o.second) (sym o.whole)
    (parts_of_whole (name_of F) o.first o.second a b (name_solid F) (numeral_solid o.first n o.first_writes)
    (subst (λ (s : List ℕ). Found s 0 32 a) o.whole f) (subst (λ (s : List ℕ). Found s (a + 1) 32 b) o.whole g))

-- a line that asks for words has a space
pub space_of_asks : (text : List ℕ) (a : ℕ) (F : Family) (n k : ℕ) → Found text 0 32 a → AsksWords text F n k → a < length text
space_of_asks text a F n k f o =
    let rest = o.first ++ (32 ∷ o.second) in
    let at_a : a ≡ length (name_of F) = found_first (name_of F) rest 32 a (name_solid F) (subst (λ (s : List ℕ). Found s 0 32 a) o.whole f) in
    subst (λ (s : List ℕ). a < length s) (sym o.whole) (omega (arith, length-append (name_of F) (32 ∷ rest)))

-- ---- what the answers about the three parts say of the line

module _ (text : List ℕ) (a b : ℕ) (f : Found text 0 32 a) (g : Found text (a + 1) 32 b) where
  abbrev part-1 : List ℕ
  part-1 = take (a - 0) text

  part-1-is : part-1 ≡ take a text
  part-1-is = ap (λ (k : ℕ). take k text) (sub-zero a)

  abbrev part-2 : List ℕ
  part-2 = take (b - (a + 1)) (drop (a + 1) text)

  abbrev part-3 : List ℕ
  part-3 = take (length text - (b + 1)) (drop (b + 1) text)

  pub no_name : (r : Option Family) → r ≡ None → Names part-1 r → Parses text None
  no_name r e h F n k o = subst (Names part-1) e h F (part-1-is ∙ (parts_of_asks text a b F n k f g o).name)

  pub no-first : (r : Option ℕ) → r ≡ None → Reads part-2 r → Parses text None
  no-first r e h F n k o =
      subst (Reads part-2) e h n o.first_fits (subst (λ (w : List ℕ). Numeral w n) (sym (parts_of_asks text a b F n k f g o).first) o.first_writes)

  pub no_second : (r : Option ℕ) → r ≡ None → Reads part-3 r → Parses text None
  no_second r e h F n k o =
      subst (Reads part-3) e h k o.second_fits (subst (λ (w : List ℕ). Numeral w k) (sym (parts_of_asks text a b F n k f g o).second) o.second-writes)

  pub all-parts : (r : Option Family) (x y : Option ℕ) (F : Family) (n k : ℕ) → (a ≡ length text → ⊥) → (b ≡ length text → ⊥) → r ≡ Some F → Names part-1 r
      → x ≡ Some n → Reads part-2 x → y ≡ Some k → Reads part-3 y → AsksWords text F n k
  all-parts r x y F n k p q e h e₂ h₂ e₃ h₃ =
      let first_says = subst (Reads part-2) e₂ h₂ in
      let second-says = subst (Reads part-3) e₃ h₃ in
      let in_a : a < length text = lt_of_le-ne f.within p in
      let in_b : b < length text = lt_of_le-ne g.within q in
      record {
        first = part-2;
        second = part-3;
        whole = around_both text a b (omega (arith, g.after)) in_b (f.there in_a) (g.there in_b)
            ∙ ap (λ (t : List ℕ). t ++ (32 ∷ (part-2 ++ (32 ∷ part-3)))) (sym part-1-is ∙ subst (Names part-1) e h);
        first_writes = first_says.0;
        first_fits = first_says.1;
        second-writes = second-says.0;
        second_fits = second-says.1;
      }
