-- Texts of pairs of digits, and the bytes that they write. Assumes nothing.
--   hex_long, bytes-many    the digits are twice as many as the bytes, so half of a text's length is how many bytes it writes
--   high-at, low-at    the digits of a byte in the text
--   byte_stored, all_stored    one more byte is read, and all of them are
--   dash-is-bytes, digits-are-bytes, bytes-are-digits    `-` writes bytes, a text of digits, two to a byte, does, and no other text does
--   one_bytes    a text writes one list of bytes at most
use mathlib.Core.Path.{◌≡◌, refl, sym, ap, ap₂, subst, ◌∙◌}
use mathlib.Core.List.{List, [], ◌∷◌, ◌++◌}
use Prim.Native.Nat.{ℕ, zero, suc, ◌+◌, ◌*◌, ◌/◌, ◌%◌, ◌≤◌, ◌<◌}
use native.Mathlib.Nat.{le_of_suc-le-suc}
use native.Mathlib.Numerals.{add-one}
use native.Mathlib.Omega.{arith}
use lib.ListN.{length, drop, get_or, set}
use lib.Seq.{paste, paste-suc, take-length}
use Rattle.spelling.specs.Hex.{digit_text, hex_of, bytes_text, AllBytes, SpellsBytes, IsBytes, ByteOf, IsHex, AllDigits}
use Rattle.spelling.proofs.Digits.{one_digit}

pub hex_long : (bs : List ℕ) → length (hex_of bs) ≡ 2 * length bs
unfolding hex_of
hex_long [] = refl
hex_long (b ∷ bs) = omega (arith, hex_long bs)

text_long : (bs : List ℕ) → length (bytes_text bs) / 2 ≡ length bs
text_long [] = refl
text_long (b ∷ bs) = omega (arith, hex_long (b ∷ bs))

pub bytes-many : (text bs : List ℕ) → SpellsBytes text bs → length text / 2 ≡ length bs
bytes-many text bs s = ap (λ (t : List ℕ). length t / 2) s.writes ∙ text_long bs

pub high_in : (bs : List ℕ) (i j : ℕ) → i < length bs → j ≡ 2 * i → get_or (hex_of bs) j 0 ≡ digit_text (get_or bs i 0 / 16)
unfolding hex_of
high_in [] i j h e = absurd (omega arith)
high_in (b ∷ bs) zero zero h e = refl
high_in (b ∷ bs) zero (suc j) h e = absurd (omega arith)
high_in (b ∷ bs) (suc i) zero h e = absurd (omega arith)
high_in (b ∷ bs) (suc i) (suc zero) h e = absurd (omega arith)
high_in (b ∷ bs) (suc i) (suc (suc j)) h e = high_in bs i j (le_of_suc-le-suc h) (omega arith)

pub low_in : (bs : List ℕ) (i j : ℕ) → i < length bs → j ≡ 2 * i + 1 → get_or (hex_of bs) j 0 ≡ digit_text (get_or bs i 0 % 16)
unfolding hex_of
low_in [] i j h e = absurd (omega arith)
low_in (b ∷ bs) zero zero h e = absurd (omega arith)
low_in (b ∷ bs) zero (suc zero) h e = refl
low_in (b ∷ bs) zero (suc (suc j)) h e = absurd (omega arith)
low_in (b ∷ bs) (suc i) zero h e = absurd (omega arith)
low_in (b ∷ bs) (suc i) (suc zero) h e = absurd (omega arith)
low_in (b ∷ bs) (suc i) (suc (suc j)) h e = low_in bs i j (le_of_suc-le-suc h) (omega arith)

-- a text that has a pair is no `-`
hex_when_some : (text bs : List ℕ) (i : ℕ) → SpellsBytes text bs → i < length bs → text ≡ hex_of bs
hex_when_some text [] i s h = absurd (omega arith)
hex_when_some text (b ∷ bs) i s h = s.writes

pub byte_stored : (text out₀ out bs : List ℕ) (i r : ℕ) → SpellsBytes text bs → length bs ≤ length out₀ → i < length text / 2 → out ≡ paste out₀ 0 bs i
    → ByteOf (get_or text (2 * i) 0) (get_or text (2 * i + 1) 0) r → set out i r ≡ paste out₀ 0 bs (i + 1)
byte_stored text out₀ out bs i r s h l e o =
    let k : i < length bs = omega (arith, bytes-many text bs s) in
    let t = hex_when_some text bs i s k in
    let b = get_or bs i 0 in
    let g : b < 256 = s.each i k in
    let high : get_or text (2 * i) 0 ≡ digit_text (b / 16) = ap (λ (u : List ℕ). get_or u (2 * i) 0) t ∙ high_in bs i (2 * i) k refl in
    let low : get_or text (2 * i + 1) 0 ≡ digit_text (b % 16) = ap (λ (u : List ℕ). get_or u (2 * i + 1) 0) t ∙ low_in bs i (2 * i + 1) k refl in
    let v : r ≡ b = o (b / 16) (b % 16) (omega arith) (omega arith) high low ∙ omega arith in
    let z : i ≡ 0 + i = omega arith in
    ap₂ (λ (u : List ℕ) (x : ℕ). set u i x) e v ∙ ap (λ (j : ℕ). set (paste out₀ 0 bs i) j b) z ∙ paste-suc out₀ 0 bs i 0 (omega arith) k
    ∙ ap (paste out₀ 0 bs) (sym (add-one i))

pub all_stored : (out₀ bs : List ℕ) (i : ℕ) → i ≡ length bs → paste out₀ 0 bs i ≡ bs ++ drop (length bs) out₀
all_stored out₀ bs i e =
    let z : 0 + length bs ≡ length bs = omega arith in
    ap (paste out₀ 0 bs) e ∙ ap₂ (λ (t : List ℕ) (k : ℕ). t ++ drop k out₀) (take-length bs) z

-- ---- which texts write bytes

each_more : (b : ℕ) (bs : List ℕ) → b < 256 → AllBytes bs → AllBytes (b ∷ bs)
each_more b bs h g zero l = h
each_more b bs h g (suc k) l = g k (le_of_suc-le-suc l)

-- text writes the pairs of some bytes
abbrev Pairs : List ℕ → Type 0
Pairs text = (bs : List ℕ) × (text ≡ hex_of bs) × AllBytes bs

pair_more : (a b : ℕ) (t : List ℕ) → IsHex a → IsHex b → Pairs t → Pairs (a ∷ b ∷ t)
unfolding hex_of
pair_more a b t x y p =
    let v : ℕ = 16 * x.value + y.value in
    let high : x.value ≡ v / 16 = omega (arith, y.below) in
    let low : y.value ≡ v % 16 = omega (arith, y.below) in
    let q : a ≡ digit_text (v / 16) = x.writes ∙ ap digit_text high in
    let r : b ≡ digit_text (v % 16) = y.writes ∙ ap digit_text low in
    (v ∷ p.0, ap₂ (λ (c : ℕ) (u : List ℕ). c ∷ u) q (ap₂ (λ (c : ℕ) (u : List ℕ). c ∷ u) r p.1), each_more v p.0 (omega (arith, x.below, y.below)) p.2)

pairs_are_bytes : (text : List ℕ) → length text % 2 ≡ 0 → AllDigits text → Pairs text
unfolding hex_of
pairs_are_bytes [] e h = ([], refl, λ k l. absurd (omega arith))
pairs_are_bytes (a ∷ []) e h = absurd (omega arith)
pairs_are_bytes (a ∷ b ∷ t) e h =
    pair_more a b t (h 0 (omega arith)) (h 1 (omega arith)) (pairs_are_bytes t (omega arith) (λ k l. h (suc (suc k)) (omega arith)))

digits_in : (bs : List ℕ) → AllBytes bs → AllDigits (hex_of bs)
unfolding hex_of
digits_in [] g k l = absurd (omega arith)
digits_in (b ∷ bs) g zero l = record { value = b / 16; below = omega (arith, g 0 (omega arith)); writes = refl }
digits_in (b ∷ bs) g (suc zero) l = record { value = b % 16; below = omega arith; writes = refl }
digits_in (b ∷ bs) g (suc (suc k)) l = digits_in bs (λ j m. g (suc j) (omega arith)) k (omega arith)

module _ (text : List ℕ) where
  pub dash-is-bytes : text ≡ 45 ∷ [] → IsBytes text
  dash-is-bytes e = record { bytes = []; spells = record { writes = e; each = λ k l. absurd (omega arith) } }

  pub digits-are-bytes : (length text ≡ 0 → ⊥) → length text % 2 ≡ 0 → AllDigits text → IsBytes text
  digits-are-bytes d e h = go (pairs_are_bytes text e h)
    where
      go : Pairs text → IsBytes text
      go ([], e, g) = absurd (d (ap length e ∙ hex_long []))
      go (b ∷ bs, e, g) = record { bytes = b ∷ bs; spells = record { writes = e; each = g } }

  -- a text of bytes is `-` or digits, two to a byte
  pub bytes-are-digits : (text ≡ 45 ∷ [] → ⊥) → IsBytes text → (0 < length text) × ((length text % 2 ≡ 0) × AllDigits text)
  bytes-are-digits d o = go o.bytes o.spells
    where
      go : (bs : List ℕ) → SpellsBytes text bs → (0 < length text) × ((length text % 2 ≡ 0) × AllDigits text)
      go [] s = absurd (d s.writes)
      go (b ∷ bs) s =
          (omega (arith, ap length s.writes, hex_long (b ∷ bs)), (omega (arith, ap length s.writes, hex_long (b ∷ bs)), subst AllDigits (sym s.writes) (digits_in (b ∷ bs) s.each)))

-- ---- one reading

hex_one : (bs cs : List ℕ) → AllBytes bs → AllBytes cs → hex_of bs ≡ hex_of cs → bs ≡ cs
unfolding hex_of
hex_one [] [] g h e = refl
hex_one [] (c ∷ cs) g h e = absurd (omega (arith, ap length e))
hex_one (b ∷ bs) [] g h e = absurd (omega (arith, ap length e))
hex_one (b ∷ bs) (c ∷ cs) g h e =
    let high : digit_text (b / 16) ≡ digit_text (c / 16) = ap (λ (t : List ℕ). get_or t 0 0) e in
    let low : digit_text (b % 16) ≡ digit_text (c % 16) = ap (λ (t : List ℕ). get_or t 1 0) e in
    let x : b < 256 = g 0 (omega arith) in
    let y : c < 256 = h 0 (omega arith) in
    let p = one_digit (b / 16) (c / 16) (omega arith) (omega arith) high in
    let q = one_digit (b % 16) (c % 16) (omega arith) (omega arith) low in
    let v : b ≡ c = omega (arith, p, q) in
    ap₂ (λ (z : ℕ) (zs : List ℕ). z ∷ zs) v (hex_one bs cs (λ k l. g (suc k) (omega arith)) (λ k l. h (suc k) (omega arith)) (ap (λ (t : List ℕ). drop 2 t) e))

pub one_bytes : (text bs cs : List ℕ) → SpellsBytes text bs → SpellsBytes text cs → bs ≡ cs
one_bytes text [] [] s t = refl
one_bytes text [] (c ∷ cs) s t = absurd (omega (arith, ap length s.writes, ap length t.writes, hex_long (c ∷ cs)))
one_bytes text (b ∷ bs) [] s t = absurd (omega (arith, ap length s.writes, ap length t.writes, hex_long (b ∷ bs)))
one_bytes text (b ∷ bs) (c ∷ cs) s t = hex_one (b ∷ bs) (c ∷ cs) s.each t.each (sym s.writes ∙ t.writes)
