-- The bytes of one entry, and an entry put in its place. Assumes nothing.
--   copied-eight    the eight bytes of an entry, one after the other
--   put j e out    out with the entry e at place j
--   put-long, put-here, put-elsewhere    it is as long, has e at that place, and elsewhere what it had
--   entries_none, entries_some    the test of a length
--   all_written    a word as long as the output is all of it
use Rattle.std.proofs.Common.{◌≡◌, ℕ, ◌+◌, ◌-◌, ◌*◌, ◌/◌, ◌%◌, ◌<◌, ◌≤◌, false, eqb, List, [], ◌++◌, length, get_or, take, drop, set, sym, ap, ◌∙◌, ap₂, append_assoc, add-one, arith, length-append, length-drop, take-append-drop, length-take-le, get_or-drop, drop-drop, take_at, drop_at, eq-eqb, ne_eqb}
use native.Mathlib.Decide.{ℕ_discrete, dec_lt}
use lib.Seq.{paste, paste-zero, paste-suc, take-append-le, drop-append-le, drop-append-add, drop-length}
use Rattle.lexicographic.specs.Entries.{entry_at}

module _ (d f : List ℕ) (t s : ℕ) where
  -- one byte
  copy-turn : (b : ℕ) (out : List ℕ) → out ≡ paste d t (drop s f) b → t + b < length d → s + b < length f
      → set out (t + b) (get_or f (s + b) 0) ≡ paste d t (drop s f) (b + 1)
  copy-turn b out e h l =
      ap₂ (λ (o : List ℕ) (x : ℕ). set o (t + b) x) e (sym (get_or-drop s f b 0))
      ∙ paste-suc d t (drop s f) b 0 h (omega (arith, length-drop s f))
      ∙ ap (paste d t (drop s f)) (sym (add-one b))

  pub copied-eight : t + 8 ≤ length d → s + 8 ≤ length f
      → set (set (set (set (set (set (set (set d t (get_or f s 0)) (t + 1) (get_or f (s + 1) 0)) (t + 2) (get_or f (s + 2) 0)) (t + 3) (get_or f (s + 3) 0)) (t + 4) (get_or f (s + 4) 0)) (t + 5) (get_or f (s + 5) 0)) (t + 6) (get_or f (s + 6) 0)) (t + 7) (get_or f (s + 7) 0)
      ≡ paste d t (drop s f) 8
  copied-eight h l = on 7 _ (on 6 _ (on 5 _ (on 4 _ (on 3 _ (on 2 _ (on 1 _ first (omega arith)) (omega arith)) (omega arith)) (omega arith)) (omega arith)) (omega arith)) (omega arith)
    where
      on : (b : ℕ) (o : List ℕ) → o ≡ paste d t (drop s f) b → b < 8 → set o (t + b) (get_or f (s + b) 0) ≡ paste d t (drop s f) (b + 1)
      on b o e k = copy-turn b o e (omega arith) (omega arith)

      first : set d t (get_or f s 0) ≡ paste d t (drop s f) 1
      first =
          ap₂ (λ (i x : ℕ). set d i x) (omega arith) (ap (λ (i : ℕ). get_or f i 0) (omega arith))
          ∙ on 0 d (paste-zero d t (drop s f)) (omega arith)

-- ---- an entry in its place

abbrev pub put : ℕ → List ℕ → List ℕ → List ℕ
put j e out = take (8 * j) out ++ e ++ drop (8 * j + 8) out

module _ (j : ℕ) (e out : List ℕ) (h : length e ≡ 8) (l : 8 * j + 8 ≤ length out) where
  front : length (take (8 * j) out) ≡ 8 * j
  front = length-take-le (8 * j) out (omega arith)

  pub put-long : length (put j e out) ≡ length out
  put-long =
      omega (
        arith,
        front,
        h,
        length-append (take (8 * j) out ++ e) (drop (8 * j + 8) out),
        length-append (take (8 * j) out) e,
        length-drop (8 * j + 8) out,
      )

  pub put-here : entry_at (put j e out) j ≡ e
  put-here =
      ap (λ (l : List ℕ). entry_at l j) (append_assoc (take (8 * j) out) e (drop (8 * j + 8) out))
      ∙ ap (take 8) (drop_at (take (8 * j) out) (e ++ drop (8 * j + 8) out) (8 * j) front)
      ∙ take_at e (drop (8 * j + 8) out) 8 h

  before : (i : ℕ) (v : List ℕ) → i < j → entry_at (take (8 * j) out ++ v) i ≡ entry_at (take (8 * j) out) i
  before i v b =
      ap (take 8) (drop-append-le (8 * i) (take (8 * j) out) v (omega (arith, front)))
      ∙ take-append-le 8 (drop (8 * i) (take (8 * j) out)) v (omega (arith, front, length-drop (8 * i) (take (8 * j) out)))

  past : (i : ℕ) → j < i → drop (8 * i) (put j e out) ≡ drop (8 * i) out
  past i b =
      let p : List ℕ = take (8 * j) out ++ e in
      let k : length p ≡ 8 * j + 8 = omega (arith, length-append (take (8 * j) out) e, front, h) in
      let m : ℕ = 8 * i - (8 * j + 8) in
      let s : length p + m ≡ 8 * i = omega (arith, k) in
      let t : 8 * j + 8 + m ≡ 8 * i = omega arith in
      ap (λ (x : ℕ). drop x (put j e out)) (sym s)
      ∙ drop-append-add p (drop (8 * j + 8) out) m
      ∙ drop-drop m (8 * j + 8) out
      ∙ ap (λ (x : ℕ). drop x out) t

  pub put-elsewhere : (i : ℕ) → (i ≡ j → ⊥) → entry_at (put j e out) i ≡ entry_at out i
  put-elsewhere i n = go (dec_lt i j)
    where
      go : Dec (i < j) → entry_at (put j e out) i ≡ entry_at out i
      go (yes b) =
          ap (λ (l : List ℕ). entry_at l i) (append_assoc (take (8 * j) out) e (drop (8 * j + 8) out)) ∙ before i (e ++ drop (8 * j + 8) out) b ∙ sym (before i (drop (8 * j) out) b) ∙ ap (λ (l : List ℕ). entry_at l i) (take-append-drop (8 * j) out)
      go (no b) = ap (take 8) (past i (omega (arith, n)))

-- ---- the test of a length

pub entries_none : (b c : ℕ) → (b % 8 ≡ 0 → ⊥) → false ≡ eqb b (8 * c)
entries_none b c n = sym (ne_eqb b (8 * c) (λ e. n (omega arith)))

pub entries_some : (b c : ℕ) → b % 8 ≡ 0 → eqb (b / 8) c ≡ eqb b (8 * c)
entries_some b c z = go (ℕ_discrete (b / 8) c)
  where
    go : Dec (b / 8 ≡ c) → eqb (b / 8) c ≡ eqb b (8 * c)
    go (yes e) = eq-eqb (b / 8) c e ∙ sym (eq-eqb b (8 * c) (omega arith))
    go (no n) = ne_eqb (b / 8) c n ∙ sym (ne_eqb b (8 * c) (λ e. n (omega arith)))

-- ---- the whole output is written

append_none : (u : List ℕ) → u ++ [] ≡ u
append_none u = simp mathlib.Core.List.append-nil

pub all_written : (u l : List ℕ) → length u ≡ length l → u ≡ u ++ drop (length u) l
all_written u l e = sym (ap (λ (j : ℕ). u ++ drop j l) e ∙ ap (λ (v : List ℕ). u ++ v) (drop-length l) ∙ append_none u)
