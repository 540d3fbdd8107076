-- The words after a verb, taken in one after the other. Assumes nothing.
--   kind_is, no_kind    the kind of a word that is no number, and of a text that is none
--   number_in, other-in    a text that is a number is taken in as one, and another by its kind
--   Passed texts ahead kinds₀ values₀ kinds values n    the first n of the texts are taken in, those ahead are not
--   passed_none, passed-one, passed-all    at the beginning, one text further, and at the end
--   passed-bad, passed-full    a text that says no word, and one that has no place, make the texts bad
use Rattle.std.specs.Prelude.{Option, Some, None}
use mathlib.Core.Bool.{true, false, not, true≢false}
use mathlib.Core.Path.{◌≡◌, refl, sym, ap, subst, ◌∙◌}
use mathlib.Core.List.{List, [], ◌∷◌, ◌++◌, map, append_assoc, append-nil}
use Prim.Native.Nat.{ℕ, suc, ◌+◌, ◌≤◌, ◌<◌}
use native.Mathlib.Numerals.{add-one}
use native.Mathlib.Omega.{arith}
use lib.Dec.{eqb}
use lib.ListN.{length, drop, set, length-append, length-set, length-map}
use lib.Seq.{drop-cons, set_at}
use borrow.Author.Tests.{eqb-true, eqb-false, not-true, not-false}
use Rattle.text.specs.Names.{Names}
use Rattle.text.specs.Numeral.{Reads}
use Rattle.requests.specs.Protocol.{LineWord, number, family, slash, here, nowhere, raw, here_name, nowhere_name, raw_name, Spells, AllSpell}
use Rattle.requests.specs.Parts.{kind_of, value_of, kinds_of, values_of, KindOf, WordIn, TakenIn, TakesAll}
use Rattle.words.specs.declared.Family.{Family}

-- ---- one text

pub kind_is : (text : List ℕ) (x : LineWord) (k : ℕ) → Spells text x → kind_of x ≡ k → value_of x ≡ 0 → 0 < k → KindOf text k
kind_is text x k s e v h =
    record {
      some = λ d. record { word = x; says = s; kind = e; value = v };
      no_family = λ z. absurd (omega arith);
      no_slash = λ z. absurd (omega arith);
      no_here = λ z. absurd (omega arith);
      no_nowhere = λ z. absurd (omega arith);
      no_raw = λ z. absurd (omega arith);
    }

pub no_kind : (text : List ℕ) (r : Option Family) → r ≡ None → Names text r → (text ≡ 47 ∷ [] → ⊥) → (text ≡ here_name → ⊥) → (text ≡ nowhere_name → ⊥) → (text ≡ raw_name → ⊥) → KindOf text 0
no_kind text r e o d h w a =
    record { some = λ z. absurd (z refl); no_family = λ z. subst (Names text) e o; no_slash = λ z. d; no_here = λ z. h; no_nowhere = λ z. w; no_raw = λ z. a }

module _ (text : List ℕ) (i : ℕ) (kinds values : List ℕ) where
  pub number_in : (r : Option ℕ) (n : ℕ) → r ≡ Some n → Reads text r → TakenIn text i kinds values (set kinds i 110) (set values i n) true
  number_in r n e o = record { one = λ t. record { word = number n; says = subst (Reads text) e o; kind = refl; value = refl }; none = λ t. absurd (true≢false t) }

  pub other-in : (r : Option ℕ) (k : ℕ) → r ≡ None → Reads text r → KindOf text k → TakenIn text i kinds values (set kinds i k) (set values i 0) (not (eqb k 0))
  other-in r k e o q = record { one = one; none = none }
    where
      one : not (eqb k 0) ≡ true → WordIn text i kinds values (set kinds i k) (set values i 0)
      one t =
          let w = q.some (eqb-false k 0 (not-true (eqb k 0) t)) in
          record { word = w.word; says = w.says; kind = ap (set kinds i) (sym w.kind); value = ap (set values i) (sym w.value) }

      none : not (eqb k 0) ≡ false → (x : LineWord) → Spells text x → ⊥
      none t (number n) s = subst (Reads text) e o n s.1 s.0
      none t (family F) s = q.no_family (eqb-true k 0 (not-false (eqb k 0) t)) F s
      none t slash s = q.no_slash (eqb-true k 0 (not-false (eqb k 0) t)) s
      none t here s = q.no_here (eqb-true k 0 (not-false (eqb k 0) t)) s
      none t nowhere s = q.no_nowhere (eqb-true k 0 (not-false (eqb k 0) t)) s
      none t raw s = q.no_raw (eqb-true k 0 (not-false (eqb k 0) t)) s

-- ---- one text after the other

spelled_more : (ts : List (List ℕ)) (xs : List LineWord) (t : List ℕ) (x : LineWord) → AllSpell ts xs → Spells t x → AllSpell (ts ++ (t ∷ [])) (xs ++ (x ∷ []))
spelled_more [] [] t x o s = (s, tt)
spelled_more [] (y ∷ ys) t x o s = absurd o
spelled_more (u ∷ us) [] t x o s = absurd o
spelled_more (u ∷ us) (y ∷ ys) t x o s = (o.0, spelled_more us ys t x o.1 s)

as_many : (ts : List (List ℕ)) (xs : List LineWord) → AllSpell ts xs → length ts ≡ length xs
as_many [] [] o = refl
as_many [] (y ∷ ys) o = absurd o
as_many (u ∷ us) [] o = absurd o
as_many (u ∷ us) (y ∷ ys) o = ap suc (as_many us ys o.1)

all_say : (ts us : List (List ℕ)) (t : List ℕ) (xs : List LineWord) → AllSpell (ts ++ (t ∷ us)) xs → ((x : LineWord) → Spells t x → ⊥) → ⊥
all_say [] us t [] o d = o
all_say [] us t (x ∷ xs) o d = d x o.0
all_say (u ∷ ts) us t [] o d = o
all_say (u ∷ ts) us t (x ∷ xs) o d = all_say ts us t xs o.1 d

mapped_more : (f : LineWord → ℕ) (xs : List LineWord) (x : LineWord) (rest : List ℕ) → map f xs ++ (f x ∷ rest) ≡ map f (xs ++ (x ∷ [])) ++ rest
mapped_more f [] x rest = refl
mapped_more f (y ∷ ys) x rest = ap (λ (l : List ℕ). f y ∷ l) (mapped_more f ys x rest)

-- one more word in the first places
stored : (f : LineWord → ℕ) (xs : List LineWord) (x : LineWord) (n : ℕ) (old : List ℕ) → length xs ≡ n → n < length old
    → set (map f xs ++ drop n old) n (f x) ≡ map f (xs ++ (x ∷ [])) ++ drop (n + 1) old
stored f xs x n old e h =
    ap (λ (l : List ℕ). set (map f xs ++ l) n (f x)) (drop-cons old n 0 h) ∙ set_at (map f xs) _ (drop (suc n) old) (f x) n (length-map xs f ∙ e)
    ∙ mapped_more f xs x (drop (suc n) old) ∙ ap (λ (k : ℕ). map f (xs ++ (x ∷ [])) ++ drop k old) (sym (add-one n))

pub record Passed (texts ahead : List (List ℕ)) (kinds₀ values₀ kinds values : List ℕ) (n : ℕ) : Type 0 where
  pub behind : List (List ℕ)
  pub words : List LineWord
  pub whole : texts ≡ behind ++ ahead
  pub says : AllSpell behind words
  pub many : length words ≡ n
  pub kinds_are : kinds ≡ kinds_of words ++ drop n kinds₀
  pub values_are : values ≡ values_of words ++ drop n values₀
  pub kinds_hold : n ≤ length kinds₀
  pub values_hold : n ≤ length values₀
  pub kinds_long : length kinds ≡ length kinds₀
  pub values_long : length values ≡ length values₀

pub passed_none : (texts : List (List ℕ)) (kinds values : List ℕ) → Passed texts texts kinds values kinds values 0
passed_none texts kinds values =
    record {
      behind = [];
      words = [];
      whole = refl;
      says = tt;
      many = refl;
      kinds_are = refl;
      values_are = refl;
      kinds_hold = omega arith;
      values_hold = omega arith;
      kinds_long = refl;
      values_long = refl;
    }

module _ (texts ahead : List (List ℕ)) (kinds₀ values₀ kinds values : List ℕ) (n : ℕ) (o : Passed texts ahead kinds₀ values₀ kinds values n) where
  pub passed-one : (t : List ℕ) (ts : List (List ℕ)) (kinds' values' : List ℕ) → ahead ≡ t ∷ ts → n < length kinds → n < length values
      → WordIn t n kinds values kinds' values' → Passed texts ts kinds₀ values₀ kinds' values' (n + 1)
  passed-one t ts kinds' values' e h l w =
      let k : n < length kinds₀ = omega (arith, o.kinds_long) in
      let v : n < length values₀ = omega (arith, o.values_long) in
      record {
        behind = o.behind ++ (t ∷ []);
        words = o.words ++ (w.word ∷ []);
        whole = o.whole ∙ ap (λ (l : List (List ℕ)). o.behind ++ l) e ∙ sym (append_assoc o.behind (t ∷ []) ts);
        says = spelled_more o.behind o.words t w.word o.says w.says;
        many = length-append o.words (w.word ∷ []) ∙ ap (λ (m : ℕ). m + 1) o.many;
        kinds_are = w.kind ∙ ap (λ (l : List ℕ). set l n (kind_of w.word)) o.kinds_are ∙ stored kind_of o.words w.word n kinds₀ o.many k;
        values_are = w.value ∙ ap (λ (l : List ℕ). set l n (value_of w.word)) o.values_are ∙ stored value_of o.words w.word n values₀ o.many v;
        kinds_hold = omega arith;
        values_hold = omega arith;
        kinds_long = ap length w.kind ∙ length-set kinds n (kind_of w.word) ∙ o.kinds_long;
        values_long = ap length w.value ∙ length-set values n (value_of w.word) ∙ o.values_long;
      }

  pub passed-all : ahead ≡ [] → TakesAll texts kinds₀ values₀ kinds values n
  passed-all e =
      record {
        words = o.words;
        says = subst (λ (l : List (List ℕ)). AllSpell l o.words) (sym (o.whole ∙ ap (λ (l : List (List ℕ)). o.behind ++ l) e ∙ append-nil o.behind)) o.says;
        many = o.many;
        kinds_are = o.kinds_are;
        values_are = o.values_are;
        kinds_hold = omega (arith, o.kinds_hold, o.kinds_long);
        values_hold = omega (arith, o.values_hold, o.values_long);
      }

  pub passed-bad : (t : List ℕ) (ts : List (List ℕ)) → ahead ≡ t ∷ ts → ((x : LineWord) → Spells t x → ⊥) → (xs : List LineWord) → AllSpell texts xs → ⊥
  passed-bad t ts e d xs s =
      all_say o.behind ts t xs (subst (λ (l : List (List ℕ)). AllSpell l xs) (o.whole ∙ ap (λ (l : List (List ℕ)). o.behind ++ l) e) s) d

  pub passed-full : (m : ℕ) → m ≤ n → 0 < length ahead → (xs : List LineWord) → length xs ≤ m → AllSpell texts xs → ⊥
  passed-full m h l xs k s =
      omega (arith, as_many texts xs s, ap length o.whole, length-append o.behind ahead, as_many o.behind o.words o.says, o.many)
