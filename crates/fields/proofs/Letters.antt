-- Texts that are laid beside a pattern, letter by letter. Assumes nothing.
--   told_not    a test that fails tells that there is none
--   number-stands, family-stands, bytes-stand, slash-stands, nothing-stands    what the letters stand for, and another letter for nothing
--   number_is, family-is    what the text at a place says
--   letter-missing, letter-passed, letter-back    past the end no text is left, and one text is passed with its letter
--   letters_passed    with no letter left, what is ahead is the rest
--   another-verb, not-asked, asked    a request of another verb or whose texts are not those of the pattern is not asked for; where they begin so, it is exactly if the rest begins past the end
--   another-begins, begun    the same of texts that begin with those of the pattern
use Rattle.std.specs.Prelude.{Option, Some, None, is_some}
use Rattle.std.specs.Option.{unwrap_or}
use mathlib.Core.Bool.{Bool, true, false}
use mathlib.Core.Path.{◌≡◌, refl, sym, ap, subst, ◌∙◌}
use mathlib.Core.Logic.{inl, inr}
use mathlib.Core.List.{List, [], ◌∷◌}
use Prim.Native.Nat.{ℕ, ◌+◌, ◌-◌, ◌≤◌, ◌<◌}
use native.Mathlib.Numerals.{add-one}
use native.Mathlib.Omega.{arith}
use lib.Dec.{ltb}
use lib.ListN.{length, take, drop, get_or, drop_of_length-le}
use lib.Seq.{drop-cons}
use borrow.Author.Tests.{ltb-true, ltb-false}
use Rattle.text.specs.Text.{Found}
use Rattle.text.specs.Names.{name_of, Names}
use Rattle.text.specs.Numeral.{Numeral, Reads}
use Rattle.words.specs.declared.Family.{Family}
use Rattle.words.specs.declared.Family.TheVariants.{Forbidden, Allowed}
use Rattle.requests.specs.Protocol.{texts_from}
use Rattle.requests.proofs.Texts.{texts_at, no_texts_past, some_text}
use Rattle.spelling.specs.Hex.{IsBytes}
use Rattle.fields.specs.Fields.{IsNumber, IsFamily, Stands, AllStand, Passes, Asks, Begins, NumberIs, FamilyIs}

refused : {A : Type 0} → false ≡ true → A
refused e = absurd (let z : ◌≡◌ {A = ℕ} 0 1 = cc in omega arith)

pub told_not : {A : Type 0} {t : Bool} → (A → t ≡ true) → t ≡ false → A → ⊥
told_not f e a = let p = f a in let z : ◌≡◌ {A = ℕ} 0 1 = cc in omega arith

-- the names of the families differ in their first byte
one_family : (F G : Family) → name_of F ≡ name_of G → F ≡ G
one_family Forbidden Forbidden e = refl
one_family Forbidden Allowed e = absurd (omega (arith, ap (λ (t : List ℕ). get_or t 0 0) e))
one_family Allowed Forbidden e = absurd (omega (arith, ap (λ (t : List ℕ). get_or t 0 0) e))
one_family Allowed Allowed e = refl

-- whether a text is what a letter stands for
abbrev pub Decides : Bool → ℕ → List ℕ → Type 0
Decides r letter text = (r ≡ true → Stands letter text) × (Stands letter text → r ≡ true)

module _ (letter : ℕ) (text : List ℕ) where
  is_number : letter ≡ 110 → Stands letter text → IsNumber text
  is_number e (inl s) = s.1
  is_number e (inr (inl s)) = absurd (omega (arith, s.0))
  is_number e (inr (inr (inl s))) = absurd (omega (arith, s.0))
  is_number e (inr (inr (inr s))) = absurd (omega (arith, s.0))

  is-family : letter ≡ 70 → Stands letter text → IsFamily text
  is-family e (inl s) = absurd (omega (arith, s.0))
  is-family e (inr (inl s)) = s.1
  is-family e (inr (inr (inl s))) = absurd (omega (arith, s.0))
  is-family e (inr (inr (inr s))) = absurd (omega (arith, s.0))

  is-bytes : letter ≡ 66 → Stands letter text → IsBytes text
  is-bytes e (inl s) = absurd (omega (arith, s.0))
  is-bytes e (inr (inl s)) = absurd (omega (arith, s.0))
  is-bytes e (inr (inr (inl s))) = s.1
  is-bytes e (inr (inr (inr s))) = absurd (omega (arith, s.0))

  is-slash : letter ≡ 47 → Stands letter text → text ≡ 47 ∷ []
  is-slash e (inl s) = absurd (omega (arith, s.0))
  is-slash e (inr (inl s)) = absurd (omega (arith, s.0))
  is-slash e (inr (inr (inl s))) = absurd (omega (arith, s.0))
  is-slash e (inr (inr (inr s))) = s.1

  pub number-stands : (r : Option ℕ) → letter ≡ 110 → Reads text r → Decides (is_some r) letter text
  number-stands (Some n) e o = (λ t. inl (e, record { value = n; writes = o.0; fits = o.1 }), λ t. refl)
  number-stands None e o = (λ t. refused t, λ s. let g = is_number e s in absurd (o g.value g.fits g.writes))

  pub family-stands : (r : Option Family) → letter ≡ 70 → Names text r → Decides (is_some r) letter text
  family-stands (Some F) e o = (λ t. inr (inl (e, record { family = F; names = o })), λ t. refl)
  family-stands None e o = (λ t. refused t, λ s. let g = is-family e s in absurd (o g.family g.names))

  pub bytes-stand : (r : Bool) → letter ≡ 66 → (r ≡ true → IsBytes text) × (IsBytes text → r ≡ true) → Decides r letter text
  bytes-stand r e o = (λ t. inr (inr (inl (e, o.0 t))), λ s. o.1 (is-bytes e s))

  pub slash-stands : (r : Bool) → letter ≡ 47 → (r ≡ true → text ≡ 47 ∷ []) × (text ≡ 47 ∷ [] → r ≡ true) → Decides r letter text
  slash-stands r e o = (λ t. inr (inr (inr (e, o.0 t))), λ s. o.1 (is-slash e s))

  pub nothing-stands : (letter ≡ 110 → ⊥) → (letter ≡ 70 → ⊥) → (letter ≡ 66 → ⊥) → (letter ≡ 47 → ⊥) → Decides false letter text
  nothing-stands a b c d = (λ t. refused t, λ s. absurd (go s))
    where
      go : Stands letter text → ⊥
      go (inl s) = a s.0
      go (inr (inl s)) = b s.0
      go (inr (inr (inl s))) = c s.0
      go (inr (inr (inr s))) = d s.0

-- ---- what the text at a place says

module _ (text there : List ℕ) where
  pub number_is : (r : Option ℕ) (d : ℕ) → there ≡ text → Reads there r → NumberIs text (unwrap_or r d)
  number_is (Some n) d e o m w l = sym o.0.value ∙ (subst (λ (t : List ℕ). Numeral t m) (sym e) w).value
  number_is None d e o m w l = absurd (o m l (subst (λ (t : List ℕ). Numeral t m) (sym e) w))

  pub family-is : (r : Option Family) (D : Family) → there ≡ text → Names there r → FamilyIs text (unwrap_or r D)
  family-is (Some F) D e o G w = one_family F G (sym o ∙ e ∙ w)
  family-is None D e o G w = absurd (o G (e ∙ w))

-- ---- from letter to letter

next_letter : (p : List ℕ) (j : ℕ) → j < length p → drop j p ≡ get_or p j 0 ∷ drop (j + 1) p
next_letter p j h = rw (add-one, drop-cons p j 0)

module _ (pattern line : List ℕ) (at j : ℕ) (h : j < length pattern) (rest : List (List ℕ)) where
  pub letter-missing : length line < at → AllStand (drop j pattern) (texts_from line at) rest → ⊥
  letter-missing l s =
      subst (λ (ts : List (List ℕ)). AllStand (get_or pattern j 0 ∷ drop (j + 1) pattern) ts rest) (no_texts_past line at l)
      (subst (λ (p : List ℕ). AllStand p (texts_from line at) rest) (next_letter pattern j h) s)

  module _ (end : ℕ) (l : at ≤ length line) (f : Found line at 32 end) where
    abbrev text : List ℕ
    text = take (end - at) (drop at line)

    pub letter-passed : AllStand (drop j pattern) (texts_from line at) rest → Stands (get_or pattern j 0) text × AllStand (drop (j + 1) pattern) (texts_from line (end + 1)) rest
    letter-passed s =
        subst (λ (ts : List (List ℕ)). AllStand (get_or pattern j 0 ∷ drop (j + 1) pattern) ts rest) (texts_at line at end l f)
        (subst (λ (p : List ℕ). AllStand p (texts_from line at) rest) (next_letter pattern j h) s)

    pub letter-back : Stands (get_or pattern j 0) text → AllStand (drop (j + 1) pattern) (texts_from line (end + 1)) rest → AllStand (drop j pattern) (texts_from line at) rest
    letter-back t s =
        subst (λ (p : List ℕ). AllStand p (texts_from line at) rest) (sym (next_letter pattern j h))
        (subst (λ (ts : List (List ℕ)). AllStand (get_or pattern j 0 ∷ drop (j + 1) pattern) ts rest) (sym (texts_at line at end l f)) (t, s))

pub letters_passed : (pattern : List ℕ) (texts : List (List ℕ)) (j : ℕ) → length pattern ≤ j → AllStand (drop j pattern) texts texts
letters_passed pattern texts j h = subst (λ (p : List ℕ). AllStand p texts texts) (sym (drop_of_length-le pattern h)) refl

one_rest : (p : List ℕ) (ts rest other : List (List ℕ)) → AllStand p ts rest → AllStand p ts other → rest ≡ other
one_rest [] ts rest other a b = sym a ∙ b
one_rest (l ∷ p) [] rest other a b = absurd a
one_rest (l ∷ p) (t ∷ ts) rest other a b = one_rest p ts rest other a.1 b.1

-- ---- what a request asks for

module _ (verb name pattern line : List ℕ) (texts : List (List ℕ)) where
  pub another-verb : (verb ≡ name → ⊥) → (false ≡ true → Asks verb name pattern texts) × (Asks verb name pattern texts → false ≡ true)
  another-verb d = (λ t. refused t, λ a. absurd (d a.named))

  pub not-asked : ((rest : List (List ℕ)) → AllStand pattern texts rest → ⊥) → (false ≡ true → Asks verb name pattern texts) × (Asks verb name pattern texts → false ≡ true)
  not-asked d = (λ t. refused t, λ a. absurd (d [] a.all))

  pub asked : (r : ℕ) → verb ≡ name → AllStand pattern texts (texts_from line r)
      → (ltb (length line) r ≡ true → Asks verb name pattern texts) × (Asks verb name pattern texts → ltb (length line) r ≡ true)
  asked r e s = (all, λ a. past (ltb (length line) r) refl (one_rest pattern texts (texts_from line r) [] s a.all))
    where
      all : ltb (length line) r ≡ true → Asks verb name pattern texts
      all t = record { named = e; all = subst (AllStand pattern texts) (no_texts_past line r (ltb-true (length line) r t)) s }

      past : (t : Bool) → ltb (length line) r ≡ t → texts_from line r ≡ [] → t ≡ true
      past true q z = refl
      past false q z = absurd (omega (arith, some_text line r (ltb-false (length line) r q), ap length z))

  pub another-begins : (verb ≡ name → ⊥) → (false ≡ true → Begins verb name pattern texts) × (Begins verb name pattern texts → false ≡ true)
  another-begins d = (λ t. refused t, λ a. absurd (d a.named))

  pub begun : (r : Option ℕ) → verb ≡ name → Passes pattern line texts r → (is_some r ≡ true → Begins verb name pattern texts) × (Begins verb name pattern texts → is_some r ≡ true)
  begun (Some r) e s = (λ t. record { named = e; rest = texts_from line r; first = s }, λ a. refl)
  begun None e d = (λ t. refused t, λ a. absurd (d a.rest a.first))
