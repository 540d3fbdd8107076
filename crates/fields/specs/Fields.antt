-- The texts of a request as the pattern of its verb reads them (docs/RULES.md, section 13). Assumes nothing.
--   Stands letter text    the text is what a letter stands for: n a number below 2 ^ 64, F a family, B bytes, / itself
--   AllStand pattern texts rest    the texts begin with those of a pattern, and the rest follow
--   Passes pattern line texts r    r is the place in the line where that rest begins, and none exactly if the texts do not begin so
--   Asks verb name pattern texts    the verb is the name, and the texts are those of the pattern
--   Begins verb name pattern texts    the verb is the name, and the texts begin with those of the pattern
--   NumberIs text n, FamilyIs text F    n is the number and F the family that the text says, if it says one
--   AllSigned texts zs    the texts are the numerals of the signed numbers zs
--   SignedIn texts table table' r    r is how many they are, and they stand in the first places of the table; it is none exactly if the texts are none, or more than there are places
use Rattle.std.specs.Prelude.{Option, Some, None, List, [], ◌∷◌, ◌++◌, ◌⊎◌, ◌≡◌, ℕ, ◌^◌, ◌≤◌, ◌<◌, length, drop, ℤ}
use Rattle.words.specs.declared.Family.{Family}
use Rattle.text.specs.Names.{name_of}
use Rattle.text.specs.Numeral.{Numeral}
use Rattle.requests.specs.Protocol.{texts_from}
use Rattle.spelling.specs.Hex.{IsBytes}
use Rattle.spelling.specs.Signed.{SignedNumeral, InRange}

pub record IsNumber (text : List ℕ) : Type 0 where
  pub value : ℕ
  pub writes : Numeral text value
  pub fits : value < 2 ^ 64

pub record IsFamily (text : List ℕ) : Type 0 where
  pub family : Family
  pub names : text ≡ name_of family

abbrev pub Stands : ℕ → List ℕ → Type 0
Stands letter text =
    ((letter ≡ 110) × IsNumber text) ⊎ (((letter ≡ 70) × IsFamily text) ⊎ (((letter ≡ 66) × IsBytes text) ⊎ ((letter ≡ 47) × (text ≡ 47 ∷ []))))

abbrev pub AllStand : List ℕ → List (List ℕ) → List (List ℕ) → Type 0
AllStand [] texts rest = texts ≡ rest
AllStand (l ∷ p) [] rest = ⊥
AllStand (l ∷ p) (t ∷ ts) rest = Stands l t × AllStand p ts rest

abbrev pub Passes : List ℕ → List ℕ → List (List ℕ) → Option ℕ → Type 0
Passes pattern line texts (Some r) = AllStand pattern texts (texts_from line r)
Passes pattern line texts None = (rest : List (List ℕ)) → AllStand pattern texts rest → ⊥

pub record Asks (verb name pattern : List ℕ) (texts : List (List ℕ)) : Type 0 where
  pub named : verb ≡ name
  pub all : AllStand pattern texts []

pub record Begins (verb name pattern : List ℕ) (texts : List (List ℕ)) : Type 0 where
  pub named : verb ≡ name
  pub rest : List (List ℕ)
  pub first : AllStand pattern texts rest

abbrev pub NumberIs : List ℕ → ℕ → Type 0
NumberIs text r = (n : ℕ) → Numeral text n → n < 2 ^ 64 → r ≡ n

abbrev pub FamilyIs : List ℕ → Family → Type 0
FamilyIs text r = (F : Family) → text ≡ name_of F → r ≡ F

abbrev pub AllSigned : List (List ℕ) → List ℤ → Type 0
AllSigned [] [] = Unit {0}
AllSigned [] (z ∷ zs) = ⊥
AllSigned (t ∷ ts) [] = ⊥
AllSigned (t ∷ ts) (z ∷ zs) = (SignedNumeral t z × InRange z) × AllSigned ts zs

pub record SignedAre (texts : List (List ℕ)) (table table' : List ℤ) (n : ℕ) : Type 0 where
  pub numbers : List ℤ
  pub says : AllSigned texts numbers
  pub many : length numbers ≡ n
  pub first : table' ≡ numbers ++ drop n table
  pub hold : n ≤ length table'

abbrev pub SignedIn : List (List ℕ) → List ℤ → List ℤ → Option ℕ → Type 0
SignedIn texts table table' (Some n) = SignedAre texts table table' n
SignedIn texts table table' None = (zs : List ℤ) → length zs ≤ length table → AllSigned texts zs → ⊥
