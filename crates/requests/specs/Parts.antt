-- A request as `requests` takes it apart: where its verb stands, and for each word after it a byte for its kind and a value. Assumes nothing.
--   room_of lent    how many places a request is lent: the largest number where it is lent what suffices
--   Begins line r    r is where the verb stands and how many places the request is lent, and none exactly if no request begins so
--   VerbAt line room from r    the same of a verb that is looked for at a place, of a request that is lent so many places
--   AfterRoom line at r    the same of a number at a place and the verb after it
--   kind_of x, value_of x    the kind of a word: n a number, f and a the families, / itself, h and w `here` and `nowhere`, r `raw`; a number is its value, and 0 that of the others
--   kinds_of xs, values_of xs    those of a list of words
--   KindOf text k    k is the kind of the word other than a number that a text says, and 0 exactly if it says none
--   TakenIn text i kinds values kinds' values' r    whether the text says a word, whose kind and value then stand at place i
--   Takes texts kinds values kinds' values' r    r is how many words the texts say, their kinds and values then stand in the first places; it is none exactly if they say none, or more than there are places
--   family_at kinds i    the family whose kind stands at a place
use Rattle.std.specs.Prelude.{Option, Some, None, Bool, true, false, List, [], ◌∷◌, ◌++◌, map, ◌≡◌, ℕ, ◌+◌, ◌-◌, ◌^◌, ◌≤◌, ◌<◌, eqb, length, take, drop, get_or, set}
use Rattle.words.specs.Pick.{pick}
use Rattle.words.specs.declared.Family.{Family}
use Rattle.words.specs.declared.Family.TheVariants.{Forbidden, Allowed}
use Rattle.text.specs.Names.{name_of}
use Rattle.text.specs.Numeral.{Numeral}
use Rattle.requests.specs.Protocol.{texts_from, LineWord, number, family, slash, here, nowhere, raw, here_name, nowhere_name, raw_name, Spells, AllSpell, Lent, enough, places, room_name, Opens}
use Rattle.requests.specs.declared.Verb.{Verb}

abbrev pub room_of : Lent → ℕ
room_of enough = 2 ^ 64 - 1
room_of (places n) = n

pub record BeginsAt (line : List ℕ) (room from end : ℕ) : Type 0 where
  pub lent : Lent
  pub room_is : room ≡ room_of lent
  pub opens : Opens line lent (take (end - from) (drop from line)) (texts_from line (end + 1))
  pub ordered : from ≤ end
  pub within : end ≤ length line

abbrev pub Begins : List ℕ → Option Verb → Type 0
Begins line (Some v) = BeginsAt line v.room v.from v.end
Begins line None = (lent : Lent) (verb : List ℕ) (texts : List (List ℕ)) → Opens line lent verb texts → ⊥

pub record VerbIs (line : List ℕ) (from end : ℕ) : Type 0 where
  pub texts : texts_from line from ≡ take (end - from) (drop from line) ∷ texts_from line (end + 1)
  pub once : take (end - from) (drop from line) ≡ room_name → ⊥
  pub ordered : from ≤ end
  pub within : end ≤ length line

abbrev pub VerbAt : List ℕ → ℕ → ℕ → Option Verb → Type 0
VerbAt line room from (Some v) = (v.room ≡ room) × ((v.from ≡ from) × VerbIs line v.from v.end)
VerbAt line room from None = (verb : List ℕ) (rest : List (List ℕ)) → texts_from line from ≡ verb ∷ rest → (verb ≡ room_name → ⊥) → ⊥

pub record RoomIs (line : List ℕ) (at room from end : ℕ) : Type 0 where
  pub numeral : List ℕ
  pub texts : texts_from line at ≡ numeral ∷ texts_from line from
  pub writes : Numeral numeral room
  pub fits : room < 2 ^ 64
  pub verb : VerbIs line from end

abbrev pub AfterRoom : List ℕ → ℕ → Option Verb → Type 0
AfterRoom line at (Some v) = RoomIs line at v.room v.from v.end
AfterRoom line at None =
    (numeral verb : List ℕ) (rest : List (List ℕ)) (n : ℕ) → texts_from line at ≡ numeral ∷ (verb ∷ rest) → Numeral numeral n → n < 2 ^ 64 → (verb ≡ room_name → ⊥) → ⊥

abbrev pub kind_of : LineWord → ℕ
kind_of (number n) = 110
kind_of (family Forbidden) = 102
kind_of (family Allowed) = 97
kind_of slash = 47
kind_of here = 104
kind_of nowhere = 119
kind_of raw = 114

abbrev pub value_of : LineWord → ℕ
value_of (number n) = n
value_of (family F) = 0
value_of slash = 0
value_of here = 0
value_of nowhere = 0
value_of raw = 0

abbrev pub kinds_of : List LineWord → List ℕ
kinds_of xs = map kind_of xs

abbrev pub values_of : List LineWord → List ℕ
values_of xs = map value_of xs

pub record IsKind (text : List ℕ) (k : ℕ) : Type 0 where
  pub word : LineWord
  pub says : Spells text word
  pub kind : kind_of word ≡ k
  pub value : value_of word ≡ 0

pub record KindOf (text : List ℕ) (k : ℕ) : Type 0 where
  pub some : (k ≡ 0 → ⊥) → IsKind text k
  pub no_family : k ≡ 0 → (F : Family) → text ≡ name_of F → ⊥
  pub no_slash : k ≡ 0 → text ≡ 47 ∷ [] → ⊥
  pub no_here : k ≡ 0 → text ≡ here_name → ⊥
  pub no_nowhere : k ≡ 0 → text ≡ nowhere_name → ⊥
  pub no_raw : k ≡ 0 → text ≡ raw_name → ⊥

pub record WordIn (text : List ℕ) (i : ℕ) (kinds values kinds' values' : List ℕ) : Type 0 where
  pub word : LineWord
  pub says : Spells text word
  pub kind : kinds' ≡ set kinds i (kind_of word)
  pub value : values' ≡ set values i (value_of word)

pub record TakenIn (text : List ℕ) (i : ℕ) (kinds values kinds' values' : List ℕ) (r : Bool) : Type 0 where
  pub one : r ≡ true → WordIn text i kinds values kinds' values'
  pub none : r ≡ false → (x : LineWord) → Spells text x → ⊥

pub record TakesAll (texts : List (List ℕ)) (kinds values kinds' values' : List ℕ) (n : ℕ) : Type 0 where
  pub words : List LineWord
  pub says : AllSpell texts words
  pub many : length words ≡ n
  pub kinds_are : kinds' ≡ kinds_of words ++ drop n kinds
  pub values_are : values' ≡ values_of words ++ drop n values
  pub kinds_hold : n ≤ length kinds'
  pub values_hold : n ≤ length values'

abbrev pub Takes : List (List ℕ) → List ℕ → List ℕ → List ℕ → List ℕ → Option ℕ → Type 0
Takes texts kinds values kinds' values' (Some n) = TakesAll texts kinds values kinds' values' n
Takes texts kinds values kinds' values' None = (xs : List LineWord) → length xs ≤ length kinds → length xs ≤ length values → AllSpell texts xs → ⊥

abbrev pub family_at : List ℕ → ℕ → Family
family_at kinds i = pick (eqb (get_or kinds i 0) 97) Allowed Forbidden
