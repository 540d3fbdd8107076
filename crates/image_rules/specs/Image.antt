-- The coefficient table image (02, section 1): its fields in reading order, and the verdict on it. An image is a list of bytes. Assumes nothing.
--   tables l    how many tables the image says it has
--   row_place i    where row i of the contents starts: 4 bytes, and 12 for each row before it
--   family_at, degree_at, alphabet_at, offset_at, entries_at l i    the fields of row i, as they are read
--   occurs l f k i    does one of the first i rows have the family f and the degree k?
--   body_place l i    where the body of row i has to start: behind the contents and the bodies before it, 8 bytes an entry
--   Field    a field: its place, its width in bytes, and whether its value is right
--   row_fields l i, fields l    the fields of row i, and of the whole contents, in reading order
--   judged size fs s    11 at the first wrong field of fs in an image of size bytes: an image that ends before a field does is charged to its own length, a field
--                       that is not right to its place; s where all are right
--   check_says l size    the verdict on an image of size bytes that starts with the bytes l: the first wrong field; an image that ends inside a body is charged to
--                       its own length, bytes left over to the first of them; otherwise the number of tables
--   image_says l    the verdict on a whole image: 11, with its offset; the number of tables
use Rattle.std.specs.Prelude.{Bool, true, false, not, ◌&&◌, List, [], ◌∷◌, ◌++◌, ℕ, zero, suc, ◌+◌, ◌*◌, leb, ltb, eqb, length, get_or}
use Rattle.words.specs.declared.Family.{Family}
use Rattle.words.specs.declared.Family.TheVariants.{Forbidden, Allowed}
use Rattle.words.specs.Pick.{pick}
use Rattle.words.specs.Word.{shifted_alphabet, count}
use Rattle.answers.specs.Says.{Says, gives, refused_at_if}
use Rattle.little_endian.specs.Bytes.{number_at}

-- ---- what is read

abbrev pub family_of_byte : ℕ → Family
family_of_byte zero = Forbidden
family_of_byte (suc b) = Allowed

abbrev pub tables : List ℕ → ℕ
tables l = number_at l 0 4

abbrev pub row_place : ℕ → ℕ
row_place i = 4 + 12 * i

abbrev pub family_at : List ℕ → ℕ → ℕ
family_at l i = get_or l (row_place i) 0

abbrev pub degree_at : List ℕ → ℕ → ℕ
degree_at l i = get_or l (row_place i + 1) 0

abbrev pub alphabet_at : List ℕ → ℕ → ℕ
alphabet_at l i = get_or l (row_place i + 2) 0

abbrev pub offset_at : List ℕ → ℕ → ℕ
offset_at l i = number_at l (row_place i + 4) 4

abbrev pub entries_at : List ℕ → ℕ → ℕ
entries_at l i = number_at l (row_place i + 8) 4

-- ---- what it is held to

unfoldable pub occurs : List ℕ → ℕ → ℕ → ℕ → Bool
occurs l f k zero = false
occurs l f k (suc i) = pick (eqb (family_at l i) f && eqb (degree_at l i) k) true (occurs l f k i)

unfoldable pub body_place : List ℕ → ℕ → ℕ
body_place l zero = row_place (tables l)
body_place l (suc i) = body_place l i + 8 * entries_at l i

pub record Field : Type 0 where
  pub at : ℕ
  pub width : ℕ
  pub right : Bool

-- the six fields of a row that starts at `at`: its body has to start at `place`, and `used` are the families and degrees of the rows before it
abbrev pub fields_at : List ℕ → ℕ → ℕ → (ℕ → ℕ → Bool) → List Field
fields_at l at place used =
    let f = get_or l at 0 in
    let k = get_or l (at + 1) 0 in
    let n = get_or l (at + 2) 0 in
    let c = number_at l (at + 8) 4 in
    record { at = at; width = 1; right = ltb f 2 }
    ∷ record { at = at + 1; width = 1; right = leb k 64 && not (used f k) }
    ∷ record { at = at + 2; width = 1; right = leb (shifted_alphabet (family_of_byte f) n k) 64 }
    ∷ record { at = at + 3; width = 1; right = eqb (get_or l (at + 3) 0) 0 }
    ∷ record { at = at + 4; width = 4; right = eqb (number_at l (at + 4) 4) place }
    ∷ record { at = at + 8; width = 4; right = eqb c (count (family_of_byte f) n k) && ltb 0 c && leb (place + 8 * c) 65536 }
    ∷ []

abbrev pub row_fields : List ℕ → ℕ → List Field
row_fields l i = fields_at l (row_place i) (body_place l i) (λ f k. occurs l f k i)

-- the fields of the `left` rows from row i up
unfoldable pub rows_from : List ℕ → ℕ → ℕ → List Field
rows_from l i zero = []
rows_from l i (suc left) = row_fields l i ++ rows_from l (suc i) left

abbrev pub fields : List ℕ → List Field
fields l = record { at = 0; width = 4; right = ltb 0 (tables l) && leb (tables l) 64 } ∷ rows_from l 0 (tables l)

-- ---- the verdict

unfoldable pub judged : {A : Type 0} → ℕ → List Field → Says A → Says A
judged size [] s = s
judged size (f ∷ fs) s = refused_at_if (ltb size (f.at + f.width)) 11 size (refused_at_if (not f.right) 11 f.at (judged size fs s))

-- where the bodies end has to be where the image ends
abbrev pub ending : ℕ → ℕ → ℕ → Says ℕ
ending size end t = refused_at_if (ltb size end) 11 size (refused_at_if (ltb end size) 11 end (gives t))

abbrev pub check_says : List ℕ → ℕ → Says ℕ
check_says l size = judged size (fields l) (ending size (body_place l (tables l)) (tables l))

abbrev pub image_says : List ℕ → Says ℕ
image_says l = check_says l (length l)
