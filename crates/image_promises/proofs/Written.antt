-- The writer and the reader of an image. Assumes nothing.
--   written_exactly    an image is good exactly if the writer makes it
--   any_split_is_written    and it makes it from any two parts that join to it, wherever they are split
--   read-back    each table of what is written is found under its family and degree, as its row names it
use mathlib.Core.Path.{◌≡◌, sym, ap, ◌∙◌}
use mathlib.Core.Logic.{◌↔◌}
use mathlib.Core.List.{List, [], ◌++◌, append-nil}
use Prim.Native.Nat.{ℕ, ◌≤◌, ◌<◌}
use native.Mathlib.Omega.{arith}
use lib.Dec.{ltb}
use lib.ListN.{length, length-append}
use Rattle.answers.specs.Says.{gives, refused_if}
use Rattle.answers.proofs.Says.{then_gave, passed, gives_same}
use Rattle.image_rules.specs.Image.{tables, family_at, degree_at, family_of_byte, image_says}
use Rattle.image_rules.proofs.Good.{good_exactly}
use Rattle.image_reading.specs.Reading.{table_at, row_says}
use Rattle.image_writing.specs.Writing.{write_says}
use Rattle.image_writing.proofs.Two.{write_good}
use Rattle.image_promises.proofs.Tables.{each_table_is_found}

pub any_split_is_written : (c b : List ℕ) (room t : ℕ) → image_says (c ++ b) ≡ gives t → length (c ++ b) ≤ room → write_says c b room ≡ gives (c ++ b)
any_split_is_written c b room t e h = write_good c b room t e (omega (arith, length-append c b))

written-good : (c b : List ℕ) (room : ℕ) (l : List ℕ) → write_says c b room ≡ gives l → (t : ℕ) × (image_says l ≡ gives t)
written-good c b room l e =
    let a = then_gave (image_says (c ++ b)) (λ t. refused_if (ltb room (length (c ++ b))) 8 (gives (c ++ b))) l e in
    let p = passed (ltb room (length (c ++ b))) 8 (gives (c ++ b)) l a.2 in
    (a.0, ap image_says (sym (gives_same (c ++ b) l p.1)) ∙ a.1)

pub written_exactly : (l : List ℕ) → ((t : ℕ) × (image_says l ≡ gives t)) ↔ ((c : List ℕ) × (b : List ℕ) × (room : ℕ) × (write_says c b room ≡ gives l))
written_exactly l = (
  λ g. (l, [], length l, any_split_is_written l [] (length l) g.0 (ap image_says (append-nil l) ∙ g.1) (omega (arith, ap length (append-nil l))) ∙ ap gives (append-nil l)),
  λ w. written-good w.0 w.1 w.2 l w.3,
)

pub read_back : (c b : List ℕ) (room : ℕ) (l : List ℕ) (i : ℕ) → write_says c b room ≡ gives l → i < tables l
    → row_says l (family_of_byte (family_at l i)) (degree_at l i) ≡ gives (table_at l i)
read_back c b room l i e h =
    let w = written-good c b room l e in
    each_table_is_found l w.0 i w.1 (omega (arith, ((good_exactly l (length l) w.0).0 w.1).is))
