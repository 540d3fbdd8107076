-- The check of an image that comes in pieces (02, section 13). Assumes nothing.
--   room at n    how many of n bytes still fit into the first 772, of which `at` are there
--   more seen n    how many bytes have been seen after n more; 65,537 stands for every number that no image has
--   told s seen    the verdict while more may come: a refusal that no further byte can change, or open
--   ended s    the verdict at the end
--   start, fed p s, closed p    the state before the first piece, after the piece s, and after the end
--   fed_all p ss, joined ss    the state after the pieces ss, and their bytes
--   verdict_says v    what a verdict means
use Rattle.std.specs.Prelude.{List, [], ◌∷◌, ◌++◌, ℕ, ◌+◌, ◌-◌, ltb, length, replicate}
use Rattle.std.proofs.Math.Seq.{paste}
use Rattle.words.specs.Pick.{pick}
use Rattle.answers.specs.Says.{Says, refuses_with, refuses_at, gives, place_of}
use Rattle.image_rules.specs.Image.{check_says}
use Rattle.pieces.specs.declared.Verdict.{Verdict}
use Rattle.pieces.specs.declared.Verdict.TheVariants.{Open, Good, Bad}
use Rattle.pieces.specs.declared.Pieces.{Pieces}

abbrev pub room : ℕ → ℕ → ℕ
room at n = pick (ltb (772 - at) n) (772 - at) n

abbrev pub more : ℕ → ℕ → ℕ
more seen n = pick (ltb 65536 (seen + n)) 65537 (seen + n)

abbrev pub told : Says ℕ → ℕ → Verdict
told (gives t) seen = Open
told (refuses_with e p) seen = pick (ltb (place_of p) seen) (Bad (place_of p)) Open

abbrev pub ended : Says ℕ → Verdict
ended (gives t) = Good t
ended (refuses_with e p) = Bad (place_of p)

abbrev pub start : Pieces
start = record { bytes = replicate 772 0; seen = 0; verdict = Open }

abbrev pub taking : List ℕ → ℕ → Pieces
taking bytes seen = record { bytes = bytes; seen = seen; verdict = told (check_says bytes seen) seen }

-- a state whose verdict is told stays as it is
abbrev pub if_open : Verdict → Pieces → Pieces → Pieces
if_open Open p q = q
if_open (Good t) p q = p
if_open (Bad at) p q = p

abbrev pub fed : Pieces → List ℕ → Pieces
fed p s = if_open p.verdict p (taking (paste p.bytes p.seen s (room p.seen (length s))) (more p.seen (length s)))

abbrev pub closed : Pieces → Pieces
closed p = if_open p.verdict p (record { bytes = p.bytes; seen = p.seen; verdict = ended (check_says p.bytes p.seen) })

-- the state after all of the pieces, and the bytes of all of them
unfoldable pub fed_all : Pieces → List (List ℕ) → Pieces
fed_all p [] = p
fed_all p (s ∷ ss) = fed_all (fed p s) ss

unfoldable pub joined : List (List ℕ) → List ℕ
joined [] = []
joined (s ∷ ss) = s ++ joined ss

-- 0, which is no refusal's number, stands for "no verdict yet"
abbrev pub verdict_says : Verdict → Says ℕ
verdict_says Open = refuses_with 0 []
verdict_says (Good t) = gives t
verdict_says (Bad at) = refuses_at 11 at
