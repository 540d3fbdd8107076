-- What each call on sets answers, for all inputs, in document 01's numbers: its checks in 01's order, and then the value. Assumes nothing.
--   insert_says a s    7 if s is above 63; 5 if s is in the set; the set of s and the others
--   position_says a s    7 if s is not in the set; how many of its symbols are smaller
--   symbols_at ps w    the symbols of w at the positions ps
--   select_says a ps    7 if a position is not below the number of symbols; the set of the symbols at these positions
use Rattle.std.specs.Prelude.{not, List, ◌∷◌, map, ℕ, ltb, length, get_or}
use Rattle.words.specs.Inversions.{smaller_in}
use Rattle.words.specs.Bits.{bits_of, set_bits}
use Rattle.answers.specs.Says.{Says, gives, refused_if}
use Rattle.words.specs.Members.{stands_in}
use Rattle.bits.specs.Member.{reaches}

abbrev pub insert_says : ℕ → ℕ → Says ℕ
insert_says a s = refused_if (ltb 63 s) 7 (refused_if (stands_in s (set_bits a)) 5 (gives (bits_of (s ∷ set_bits a))))

abbrev pub position_says : ℕ → ℕ → Says ℕ
position_says a s = refused_if (not (stands_in s (set_bits a))) 7 (gives (smaller_in s (set_bits a)))

abbrev pub symbols_at : List ℕ → List ℕ → List ℕ
symbols_at ps w = map (λ p. get_or w p 0) ps

abbrev pub select_says : ℕ → ℕ → Says ℕ
select_says a ps = refused_if (reaches (length (set_bits a)) (set_bits ps)) 7 (gives (bits_of (symbols_at (set_bits ps) (set_bits a))))
