-- Numbers of four and of eight bytes, written out. Assumes nothing.
--   number_four, number-eight    the sum that the code forms
use mathlib.Core.Path.{◌≡◌, ap}
use mathlib.Core.List.{List}
use Prim.Native.Nat.{ℕ, suc, ◌+◌, ◌*◌}
use native.Mathlib.Omega.{arith}
use lib.ListN.{get_or}
use Rattle.little_endian.specs.Bytes.{number_at}

pub number_four : (l : List ℕ) (at : ℕ) → number_at l at 4 ≡ get_or l at 0 + 256 * (get_or l (at + 1) 0 + 256 * (get_or l (at + 2) 0 + 256 * get_or l (at + 3) 0))
unfolding number_at
number_four l at =
    let a : get_or l (suc at) 0 ≡ get_or l (at + 1) 0 = ap (λ j. get_or l j 0) (omega arith) in
    let b : get_or l (suc (suc at)) 0 ≡ get_or l (at + 2) 0 = ap (λ j. get_or l j 0) (omega arith) in
    let c : get_or l (suc (suc (suc at))) 0 ≡ get_or l (at + 3) 0 = ap (λ j. get_or l j 0) (omega arith) in
    omega arith

pub number-eight : (l : List ℕ) (at : ℕ) → number_at l at 8
    ≡ get_or l at 0 + 256 * (get_or l (at + 1) 0 + 256 * (get_or l (at + 2) 0 + 256 * (get_or l (at + 3) 0 + 256 * (get_or l (at + 4) 0 + 256 * (get_or l (at + 5) 0 + 256 * (get_or l (at + 6) 0 + 256 * get_or l (at + 7) 0))))))
unfolding number_at
number-eight l at =
    let a : get_or l (suc at) 0 ≡ get_or l (at + 1) 0 = ap (λ j. get_or l j 0) (omega arith) in
    let b : get_or l (suc (suc at)) 0 ≡ get_or l (at + 2) 0 = ap (λ j. get_or l j 0) (omega arith) in
    let c : get_or l (suc (suc (suc at))) 0 ≡ get_or l (at + 3) 0 = ap (λ j. get_or l j 0) (omega arith) in
    let d : get_or l (suc (suc (suc (suc at)))) 0 ≡ get_or l (at + 4) 0 = ap (λ j. get_or l j 0) (omega arith) in
    let e : get_or l (suc (suc (suc (suc (suc at))))) 0 ≡ get_or l (at + 5) 0 = ap (λ j. get_or l j 0) (omega arith) in
    let f : get_or l (suc (suc (suc (suc (suc (suc at)))))) 0 ≡ get_or l (at + 6) 0 = ap (λ j. get_or l j 0) (omega arith) in
    let g : get_or l (suc (suc (suc (suc (suc (suc (suc at))))))) 0 ≡ get_or l (at + 7) 0 = ap (λ j. get_or l j 0) (omega arith) in
    omega arith
